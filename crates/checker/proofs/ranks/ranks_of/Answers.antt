use Rattle.std.proofs.Common.{Bor, List, ℕ, map, string_bytes, subst, subst₂, sym, ap}
use Rattle.std.specs.List.Sorted.{IsPermutation, IsSorted}
use Rattle.std.proofs.lemmas.List.Sorted.{IsPermutation-map}
use Rattle.std.proofs.lemmas.Result.{IfOk-weaker}
use Rattle.model.specs.Order.{text_cmp}
use Rattle.checker.proofs.RankLaws.{ranks_are, sorted_texts}
use Rattle.checker.proofs.ranks.ranks_of.Goals as goal

pub ranks_in-requires : goal.ranks_in-requires
ranks_in-requires c =
    subst (λ xs. IsSorted text_cmp (map (λ x. x.now) xs)) (sym c.deref.ensures.value)
    (sorted_texts (λ x. x.now) c.sort_unstable.new.self.items c.sort_unstable.ensures.sorted)

pub returns : goal.returns
returns c =
    let moved = IsPermutation-map (λ (x : Bor (List ℕ)).
    x.now) c.in_ok-sorted.sorted.items c.sort_unstable.new.self.items c.sort_unstable.ensures.permutation in
    let sorted = subst₂ IsPermutation c.in_ok-sorted.ensures
    (ap (map (λ (x : Bor (List ℕ)). x.now)) (sym c.deref.ensures.value)) moved in
    IfOk-weaker c.ranks_in.result _ _ (λ v h. ranks_are (map string_bytes c.args.texts.now)
    (map (λ x. x.now) c.deref.result.now) v.items sorted h) c.ranks_in.ensures
