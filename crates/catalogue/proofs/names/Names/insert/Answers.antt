use Rattle.std.proofs.Common.{◌≡◌, ◌++◌, ◌∷◌, [], false, Some, length, sym, ap, ◌∙◌, subst, arith}
use Rattle.std.specs.HashMap.{Updates}
use Rattle.std.specs.List.{list_any}
use Rattle.model.specs.Summary.{same_text}
use Rattle.catalogue.proofs.NameLaws.{more_places}
use Rattle.catalogue.proofs.names.Names.insert.Goals as goal

pub invariant_of-self-2 : goal.invariant_of-self-2
invariant_of-self-2 c =
    let names = c.self.inside.list.items in
    let items = c.push_reserved.ensures.items ∙ ap (λ xs. xs ++ c.args.name ∷ []) c.reserve.ensures.items in
    let absent : list_any (same_text c.args.name) names ≡ false =
    subst (λ v. list_any (same_text c.args.name) v.keys ≡ false) (sym c.self.view_is) c.requires in
    let len = c.len.ensures in
    let kept = c.reserve.ensures.len in
    let place : c.len.result ≡ length names = omega (arith, len, kept) in
    let put = subst (λ k. Updates same_text c.self.inside.places c.insert.new.self k (Some c.len.result))
    c.in_ok-key.ensures.cases c.in_ok-insert.ensures.updates in
    rw items (more_places names c.args.name c.self.inside.places c.insert.new.self c.self.invariant
    c.as_str.ensures.name absent
    (subst (λ n. Updates same_text c.self.inside.places c.insert.new.self c.args.name (Some n)) place put))
