use Rattle.std.proofs.Common.{◌≡◌, ◌+◌, ◌-◌, ◌++◌, ◌∷◌, [], length, take, drop, map, ap, sym, ◌∙◌, arith, append_assoc}
use Rattle.std.proofs.Common.{take_all, length-drop}
use Rattle.std.proofs.lemmas.List.{map-append}
use Rattle.std.specs.List.{slice_split}
use Rattle.trees.specs.Trees.{is_line_end}
use Rattle.index_reader.proofs.SplitLemmas.{split-at, split-none}
use Rattle.index_reader.proofs.file.texts_in.Goals as goal

pub overflow_add-rest : goal.overflow_add-rest
overflow_add-rest c = omega (arith, c.in-Some.ensures.0.high, c.ends.invariant.0)

pub ends-preserved : goal.ends-preserved
ends-preserved c =
    let rest = c.ends.rest.now in
    let end = c.in-Some.end in
    let found = c.in-Some.ensures in
    let cut : slice_split is_line_end rest ≡ take end rest ∷ slice_split is_line_end (drop (end + 1) rest)
    = split-at rest end found.0.high (λ i h. found.0.before i (omega arith) h) found.1 in
    let pushed : map (λ x. x.now) c.push.new.self.items ≡ map (λ x. x.now) c.ends.found.items ++ take end rest ∷ []
    = ap (map (λ x. x.now)) c.in_ok-push.ensures.items ∙ map-append (λ x. x.now) c.ends.found.items _ in
    let left : take (length rest - (end + 1)) (drop (end + 1) rest) ≡ drop (end + 1) rest =
    take_all (length rest - (end + 1)) (drop (end + 1) rest) (omega (arith, length-drop (end + 1) rest)) in
    let told = ap (λ parts. map (λ x. x.now) c.ends.found.items ++ parts) (sym cut) ∙ c.ends.invariant.1 in
    rw (
      left,
      pushed,
      append_assoc (map (λ x. x.now) c.ends.found.items) (take end rest ∷ [])
          (slice_split is_line_end (drop (end + 1) rest)),
    )
    (omega (arith, length-drop (end + 1) rest, c.ends.invariant.0), told)

pub returns : goal.returns
returns c =
    let rest = c.ends.rest.now in
    let whole : slice_split is_line_end rest ≡ rest ∷ [] =
    split-none rest (λ i h. c.in_default.ensures i (omega arith) h) in
    ap (map (λ x. x.now)) c.in_ok-push-2.ensures.items ∙ map-append (λ x. x.now) c.ends.found.items _
    ∙ ap (λ parts. map (λ x. x.now) c.ends.found.items ++ parts) (sym whole) ∙ c.ends.invariant.1
