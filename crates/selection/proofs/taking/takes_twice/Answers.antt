use Rattle.std.proofs.Common.{◌+◌, Contains, map, Some, sym, ap, ◌∙◌, subst, arith}
use Rattle.std.proofs.lemmas.Option.{slice_get-get_or}
use Rattle.model.proofs.Lists.{in_none}
use Rattle.selection.specs.inner.Taking.{taken_view}
use Rattle.selection.proofs.Twice.{taken_at, taken_on}
use Rattle.selection.proofs.taking.takes_twice.Goals as goal
use Rattle.selection.proofs.taking.takes_twice.Goals.{else-is_here-via-then-is_here+in_ok-is_taken+else-branch}
use Rattle.selection.proofs.taking.takes_twice.Goals.{else-is_here-via-else-is_here}

pub versions-init : goal.versions-init
versions-init c = λ k h. absurd (in_none k (subst (λ ts. Contains (map taken_view ts) k) c.new-taken.ensures.empty h))

pub returns-then-branch : goal.returns-then-branch
returns-then-branch c = λ it.
    let (k, of, t) = c.in_ok-is_taken.ensures in
    let (n, le, at) = c.versions.invariant k (t.was c.if-branch.true) in
    record {
      taken = k;
      first = n;
      second = c.versions.at + 1;
      lower = omega (arith, le);
      at_first = at;
      at_second = taken_at c.args.catalogue.now c.args.versions.now c.args.here.now c.versions.at
          c.index-versions-at.result k (slice_get-get_or c.args.versions.now c.versions.at c.index-versions-at.result
          c.versions-test.true ∙ ap Some (sym c.index-versions-at.is)) of (sym c.flag-is_here.ensures ∙ c.if-is_here.true);
    }

pub versions-preserved : goal.versions-preserved
versions-preserved c = λ x h. elim c.else-is_here.branch [
  | else-is_here-via-then-is_here+in_ok-is_taken+else-branch w ↦
      let (k, of, t) = w.in_ok-is_taken.ensures in
      taken_on c.args.catalogue.now c.args.versions.now c.args.here.now c.versions.at _ _ k _ c.versions.invariant t
      (taken_at c.args.catalogue.now c.args.versions.now c.args.here.now c.versions.at
      w.index-versions-at.result k (slice_get-get_or c.args.versions.now c.versions.at w.index-versions-at.result
      c.versions-test.true ∙ ap Some (sym w.index-versions-at.is)) of (sym c.flag-is_here.ensures ∙ w.if-is_here.true))
      x (subst (λ s. Contains (map taken_view s.keys) x) w.taken-is h)
  | else-is_here-via-else-is_here w ↦
      let (n, le, at) = c.versions.invariant x (subst (λ s. Contains (map taken_view s.keys) x) w.taken-is h) in
      (n, omega (arith, le), at)
]
