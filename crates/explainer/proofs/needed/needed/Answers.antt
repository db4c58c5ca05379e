use Rattle.std.proofs.Common.{◌≡◌, ℕ, ◌-◌, false, cond, length, replicate, reverse, sym, ap, ◌∙◌, arith}
use Rattle.derivations.specs.inner.References.{references_at}
use Rattle.explainer.specs.Explanations.{needed}
use Rattle.explainer.specs.inner.Marks.{is_needed, with_two}
use Rattle.explainer.proofs.Sweep.{as-long, begun, went-on, kept-length, last-first}
use Rattle.explainer.proofs.needed.needed.Goals as goal

pub steps-init : goal.steps-init
steps-init c =
    let same = c.in_ok-marks.ensures.items_if_clones_equal (λ y e. e) ∙ ap (λ n. replicate n false) c.len.ensures in
    record {
      within = let all = c.len-left.ensures in omega arith;
      long = ap length same ∙ as-long (length c.args.derivation.now);
      told = begun c.args.derivation.now c.len-left.result c.in_ok-marks.marks.items
          (reverse c.new-found.result.items) c.len-left.ensures
          (same ∙ ap (λ n. replicate n false) (sym c.len-left.ensures)) (ap reverse c.new-found.ensures.items);
    }

pub steps-preserved : goal.steps-preserved
steps-preserved c =
    let l : ℕ = c.steps.left - 1 in
    let steps = c.args.derivation.now in
    let two = references_at steps l in
    let marks : c.look_at.new.marks.items
    ≡ cond (is_needed c.steps.marks.items l) (with_two two c.steps.marks.items) c.steps.marks.items
    = c.in_ok-look_at.ensures.marks ∙ ap (λ o. cond (is_needed c.steps.marks.items l)
    (with_two o c.steps.marks.items) c.steps.marks.items) c.references.ensures in
    record {
      within = let high = c.steps.invariant.within in omega arith;
      long = ap length marks ∙ kept-length (is_needed c.steps.marks.items l) two c.steps.marks.items
          ∙ c.steps.invariant.long;
      told = went-on steps l c.steps.left c.steps.marks.items c.look_at.new.marks.items (reverse c.steps.found.items)
          (reverse c.look_at.new.found.items) (needed steps)
          (let low = c.steps-test.true in omega arith) marks (last-first (is_needed c.steps.marks.items l) l
          c.steps.found.items c.look_at.new.found.items c.in_ok-look_at.ensures.found) c.steps.invariant.told;
    }
