use Rattle.std.proofs.Common.{◌≡◌, ◌∙◌, ◌++◌, not, replicate, ap, sym}
use Rattle.std.proofs.lemmas.Result.{IfOk-weaker}
use Rattle.version_sets.specs.Sets.{rest}
use Rattle.numbering.specs.inner.TestedTerms.{range_view}
use Rattle.numbering.proofs.RangeLaws.{outside}
use Rattle.numbering.proofs.instances.set_of_range.Goals as goal

pub returns-else-range : goal.returns-else-range
returns-else-range g c =
    let r = c.args.range.now in
    IfOk-weaker c.complement.result _ (λ s. g.S.States.tests s ≡ range_view r)
    (λ s e. e ∙ ap rest c.in_ok-within.ensures ∙ outside r.before r.within r.after
    ∙ ap (λ b. replicate r.before (not b) ++ (replicate r.within b ++ replicate r.after (not b)))
    (sym c.if-range.false)) c.complement.ensures
