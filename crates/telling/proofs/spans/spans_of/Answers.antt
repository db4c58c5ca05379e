use Rattle.std.proofs.Common.{◌↔◌, ◌≡◌, Some, true, slice_get, sym, subst}
use Rattle.telling.specs.inner.Spans.{IsInOne}
use Rattle.telling.proofs.SpansSay.{says}
use Rattle.telling.proofs.spans.spans_of.Goals as goal

pub returns-clause-marked : goal.returns-clause-marked
returns-clause-marked c place =
    let marks = c.args.marks.now in
    subst (λ ss. IsInOne ss place ↔ (slice_get marks place ≡ Some true)) (sym c.in_ok-spans.ensures) (says marks place)
