use Rattle.std.proofs.Common.{◌≡◌, ◌-◌, ◌∙◌, ap₂, arith, drop, take}
use Rattle.version_sets.proofs.Kept.{kept_chunk}
use Rattle.version_sets.proofs.window.Window.own.Goals as goal

pub returns : goal.returns
returns c =
    let w = c.args.self.now in
    let long : c.args.end - w.first - (c.args.first - w.first) ≡ c.args.end - c.args.first = omega arith in
    ap₂ (λ m ws. take m (drop (c.args.first - w.first) ws)) long c.deref-2.ensures.value
    ∙ kept_chunk w c.args.first c.args.end (c.requires.from (omega arith)) (omega arith) (c.requires.to (omega arith))
