use Rattle.std.proofs.Common.{arith}
use Rattle.version_sets.proofs.Kept.{at_high}
use Rattle.version_sets.proofs.window.Window.unlike_to.Goals as goal

pub places-init : goal.places-init
places-init c = λ k past. at_high c.args.self.now k (omega arith)
