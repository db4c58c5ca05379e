use Rattle.version_sets.proofs.Kept.{at_low}
use Rattle.version_sets.proofs.window.Window.unlike_from.Goals as goal

pub places-init : goal.places-init
places-init c = at_low c.args.self.now
