use Rattle.std.proofs.Common.{refl}
use Rattle.version_sets.proofs.Spreads.{ends_either}
use Rattle.version_sets.proofs.window.Window.settled.Goals as goal

pub returns : goal.returns
returns c = record {
  universe = refl;
  words = ends_either c.args.self.universe c.low_end-low.result c.args.self.low c.args.self.first
      c.args.self.words.items c.high_end-high.result c.args.self.high c.args.self.ends c.low_end-low.ensures
      c.high_end-high.ensures;
}
