use Rattle.std.proofs.Common.{◌+◌, ◌∷◌, ◌∙◌, ap, refl}
use Rattle.std.specs.Int.{bit_not, w64}
use Rattle.version_sets.specs.inner.Forms.{universe_of, all_words}
use Rattle.version_sets.proofs.Headed.{turned_wide}
use Rattle.version_sets.proofs.wide.Wide.turned.Goals as goal

pub returns : goal.returns
returns c =
    let w = c.args.self.now in
    record {
      universe = ap (λ n. 64 + n) c.in_ok-turned.ensures.universe;
      words = ap (λ ws. bit_not w64 w.head ∷ ws) c.in_ok-turned.ensures.words
          ∙ turned_wide (universe_of w) w.rest.universe w.head (all_words w.rest) refl w.rest.large;
    }
