use Rattle.std.proofs.Common.{true, false, length, ap, sym, ◌∷◌, ◌∙◌, refl}
use Rattle.std.proofs.Math.Numerals.{add-one}
use Rattle.version_sets.specs.Sets.{only}
use Rattle.numbering.proofs.Alone.{none_pass}
use Rattle.numbering.proofs.space_tests.no_class.Goals as goal

pub returns : goal.returns
returns c =
    ap (λ n. only n 0) (add-one (length c.args.classes.now))
    ∙ ap (λ l. true ∷ l) (sym (none_pass (λ k. false) c.args.classes.now (λ k d within. refl)))
