use Rattle.std.proofs.Common.{Bor, Option, sym, ap, ◌∙◌}
use Rattle.std.specs.Prelude.{option_map, unwrap_or}
use Rattle.classes.specs.Classes.{class_view}
use Rattle.classes.specs.declared.class.Class.{Class}
use Rattle.model.specs.Vertices.{absent, in_class}
use Rattle.numbering.proofs.Stated.{class_there}
use Rattle.numbering.proofs.states.class_at.Goals as goal

pub returns-in-Some : goal.returns-in-Some
returns-in-Some c =
    ap (λ (r : Option (Bor Class)).
    unwrap_or (option_map (λ (b : Bor Class). in_class (class_view b.now)) r) absent) (sym c.in-Some.is)
    ∙ class_there c.args.classes.now c.args.number c.get.result c.if-number-eq0.false c.get.ensures.lookup

pub returns-in-None : goal.returns-in-None
returns-in-None c =
    ap (λ (r : Option (Bor Class)).
    unwrap_or (option_map (λ (b : Bor Class). in_class (class_view b.now)) r) absent) (sym c.in-None.is)
    ∙ class_there c.args.classes.now c.args.number c.get.result c.if-number-eq0.false c.get.ensures.lookup
