use Rattle.std.proofs.Common.{◌∙◌, ap, map, sym}
use Rattle.classes.specs.Classes.{class_view}
use Rattle.numbering.proofs.matched.Matched.all_of.Goals as goal

pub returns-in-Some-Some : goal.returns-in-Some-Some
returns-in-Some-Some c =
    let named = c.args.self.now.are_named c.args.name c.in-Some-Some.field-0.now (sym c.in-Some-Some.ensures.value)
    c.in-Some-Some.classes c.in-Some-Some.field-0-is in (
      ap (map class_view) c.as_slice.ensures.value ∙ named.0,
      named.1,
    )
