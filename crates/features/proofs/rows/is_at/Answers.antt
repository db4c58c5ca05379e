use Rattle.std.proofs.Common.{◌∙◌, ap, sym}
use Rattle.model.specs.Summary.{same_text}
use Rattle.features.proofs.PlaceLemmas.{place_held}
use Rattle.features.proofs.rows.is_at.Goals as goal

pub returns-in-Some : goal.returns-in-Some
returns-in-Some c = λ same.
    place_held c.args.rows.now c.args.name.now c.args.place c.get.result c.in-Some.row c.requires
    c.get.ensures.lookup c.in-Some.is
    (ap (λ n. same_text n c.args.name.now) (sym c.name.ensures) ∙ sym c.eq.ensures ∙ same)
