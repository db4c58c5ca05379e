use Rattle.std.proofs.Common.{◌∙◌, sym, ap}
use Rattle.std.proofs.lemmas.Bool.{not-true}
use Rattle.features.specs.inner.Texts.{has_text}
use Rattle.axioms.specs.inner.Keeping.{NameClass}
use Rattle.axioms.proofs.instances.kept.Kept.lacks.Goals as goal

pub returns-in-Some : goal.returns-in-Some
returns-in-Some c e =
    let place : NameClass = (c.args.name, c.args.class) in
    let had = c.in-Some.had.now in
    sym (c.args.self.now.are_had place had (sym c.in-Some.ensures.value) c.args.feature.now)
    ∙ ap (has_text had.keys) (sym c.as_str.ensures.text)
    ∙ sym c.has_text.ensures ∙ not-true c.has_text.result e
