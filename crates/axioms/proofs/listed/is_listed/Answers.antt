use Rattle.std.proofs.Common.{option_map, sym, ap, ap₂, ◌∙◌}
use Rattle.std.specs.Borrow.{Bor}
use Rattle.features.specs.Views.{dependency_view}
use Rattle.features.specs.declared.dependency.DependencyParts.{DependencyParts}
use Rattle.model.specs.Content.{passes}
use Rattle.model.specs.Summary.{Dependency}
use Rattle.axioms.specs.inner.Listed.{Numbered}
use Rattle.axioms.specs.inner.Pairs.{has_pair}
use Rattle.axioms.proofs.listed.is_listed.Goals as goal

pub returns-in-Some-get : goal.returns-in-Some-get
returns-in-Some-get c =
    let place : Numbered = (c.args.owner.now, c.args.number) in
    let list = c.in-Some-get.list.now in
    c.has.ensures
    ∙ ap₂ (has_pair list) c.as_str.ensures.text c.as_str-in-Some-get.ensures.text
    ∙ ap (passes (λ (d : Dependency). has_pair list d.real_name c.args.feature.now))
    (sym (ap (option_map (λ (d : Bor DependencyParts). dependency_view d.now)) c.in-Some.is) ∙ c.dependency_at.ensures)
    ∙ c.args.gathered.now.lists_are place list (sym c.in-Some-get.ensures.value) c.args.feature.now
