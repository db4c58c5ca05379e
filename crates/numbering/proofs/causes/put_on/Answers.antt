use Rattle.std.proofs.Common.{◌≡◌, [], ◌∷◌, ◌++◌, subst}
use Rattle.std.specs.Prelude.{OnOk, if◌then◌else◌}
use Rattle.semver.specs.Identifiers.{parts_of}
use Rattle.features.specs.EntryViews.{entry_view}
use Rattle.model.specs.Summary.{same_text}
use Rattle.model.specs.Causes.{of_asking, of_enabling}
use Rattle.numbering.specs.GivenViews.{cause_views}
use Rattle.numbering.proofs.causes.put_on.Goals as goal

pub returns-in-Dependency : goal.returns-in-Dependency
returns-in-Dependency c =
    let own = c.args.own in
    rw c.in-Dependency.is
    (subst (λ e. OnOk c.put_enabled.result (cause_views c.put_enabled.new.causes.items
    ≡ cause_views c.args.causes.now.items ++ (if same_text c.args.dependency.now.name c.in-Dependency.called
    then of_enabling own.name.now (parts_of own.version.now) own.feature.now (entry_view e) c.args.number
    ∷ [] else []))) c.in-Dependency.is
    c.put_enabled.ensures)

pub returns-in-DependencyFeature : goal.returns-in-DependencyFeature
returns-in-DependencyFeature c =
    let own = c.args.own in
    rw c.in-DependencyFeature.is
    (subst (λ e. OnOk c.put_asked.result (cause_views c.put_asked.new.causes.items ≡ cause_views c.args.causes.now.items
    ++ (if same_text c.args.dependency.now.name c.in-DependencyFeature.called then of_enabling own.name.now
    (parts_of own.version.now) own.feature.now (entry_view e) c.args.number ∷ of_asking own.name.now
    (parts_of own.version.now) own.feature.now c.in-DependencyFeature.asked c.args.number ∷ [] else [])))
    c.in-DependencyFeature.is
    c.put_asked.ensures)
