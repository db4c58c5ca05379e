use Rattle.std.proofs.Common.{◌∙◌, find, get_or, ap}
use Rattle.classes.specs.Classes.{class_view}
use Rattle.lockfile.specs.inner.Views.{package_view}
use Rattle.guiding.specs.inner.Found.{is_locked}
use Rattle.std.proofs.lemmas.List.{take_rest}
use Rattle.guiding.proofs.Named.{before_is_other, find_past}
use Rattle.guiding.proofs.in_content.package_in.Goals as goal

pub returns : goal.returns
returns c =
    let name = c.args.name.now in
    let class = class_view c.args.class in
    let content = c.args.content.now in
    c.first_locked.ensures
    ∙ ap (find (λ p. is_locked name class (package_view p))) (take_rest content c.before_class.result)
    ∙ find_past (λ p. is_locked name class (package_view p)) content c.before_class.result c.before_class.ensures.few
    (λ k e l u. before_is_other name class (package_view (get_or content k e)) (c.before_class.ensures.place.0 k e l u))
