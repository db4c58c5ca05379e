use Rattle.std.proofs.Common.{◌∙◌, ◌||◌, ap, ap₂}
use Rattle.std.specs.List.{list_any}
use Rattle.axioms.specs.inner.Gathered.{is_asked_by_root, is_known_by}
use Rattle.axioms.proofs.GatherLemmas.{all_known}
use Rattle.axioms.proofs.gathering.known_features.Goals as goal

pub returns : goal.returns
returns c = λ n f.
    c.in_ok-put_names.ensures n f
    ∙ ap₂ (λ a b. a || b)
    (c.in_ok-put_root.ensures n f ∙ ap₂ (λ a o. a || is_asked_by_root o n f) (c.new-known.ensures n f) c.brings.ensures)
    (ap (list_any (λ name. is_known_by c.args.catalogue.now name n f)) c.names.ensures.names)
    ∙ all_known c.args.manifest.now c.args.catalogue.now c.names.ensures.store n f
