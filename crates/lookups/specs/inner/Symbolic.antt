-- What terms of an instance say, as terms.
use Rattle.std.specs.Prelude.{Bool, true, false, not, List, [], ◌∷◌, map}
use Rattle.semver.specs.Identifiers.{parts_of}
use Rattle.classes.specs.Classes.{class_view}
use Rattle.features.specs.Views.{dependency_view}
use Rattle.model.specs.Axioms.{Term, at, matched, absent_or, versions_that}
use Rattle.model.specs.Content.{Problem}
use Rattle.model.specs.Selection.{class_of}
use Rattle.model.specs.Summary.{has_feature}
use Rattle.model.specs.Vertices as model
use Rattle.vertices.specs.inner.RefViews.{owner_ref_view}
use Rattle.lookups.specs.declared.symbolic.SymbolicTerm.{SymbolicTerm}
use Rattle.lookups.specs.declared.symbolic.SymbolicTerm.TheVariants as says

-- the state that a flag says
abbrev pub flag_state : Bool → model.State
flag_state true = model.present
flag_state false = model.absent

abbrev pub symbolic_view : Problem → SymbolicTerm → Term
symbolic_view q (says.Root p) = at model.root (flag_state p ∷ [])
symbolic_view q (says.Feature n k f p) = at (model.feat n.now (class_view k) f.now) (flag_state p ∷ [])
symbolic_view q (says.Ask n v i g p) = at (model.ask n.now (parts_of v.now) i g.now) (flag_state p ∷ [])
symbolic_view q (says.Absent o i) = at (model.dep (owner_ref_view o) i) (model.absent ∷ [])
symbolic_view q (says.Chosen n v) =
    at (model.pkg n.now (class_of (parts_of v.now))) (model.version (parts_of v.now) ∷ [])
symbolic_view q (says.Leads o i k) = at (model.dep (owner_ref_view o) i) (model.in_class (class_view k) ∷ [])
symbolic_view q (says.Unmatched d k) = at (model.pkg (dependency_view d.now).real_name (class_view k))
    (absent_or q (λ c. not (matched (dependency_view d.now) c)) (dependency_view d.now).real_name (class_view k))
symbolic_view q (says.Matched d k) = at (model.pkg (dependency_view d.now).real_name (class_view k))
    (versions_that q (matched (dependency_view d.now)) (dependency_view d.now).real_name (class_view k))
symbolic_view q (says.Lacking n k f) = at (model.pkg n.now (class_view k))
    (absent_or q (λ c. not (has_feature c.brings.features f.now)) n.now (class_view k))

abbrev pub symbolic_views : Problem → List SymbolicTerm → List Term
symbolic_views q ts = map (symbolic_view q) ts
