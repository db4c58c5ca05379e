-- What causes stand for.
use Rattle.semver.specs.Identifiers.{parts_of}
use Rattle.classes.specs.Classes.{class_view}
use Rattle.features.specs.EntryViews.{entry_view}
use Rattle.model.specs.Causes as model
use Rattle.vertices.specs.inner.RefViews.{owner_ref_view}
use Rattle.lookups.specs.declared.cause.Cause.{Cause}
use Rattle.lookups.specs.declared.cause.Cause.TheVariants as cause

abbrev pub cause_view : Cause → model.Cause
cause_view cause.Root = model.of_root
cause_view (cause.Need o i) = model.of_need (owner_ref_view o) i
cause_view (cause.Target o i k) = model.of_target (owner_ref_view o) i (class_view k)
cause_view (cause.Feature n k f) = model.of_feature n.now (class_view k) f.now
cause_view (cause.List o i k g) = model.of_list (owner_ref_view o) i (class_view k) g.now
cause_view (cause.Ask n v i g k) = model.of_ask n.now (parts_of v.now) i g.now (class_view k)
cause_view (cause.Entry n v f g) = model.of_entry n.now (parts_of v.now) f.now g.now
cause_view (cause.Enabling n v f e i) = model.of_enabling n.now (parts_of v.now) f.now (entry_view e.now) i
cause_view (cause.Asking n v f g i) = model.of_asking n.now (parts_of v.now) f.now g.now i
cause_view (cause.Newest o i j k m) = model.of_newest (owner_ref_view o) i j (class_view k) (class_view m)
cause_view (cause.Weak n v f g i k) = model.of_weak n.now (parts_of v.now) f.now g.now i (class_view k)
