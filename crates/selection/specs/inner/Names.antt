-- Where names of packages stand beside the name that a dependency means: in a lock the packages of one name stand side
-- by side.
use Rattle.std.specs.Prelude.{Bool, true, false, ◌&&◌, Option, Some, None}
use Rattle.std.specs.declared.cmp.Ordering.{Ordering}
use Rattle.std.specs.declared.cmp.Ordering.TheVariants.{Less, Equal, Greater}
use Rattle.model.specs.Summary.{Dependency, same_text}
use Rattle.model.specs.Content.{Package}
use Rattle.model.specs.Order.{text_cmp}
use Rattle.model.specs.Selection.{class_of}
use Rattle.model.specs.Vertices.{same_class}
use Rattle.catalogue.specs.inner.Bounds.{is_beyond}

-- a place that isn't there comes last
abbrev pub name_cmp : Dependency → Option Package → Ordering
name_cmp d None = Greater
name_cmp d (Some p) = text_cmp p.name d.real_name

-- a higher name, or at this name what is newer than all that is matched
abbrev pub past_by : Ordering → Bool → Bool
past_by Less newer = false
past_by Equal newer = newer
past_by Greater newer = true

abbrev pub is_newer : Dependency → Package → Bool
is_newer d p = past_by (text_cmp p.name d.real_name) (is_beyond d.requirement p.version)

abbrev pub is_past : Dependency → Option Package → Bool
is_past d None = true
is_past d (Some p) = is_newer d p

-- whether two packages have one name and one class
abbrev pub is_like : Package → Package → Bool
is_like p r = same_text p.name r.name && same_class (class_of p.version) (class_of r.version)
