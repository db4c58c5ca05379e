-- Which versions of a name are meant by the states of a vertex.
use Rattle.std.specs.Prelude.{Bool, not, ◌&&◌, if◌then◌else◌, List}
use Rattle.semver.specs.EvalViews.{matches_views}
use Rattle.semver.specs.Parse.{Held, Parts}
use Rattle.model.specs.Selection.{Class, class_of}
use Rattle.model.specs.Vertices.{State, version, in_class, has_state, same_class}

-- a state is in a set, or outside of it
abbrev pub is_among : List State → Bool → State → Bool
is_among states within s = if within then has_state states s else not (has_state states s)

-- of a package: the version is of the class, and in the set or outside of it
abbrev pub is_version_of : Class → List State → Bool → Parts → Bool
is_version_of k states within v = same_class k (class_of v) && is_among states within (version v)

-- of a dependency: it is matched, and its class is in the set or outside of it
abbrev pub is_target_of : List Held → List State → Bool → Parts → Bool
is_target_of r states within v = matches_views r v && is_among states within (in_class (class_of v))
