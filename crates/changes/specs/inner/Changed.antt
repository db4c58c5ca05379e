-- What changes between two locks: packages of an index that the one has and the other lacks.
use Rattle.std.specs.Prelude.{ℕ, List, filter, Bool, true, false, not, if◌then◌else◌, Option, Some, None}
use Rattle.model.specs.Candidates.{is_locked}
use Rattle.model.specs.Content.{Content, Package}

-- a package without a source is none of an index
abbrev pub if_source : (List ℕ → Bool) → Option (List ℕ) → Bool
if_source test None = false
if_source test (Some source) = test source

-- whether others have a package of an index, by its name, version and source; or whether they lack it
abbrev pub is_one : Content → Bool → Package → Bool
is_one others had p = if_source (λ source.
    if had then is_locked others source p.name p.version else not (is_locked others source p.name p.version)) p.source

abbrev pub those : Content → Bool → List Package → List Package
those others had ps = filter (is_one others had) ps

-- the packages that others lack, and those that they have
abbrev pub lacking : Content → List Package → List Package
lacking others ps = those others false ps

abbrev pub sharing : Content → List Package → List Package
sharing others ps = those others true ps
