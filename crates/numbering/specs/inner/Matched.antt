-- What requirements match, kept by the name and the requirement.
use Rattle.std.specs.Prelude.{◌≡◌, ◌&&◌, ◌-◌, nat_eq, Bool, true, List, ℕ, Option, Some, Vec, map, filter, take, drop}
use Rattle.std.specs.Borrow.{Bor}
use Rattle.std.specs.Cmp.Lexicographic.{pointwise}
use Rattle.std.specs.HashMap.{HashMap, get}
use Rattle.std.specs.List.{list_all}
use Rattle.std.specs.Option.{ForSome}
use Rattle.std.specs.declared.alloc.Global.{Global}
use Rattle.semver.specs.EvalViews.{matches_views}
use Rattle.semver.specs.Parse.{Held, Parts}
use Rattle.semver.specs.contracts.VersionReqPartialEq.TheImpl as requirements
use Rattle.semver.specs.declared.VersionReq.{VersionReq}
use Rattle.classes.specs.Classes.{class_view}
use Rattle.classes.specs.declared.class.Class as code
use Rattle.classes.specs.Groups.{each_once}
use Rattle.features.specs.Views.{requirement_view}
use Rattle.lookups.specs.inner.Matching.{is_release}
use Rattle.model.specs.Content.{Candidate, Problem, candidates_of}
use Rattle.model.specs.Selection.{Class, class_of}
use Rattle.model.specs.Vertices.{classes_of}
use Rattle.numbering.specs.declared.matched.Kept.{Kept}
use Rattle.numbering.specs.declared.matched.Kept.TheVariants.{Each, Range}

-- a name, and a requirement on it
abbrev pub Ask : Type 0
Ask = Bor (List ℕ) × Bor VersionReq

abbrev pub same_ask : Ask → Ask → Bool
same_ask x y = pointwise nat_eq x.0.now y.0.now && (requirements.eq-value).it x.1.now y.1.now

-- the classes of the name in which the requirement matches some candidate
abbrev pub classes_asked : Problem → List ℕ → List Held → List Class
classes_asked q name requirement =
    classes_of (filter (λ c. matches_views requirement c.version) (candidates_of q.candidates name))

abbrev pub name_versions : Problem → List ℕ → List Parts
name_versions q name = map (λ (c : Candidate). c.version) (candidates_of q.candidates name)

-- all classes of the name
abbrev pub name_classes : Problem → List ℕ → List Class
name_classes q name = each_once (map class_of (name_versions q name))

-- the classes that are kept of a name, of which these are all
abbrev pub kept_classes : List Class → Kept → List Class
kept_classes all (Range from to) = take (to - from) (drop from all)
kept_classes all (Each ks) = map class_view ks.items

-- those that are kept are these
abbrev pub IsMatched : Problem → Ask → Kept → Type 0
IsMatched q k kept = kept_classes (name_classes q k.0.now) kept ≡ classes_asked q k.0.now (requirement_view k.1.now)

abbrev pub AreMatched : {S : Type 0} → Problem → HashMap Ask Kept S → Type 0
AreMatched q m = (k : Ask) (kept : Kept) → get same_ask m k ≡ Some kept → IsMatched q k kept

abbrev pub same_name : Bor (List ℕ) → Bor (List ℕ) → Bool
same_name x y = pointwise nat_eq x.now y.now

-- these are all classes of the name, and none of its versions is a pre-release
abbrev pub IsOfReleases : Problem → List ℕ → List code.Class → Type 0
IsOfReleases q name ks =
    (map class_view ks ≡ name_classes q name) × (list_all is_release (name_versions q name) ≡ true)

abbrev pub IsNamed : Problem → Bor (List ℕ) → Option (Vec code.Class Global) → Type 0
IsNamed q name kept = ForSome kept (λ ks. IsOfReleases q name.now ks.items)

abbrev pub AreNamed : {S : Type 0} → Problem → HashMap (Bor (List ℕ)) (Option (Vec code.Class Global)) S → Type 0
AreNamed q m = (name : Bor (List ℕ)) (kept : Option (Vec code.Class Global)) → get same_name m name ≡ Some kept
    → IsNamed q name kept
