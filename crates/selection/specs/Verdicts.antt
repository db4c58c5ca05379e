-- What is said of a lock: the model's verdict on its content, with the name and version of the package that has the
-- fault (Cargo book, "Dependency Resolution" and "Features").
use Rattle.std.specs.Prelude.{◌≡◌, ℕ, List, Some, slice_get}
use Rattle.semver.specs.Identifiers.{parts_of}
use Rattle.semver.specs.Parse.{Parts}
use Rattle.model.specs.Content.{Package, Content, Problem}
use Rattle.model.specs.Verdict.{VerdictFault, not_candidate, two_in_class, unmet, no_feature, wrong_list, unreached}
use Rattle.model.specs.Verdict.{IsVerdict, valid, no_root, at_package}
use Rattle.selection.specs.declared.verdict.Verdict.{Verdict}
use Rattle.selection.specs.declared.verdict.Verdict.TheVariants.{Valid, Invalid}
use Rattle.selection.specs.declared.verdict.VerdictFault as said
use Rattle.selection.specs.declared.verdict.VerdictFault.TheVariants as fault

module _ (q : Problem) (content : Content) where
  -- the first package with a fault has this name and version, and this is its lowest fault
  pub record IsAt (lowest : VerdictFault) (name : List ℕ) (version : Parts) : Type 0 where
    pub place : ℕ
    pub there : Package
    pub stands : slice_get content place ≡ Some there
    pub name_is : there.name ≡ name
    pub version_is : there.version ≡ version
    pub verdict : IsVerdict q content (at_package place lowest)

  -- a fault with a name and a version
  abbrev pub IsInvalid : said.VerdictFault → List ℕ → Parts → Type 0
  IsInvalid fault.Root name version = (name ≡ q.name) × (version ≡ q.version) × IsVerdict q content no_root
  IsInvalid fault.NotCandidate name version = IsAt not_candidate name version
  IsInvalid fault.TwoInClass name version = IsAt two_in_class name version
  IsInvalid fault.Unmet name version = IsAt unmet name version
  IsInvalid fault.NoFeature name version = IsAt no_feature name version
  IsInvalid fault.List name version = IsAt wrong_list name version
  IsInvalid fault.Unreached name version = IsAt unreached name version

  -- what is said is the verdict on the content
  abbrev pub IsVerdictOn : Verdict → Type 0
  IsVerdictOn Valid = IsVerdict q content valid
  IsVerdictOn (Invalid f name version) = IsInvalid f name (parts_of version)

-- what is said is this fault, of a package with this name and version
abbrev pub IsFaultOf : said.VerdictFault → List ℕ → Parts → Verdict → Type 0
IsFaultOf fault name version Valid = ⊥
IsFaultOf fault name version (Invalid f n v) = (f ≡ fault) × (n ≡ name) × (parts_of v ≡ version)
