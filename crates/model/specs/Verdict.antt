-- The verdict on a content: that it is a valid selection, or the first package that breaks a rule, with the first rule
-- that it breaks (Cargo book, "Dependency Resolution" and "Features").
use Rattle.std.specs.Prelude.{◌≡◌, ◌<◌, ◌↔◌, ℕ, List, true, Some, slice_get, Contains, IsSome}
use Rattle.model.specs.Summary.{Dependency, has_feature}
use Rattle.model.specs.Selection.{on, class_of, IsRootAt, IsPlace, IsOther, IsFact, IsEnabled, HasTarget, IsTarget}
use Rattle.model.specs.Selection.{IsReached}
use Rattle.model.specs.Content.{Package, Content, Problem, candidate_of, summary_at}

-- what may be wrong at a package
pub data VerdictFault : Type 0 where
  -- V2: not the root, and no candidate
  not_candidate : VerdictFault
  -- V3: not the root, and an earlier package other than the root has its name and class
  two_in_class : VerdictFault
  -- V4: an enabled dependency has no target
  unmet : VerdictFault
  -- V5: a feature that is on here doesn't exist here
  no_feature : VerdictFault
  -- V6: its list isn't the set of targets
  wrong_list : VerdictFault
  -- V7: not reached from the root through lists
  unreached : VerdictFault

-- the number of the fault
abbrev pub number_of : VerdictFault → ℕ
number_of not_candidate = 2
number_of two_in_class = 3
number_of unmet = 4
number_of no_feature = 5
number_of wrong_list = 6
number_of unreached = 7

pub data Verdict : Type 0 where
  valid : Verdict
  -- V1
  no_root : Verdict
  -- at the package in this place
  at_package : ℕ → VerdictFault → Verdict

module _ (q : Problem) (content : Content) where
  abbrev pub HasRoot : Type 0
  HasRoot = (n : ℕ) × IsRootAt q content n

  -- the package at place n doesn't have the fault
  abbrev pub IsFreeOf : VerdictFault → ℕ → Type 0
  IsFreeOf not_candidate n = (p : Package) → IsOther q content n p → IsSome (candidate_of q p)
  IsFreeOf two_in_class n = (m : ℕ) (p r : Package) → m < n → IsOther q content n p → IsOther q content m r
      → r.name ≡ p.name → class_of r.version ≡ class_of p.version → ⊥
  IsFreeOf unmet n = (i : ℕ) (d : Dependency) → IsEnabled q content n i d → (t : ℕ) × HasTarget q content n d t
  IsFreeOf no_feature n =
      (f : List ℕ) → IsFact q content (on n f) → has_feature (summary_at q content n).features f ≡ true
  IsFreeOf wrong_list n =
      (t : ℕ) (p : Package) → slice_get content n ≡ Some p → Contains p.list t ↔ IsTarget q content n t
  IsFreeOf unreached n = IsReached q content n

  abbrev pub HasFault : VerdictFault → ℕ → Type 0
  HasFault fault n = IsFreeOf fault n → ⊥

  abbrev pub IsFaultless : ℕ → Type 0
  IsFaultless n = (fault : VerdictFault) → IsFreeOf fault n

  -- the first package with a fault, and its lowest one
  pub record IsFirstFault (n : ℕ) (fault : VerdictFault) : Type 0 where
    pub place : IsPlace q content n
    pub has_fault : HasFault fault n
    pub lowest : (other : VerdictFault) → number_of other < number_of fault → IsFreeOf other n
    pub first : (m : ℕ) → m < n → IsFaultless m

  abbrev pub IsVerdict : Verdict → Type 0
  IsVerdict valid = HasRoot × ((n : ℕ) → IsPlace q content n → IsFaultless n)
  IsVerdict no_root = HasRoot → ⊥
  IsVerdict (at_package n fault) = HasRoot × IsFirstFault n fault
