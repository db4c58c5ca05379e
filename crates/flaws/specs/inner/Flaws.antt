-- What is wrong with each package of a lock: where the conditions of a valid selection fail at it, and why (Cargo book,
-- "Dependency Resolution" and "Features"). The conditions are those of the model's verdict.
use Rattle.std.specs.Prelude.{◌≡◌, ◌↔◌, ◌<◌, ◌⊎◌, ℕ, ◌==◌, Bool, true, false, not, ◌&&◌, if◌then◌else◌, List, length}
use Rattle.std.specs.Prelude.{Option, Some, None, is_some, slice_get, Contains, MatchOption}
use Rattle.std.specs.List.{All, AllPairs}
use Rattle.model.specs.Summary.{Dependency}
use Rattle.model.specs.Content.{Package, Content, Problem, is_root, list_if, target_of}
use Rattle.model.specs.Selection.{class_of, IsOther, IsEnabled, IsTarget, IsReached}
use Rattle.model.specs.Verdict.{two_in_class, IsFreeOf, IsFaultless}
use Rattle.manifest.specs.Manifests.{ManifestView}
use Rattle.catalogue.specs.Problems.{problem_in}
use Rattle.catalogue.specs.Stores.{CatalogueView}
use Rattle.selection.specs.inner.Places.{Lacks}
use Rattle.flaws.specs.inner.Reasons.{why_none}
use Rattle.flaws.specs.declared.flawed.Flawed.{Flawed}
use Rattle.flaws.specs.declared.no_candidate.NoCandidate.{NoCandidate}

-- ---- what is told of one package

abbrev pub is_flawless : Flawed → Bool
is_flawless f = not (is_some f.no_candidate) && not (is_some f.twin) && length f.unmet.items == 0 && not f.lacks_feature
    && length f.surplus.items == 0 && not f.unreached

module _ (q : Problem) (content : Content) (n : ℕ) where
  -- dependency number i of the package at place n is enabled, and no package of its list serves it
  abbrev pub IsUnmet : ℕ → Type 0
  IsUnmet i = (d : Dependency) × IsEnabled q content n i d × (target_of content n d ≡ None)

  -- its list has place t, and none of its enabled dependencies leads there
  abbrev pub IsSurplus : ℕ → Type 0
  IsSurplus t = Contains (list_if (slice_get content n)) t × (IsTarget q content n t → ⊥)

  -- at place m stands an earlier package of its name and class, and neither is the root
  pub record IsTwin (m : ℕ) : Type 0 where
    pub package_there : Package
    pub earlier : Package
    pub is_before : m < n
    pub is_other : IsOther q content n package_there
    pub is_other_too : IsOther q content m earlier
    pub name_is : earlier.name ≡ package_there.name
    pub class_is : class_of earlier.version ≡ class_of package_there.version

-- the reason why the package there is no candidate; of the root none is asked for
abbrev pub why_at : ManifestView → CatalogueView → Package → Option NoCandidate
why_at m index p = if is_root (problem_in m index) p then None else why_none index p

module _ (m : ManifestView) (index : CatalogueView) (content : Content) where
  -- what is told of a package is what is wrong with it
  pub record AreFlaws (f : Flawed) : Type 0 where
    pub is_there : f.place < length content
    pub no_candidate_is : (p : Package) → slice_get content f.place ≡ Some p → f.no_candidate ≡ why_at m index p
    pub twin_is : MatchOption f.twin (IsFreeOf (problem_in m index) content two_in_class f.place)
        (λ t. IsTwin (problem_in m index) content f.place t)
    pub unmet_are : (i : ℕ) → Contains f.unmet.items i ↔ IsUnmet (problem_in m index) content f.place i
    pub lacks_is : (f.lacks_feature ≡ true) ↔ Lacks (problem_in m index) content f.place
    pub surplus_are : (t : ℕ) → Contains f.surplus.items t ↔ IsSurplus (problem_in m index) content f.place t
    -- each other place of its list is one to which an enabled dependency leads
    pub others_are : (t : ℕ) → Contains (list_if (slice_get content f.place)) t
        → Contains f.surplus.items t ⊎ IsTarget (problem_in m index) content f.place t
    pub reached_is : (f.unreached ≡ false) ↔ IsReached (problem_in m index) content f.place

  -- ---- what is told of a lock

  -- a package is told that stands before place n, with what is wrong with it, and something is
  abbrev pub IsToldBelow : ℕ → Flawed → Type 0
  IsToldBelow n f = AreFlaws f × (f.place < n) × (IsFaultless (problem_in m index) content f.place → ⊥)

  -- of the places below n just those are told at which something is wrong, in the order of the lock
  pub record AreToldBelow (n : ℕ) (fs : List Flawed) : Type 0 where
    pub each : All (IsToldBelow n) fs
    pub every : (k : ℕ) → k < n
        → IsFaultless (problem_in m index) content k ⊎ ((f : Flawed) × Contains fs f × (f.place ≡ k))
    pub in_order : AllPairs (λ f g. f.place < g.place) fs

  abbrev pub AreTold : List Flawed → Type 0
  AreTold fs = AreToldBelow (length content) fs
