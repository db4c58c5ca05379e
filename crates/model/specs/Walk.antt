-- The preferred walk: from the root, each enabled dependency leads to the first candidate in the order of preference
-- that it matches (Cargo book, "Dependency Resolution"; that the walk ignores conflicts is this project's).
use Rattle.std.specs.Prelude.{◌≡◌, ◌↔◌, ℕ, true, false, Some, None, if◌then◌else◌, slice_get, Contains, option_map}
use Rattle.std.specs.Prelude.{List, [], ◌∷◌, Option}
use Rattle.model.specs.Summary.{Dependency}
use Rattle.model.specs.Selection.{Fact, Holds, here, enabled, Brings}
use Rattle.model.specs.Content.{Package, Content, Problem, candidates_of, candidate_at, is_root, Candidate}
use Rattle.model.specs.Order.{IsContent}
use Rattle.model.specs.Vertices.{Owner, the_root, version_of, owner_brings}
use Rattle.semver.specs.EvalViews.{matches_views}

-- ---- The content that a choice of targets stands for: from the root, each enabled dependency leads where the choice
-- says (Cargo book, "Dependency Resolution").

-- the owner that a package is
abbrev pub name_of : Problem → Package → Owner
name_of q p = if is_root q p then the_root else version_of p.name p.version

module _ (q : Problem) (LeadsTo : Owner → ℕ → Dependency → Owner → Type 0) where
  -- the facts that finite chains of reasons give from the root
  abbrev pub IsReachedFact : Fact Owner → Type 0
  IsReachedFact = Holds (owner_brings q) (λ n. n ≡ the_root) (λ n. n ≡ the_root) q.root_asks LeadsTo

  -- dependency number i of this package is enabled and leads to that package
  pub record IsLink (p r : Package) (i : ℕ) (d : Dependency) : Type 0 where
    pub brings : Brings (owner_brings q) (name_of q p) i d
    pub is_enabled : IsReachedFact (enabled (name_of q p) i)
    pub leads : LeadsTo (name_of q p) i d (name_of q r)

  -- the content has a package for each owner that is reached, and in each list the targets
  pub record StandsFor (content : Content) : Type 0 where
    pub is_content : IsContent content
    pub packages : (t : Owner)
        → IsReachedFact (here t) ↔ ((n : ℕ) × (p : Package) × (slice_get content n ≡ Some p) × (name_of q p ≡ t))
    pub root_checksum : (n : ℕ) (p : Package) → slice_get content n ≡ Some p → is_root q p ≡ true → p.checksum ≡ None
    pub sources : (n : ℕ) (p : Package) → slice_get content n ≡ Some p → is_root q p ≡ false → p.source ≡ Some q.source
    pub checksums : (n : ℕ) (p : Package) → slice_get content n ≡ Some p → is_root q p ≡ false
        → p.checksum ≡ option_map (λ c. c.checksum) (candidate_at (candidates_of q.candidates p.name) p.version)
    pub lists : (n t : ℕ) (p : Package) → slice_get content n ≡ Some p
        → Contains p.list t
        ↔ ((r : Package) × (i : ℕ) × (d : Dependency) × (slice_get content t ≡ Some r) × IsLink p r i d)

-- ---- The picks, and the walk.

-- the first of these that the dependency matches
abbrev pub first_match : Dependency → List Candidate → Option Candidate
first_match d [] = None
first_match d (c ∷ cs) = if matches_views d.requirement c.version then Some c else first_match d cs

-- preferred: the candidates by name, the most preferred first
module _ (q : Problem) (preferred : List (List ℕ × List Candidate)) where
  abbrev pub pick : Dependency → Option Candidate
  pick d = first_match d (candidates_of preferred d.real_name)

  abbrev pub Picks : Owner → ℕ → Dependency → Owner → Type 0
  Picks n i d t = option_map (λ c. version_of d.real_name c.version) (pick d) ≡ Some t

  -- each enabled dependency has a pick
  pub record IsComplete : Type 0 where
    pub picks : (n : Owner) (i : ℕ) (d : Dependency) → IsReachedFact q Picks (enabled n i)
        → Brings (owner_brings q) n i d → (t : Owner) × Picks n i d t

  abbrev pub IsWalk : Content → Type 0
  IsWalk content = StandsFor q Picks content
