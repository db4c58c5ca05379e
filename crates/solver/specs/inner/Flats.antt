-- Incompatibilities in a row, each an axiom or the combination of two earlier ones, and a store's entry as such a row.
use Rattle.std.specs.Prelude.{◌≡◌, ℕ, suc, ◌+◌, ◌-◌, ◌<◌, ◌≤◌, Bool, true, false, List, [], ◌∷◌, ◌++◌, length, map}
use Rattle.std.specs.Prelude.{slice_index_or}
use Rattle.version_sets.specs.Sets.{Members, has}
use Rattle.terms.specs.Terms.{TermView, terms_view}
use Rattle.incompatibilities.specs.Incompatibilities.{IsCombination, LiesIn, states_at}
use Rattle.incompatibilities.specs.Stores.{EntryView, entry, terms_of, touches}
use Rattle.incompatibilities.specs.declared.origin.Origin.TheVariants as origins
use Rattle.incompatibilities.specs.inner.Counts.{axioms, combinations, given_in, links_in}
use Rattle.incompatibilities.specs.inner.Chains.{ChainView}
use Rattle.incompatibilities.specs.declared.chain.Link.{Link}
use Rattle.solver.specs.declared.flat.Flat.{Flat}
use Rattle.solver.specs.declared.flat.Source.{Source}
use Rattle.solver.specs.declared.flat.Source.TheVariants.{Axiom, Combined}

pub record FlatView : Type 0 where
  pub terms : List TermView
  pub source : Source

abbrev pub flat_view : {S : Type 0} → (S → Members) → Flat S → FlatView
flat_view tests f = record { terms = terms_view tests f.incompatibility; source = f.source }

abbrev pub flats_view : {S : Type 0} → (S → Members) → List (Flat S) → List FlatView
flats_view tests fs = map (flat_view tests) fs

abbrev pub flat : List FlatView → ℕ → FlatView
flat fs k = slice_index_or fs k (record { terms = []; source = Axiom 0 })

-- an axiom is a store's; a combination is that of two earlier ones, at a vertex at which the first has a term
abbrev pub SourceFits : List EntryView → List FlatView → ℕ → List TermView → Source → Type 0
SourceFits es fs n ts (Axiom kind) =
    (id : ℕ) × (id < length es) × ((entry es id).origin ≡ origins.Axiom kind) × ((entry es id).terms ≡ ts)
SourceFits es fs n ts (Combined i j v) = (i < n) × (j < n) × (touches v (flat fs i).terms ≡ true)
    × IsCombination v (flat fs i).terms (flat fs j).terms ts

abbrev pub AreFlat : List EntryView → List FlatView → Type 0
AreFlat es fs = (k : ℕ) → k < length fs → SourceFits es fs k (flat fs k).terms (flat fs k).source

-- an entry stands at a place of a row
pub record StandsAt (es : List EntryView) (fs : List FlatView) (id place : ℕ) : Type 0 where
  pub within : place < length fs
  pub terms : (flat fs place).terms ≡ (entry es id).terms

-- each marked entry below a number stands at its place
abbrev pub AreAt : List EntryView → List FlatView → List Bool → ℕ → List ℕ → Type 0
AreAt es fs ms n places =
    (id : ℕ) → id < n → has ms id ≡ true → StandsAt es fs id (slice_index_or places id 0)

-- the entries of a chain stand at their places
abbrev pub LinksAt : List EntryView → List FlatView → List ℕ → List Link → Type 0
LinksAt es fs places [] = Unit {0}
LinksAt es fs places (l ∷ ls) = (l.with < length places)
    × StandsAt es fs l.with (slice_index_or places l.with 0) × LinksAt es fs places ls

abbrev pub ChainAt : List EntryView → List FlatView → List ℕ → ChainView → Type 0
ChainAt es fs places chain = (chain.first < length places)
    × StandsAt es fs chain.first (slice_index_or places chain.first 0) × LinksAt es fs places chain.links

-- a row with the combination of the one at a place with a link's entry
pub record IsLinkPut (es : List EntryView) (fs new : List FlatView) (places : List ℕ) (place : ℕ) (l : Link)
    (p : ℕ) : Type 0 where
  pub at_end : p ≡ length fs
  pub made : List TermView
  pub is : IsCombination l.vertex (flat fs place).terms (entry es l.with).terms made
  pub only : (ts : List TermView) → IsCombination l.vertex (flat fs place).terms (entry es l.with).terms ts → ts ≡ made
  pub lies : (space : ℕ → ℕ) → LiesIn space (states_at (flat fs place).terms) → LiesIn space (terms_of es l.with)
      → LiesIn space (states_at made)
  pub grown : new
      ≡ fs ++ record { terms = made; source = Combined place (slice_index_or places l.with 0) l.vertex } ∷ []

-- how many of a row are combinations, and how many axioms
abbrev pub combined_by : Source → ℕ
combined_by (Axiom kind) = 0
combined_by (Combined i j v) = 1

abbrev pub combined_in : List FlatView → ℕ
combined_in [] = 0
combined_in (f ∷ fs) = combined_by f.source + combined_in fs

abbrev pub given_by : Source → ℕ
given_by (Axiom kind) = 1
given_by (Combined i j v) = 0

abbrev pub given_of : List FlatView → ℕ
given_of [] = 0
given_of (f ∷ fs) = given_by f.source + given_of fs

-- a row that gained an entry, which stands at its end, by so many combinations and axioms
pub record IsPut (es : List EntryView) (fs new : List FlatView) (id p links axioms_put : ℕ) : Type 0 where
  pub gained : List FlatView
  pub grown : new ≡ fs ++ gained
  pub founded : AreFlat es new
  pub here : StandsAt es new id p
  pub ends : suc p ≡ length new
  pub combined : combined_in gained ≡ links
  pub given : given_of gained ≡ axioms_put

abbrev pub PutIf : List EntryView → List FlatView → List FlatView → ℕ → ℕ → Bool → Type 0
PutIf es fs new id p true = IsPut es fs new id p (links_in (entry es id).origin) (given_in (entry es id).origin)
PutIf es fs new id p false = new ≡ fs

-- a row of an entry and of all that it comes from, which ends with it, and has no more combinations and axioms than the
-- store
pub record IsUnrolled (es : List EntryView) (last : ℕ) (fs : List FlatView) : Type 0 where
  pub founded : AreFlat es fs
  pub some : 0 < length fs
  pub ends : (flat fs (length fs - 1)).terms ≡ (entry es last).terms
  pub few_combined : combined_in fs ≤ combinations es
  pub few_given : given_of fs ≤ axioms es

abbrev pub LieSomewhere : List EntryView → Type 0
LieSomewhere es = (space : ℕ → ℕ) × ((id : ℕ) → id < length es → LiesIn space (terms_of es id))
