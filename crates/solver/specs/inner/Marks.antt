-- The entries that one of a store comes from: it and the entries of the chain of each of them (marking, as of a garbage
-- collector).
use Rattle.std.specs.Prelude.{◌≡◌, ℕ, suc, ◌<◌, ◌≤◌, Bool, true, List, [], ◌∷◌, if◌then◌else◌, length, slice_set}
use Rattle.version_sets.specs.Sets.{has}
use Rattle.incompatibilities.specs.Stores.{EntryView, OriginFits, entry}
use Rattle.incompatibilities.specs.declared.chain.Link.{Link}
use Rattle.incompatibilities.specs.declared.origin.Origin.{Origin}
use Rattle.incompatibilities.specs.declared.origin.Origin.TheVariants.{Axiom, Learned}

abbrev pub with_links : List Link → List Bool → List Bool
with_links [] ms = ms
with_links (l ∷ ls) ms = with_links ls (slice_set ms l.with true)

-- the marks with those of the entries of a chain
abbrev pub with_parts : Origin → List Bool → List Bool
with_parts (Axiom k) ms = ms
with_parts (Learned chain) ms = with_links chain.links (slice_set ms chain.first true)

abbrev pub AreBelow : ℕ → List Link → Type 0
AreBelow n [] = Unit {0}
AreBelow n (l ∷ ls) = (l.with < n) × AreBelow n ls

abbrev pub PartsBelow : ℕ → Origin → Type 0
PartsBelow n (Axiom k) = Unit {0}
PartsBelow n (Learned chain) = (chain.first < n) × AreBelow n chain.links

abbrev pub AreIn : List Bool → List Link → Type 0
AreIn ms [] = Unit {0}
AreIn ms (l ∷ ls) = (has ms l.with ≡ true) × AreIn ms ls

abbrev pub PartsIn : List Bool → Origin → Type 0
PartsIn ms (Axiom k) = Unit {0}
PartsIn ms (Learned chain) = (has ms chain.first ≡ true) × AreIn ms chain.links

abbrev pub visited : List EntryView → ℕ → List Bool → List Bool
visited es id ms = if has ms id then with_parts (entry es id).origin ms else ms

pub record IsClosedAt (es : List EntryView) (ms : List Bool) (id : ℕ) : Type 0 where
  pub fits : OriginFits es id (entry es id).terms (entry es id).origin
  pub parts : PartsIn ms (entry es id).origin

-- down to a number what the marked entries come out of is marked
pub record IsMarking (es : List EntryView) (last left : ℕ) (ms : List Bool) : Type 0 where
  pub long : length ms ≡ suc last
  pub ends : has ms last ≡ true
  pub closed : (id : ℕ) → left ≤ id → has ms id ≡ true → IsClosedAt es ms id
