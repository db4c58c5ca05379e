-- A trail of given universes that meets a store, and terms that fit it (this repository's tests).
use Rattle.std.specs.Prelude.{◌≡◌, ℕ, ◌<◌, ◌≤◌, List, length, slice_index_or}
use Rattle.terms.specs.Terms.{TermView}
use Rattle.incompatibilities.specs.Incompatibilities.{LiesIn, OneEach, states_at}
use Rattle.incompatibilities.specs.Stores.{EntryView}
use Rattle.propagation.specs.Promises.{IsTrail}
use Rattle.propagation.specs.Trails.{TrailView, space_of}

abbrev pub universe_at : List ℕ → ℕ → ℕ
universe_at spaces v = slice_index_or spaces v 0

abbrev pub AreSmall : List ℕ → Type 0
AreSmall spaces = (i : ℕ) → i < length spaces → slice_index_or spaces i 0 ≤ 65536

-- a trail of a store, whose vertices have these universes
pub record IsMeeting (spaces : List ℕ) (es : List EntryView) (t : TrailView) : Type 0 where
  pub trail : IsTrail es t
  pub vertices : length t.sets ≡ length spaces
  pub each : (v : ℕ) → space_of t v ≡ universe_at spaces v
  pub small : AreSmall spaces

-- at most one term a vertex, each of its vertex's universe
pub record AreFit (space : ℕ → ℕ) (ts : List TermView) : Type 0 where
  pub one : OneEach ts
  pub lies : LiesIn space (states_at ts)
