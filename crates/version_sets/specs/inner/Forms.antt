-- How a set of words lies in memory: one word in place, or the first word and a window of the others behind a pointer.
use Rattle.std.specs.Prelude.{◌≡◌, ℕ, ◌+◌, ◌-◌, ◌<◌, ◌≤◌, List, [], ◌∷◌, length, min, slice_index}
use Rattle.version_sets.specs.declared.wide.Wide.{Wide}
use Rattle.version_sets.specs.declared.window.Window.{Window}
use Rattle.version_sets.specs.declared.words.Form.{Form}
use Rattle.version_sets.specs.declared.words.Form.TheVariants.{Many, One}
use Rattle.version_sets.specs.inner.Listed.{set_where}
use Rattle.version_sets.specs.inner.Windows.{IsFlanked, spread, words_for}
use Rattle.version_sets.specs.inner.Words.{IsWords, has_bit}
use Rattle.version_sets.specs.Sets.{Members}

abbrev pub all_words : Window → List ℕ
all_words w = spread w.universe w.low w.first w.words.items w.high

-- the window is of the universe without the first 64 numbers
abbrev pub universe_of : Wide → ℕ
universe_of w = 64 + w.rest.universe

abbrev pub wide_words : Wide → List ℕ
wide_words w = w.head ∷ all_words w.rest

abbrev pub universe_in : Form → ℕ
universe_in (One n w) = n
universe_in (Many w) = universe_of w.value

abbrev pub words_in : Form → List ℕ
words_in (One n w) = w ∷ []
words_in (Many w) = wide_words w.value

-- a window of a universe with these words
pub record HasWords (n : ℕ) (ws : List ℕ) (w : Window) : Type 0 where
  pub universe : w.universe ≡ n
  pub words : all_words w ≡ ws

-- a window of a set
pub record IsWindow (n : ℕ) (s : Members) (w : Window) : Type 0 where
  pub universe : w.universe ≡ n
  pub words : IsWords w.universe (all_words w)
  pub set : set_where n (has_bit (all_words w)) ≡ s

-- the same of a first word and a window
pub record HasWideWords (n : ℕ) (ws : List ℕ) (w : Wide) : Type 0 where
  pub universe : universe_of w ≡ n
  pub words : wide_words w ≡ ws

pub record IsWide (n : ℕ) (s : Members) (w : Wide) : Type 0 where
  pub universe : universe_of w ≡ n
  pub words : IsWords (universe_of w) (wide_words w)
  pub set : set_where n (has_bit (wide_words w)) ≡ s

-- places between which the words of either window may be unlike those at its ends
pub record IsHull (a b : Window) (from to : ℕ) : Type 0 where
  pub rising : from ≤ to
  pub within : to ≤ words_for a.universe
  pub first : IsFlanked a.universe a.low a.high (all_words a) from to
  pub second : IsFlanked b.universe b.low b.high (all_words b) from to

-- the same with one place more at either end
pub record IsHullAndEnds (a b : Window) (from to : ℕ) : Type 0 where
  pub first : ℕ
  pub last : ℕ
  pub hull : IsHull a b first last
  pub from_is : from ≡ first - 1
  pub to_is : to ≡ min (words_for a.universe) (last + 1)

-- an operation on the words of two windows gives 0 at each place from one on and below another
abbrev pub IsNothingAt : (ℕ → ℕ → ℕ) → Window → Window → ℕ → ℕ → Type 0
IsNothingAt f a b from to =
    (k : ℕ) → from ≤ k → k < to → f (slice_index (all_words a) k) (slice_index (all_words b) k) ≡ 0

-- the words from one place on and below another, if there are any, are the window's own
pub record Keeps (w : Window) (first end : ℕ) : Type 0 where
  pub from : first < end → w.first ≤ first
  pub to : first < end → end ≤ w.first + length w.words.items

-- places from one on and below another of which both windows keep the words, and no place is left out
pub record IsOverlap (a b : Window) (from to first end : ℕ) : Type 0 where
  pub above : first < to → from ≤ first
  pub rising : first ≤ end
  pub below : end ≤ to
  pub of_first : Keeps a first end
  pub of_second : Keeps b first end
  pub all : (k : ℕ) → from ≤ k → k < to → Keeps a k (k + 1) → Keeps b k (k + 1) → (first ≤ k) × (k < end)
