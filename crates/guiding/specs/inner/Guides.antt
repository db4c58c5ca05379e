-- What the guide of a search over a problem keeps: which vertices have numbers, and which pairs of a vertex and a state
-- were asked for.
use Rattle.std.specs.Prelude.{◌≡◌, ◌⊎◌, ◌+◌, ◌<◌, ◌≤◌, ◌==◌, ℕ, suc, List, [], ◌∷◌, ◌++◌, Bool, true, false, ◌||◌}
use Rattle.std.specs.Prelude.{length, map}
use Rattle.std.specs.Prelude.{take, Contains, Option, Some, None, IfSome, IsSome, slice_get, slice_set}
use Rattle.version_sets.specs.Sets.{Members, has, join, none, only, size}
use Rattle.incompatibilities.specs.Incompatibilities.{Assignment}
use Rattle.incompatibilities.specs.Stores.{EntryView, IsAxiom, entry}
use Rattle.incompatibilities.specs.declared.origin.Origin.TheVariants.{Axiom}
use Rattle.propagation.specs.Trails.{TrailView, set_of}
use Rattle.propagation.specs.Promises.{IsTrail}
use Rattle.propagation.specs.Satisfaction.{Agrees}
use Rattle.propagation.specs.inner.Widening.{IsWider}
use Rattle.model.specs.Content.{Content, Problem}
use Rattle.model.specs.Selection.{IsValidSelection}
use Rattle.model.specs.Vertices.{Vertex, space}
use Rattle.model.specs.inner.Assignment.{Assigns}
use Rattle.model.specs.Axioms.{IsInstance, Kind, Term}
use Rattle.vertices.specs.Texts.{kind_number}
use Rattle.model.specs.Order.{IsCatalogue}
use Rattle.model.specs.Causes.{Cause, is_cause, of_root, terms_of_cause}
use Rattle.model.specs.inner.Search.{IsUnbroken}
use Rattle.numbering.specs.inner.Assignments.{IsOf, state_at, state_of}
use Rattle.numbering.specs.inner.KnownProblem.{KnowsDefault, problem}
use Rattle.numbering.specs.Numberings.{IsGrown, IsNumbering, Numbering, Says, number_in}
use Rattle.numbering.specs.inner.AskedFor.{IsGivenFirst, IsGivenNext, IsNoted}
use Rattle.numbering.specs.Pairs.{Given, Pair, pairs_of}
use Rattle.numbering.specs.declared.known_problem.KnownProblem.{KnownProblem}
use Rattle.numbering.specs.declared.noted.Noted.{Noted}
use Rattle.incompatibilities.specs.inner.Counts.{combinations}
use Rattle.guiding.specs.inner.Searching.{HasSpaces, IsOnly, IsRefutation, IsSeen, Pairs}
use Rattle.guiding.specs.declared.turns.Answer.{Answer}
use Rattle.guiding.specs.declared.turns.Answer.TheVariants.{Selection, Unsolvable}
use Rattle.guiding.specs.inner.Following as following
use Rattle.guiding.specs.inner.Remaining.{late_of, open_of, spaces_of}

-- the problem, the vertices by their numbers, for each that the trail has the states that were asked for, of how many
-- places of the trail the vertex was looked at, the content that is followed, if there is one, and how many pairs may
-- still be begun with
pub record EncodedView : Type 0 where
  pub problem : Problem
  pub vertices : Numbering
  pub asked : List Members
  pub seen : ℕ
  pub follows : Option Content
  pub to_begin : ℕ

abbrev pub encoded_view : Problem → Numbering → List Members → ℕ → Option Content → ℕ → EncodedView
encoded_view q vs asked seen follows n =
    record { problem = q; vertices = vs; asked = asked; seen = seen; follows = follows; to_begin = n }

-- the vertices that the trail has
abbrev pub on_trail : Numbering → List Members → Numbering
on_trail vs asked = take (length asked) vs

-- each vertex that the trail has is asked for in its own states
pub record IsEncoding (i : KnownProblem) (vs : Numbering) (asked : List Members) : Type 0 where
  pub default : KnowsDefault i
  pub catalogue : IsCatalogue (problem i)
  pub numbering : IsNumbering (problem i) vs
  pub spaces : map length asked ≡ spaces_of (problem i) (on_trail vs asked)

-- a content that is followed is a valid selection
abbrev pub CanFollow : Problem → Option Content → Type 0
CanFollow q follows = IfSome follows (λ content. IsValidSelection q content)

-- an assignment gives each numbered vertex the state that it has in the content that is followed
abbrev pub Follows : EncodedView → Assignment → Type 0
Follows g x = (content : Content) × (g.follows ≡ Some content) × IsValidSelection g.problem content
    × IsOf g.problem g.vertices content x

-- the number of the state that a vertex has in the content, if it is left and absent isn't
abbrev pub IsFollowed : Problem → Option Content → Vertex → Members → Option ℕ → Type 0
IsFollowed q follows v left o = (content : Content) (i : ℕ) → follows ≡ Some content → i < length (space q v)
    → Assigns q content v (state_at q v i) → has left i ≡ true → has left 0 ≡ false → o ≡ Some i

-- absent counts as asked for (the root's instance there is stored from the start); a vertex with one state has this one
abbrev pub asked_of : List Members → Pairs
asked_of asked v i = (i == 0) || has (set_of asked v) i

abbrev pub asked_if : List Members → ℕ → Option ℕ → Bool
asked_if asked i None = false
asked_if asked i (Some n) = has (set_of asked n) i

-- the same by vertices
abbrev pub asked_at : Numbering → List Members → Vertex → ℕ → Bool
asked_at vs asked v i = asked_if asked i (number_in vs v)

abbrev pub late_with : EncodedView → ℕ
late_with g = late_of g.problem (on_trail g.vertices g.asked)

abbrev pub left_with : EncodedView → ℕ
left_with g = open_of g.problem (asked_at g.vertices g.asked) + g.to_begin

-- no vertex is to be decided: each that can no longer be absent has one state at most
abbrev pub IsDone : TrailView → Type 0
IsDone t = (v : ℕ) → v < length t.sets → has (set_of t.sets v) 0 ≡ false → size (set_of t.sets v) ≤ 1

-- an axiom is an instance of its kind
pub record IsOfInstance (q : Problem) (vs : Numbering) (e : EntryView) : Type 0 where
  pub kind : Kind
  pub terms : List Term
  pub is : IsInstance q kind terms
  pub says : Says q vs e.terms terms
  pub origin : e.origin ≡ Axiom (kind_number kind)

-- the instance of a cause is an axiom of the store
abbrev pub IsPut : Problem → Numbering → List EntryView → Cause → Type 0
IsPut q vs es c = (id : ℕ) × (id < length es) × IsAxiom (entry es id).origin
    × Says q vs (entry es id).terms (terms_of_cause q c)

-- a pair that was asked for
abbrev pub IsAskedFor : Problem → Numbering → List Members → Pair → Type 0
IsAskedFor q vs asked p = (n : ℕ) × (i : ℕ) × (slice_get vs n ≡ Some p.0) × (has (set_of asked n) i ≡ true)
    × (state_at q p.0 i ≡ p.1)

-- each of a dependency and a class is noted
abbrev pub AreNoted : Problem → Numbering → List Members → Noted → Type 0
AreNoted q vs asked ns = (p : Pair) → IsAskedFor q vs asked p → IsNoted q ns p

-- The instance of the root's absence is in the store, and each one all of whose pairs were asked for.
pub record AreStored (q : Problem) (vs : Numbering) (asked : List Members) (es : List EntryView) : Type 0 where
  pub root_is : is_cause q of_root ≡ true → IsPut q vs es of_root
  pub pairs : (c : Cause) → is_cause q c ≡ true
      → ((p : Pair) → Contains (pairs_of c) p → IsAskedFor q vs asked p) → IsPut q vs es c

-- a guide goes on from another one
pub record GoesOn (old new : EncodedView) : Type 0 where
  pub problem : new.problem ≡ old.problem
  pub grown : IsGrown old.vertices new.vertices
  pub whole : length old.asked ≡ length old.vertices → length new.asked ≡ length new.vertices
  pub follows_is : new.follows ≡ old.follows

-- ---- what its parts do

-- vertices more, none of whose states was asked for
abbrev pub IsMore : List Members → List Members → Type 0
IsMore asked more = (came : List ℕ) × (more ≡ asked ++ map none came)

-- vertices come onto the trail, and none of their states was asked for
pub record IsCome (asked more : List Members) (t wide : TrailView) : Type 0 where
  pub came : List ℕ
  pub sets : more ≡ asked ++ map none came
  pub wider : IsWider came t wide

-- an instance as an entry
abbrev pub as_entry : Given → EntryView
as_entry x = record { terms = x.1; origin = Axiom (kind_number x.0) }

-- a store with instances more
abbrev pub with_given : List EntryView → List Given → List EntryView
with_given es [] = es
with_given es (x ∷ xs) = with_given (es ++ as_entry x ∷ []) xs

-- one state more is asked for
abbrev pub marked : List Members → ℕ → ℕ → List Members
marked asked v i = slice_set asked v (join (set_of asked v) (only (length (set_of asked v)) i))

-- a state that wasn't asked for
abbrev pub IsUnless : Members → ℕ → Option ℕ → Type 0
IsUnless asked i None = ((i == 0) || has asked i) ≡ true
IsUnless asked i (Some j) = (j ≡ i) × (0 < i) × (has asked i ≡ false)

-- the one state of a vertex, if it wasn't asked for
abbrev pub IsOpenAt : List Members → List Members → ℕ → Option ℕ → Type 0
IsOpenAt sets asked v None = (i : ℕ) → IsOnly (set_of sets v) i → asked_of asked v i ≡ true
IsOpenAt sets asked v (Some i) = IsOnly (set_of sets v) i × (0 < i) × (has (set_of asked v) i ≡ false)

-- a pair whose state isn't absent and wasn't asked for
abbrev pub IsUnasked : List Members → ℕ → ℕ → Type 0
IsUnasked asked v i = (v < length asked) × (0 < i) × (has (set_of asked v) i ≡ false) × (i < length (set_of asked v))

-- a pair of a vertex of the trail whose state isn't absent and wasn't asked for
abbrev pub CanAsk : TrailView → List Members → ℕ → ℕ → Type 0
CanAsk t asked v i = (v < length t.sets) × (0 < i) × (has (set_of asked v) i ≡ false) × (i < length (set_of asked v))

-- a pair that stands alone and wasn't asked for, or all places are seen
abbrev pub IsNextOpen : TrailView → List Members → ℕ → Option (ℕ × ℕ) → Type 0
IsNextOpen t asked seen None = length t.steps ≤ seen
IsNextOpen t asked seen (Some d) = (d.0 < length t.sets) × IsOpenAt t.sets asked d.0 (Some d.1)

-- a pair is asked for: all its instances are given that wait for no other pair
pub record AreAll (v i : ℕ) (old new : EncodedView) (came : List ℕ) (given : List Given) : Type 0 where
  pub marks : new.asked ≡ marked (old.asked ++ map none came) v i
  pub is : (w : Vertex) → slice_get old.vertices v ≡ Some w
      → IsGivenNext old.problem new.vertices (IsAskedFor old.problem old.vertices old.asked)
      (w, state_at old.problem w i) given
  pub begins : new.to_begin ≡ old.to_begin

-- a pair is begun with: all its instances are given that name no other pair
pub record AreFirst (v i : ℕ) (old new : EncodedView) (came : List ℕ) (given : List Given) : Type 0 where
  pub marks : new.asked ≡ old.asked ++ map none came
  pub is : (w : Vertex) → slice_get old.vertices v ≡ Some w
      → IsGivenFirst old.problem new.vertices (w, state_at old.problem w i) given
  pub begins : old.to_begin ≡ suc new.to_begin

-- the instances of a pair, or the first of them, come into the store, and the vertices that they speak of onto the
-- trail
pub record IsAsking (v i : ℕ) (old new : EncodedView) (t wide : TrailView) (es more : List EntryView) : Type 0 where
  pub same : new.problem ≡ old.problem
  pub seen_is : new.seen ≡ old.seen
  pub follows_is : new.follows ≡ old.follows
  pub catalogue : IsCatalogue old.problem
  pub grown : IsGrown old.vertices new.vertices
  pub was_numbering : IsNumbering old.problem old.vertices
  pub numbering : IsNumbering old.problem new.vertices
  pub spaces : map length old.asked ≡ spaces_of old.problem (on_trail old.vertices old.asked)
  pub whole : length new.vertices ≤ length new.asked
  pub spaced : map length new.asked ≡ spaces_of old.problem (on_trail new.vertices new.asked)
  pub came : List ℕ
  pub wider : IsWider came t wide
  pub trail : IsTrail es wide
  pub given : List Given
  pub how : AreAll v i old new came given ⊎ AreFirst v i old new came given
  pub stored : more ≡ with_given es given

-- a search may begin: the root alone is on the trail with all that its absence speaks of, and its absence is stored
pub record HasBegun (q : Problem) (follows : Option Content) (g : EncodedView) (t : TrailView)
    (es : List EntryView) : Type 0 where
  pub problem : g.problem ≡ q
  pub whole : length g.asked ≡ length g.vertices
  pub spaces : HasSpaces (map length g.asked) t
  pub trail : IsTrail es t
  pub steps : t.steps ≡ []
  pub seen : IsSeen g.seen (asked_of g.asked) t
  pub given : following.AreGiven (IsOfInstance g.problem g.vertices) es
  pub uncombined : combinations es ≡ 0
  pub stored : AreStored g.problem g.vertices g.asked es
  pub follows_is : g.follows ≡ follows
  pub can_follow : CanFollow g.problem g.follows
  pub is_left : (x : Assignment) → Follows g x → following.IsLeft x es t

-- ---- the end

-- the least number of a set: of what is left to a vertex, absent if that is left
abbrev pub first_in : Members → ℕ
first_in [] = 0
first_in (true ∷ s) = 0
first_in (false ∷ s) = suc (first_in s)

-- each vertex takes absent where it may, else its one state
abbrev pub final_of : TrailView → Assignment
final_of t u = first_in (set_of t.sets u)

-- an assignment that breaks no instance; or an entry without terms, which follows from axioms that are instances
abbrev pub HasFound : Problem → EncodedView → TrailView → List EntryView → Answer → Type 0
HasFound q g t es Selection = IsUnbroken q (state_of q g.vertices (final_of t))
HasFound q g t es (Unsolvable id) = IsRefutation es id × following.AreGiven (IsOfInstance q g.vertices) es

-- a search that follows a content, a valid selection, ends with a selection, and the states of that content are left
pub record HasFollowed (g : EncodedView) (t : TrailView) (a : Answer) : Type 0 where
  pub can_follow : CanFollow g.problem g.follows
  pub selects : IsSome g.follows → following.IsSelection a
  pub agrees : (x : Assignment) → Follows g x → Agrees x t.sets

-- the vertices have one number each and are all on the trail, which meets the store, and this was found; in a selection
-- each vertex that has lost absent has one state
pub record HasSearched (q : Problem) (g : EncodedView) (t : TrailView) (es : List EntryView) (a : Answer) : Type 0 where
  pub numbering : IsNumbering q g.vertices
  pub whole : length g.vertices ≤ length t.sets
  pub trail : IsTrail es t
  pub found : HasFound q g t es a
  pub done : following.IsSelection a → IsDone t
  pub followed : HasFollowed g t a
