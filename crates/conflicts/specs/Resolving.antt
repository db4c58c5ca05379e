-- What the resolution of a conflict finds, learns and leaves (Dart pub's `solver.md`, "Conflict Resolution").
use Rattle.std.specs.Prelude.{◌≡◌, ℕ, suc, ◌+◌, ◌-◌, true, ◌<◌, ◌≤◌, ◌⊎◌, List, [], ◌∷◌, ◌++◌, length, Option, Some}
use Rattle.std.specs.Prelude.{None}
use Rattle.std.specs.Prelude.{cond, nat_lt}
use Rattle.version_sets.specs.Sets.{Members}
use Rattle.incompatibilities.specs.Incompatibilities.{IsIncompatibility, LiesIn, states_at}
use Rattle.terms.specs.Terms.{TermView}
use Rattle.incompatibilities.specs.inner.Chains.{ChainView}
use Rattle.incompatibilities.specs.declared.chain.Link.{Link}
use Rattle.incompatibilities.specs.Stores.{ComesOut, EntryView, Follows, IsAxiom, entry, terms_of, touches}
use Rattle.incompatibilities.specs.declared.origin.Origin.TheVariants as origins
use Rattle.propagation.specs.Trails.{StepView, TrailView, end_sets, space_of}
use Rattle.propagation.specs.Satisfaction.{IsOneOpen, Sat}
use Rattle.propagation.specs.Promises.{ForcedFits, IsCut, IsSatisfied, IsTrail, OpenFits}
use Rattle.propagation.specs.declared.satisfying.Satisfier.{Satisfier}
use Rattle.conflicts.specs.declared.lessons.Back.{Back}
use Rattle.conflicts.specs.declared.lessons.Back.TheVariants.{No, Yes}
use Rattle.conflicts.specs.declared.resolving.Outcome.{Outcome}
use Rattle.conflicts.specs.declared.resolving.Outcome.TheVariants.{Learned, Unsolvable}

-- no entry of a store is satisfied at the end of a level below one
abbrev pub Quiet : List EntryView → TrailView → ℕ → Type 0
Quiet es t level = (l : ℕ) → l < level → (id : ℕ) → id < length es → ¬ Sat (end_sets t l) (terms_of es id)

-- the satisfier of an incompatibility that has a term
pub record IsSatisfierOf (es : List EntryView) (t : TrailView) (ts : List TermView) (s : Satisfier) : Type 0 where
  pub satisfied : IsSatisfied t (states_at ts) s
  pub cause : ForcedFits es t ts s s.cause
  pub opens : OpenFits t (states_at ts) s

abbrev pub Satisfies : List EntryView → TrailView → List TermView → Option Satisfier → Type 0
Satisfies es t ts None = ts ≡ []
Satisfies es t ts (Some s) = IsSatisfierOf es t ts s

pub record IsFound (es : List EntryView) (t : TrailView) (ts : List TermView) (found : Option Satisfier) : Type 0 where
  pub satisfier : Satisfies es t ts found
  pub is : IsIncompatibility ts

-- an incompatibility is not satisfied at the end of a level below the trail's
abbrev pub IsLone : TrailView → List TermView → Type 0
IsLone t ts = (l : ℕ) → l < t.level → ¬ Sat (end_sets t l) (states_at ts)

-- the other terms were satisfied by a satisfier's level, and before it if that was a decision
abbrev pub IsPlaced : Option Satisfier → Type 0
IsPlaced None = Unit {0}
IsPlaced (Some s) = (s.before ≤ s.level) × (s.cause ≡ None → s.before < s.level)

-- with what forced a satisfier, where the other terms were satisfied at its own level
abbrev pub IsForcedAtLevel : Satisfier → Link → Type 0
IsForcedAtLevel s l = (s.before ≡ s.level) × (s.cause ≡ Some l.with) × (l.vertex ≡ s.vertex)

-- a resolution ends at an incompatibility that has no term, or whose other terms were satisfied at a lower level than
-- its satisfier's; else it goes on with one combination
abbrev pub Ends : Option Satisfier → Type 0
Ends None = Unit {0}
Ends (Some s) = s.before < s.level

abbrev pub IsNext : Option Satisfier → Option Link → Type 0
IsNext found None = Ends found
IsNext None (Some l) = ⊥
IsNext (Some s) (Some l) = IsForcedAtLevel s l

-- what comes out of a chain of entries
pub record IsHeld (es : List EntryView) (t : TrailView) (ts : List TermView) (chain : ChainView) : Type 0 where
  pub first : chain.first < length es
  pub comes_out : ComesOut es (length es) (entry es chain.first).terms chain.links ts
  pub lies : LiesIn (space_of t) (states_at ts)

-- what follows and is satisfied now, in a resolution; where no entry is satisfied at the end of a lower level, this
-- isn't
pub record IsLesson (es : List EntryView) (t : TrailView) (ts : List TermView) (chain : ChainView)
    (found : Option Satisfier) : Type 0 where
  pub held : IsHeld es t ts chain
  pub some : (chain.links ≡ []) ⊎ (0 < length t.steps)
  pub lone : Quiet es t t.level → IsLone t ts
  pub here : (xs : List EntryView) → IsTrail xs t → IsFound xs t ts found

-- how many places there are up to a satisfier, and before it
abbrev pub places_left : Option Satisfier → ℕ
places_left None = 0
places_left (Some s) = suc s.place

abbrev pub place_of : Option Satisfier → ℕ
place_of None = 0
place_of (Some s) = s.place

-- a resolution can go on with an incompatibility that the first places satisfied
abbrev pub IsBack : TrailView → List TermView → ℕ → Back → Type 0
IsBack t ts places No = Unit {0}
IsBack t ts places (Yes found) = IsLone t ts × ((xs : List EntryView) → IsTrail xs t → IsFound xs t ts found)
    × (places_left found ≤ places)

-- a store has room for one more beside the lesson, where it had so many entries before the conflict
abbrev pub HasRoom : ℕ → TrailView → List EntryView → Type 0
HasRoom first t es = length es ≤ first + (length t.steps - 1)

-- an incompatibility and a store of one universe for each vertex
abbrev pub LieSomewhere : List EntryView → List TermView → Type 0
LieSomewhere es ts = (space : ℕ → ℕ) × ((id : ℕ) → id < length es → LiesIn space (terms_of es id))
    × LiesIn space (states_at ts)

-- an entry to combine an incompatibility with at a vertex where it has a term
abbrev pub IsUnitFor : List EntryView → List TermView → ℕ → ℕ → Type 0
IsUnitFor es ts v unit = (unit < length es) × (touches v ts ≡ true)

-- the entry that says what came out of a chain: the one that it begins with, if it has no combination, else a new one
pub record IsKept (es : List EntryView) (ts : List TermView) (chain : ChainView) (new : List EntryView)
    (id : ℕ) : Type 0 where
  pub gained : List EntryView
  pub grown : new ≡ es ++ gained
  pub new_one : (gained ≡ []) ⊎ ((0 < length chain.links)
      × (gained ≡ record { terms = ts; origin = origins.Learned chain } ∷ []))
  pub within : id < length new
  pub terms : (entry new id).terms ≡ ts

-- a store gains learned entries alone; if no entry was satisfied at the end of an earlier level of a trail, none is
pub record IsGained (old : List EntryView) (t : TrailView) (new gained : List EntryView) : Type 0 where
  pub grown : new ≡ old ++ gained
  pub learned : (id : ℕ) → length old ≤ id → id < length new → ¬ IsAxiom (entry new id).origin
  pub quiet : Quiet old t t.level → Quiet new t t.level

-- a jump back is of at most so many levels
abbrev pub farthest : ℕ
farthest = 20

-- the learned entry follows; the trail is cut to a level below its own, where one term of the entry is open and all
-- others are satisfied, and no lower level has that unless it is farther than a jump goes
pub record IsLearned (t : TrailView) (es : List EntryView) (new : TrailView) (id back_to : ℕ) : Type 0 where
  pub within : id < length es
  pub follows : Follows es (terms_of es id)
  pub lower : back_to < t.level
  pub gone : List StepView
  pub cut : IsCut back_to t new gone
  pub vertex : ℕ
  pub states : Members
  pub one : IsOneOpen new.sets (terms_of es id) vertex states
  pub least : (back_to + farthest ≤ t.level)
      ⊎ ((l : ℕ) → l < back_to → (v : ℕ) (x : Members) → ¬ IsOneOpen (end_sets t l) (terms_of es id) v x)

-- the entry has no term, and follows; the trail stays
pub record IsRefuted (t : TrailView) (es : List EntryView) (new : TrailView) (id : ℕ) : Type 0 where
  pub within : id < length es
  pub follows : Follows es (terms_of es id)
  pub none : (entry es id).terms ≡ []
  pub stays : new ≡ t

abbrev pub Resolved : TrailView → List EntryView → TrailView → Outcome → Type 0
Resolved t es new (Learned id back_to) = IsLearned t es new id back_to
Resolved t es new (Unsolvable id) = IsRefuted t es new id

-- what a resolution teaches: where a trail is cut as it says, that incompatibility is learned
abbrev pub Teaches : List EntryView → TrailView → Outcome → Type 0
Teaches es t (Learned id back_to) = (back_to ≤ t.level)
    × ((new : TrailView) (gone : List StepView) → IsCut back_to t new gone → IsLearned t es new id back_to)
Teaches es t (Unsolvable id) = IsRefuted t es t id

-- the level that a jump goes back to, from a satisfier: where the other terms came to be satisfied, or the last but so
-- many
abbrev pub level_for : Satisfier → ℕ
level_for s = cond (nat_lt s.before (s.level - farthest)) (s.level - farthest) s.before

-- the outcome where it ended at a satisfier
abbrev pub outcome_of : ℕ → Option Satisfier → Outcome
outcome_of id None = Unsolvable id
outcome_of id (Some s) = Learned id (level_for s)
