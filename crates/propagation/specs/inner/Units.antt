-- One look at an incompatibility: how many of its terms are satisfied and open, term by term (Dart pub's `solver.md`,
-- "Unit Propagation").
use Rattle.std.specs.Prelude.{◌≡◌, ◌≢◌, ℕ, suc, ◌+◌, ◌-◌, ◌<◌, ◌≤◌, Bool, true, false, List, [], ◌∷◌, length, drop}
use Rattle.std.specs.Prelude.{slice_index_or, ◌++◌, Option, Some, None}
use Rattle.version_sets.specs.Sets.{Members, meet, rest}
use Rattle.terms.specs.Terms.{TermView, relation_of}
use Rattle.terms.specs.declared.term.Relation.{Relation}
use Rattle.terms.specs.declared.term.Relation.TheVariants.{Satisfied, Contradicted, Open}
use Rattle.incompatibilities.specs.Incompatibilities.{IsIncompatibility, LiesIn, Terms, states_at}
use Rattle.incompatibilities.specs.Stores.{EntryView, terms_of}
use Rattle.propagation.specs.Trails.{FrontView, SiftedView, StepView, TrailView, set_of, space_of, step_at, total}
use Rattle.propagation.specs.Satisfaction.{IsOneOpen, IsQuiet, Sat, is_within}
use Rattle.propagation.specs.inner.Parts.{IsPut}
use Rattle.propagation.specs.Promises.{NoneDecided, Follows, IsLonger, IsTrail, Rests, IsProgress, counted}
use Rattle.propagation.specs.declared.propagating.Progress.{Progress}
use Rattle.propagation.specs.declared.propagating.Standing.{Standing}
use Rattle.propagation.specs.declared.propagating.Standing.TheVariants.{Holds, OneOpen, Quiet}

abbrev pub term_at : List TermView → ℕ → TermView
term_at ts i = slice_index_or ts i (record { vertex = 0; states = [] })

-- how each term stands to the set of its vertex
abbrev pub relation_at : List Members → List TermView → ℕ → Relation
relation_at sets ts i = relation_of (set_of sets (term_at ts i).vertex) (term_at ts i).states

-- of the first n terms
abbrev pub AllHold : ℕ → (ℕ → Relation) → Type 0
AllHold n f = (i : ℕ) → i < n → f i ≡ Satisfied

pub record OneIsOpen (n : ℕ) (f : ℕ → Relation) (k : ℕ) : Type 0 where
  pub within : k < n
  pub here : f k ≡ Open
  pub others : (i : ℕ) → i < n → i ≢ k → f i ≡ Satisfied

pub record Neither (n : ℕ) (f : ℕ → Relation) : Type 0 where
  pub not_all : ¬ AllHold n f
  pub not_one : (k : ℕ) → ¬ OneIsOpen n f k

abbrev pub Stands : ℕ → (ℕ → Relation) → Standing → Type 0
Stands n f Holds = AllHold n f
Stands n f (OneOpen k) = OneIsOpen n f k
Stands n f Quiet = Neither n f

-- with one term more
abbrev pub after : Standing → ℕ → Relation → Standing
after Holds i Satisfied = Holds
after Holds i Open = OneOpen i
after Holds i Contradicted = Quiet
after (OneOpen k) i Satisfied = OneOpen k
after (OneOpen k) i Open = Quiet
after (OneOpen k) i Contradicted = Quiet
after Quiet i r = Quiet

-- an incompatibility whose terms lie in the universes of a trail's vertices
pub record LiesOn (t : TrailView) (ts : List TermView) : Type 0 where
  pub is : IsIncompatibility ts
  pub lies : LiesIn (space_of t) (states_at ts)

-- the negation of the one open term was put
pub record IsForcing (old new : TrailView) (f : Terms) (id : ℕ) : Type 0 where
  pub vertex : ℕ
  pub states : Members
  pub one : IsOneOpen old.sets f vertex states
  pub put : IsPut old new vertex (meet (set_of old.sets vertex) (rest states)) (Some id) old.level

-- what one look does: nothing where the incompatibility is satisfied or quiet
abbrev pub Visited : TrailView → TrailView → Terms → ℕ → Option Bool → Type 0
Visited old new f id None = (new ≡ old) × Sat old.sets f
Visited old new f id (Some false) = (new ≡ old) × IsQuiet old.sets f
Visited old new f id (Some true) = IsForcing old new f id

-- where all states that are left are within an entry's term, they stay: what it forces stands at another vertex
abbrev pub KeepsHeld : List Members → List Members → Terms → Type 0
KeepsHeld old new f = (v : ℕ) → is_within (set_of old v) (f v) ≡ true → set_of new v ≡ set_of old v

-- every place is of one level
abbrev pub AreAt : ℕ → List StepView → Type 0
AreAt n [] = Unit {0}
AreAt n (s ∷ ss) = (s.level ≡ n) × AreAt n ss

-- frail entries were added at the end of their list
abbrev pub IsFrailer : SiftedView → SiftedView → Type 0
IsFrailer old new = (more : List ℕ) × (new.frail ≡ old.frail ++ more)

-- assignments that entries of a store forced, at one level
pub record IsSpread (es : List EntryView) (old new : TrailView) (added : List StepView) : Type 0 where
  pub trail : IsTrail es new
  pub longer : IsLonger old new added
  pub level : new.level ≡ old.level
  pub levels : AreAt old.level added
  pub none_decided : NoneDecided added
  pub spent : total new.sets + length added ≤ total old.sets
  pub assigned : new.assigned ≡ counted old.assigned (length added)
  pub follows : Follows es old.sets new.sets
  pub sifted : IsFrailer old.sifted new.sifted

-- how much is left to look at: twice the states that are left, the vertices that wait, the frail entries that are not
-- settled, and twice the entries that are new, since one of these may become a frail one
abbrev pub work : List EntryView → TrailView → ℕ
work es t = total t.sets + total t.sets + (length t.steps - t.propagated) + (length t.sifted.frail - t.settled)
    + (length es - t.sifted.seen) + (length es - t.sifted.seen)

-- the vertex of the first place that was not propagated has a later place
pub record HasLater (t : TrailView) : Type 0 where
  pub later : ℕ
  pub after : t.propagated < later
  pub within : later < length t.steps
  pub same : (step_at t.steps later).vertex ≡ (step_at t.steps t.propagated).vertex

-- one turn: less is left to look at, or it stops
abbrev pub Turned : List EntryView → TrailView → TrailView → Option Progress → Type 0
Turned es old new None = work es new < work es old
Turned es old new (Some progress) = IsProgress es new.sets progress

-- what a look at an entry leaves: satisfied, or resting
abbrev pub LookEnds : List EntryView → TrailView → TrailView → ℕ → Option Bool → Type 0
LookEnds es old new id None = Sat new.sets (terms_of es id)
LookEnds es old new id (Some forced) = (w : ℕ) → w ≤ length old.steps → Rests es new.sets (drop w new.steps) id

-- a look at an entry that ends so: the others rest as before
pub record LooksWith (es : List EntryView) (old new : TrailView) (added : List StepView) (Ends : Type 0) : Type 0 where
  pub spread : IsSpread es old new added
  pub settled : new.settled ≡ old.settled
  pub propagated : new.propagated ≡ old.propagated
  pub sifted : new.sifted ≡ old.sifted
  pub keeps : (w i : ℕ) → w ≤ length old.steps → Rests es old.sets (drop w old.steps) i
      → Rests es new.sets (drop w new.steps) i
  pub ends : Ends

-- one look at an entry
abbrev pub IsLook : List EntryView → TrailView → TrailView → ℕ → Option Bool → List StepView → Type 0
IsLook es old new id r added = LooksWith es old new added (LookEnds es old new id r)

-- what an entry that is looked at again has left: satisfied, or resting without the first place that was not
-- propagated, if it rested with it
abbrev pub AgainEnds : List EntryView → TrailView → TrailView → ℕ → Option Bool → Type 0
AgainEnds es old new id None = Sat new.sets (terms_of es id)
AgainEnds es old new id (Some forced) =
    Rests es old.sets (drop old.propagated old.steps) id → Rests es new.sets (drop (suc old.propagated) new.steps) id

-- an entry at the vertex of the first place that was not propagated is looked at again, or passed over
abbrev pub IsLookAgain : List EntryView → TrailView → TrailView → ℕ → Option Bool → List StepView → Type 0
IsLookAgain es old new id r added = LooksWith es old new added (AgainEnds es old new id r)

-- how many entries of a row of so many are left: those that are kept, and those that came since
abbrev pub entries_left : FrontView → ℕ → ℕ
entries_left f entries = length f.alive + (entries - f.seen)

-- the place of one of them
abbrev pub place_left : FrontView → ℕ → ℕ
place_left f turn = slice_index_or f.alive turn (f.seen + (turn - length f.alive))

-- from a turn on, none of these is the place j
abbrev pub NotLeft : FrontView → ℕ → ℕ → ℕ → Type 0
NotLeft f entries turn j = (i : ℕ) → turn ≤ i → i < entries_left f entries → place_left f i ≢ j
