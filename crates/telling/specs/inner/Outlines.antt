-- Which steps of a derivation are told, in which order and by which premises (Dart pub's `solver.md`, "Error
-- Reporting",
-- has such sentences; the rules are this project's).
use Rattle.std.specs.Prelude.{◌≡◌, ◌<◌, Contains, ℕ, zero, suc, ◌+◌, ◌-◌, nat_eq, nat_lt, Bool, true, false}
use Rattle.std.specs.Prelude.{if◌then◌else◌, List, [], ◌∷◌, ◌++◌, length, replicate, Option, Some, None, slice_get}
use Rattle.std.specs.Prelude.{slice_set, slice_index_or}
use Rattle.std.specs.List.{AllPairs, list_any}
use Rattle.model.specs.Derivation.{Step}
use Rattle.derivations.specs.inner.References.{references_at}
use Rattle.telling.specs.declared.uses.Uses.{Uses}
use Rattle.telling.specs.declared.uses.Uses.TheVariants.{Never, Once, Often, End}
use Rattle.telling.specs.declared.outline.Note.{Note}
use Rattle.telling.specs.declared.outline.Premise.{Premise}
use Rattle.telling.specs.declared.outline.Premise.TheVariants.{Fact, Told}

-- ---- how many needed steps combine each step

abbrev pub is_needed : Uses → Bool
is_needed Never = false
is_needed Once = true
is_needed Often = true
is_needed End = true

abbrev pub one_more : Uses → Uses
one_more Never = Once
one_more Once = Often
one_more Often = Often
one_more End = End

abbrev pub uses_at : List Uses → ℕ → Uses
uses_at us n = slice_index_or us n Never

abbrev pub with_one_more : List Uses → ℕ → List Uses
with_one_more us n = slice_set us n (one_more (uses_at us n))

abbrev pub with_two_more : Option (ℕ × ℕ) → List Uses → List Uses
with_two_more None us = us
with_two_more (Some p) us = with_one_more (with_one_more us p.0) p.1

-- the last step is needed
abbrev pub with_end : List Uses → List Uses
with_end us = slice_set us (length us - 1) End

-- with those by the first so many steps, which are looked at from the last of them down
unfoldable pub uses_down : List Step → ℕ → List Uses → List Uses
uses_down steps zero us = us
uses_down steps (suc n) us =
    uses_down steps n (if is_needed (uses_at us n) then with_two_more (references_at steps n) us else us)

-- for each step how many needed ones combine it
abbrev pub uses_of : List Step → List Uses
uses_of steps = uses_down steps (length steps) (with_end (replicate (length steps) Never))

-- ---- premises

abbrev pub same_premise : Premise → Premise → Bool
same_premise (Fact a) (Fact b) = nat_eq a b
same_premise (Told a) (Told b) = nat_eq a b
same_premise _ _ = false

abbrev pub has_premise : List Premise → Premise → Bool
has_premise rs r = list_any (same_premise r) rs

-- a premise after others, unless it is among them
abbrev pub with_premise : List Premise → Premise → List Premise
with_premise rs r = if has_premise rs r then rs else rs ++ r ∷ []

unfoldable pub with_premises : List Premise → List Premise → List Premise
with_premises rs [] = rs
with_premises rs (r ∷ more) = with_premises (with_premise rs r) more

abbrev pub premises_at : List (List Premise) → ℕ → List Premise
premises_at said n = slice_index_or said n []

abbrev pub fact_of : Option Note → Option ℕ
fact_of None = None
fact_of (Some note) = note.fact

abbrev pub is_plain : Option Note → Bool
is_plain None = true
is_plain (Some note) = note.plain

-- what an axiom says by itself, if it says something
abbrev pub by_fact : Option ℕ → List Premise
by_fact None = []
by_fact (Some fact) = Fact fact ∷ []

-- why a step holds, by what is told of the steps before it
abbrev pub premises_by : List Note → List (List Premise) → ℕ → Option (ℕ × ℕ) → List Premise
premises_by notes said n None = by_fact (fact_of (slice_get notes n))
premises_by notes said n (Some p) = with_premises (premises_at said p.0) (premises_at said p.1)

abbrev pub premises_of : List Note → List Step → List (List Premise) → ℕ → List Premise
premises_of notes steps said n = premises_by notes said n (references_at steps n)

-- ---- sentences

-- a single sentence is all the premise
abbrev pub is_told_before : List Premise → Bool
is_told_before [] = false
is_told_before (Fact f ∷ rs) = false
is_told_before (Told p ∷ []) = true
is_told_before (Told p ∷ (r ∷ rs)) = false

abbrev pub too_many : Bool → ℕ
too_many plain = if plain then 3 else 6

-- whether a step with these premises has no sentence, and its premises stand for it where it is combined: it restates
-- its one premise, or is combined once and has no more than two, or five where it isn't plain
abbrev pub is_merged : Bool → Uses → List Premise → Bool
is_merged plain Never rs = true
is_merged plain Once rs = nat_lt (length rs) (too_many plain)
is_merged plain Often rs = nat_lt (length rs) 2
is_merged plain End rs = is_told_before rs

-- the sentences so far, each with its step and premises, and for each step so far what is told where it is combined
pub record Outline : Type 0 where
  pub told : List (ℕ × List Premise)
  pub said : List (List Premise)

abbrev pub merged : List Premise → Outline → Outline
merged rs o = record { told = o.told; said = o.said ++ rs ∷ [] }

abbrev pub with_sentence : ℕ → List Premise → Outline → Outline
with_sentence n rs o = record { told = o.told ++ (n, rs) ∷ []; said = o.said ++ (Told (length o.told) ∷ []) ∷ [] }

abbrev pub with_step : Bool → Uses → ℕ → List Premise → Outline → Outline
with_step plain uses n rs o = if is_merged plain uses rs then merged rs o else with_sentence n rs o

abbrev pub step_at : List Note → List Step → Uses → ℕ → Outline → Outline
step_at notes steps uses n o = with_step (is_plain (slice_get notes n)) uses n (premises_of notes steps o.said n) o

-- a step that isn't needed says nothing
abbrev pub looked_at : List Note → List Step → Uses → ℕ → Outline → Outline
looked_at notes steps Never n o = merged [] o
looked_at notes steps Once n o = step_at notes steps Once n o
looked_at notes steps Often n o = step_at notes steps Often n o
looked_at notes steps End n o = step_at notes steps End n o

-- with the steps from this number on, which have these uses
unfoldable pub outline_from : List Note → List Step → ℕ → List Uses → Outline → Outline
outline_from notes steps n [] o = o
outline_from notes steps n (u ∷ us) o = outline_from notes steps (n + 1) us (looked_at notes steps u n o)

abbrev pub nothing_yet : Outline
nothing_yet = record { told = []; said = [] }

-- the sentences that tell a derivation, of whose steps this is known
abbrev pub sentences_of : List Note → List Step → List (ℕ × List Premise)
sentences_of notes steps = (outline_from notes steps 0 (uses_of steps) nothing_yet).told

-- ---- what sentences have to be

abbrev pub Sentences : Type 0
Sentences = List (ℕ × List Premise)

-- references lead to earlier steps
abbrev pub LeadsBack : List Step → Type 0
LeadsBack steps = (n a b : ℕ) → references_at steps n ≡ Some (a, b) → (a < n) × (b < n)

-- A step follows from premises: they have its sentence, or what it says as an axiom, or all the premises of its own,
-- which show the two steps that it combines and are few enough for it to have no sentence.
pub data IsShown (notes : List Note) (steps : List Step) (told : Sentences) : List Premise → ℕ → Type 0 where
  shown_by_sentence : (rs own : List Premise) (n p : ℕ) → slice_get told p ≡ Some (n, own) → Contains rs (Told p)
      → IsShown notes steps told rs n
  shown_by_fact : (rs : List Premise) (n : ℕ) → references_at steps n ≡ None
      → ((f : ℕ) → fact_of (slice_get notes n) ≡ Some f → Contains rs (Fact f)) → IsShown notes steps told rs n
  shown_by_premises : (rs own : List Premise) (n a b : ℕ) → references_at steps n ≡ Some (a, b)
      → is_merged (is_plain (slice_get notes n)) (uses_at (uses_of steps) n) own ≡ true
      → IsShown notes steps told own a → IsShown notes steps told own b
      → ((r : Premise) → Contains own r → Contains rs r) → IsShown notes steps told rs n

abbrev pub FollowsBy : List Note → List Step → Sentences → List Premise → ℕ → Option (ℕ × ℕ) → Type 0
FollowsBy notes steps told rs n None = (f : ℕ) → fact_of (slice_get notes n) ≡ Some f → Contains rs (Fact f)
FollowsBy notes steps told rs n (Some p) = IsShown notes steps told rs p.0 × IsShown notes steps told rs p.1

-- the premises have what the step says as an axiom, or show the two steps that it combines
abbrev pub Follows : List Note → List Step → Sentences → List Premise → ℕ → Type 0
Follows notes steps told rs n = FollowsBy notes steps told rs n (references_at steps n)

-- The sentences tell the derivation: each step once and those before others first, by sentences that stand before; each
-- follows from its premises, and one of them is all the premise of the last step. So all is told that the last step
-- rests on, down to the facts.
pub record IsOutline (notes : List Note) (steps : List Step) (told : Sentences) : Type 0 where
  pub order : AllPairs (λ a b. a.0 < b.0) told
  pub back : (i p : ℕ) (s : ℕ × List Premise) → slice_get told i ≡ Some s → Contains s.1 (Told p) → p < i
  pub follows : (i : ℕ) (s : ℕ × List Premise) → slice_get told i ≡ Some s → Follows notes steps told s.1 s.0
  pub last : (n : ℕ) → n + 1 ≡ length steps → (p : ℕ) × IsShown notes steps told (Told p ∷ []) n
