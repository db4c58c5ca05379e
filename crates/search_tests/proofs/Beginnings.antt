-- The start of a search on full sets.
use Rattle.std.proofs.Common.{◌≡◌, ℕ, zero, suc, ◌<◌, true, List, length, get_or, refl, sym, ap, ◌∙◌, subst}
use Rattle.std.proofs.Common.{arith}
use Rattle.std.proofs.lemmas.List.{length-replicate}
use Rattle.version_sets.specs.Sets.{every, has}
use Rattle.version_sets.proofs.Laws.{has_below}
use Rattle.incompatibilities.specs.Incompatibilities.{Assignment}
use Rattle.incompatibilities.specs.Stores.{EntryView, terms_of}
use Rattle.propagation.specs.Satisfaction.{Agrees}
use Rattle.propagation.specs.Promises.{IsNew, IsTrail, LieIn}
use Rattle.propagation.specs.Trails.{TrailView, set_of, space_of}
use Rattle.version_sets.proofs.Within.{has_some}
use Rattle.propagation.proofs.Vertices.{in_range}
use Rattle.guiding.specs.inner.Searching.{HasSpaces, Pairs}
use Rattle.guiding.specs.inner.Turning.{HasEnded}
use Rattle.guiding.specs.inner.Following.{IsDecidedBut}
use Rattle.guiding.specs.declared.turns.Answer.{Answer}
use Rattle.guiding.specs.declared.turns.Answer.TheVariants.{Selection, Unsolvable}
use Rattle.guiding.proofs.Selections.{not_broken}
use Rattle.search_tests.specs.inner.Universes.{AllDecided, AllLie, IsWithinAll, Selects}

space_is : (spaces : List ℕ) (t : TrailView) → IsNew spaces t → (u : ℕ) → space_of t u ≡ get_or spaces u 0
space_is spaces t new u = ap length (new.full u) ∙ length-replicate (get_or spaces u 0) true

pub has_spaces : (spaces : List ℕ) (t : TrailView) → IsNew spaces t → HasSpaces spaces t
has_spaces spaces t new = record { vertices = new.vertices; each = space_is spaces t new }

pub lie_in : (spaces : List ℕ) (t : TrailView) (es : List EntryView) → IsNew spaces t → AllLie spaces es → LieIn t es
lie_in spaces t es new all id lt u s e = all id lt u s e ∙ sym (space_is spaces t new u)

has_every : (n i : ℕ) → i < n → has (every n) i ≡ true
has_every zero i lt = absurd (omega (arith, lt))
has_every (suc n) zero lt = refl
has_every (suc n) (suc i) lt = has_every n i (omega (arith, lt))

pub agrees_new : (spaces : List ℕ) (t : TrailView) (x : Assignment) → IsNew spaces t
    → IsWithinAll spaces x → Agrees x t.sets
agrees_new spaces t x new within u lt = subst (λ s. has s (x u) ≡ true) (sym (new.full u))
    (has_every (get_or spaces u 0) (x u) (within u (omega (arith, lt, new.vertices))))

-- the end of a search that decides all vertices
decided_all : (es : List EntryView) (t : TrailView) (x : Assignment) → IsTrail es t → AllDecided t → Agrees x t.sets
    → (id : ℕ) → id < length es → IsDecidedBut 0 x t.sets (terms_of es id)
decided_all es t x trail done agrees id lt u ne s e h =
    let within : u < length t.sets = in_range t.sets u (omega (arith, trail.lies id lt u s e, has_below s (x u) h)) in
    omega (arith, done u within, has_some (set_of t.sets u) (x u) (agrees u within))

pub selects : (asked : Pairs) (es : List EntryView) (t : TrailView) (a : Answer) → IsTrail es t
    → HasEnded (AllDecided t) asked es t a → Selects es t a
selects asked es t Selection trail ended = λ x agrees id lt breaks. not_broken x t.sets (terms_of es id) 0
    (trail.lies id lt) agrees (ended.2 id lt) (decided_all es t x trail ended.0 agrees id lt) breaks
selects asked es t (Unsolvable i) trail ended = tt
