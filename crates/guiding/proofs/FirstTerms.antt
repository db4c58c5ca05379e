-- The terms of an instance's pairs as sets of numbers: one of several states.
use Rattle.std.proofs.Common.{◌≡◌, ◌≢◌, ℕ, zero, suc, ◌+◌, ◌<◌, Bool, true, false, ◌||◌, if◌then◌else◌, List, [], ◌∷◌}
use Rattle.std.proofs.Common.{length, map, Option, Some, None, slice_get, refl, sym, ap, ◌∙◌, subst, arith}
use Rattle.std.proofs.Common.{◌&&◌, Contains}
use Rattle.std.specs.List.{AllPairs}
use Rattle.std.specs.Prelude.{option_map, unwrap_or}
use Rattle.std.proofs.lemmas.Bool.{false_from_ne_true}
use Rattle.std.proofs.lemmas.Option.{none-some, same_Some}
use Rattle.version_sets.specs.Sets.{Members, is_full, size}
use Rattle.incompatibilities.specs.Incompatibilities.{unless_full}
use Rattle.incompatibilities.specs.Incompatibilities as numbered
use Rattle.terms.specs.Terms.{TermView}
use Rattle.model.specs.Summary.{Dependency}
use Rattle.model.specs.Content.{Problem}
use Rattle.model.specs.Order.{IsCatalogue}
use Rattle.model.specs.Vertices.{Vertex, dep, State, absent, has_state, dep_space, space, owner_brings}
use Rattle.model.specs.Derivation.{states_at}
use Rattle.model.proofs.Same.{state-refl}
use Rattle.model.proofs.Lists.{in_first, in_rest, pairs_first, pairs_rest}
use Rattle.model.proofs.Places.{some_at, got_in}
use Rattle.model.proofs.Spaces.{state_from}
use Rattle.model.specs.Causes.{Cause, is_cause, terms_of_cause}
use Rattle.numbering.specs.Numberings.{Numbering, Says, members_at}
use Rattle.numbering.specs.Pairs.{pairs_of}
use Rattle.numbering.specs.inner.Assignments.{state_at}
use Rattle.numbering.proofs.ByKind.{pair_states}
use Rattle.numbering.proofs.Distinct.{states_once}
use Rattle.numbering.proofs.Each.{only_one}
use Rattle.guiding.specs.inner.Searching.{IsOnly}

-- ---- a set of one of several states

one_state : (s r : State) → has_state (s ∷ []) r ≡ true → r ≡ s
one_state s r h = only_one s r (state_from (s ∷ []) r h)

one_itself : (s : State) → has_state (s ∷ []) s ≡ true
one_itself s = ap (λ b. b || false) (state-refl s)

one_other : (s r : State) → r ≢ s → has_state (s ∷ []) r ≡ false
one_other s r ne = false_from_ne_true (has_state (s ∷ []) r) (λ h. ne (one_state s r h))

none_other : (s : State) (ss : List State) → ((r : State) → Contains ss r → r ≢ s)
    → size (map (has_state (s ∷ [])) ss) ≡ 0
none_other s [] h = refl
none_other s (r ∷ ss) h = ap (λ b. size (b ∷ map (has_state (s ∷ [])) ss)) (one_other s r (h r (in_first r ss)))
    ∙ none_other s ss (λ x c. h x (in_rest r x ss c))

pub one_of : (ss : List State) (i : ℕ) (s : State) → AllPairs (λ s r. s ≢ r) ss → slice_get ss i ≡ Some s
    → IsOnly (map (has_state (s ∷ [])) ss) i
one_of [] i s once e = absurd (none-some s e)
one_of (r ∷ ss) zero s once e =
    let same : r ≡ s = same_Some r s e in
    let here : has_state (s ∷ []) r ≡ true = subst (λ x. has_state (s ∷ []) x ≡ true) (sym same) (one_itself s) in (
      ap (λ b. size (b ∷ map (has_state (s ∷ [])) ss)) here
          ∙ ap (λ n. 1 + n) (none_other s ss (λ x c d. pairs_first (λ s r. s ≢ r) r x ss once c (same ∙ sym d))),
      here,
    )
one_of (r ∷ ss) (suc i) s once e =
    let rest = one_of ss i s (pairs_rest (λ s r. s ≢ r) r ss once) e in
    let other : has_state (s ∷ []) r ≡ false =
    one_other s r (pairs_first (λ s r. s ≢ r) r s ss once (got_in ss i s e)) in
    (ap (λ b. size (b ∷ map (has_state (s ∷ [])) ss)) other ∙ rest.0, rest.1)

not_full : (s : State) (ss : List State) → s ≢ absent → is_full (map (has_state (s ∷ [])) (absent ∷ ss)) ≡ false
not_full s ss ne = ap (λ b. b && is_full (map (has_state (s ∷ [])) ss)) (one_other s absent (λ e. ne (sym e)))

-- each space begins with absent
abbrev StartsAbsent : List State → Type 0
StartsAbsent ss = (rest : List State) × (ss ≡ absent ∷ rest)

dep_starts : (q : Problem) (o : Option Dependency) → StartsAbsent (dep_space q o)
dep_starts q None = (_, refl)
dep_starts q (Some d) = (_, refl)

pub space_starts : (q : Problem) (v : Vertex) → StartsAbsent (space q v)
space_starts q (dep o i) = dep_starts q (slice_get (owner_brings q o).dependencies i)
space_starts q v = (_, refl)

later_apart : (rest : List State) (i : ℕ) (s : State) → AllPairs (λ s r. s ≢ r) (absent ∷ rest) → 0 < i
    → slice_get (absent ∷ rest) i ≡ Some s → s ≢ absent
later_apart rest zero s once some e same = omega (arith, some)
later_apart rest (suc i) s once some e same =
    pairs_first (λ s r. s ≢ r) absent s rest once (got_in rest i s e) (sym same)

one_kept : (ss : List State) (i : ℕ) (s : State) → StartsAbsent ss → AllPairs (λ s r. s ≢ r) ss → 0 < i
    → slice_get ss i ≡ Some s → unless_full (Some (map (has_state (s ∷ [])) ss)) ≡ Some (map (has_state (s ∷ [])) ss)
one_kept ss i s starts once some e =
    let rest = starts.0 in
    let ne = later_apart rest i s (subst (AllPairs (λ s r. s ≢ r)) starts.1 once) some
    (subst (λ (l : List State). slice_get l i ≡ Some s) starts.1 e) in
    let left : is_full (map (has_state (s ∷ [])) ss) ≡ false =
    ap (λ (l : List State). is_full (map (has_state (s ∷ [])) l)) starts.1 ∙ not_full s rest ne in
    ap (λ (b : Bool). if b then None else Some (map (has_state (s ∷ [])) ss)) left

-- the state with a number
pub state_is : (q : Problem) (v : Vertex) (i : ℕ) → i < length (space q v)
    → slice_get (space q v) i ≡ Some (state_at q v i)
state_is q v i lt = let r = some_at (space q v) i lt in r.1 ∙ ap Some (sym (ap (λ o. unwrap_or o absent) r.1))

-- an instance has at the vertex of each of its pairs the one state
pub named_only : (q : Problem) (vs : Numbering) (made : List TermView) (c : Cause) (n i : ℕ) (v : Vertex)
    → IsCatalogue q → is_cause q c ≡ true → Says q vs made (terms_of_cause q c) → slice_get vs n ≡ Some v
    → 0 < i → i < length (space q v) → Contains (pairs_of c) (v, state_at q v i)
    → (states : Members) × (numbered.states_at made n ≡ Some states) × IsOnly states i
named_only q vs made c n i v catalogue t says at_n some lt there =
    let s = state_at q v i in
    let once = states_once q catalogue v in
    let here = state_is q v i lt in
    let said : states_at (terms_of_cause q c) v ≡ Some (s ∷ []) = pair_states q c t (v, s) there in (
      members_at q v (s ∷ []),
      says.each n v at_n ∙ ap (λ o. unless_full (option_map (members_at q v) o)) said
          ∙ one_kept (space q v) i s (space_starts q v) once some here,
      one_of (space q v) i s once here,
    )
