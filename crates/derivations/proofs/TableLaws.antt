-- Tables that grow keep what their numbers stand for.
use Rattle.std.proofs.Common.{sym, ◌≡◌, ℕ, ◌<◌, Bool, true, false, cond, List, [], ◌∷◌, ◌++◌, map, length, get_or}
use Rattle.std.proofs.Common.{slice_get, Bor, Option, Some, None, option_map, refl, ap, ap₂, ◌∙◌, subst, arith}
use Rattle.std.specs.List.{AllByRecursion, list_any}
use Rattle.std.specs.Slice.{IsItemAt}
use Rattle.std.specs.Prelude.{Result, Ok, Err}
use Rattle.std.specs.Result.{OnErr}
use Rattle.std.proofs.lemmas.List.{append_assoc, length-map, get_or-map, get_or_append_left, length-append, map-append}
use Rattle.std.proofs.lemmas.Option.{slice_get_within, slice_get-get_or, get_or_from_slice_get}
use Rattle.indexmap.specs.IndexSet.{insert_key}
use Rattle.model.specs.Vertices.{Vertex, State, root, absent}
use Rattle.model.specs.Axioms as axioms
use Rattle.model.specs.Axioms.{at}
use Rattle.model.specs.Derivation.{combine}
use Rattle.model.proofs.Accepted.{all-push}
use Rattle.model.specs.Derivation as steps
use Rattle.derivations.specs.inner.Tables.{vertex_at, set_at, TablesView, state_at, states_at, term_at, terms_at}
use Rattle.derivations.specs.inner.Tables.{step_by_origin, step_at, steps_at, AreStatesOf, IsTermOf, AreTermsOf}
use Rattle.derivations.specs.inner.Tables.{IsOriginOf}
use Rattle.derivations.specs.inner.Tables.{IsStepOf, AreStepsOf, IsGrown}
use Rattle.derivations.specs.declared.step.Term.{Term}
use Rattle.derivations.specs.declared.step.Origin.{Origin}
use Rattle.derivations.specs.declared.step.Origin.TheVariants.{Axiom, Combination}
use Rattle.derivations.specs.declared.step.Step.{Step}

-- what holds whatever is returned
pub on-err : {T E P : Type 0} (r : Result T E) → P → OnErr r P
on-err (Ok x) p = tt
on-err (Err e) p = p

-- ---- one more key

-- each number of a list keeps its element after a key is put in
pub kept-key : {K V : Type 0} (eq : K → K → Bool) (view : K → V) (ks : List K) (k : K) (d : V) (n : ℕ)
    → n < length (map view ks)
    → (n < length (map view (insert_key eq ks k)))
    × (get_or (map view (insert_key eq ks k)) n d ≡ get_or (map view ks) n d)
kept-key eq view ks k d n lt = by (list_any (eq k) ks)
  where
    by : (b : Bool) → (n < length (map view (cond b ks (ks ++ k ∷ []))))
        × (get_or (map view (cond b ks (ks ++ k ∷ []))) n d ≡ get_or (map view ks) n d)
    by true = (lt, refl)
    by false =
        let whole = map-append view ks (k ∷ []) in
        let long = length-append (map view ks) (view k ∷ []) in
        rw whole (omega (arith, long), get_or_append_left (map view ks) (view k ∷ []) d n lt)

-- so does each number of a list of keys themselves
pub kept-own : {K : Type 0} (eq : K → K → Bool) (ks : List K) (k : K) (d : K) (n : ℕ) → n < length ks
    → (n < length (insert_key eq ks k)) × (get_or (insert_key eq ks k) n d ≡ get_or ks n d)
kept-own eq ks k d n lt = by (list_any (eq k) ks)
  where
    by : (b : Bool) → (n < length (cond b ks (ks ++ k ∷ []))) × (get_or (cond b ks (ks ++ k ∷ [])) n d ≡ get_or ks n d)
    by true = (lt, refl)
    by false = let long = length-append ks (k ∷ []) in (omega (arith, long), get_or_append_left ks (k ∷ []) d n lt)

-- the key that is found stands for what was put in
pub found-key : {K V : Type 0} (view : K → V) (ks : List K) (n : ℕ) (k : K) (v d : V) → slice_get ks n ≡ Some k
    → view k ≡ v → (n < length (map view ks)) × (get_or (map view ks) n d ≡ v)
found-key view ks n k v d is same =
    let lt : n < length ks = slice_get_within ks n k is in
    let long = length-map ks view in
    (omega (arith, long), get_or-map view ks n k d lt ∙ ap view (get_or_from_slice_get ks n k k is) ∙ same)

-- what is lent of a place is the element there
pub lent : {X : Type 0} (xs : List X) (i : ℕ) (r : Option (Bor X)) (b : Bor X) → IsItemAt xs i r → r ≡ Some b
    → slice_get xs i ≡ Some b.now
lent xs i None b h e = cc
lent xs i (Some a) b h e =
    slice_get-get_or xs i a.now h.3.0 ∙ sym (ap Some (h.3.1 a.now)) ∙ ap (option_map (λ (x : Bor _). x.now)) e

-- an element at its number
pub found-at : {V : Type 0} (xs : List V) (n : ℕ) (x d : V) → slice_get xs n ≡ Some x
    → (n < length xs) × (get_or xs n d ≡ x)
found-at xs n x d is = (slice_get_within xs n x is, get_or_from_slice_get xs n x d is)

-- ---- growing

pub grown-refl : (t : TablesView) → IsGrown t t
grown-refl t = record { vertices = λ n lt. (lt, refl); states = λ n lt. (lt, refl); sets = λ n lt. (lt, refl) }

pub grown-vertices : (eq : Vertex → Vertex → Bool) (ks : List Vertex) (k : Vertex) (keys : List Vertex)
    (ss : List State) (ns : List (List ℕ)) (t : TablesView) → keys ≡ insert_key eq ks k
    → (record { vertices = ks; states = ss; sets = ns }) ≡ t
    → IsGrown t (record { vertices = keys; states = ss; sets = ns })
grown-vertices eq ks k keys ss ns t new is =
    let each : (n : ℕ) → n < length ks → (n < length keys) × (get_or keys n root ≡ get_or ks n root)
    = rw new (λ n lt. kept-own eq ks k root n lt) in
    subst (λ (u : TablesView). IsGrown u (record { vertices = keys; states = ss; sets = ns })) is
    (record { vertices = each; states = λ n lt. (lt, refl); sets = λ n lt. (lt, refl) })

pub grown-states : (eq : State → State → Bool) (ks : List State) (k : State) (keys : List State) (vs : List Vertex)
    (ns : List (List ℕ)) (t : TablesView) → keys ≡ insert_key eq ks k
    → (record { vertices = vs; states = ks; sets = ns }) ≡ t
    → IsGrown t (record { vertices = vs; states = keys; sets = ns })
grown-states eq ks k keys vs ns t new is =
    let each : (n : ℕ) → n < length ks → (n < length keys) × (get_or keys n absent ≡ get_or ks n absent)
    = rw new (λ n lt. kept-own eq ks k absent n lt) in
    subst (λ (u : TablesView). IsGrown u (record { vertices = vs; states = keys; sets = ns })) is
    (record { vertices = λ n lt. (lt, refl); states = each; sets = λ n lt. (lt, refl) })

pub grown-sets : {K : Type 0} (eq : K → K → Bool) (view : K → List ℕ) (ks : List K) (k : K) (keys : List K)
    (vs : List Vertex) (ss : List State) (t : TablesView) → keys ≡ insert_key eq ks k
    → (record { vertices = vs; states = ss; sets = map view ks }) ≡ t
    → IsGrown t (record { vertices = vs; states = ss; sets = map view keys })
grown-sets eq view ks k keys vs ss t new is =
    let each : (n : ℕ) → n < length (map view ks)
    → (n < length (map view keys)) × (get_or (map view keys) n [] ≡ get_or (map view ks) n [])
    = rw new (λ n lt. kept-key eq view ks k [] n lt) in
    subst (λ (u : TablesView). IsGrown u (record { vertices = vs; states = ss; sets = map view keys })) is
    (record { vertices = λ n lt. (lt, refl); states = λ n lt. (lt, refl); sets = each })

pub grown-trans : (s t u : TablesView) → IsGrown s t → IsGrown t u → IsGrown s u
grown-trans s t u g h = record {
  vertices = λ n lt. let a = g.vertices n lt in let b = h.vertices n a.0 in (b.0, b.1 ∙ a.1);
  states = λ n lt. let a = g.states n lt in let b = h.states n a.0 in (b.0, b.1 ∙ a.1);
  sets = λ n lt. let a = g.sets n lt in let b = h.sets n a.0 in (b.0, b.1 ∙ a.1);
}

module _ (s t : TablesView) (g : IsGrown s t) where
  pub kept-states : (ns : List ℕ) → AreStatesOf s ns → AreStatesOf t ns × (states_at t ns ≡ states_at s ns)
  kept-states [] h = (tt, refl)
  kept-states (n ∷ ns) h =
      let here = g.states n h.0 in
      let rest = kept-states ns h.1 in
      ((here.0, rest.0), ap₂ (λ x xs. x ∷ xs) here.1 rest.1)

  pub kept-term : (term : Term) → IsTermOf s term → IsTermOf t term × (term_at t term ≡ term_at s term)
  kept-term term h =
      let here = g.vertices term.vertex h.0 in
      let set = g.sets term.states h.1 in
      let rest = kept-states (set_at s term.states) h.2 in
      ((here.0, set.0, subst (AreStatesOf t) (sym set.1) rest.0), ap₂ at here.1 (ap (states_at t) set.1 ∙ rest.1))

  pub kept-terms : (terms : List Term) → AreTermsOf s terms → AreTermsOf t terms × (terms_at t terms ≡ terms_at s terms)
  kept-terms [] h = (tt, refl)
  kept-terms (x ∷ xs) h =
      let here = kept-term x h.0 in
      let rest = kept-terms xs h.1 in
      ((here.0, rest.0), ap₂ (λ y ys. y ∷ ys) here.1 rest.1)

  pub kept-origin : (c : Origin ℕ) (ts : List axioms.Term) → IsOriginOf s c
      → IsOriginOf t c × (step_by_origin t c ts ≡ step_by_origin s c ts)
  kept-origin (Axiom k) ts h = (tt, refl)
  kept-origin (Combination a b v) ts h = let here = g.vertices v h in (here.0, ap (λ w. combine a b w ts) here.1)

  pub kept-step : (x : Step) → IsStepOf s x → IsStepOf t x × (step_at t x ≡ step_at s x)
  kept-step x h =
      let origin = kept-origin x.origin (terms_at t x.terms.items) h.0 in
      let terms = kept-terms x.terms.items h.1 in
      ((origin.0, terms.0), origin.1 ∙ ap (step_by_origin s x.origin) terms.1)

  pub kept-steps : (xs : List Step) → AreStepsOf s xs → AreStepsOf t xs × (steps_at t xs ≡ steps_at s xs)
  kept-steps [] h = (tt, refl)
  kept-steps (x ∷ xs) h =
      let here = kept-step x h.0 in
      let rest = kept-steps xs h.1 in
      ((here.0, rest.0), ap₂ (λ y ys. y ∷ ys) here.1 rest.1)

-- ---- sets of numbers

-- a key that is put in passes as the others do
pub each-key : {K V : Type 0} (eq : K → K → Bool) (view : K → V) (P : V → Type 0) (ks : List K) (k : K)
    → AllByRecursion P (map view ks) → P (view k) → AllByRecursion P (map view (insert_key eq ks k))
each-key eq view P ks k h p = by (list_any (eq k) ks)
  where
    by : (b : Bool) → AllByRecursion P (map view (cond b ks (ks ++ k ∷ [])))
    by true = h
    by false = rw (map-append view ks (k ∷ [])) (all-push P (map view ks) (view k) h p)

-- ---- lists of numbers, one more each time

pub more-states : (s t : TablesView) (ns : List ℕ) (n : ℕ) (x : State) (rest all : List State) → IsGrown s t
    → AreStatesOf s ns → n < length t.states → state_at t n ≡ x → states_at s ns ++ (x ∷ rest) ≡ all
    → AreStatesOf t (ns ++ n ∷ []) × (states_at t (ns ++ n ∷ []) ++ rest ≡ all)
more-states s t ns n x rest all g h lt is told =
    let before = kept-states s t g ns h in (
      all-push (λ n. n < length t.states) ns n before.0 lt,
      ap (λ xs. xs ++ rest) (map-append (state_at t) ns (n ∷ []) ∙ ap₂ (λ xs y. xs ++ y ∷ []) before.1 is)
          ∙ append_assoc (states_at s ns) (x ∷ []) rest ∙ told,
    )

pub more-terms : (s t : TablesView) (ns : List Term) (n : Term) (x : axioms.Term) (rest all : List axioms.Term)
    → IsGrown s t → AreTermsOf s ns → IsTermOf t n → term_at t n ≡ x → terms_at s ns ++ (x ∷ rest) ≡ all
    → AreTermsOf t (ns ++ n ∷ []) × (terms_at t (ns ++ n ∷ []) ++ rest ≡ all)
more-terms s t ns n x rest all g h in_t is told =
    let before = kept-terms s t g ns h in (
      all-push (IsTermOf t) ns n before.0 in_t,
      ap (λ xs. xs ++ rest) (map-append (term_at t) ns (n ∷ []) ∙ ap₂ (λ xs y. xs ++ y ∷ []) before.1 is)
          ∙ append_assoc (terms_at s ns) (x ∷ []) rest ∙ told,
    )

-- one more step, and the tables that it needs
pub more-steps : (s t : TablesView) (ss : List Step) (x : Step) (step : steps.Step) → IsGrown s t → AreStepsOf s ss
    → IsStepOf t x → step_at t x ≡ step
    → AreStepsOf t (ss ++ x ∷ []) × (steps_at t (ss ++ x ∷ []) ≡ steps_at s ss ++ step ∷ [])
more-steps s t ss x step g h in_t is =
    let before = kept-steps s t g ss h in (
      all-push (IsStepOf t) ss x before.0 in_t,
      map-append (step_at t) ss (x ∷ []) ∙ ap₂ (λ xs y. xs ++ y ∷ []) before.1 is,
    )

-- a vertex, then its states, and then their set are put in
pub whole-term : (a b d : TablesView) (v n : ℕ) (ns : List ℕ) (x : Vertex) (ss : List State)
    → (v < length a.vertices) × (vertex_at a v ≡ x) → IsGrown a b → AreStatesOf b ns → states_at b ns ≡ ss
    → IsGrown b d → (n < length d.sets) × (set_at d n ≡ ns)
    → ((v < length d.vertices) × (n < length d.sets) × AreStatesOf d (set_at d n))
    × (at (vertex_at d v) (states_at d (set_at d n)) ≡ at x ss)
whole-term a b d v n ns x ss vertex g within is h set =
    let first = g.vertices v vertex.0 in
    let then = h.vertices v first.0 in
    let kept = kept-states b d h ns within in (
      (then.0, set.0, subst (AreStatesOf d) (sym set.1) kept.0),
      ap₂ at (then.1 ∙ first.1 ∙ vertex.1) (ap (states_at d) set.1 ∙ kept.1 ∙ is),
    )
