-- Terms that are known by their texts, and steps and terms that stay what they are under tables that grow.
use Rattle.std.proofs.Common.{◌≡◌, ℕ, Bool, true, false, not, ◌+◌, ◌<◌, List, [], ◌∷◌, ◌++◌, map, take, length}
use Rattle.std.proofs.Common.{get_or, slice_get, Some, Ok, Err, refl, sym, ap, ap₂, ◌∙◌, subst}
use Rattle.std.specs.List.{AllByRecursion}
use Rattle.std.proofs.lemmas.List.{map-append, map_more}
use Rattle.std.specs.List.Sorted.{IsPermutation}
use Rattle.std.proofs.lemmas.List.Elements.{All-from_recursion, recursion_from_All}
use Rattle.std.proofs.lemmas.List.Sorted.{All-permutation, IsPermutation-map}
use Rattle.serde_json.specs.Data.{Data, Items, no_items, item}
use Rattle.serde_json.specs.Find as json
use Rattle.model.specs.Outcome.{◌>>=◌, Faults}
use Rattle.model.specs.Vertices.{Vertex, State}
use Rattle.model.specs.Axioms as axioms
use Rattle.model.specs.Derivation.{terms_of}
use Rattle.model.proofs.Members.{element}
use Rattle.model.proofs.Accepted.{all-push}
use Rattle.model.specs.Derivation as steps
use Rattle.vertices.specs.inner.RefViews.{state_ref_view, state_ref_views}
use Rattle.vertices.specs.Texts.{vertex_text, IsReadState}
use Rattle.vertices.specs.declared.state.StateRef.{StateRef}
use Rattle.vertices.proofs.OrderLaws.{state_total}
use Rattle.derivations.specs.inner.Derivations.{IsTerm, AreStepsFrom}
use Rattle.derivations.specs.inner.Earlier.{IsReading, AreTermsBefore, AreEarlier, HaveTexts, AreWritten, term_from}
use Rattle.derivations.specs.Lines.{Line, vertex_in_line}
use Rattle.derivations.specs.Steps.{Written, text_of, two_of, states_in, states_of, step_by, term_of}
use Rattle.derivations.specs.Steps.{terms_without_texts}
use Rattle.derivations.specs.inner.StepViews.{origin_view, written_term, written_view, written_views}
use Rattle.derivations.specs.inner.Origins.{step_from}
use Rattle.derivations.specs.declared.fault.LineFault.{LineFault}
use Rattle.derivations.specs.inner.Tables.{TablesView, AreStepsOf, AreTermsOf, IsTermOf, IsGrown, state_at, states_at}
use Rattle.derivations.specs.inner.Tables.{term_at, terms_at, steps_at, step_by_origin}
use Rattle.derivations.specs.declared.earlier.Earlier.{Earlier}
use Rattle.derivations.specs.declared.line.WrittenTerm.{WrittenTerm}
use Rattle.derivations.specs.declared.step.Origin.{Origin}
use Rattle.derivations.specs.declared.step.Origin.TheVariants.{Axiom, Combination}
use Rattle.derivations.specs.declared.step.Step.{Step}
use Rattle.derivations.specs.declared.step.Term.{Term}
use Rattle.derivations.proofs.TableLaws.{kept-steps, kept-term, kept-terms}
use Rattle.derivations.proofs.WriteLaws.{ordered-same}

-- ---- tables that grow

module _ (s t : TablesView) (g : IsGrown s t) where
  pub before-kept : (ts : List Term) → AreTermsBefore s ts → AreTermsBefore t ts
  before-kept ts h = let kept =
      kept-terms s t g ts h.0 in (kept.0, subst (λ xs. AllByRecursion IsTerm xs) (sym kept.1) h.1)

  pub earlier-kept : (e : Earlier) → AreEarlier s e → AreEarlier t e
  earlier-kept e h = (before-kept e.first.now h.0, before-kept e.second.now h.1)

  written-kept : (ws : List WrittenTerm) → AreTermsOf s (map written_term ws)
      → AreTermsOf t (map written_term ws) × (written_views t ws ≡ written_views s ws)
  written-kept [] h = (tt, refl)
  written-kept (w ∷ ws) h =
      let here = kept-term s t g w.term h.0 in
      let rest = written-kept ws h.1 in
      ((here.0, rest.0), ap₂ (λ x xs. (w.text.now, x) ∷ xs) here.1 rest.1)

  -- one more, and the tables that it needs
  pub more-written : (ws : List WrittenTerm) (w : WrittenTerm) (x : Written) → AreTermsOf s (map written_term ws)
      → IsTermOf t w.term → written_view t w ≡ x
      → AreTermsOf t (map written_term (ws ++ w ∷ [])) × (written_views t (ws ++ w ∷ []) ≡ written_views s ws ++ x ∷ [])
  more-written ws w x h in_t is =
      let before = written-kept ws h in (
        subst (AreTermsOf t) (sym (map-append written_term ws (w ∷ [])))
            (all-push (IsTermOf t) (map written_term ws) w.term before.0 in_t),
        map-append (written_view t) ws (w ∷ []) ∙ ap₂ (λ xs y. xs ++ y ∷ []) before.1 is,
      )

pub texts-dropped : (t : TablesView) (ws : List WrittenTerm)
    → terms_at t (map written_term ws) ≡ terms_without_texts (written_views t ws)
texts-dropped t [] = refl
texts-dropped t (w ∷ ws) = ap (λ xs. term_at t w.term ∷ xs) (texts-dropped t ws)

-- what is put in order has the terms that were there
pub sorted-within : (t : TablesView) (ws vs : List WrittenTerm) → IsPermutation ws vs
    → AreTermsOf t (map written_term ws) → AreTermsOf t (map written_term vs)
sorted-within t ws vs p h =
    recursion_from_All (IsTermOf t) (map written_term vs)
    (All-permutation (IsTermOf t) (map written_term ws) (map written_term vs)
    (IsPermutation-map written_term ws vs p) (All-from_recursion (IsTermOf t) (map written_term ws) h))

-- ---- a step from its origin and its terms

abbrev with-terms : List axioms.Term → steps.Step → steps.Step
with-terms ts (steps.given k us) = steps.given k ts
with-terms ts (steps.combine a b v us) = steps.combine a b v ts

own-put : (t : TablesView) (o : Origin ℕ) (ts : List axioms.Term)
    → with-terms ts (step_by_origin t o []) ≡ step_by_origin t o ts
own-put t (Axiom k) ts = refl
own-put t (Combination a b v) ts = refl

whole-put : (o : Origin Vertex) (ts : List axioms.Term)
    → with-terms ts (step_from (λ v. v) o []) ≡ step_by (origin_view o) ts
whole-put (Axiom k) ts = refl
whole-put (Combination a b v) ts = refl

-- an origin that is kept, with the terms that are
pub step-put : (t : TablesView) (o : Origin ℕ) (w : Origin Vertex) (ts : List axioms.Term)
    → step_by_origin t o [] ≡ step_from (λ v. v) w [] → step_by_origin t o ts ≡ step_by (origin_view w) ts
step-put t o w ts h = sym (own-put t o ts) ∙ ap (with-terms ts) h ∙ whole-put w ts

-- a fault is that of what comes after, too
pub faults-then : {A B : Type 0} (b : Bool) (e : LineFault) (r : Line A) (k : A → Line B)
    → Faults b e r → Faults b e (r >>= k)
faults-then true e r k h = tt
faults-then false e r k h = rw h refl

-- ---- the terms of a step before

own-terms : (t : TablesView) (o : Origin ℕ) (ts : List axioms.Term) → terms_of (step_by_origin t o ts) ≡ ts
own-terms t (Axiom k) ts = refl
own-terms t (Combination a b v) ts = refl

each-step : (t : TablesView) (m : ℕ) (ss : List Step) → AreStepsOf t ss → AreStepsFrom m (steps_at t ss)
    → AllByRecursion (λ x. AreTermsBefore t x.terms.items) ss
each-step t m [] within h = tt
each-step t m (s ∷ ss) within h = (
  (within.0.1, subst (λ xs. AllByRecursion IsTerm xs) (own-terms t s.origin (terms_at t s.terms.items)) h.0.1.0),
  each-step t (m + 1) ss within.1 h.1,
)

pub terms-before : (t : TablesView) (ss : List Step) (n : ℕ) (x : Step) → IsReading t ss → slice_get ss n ≡ Some x
    → AreTermsBefore t x.terms.items
terms-before t ss n x h is = element (λ x. AreTermsBefore t x.terms.items) ss n x (each-step t 0 ss h.0 h.1) is

each-below : {X Y : Type 0} (P : Y → Type 0) (f : X → Y) (xs : List X) → AllByRecursion P (map f xs)
    → AllByRecursion (λ x. P (f x)) xs
each-below P f [] h = tt
each-below P f (x ∷ xs) h = (h.0, each-below P f xs h.1)

pub term-before : (t : TablesView) (ts : List Term) (n : ℕ) (x : Term) → AreTermsBefore t ts → slice_get ts n ≡ Some x
    → IsTermOf t x × IsTerm (term_at t x)
term-before t ts n x h is = (
  element (IsTermOf t) ts n x h.0 is,
  element (λ y. IsTerm (term_at t y)) ts n x (each-below IsTerm (term_at t) ts h.1) is,
)

-- ---- what texts tell

pub same-unless : (b : Bool) → false ≡ not b → b ≡ true
same-unless true h = refl
same-unless false h = cc

states-known : (v : Vertex) (ds : Items) (ss : List State) → HaveTexts ds ss
    → AllByRecursion (λ s. IsReadState v s) ss → states_in v ds ≡ Ok ss
unfolding states_in
states-known v no_items [] h reads = refl
states-known v no_items (s ∷ ss) h reads = absurd h
states-known v (item d ds) [] h reads = absurd h
states-known v (item d ds) (s ∷ ss) h reads = rw (h.0, reads.0, states-known v ds ss h.1 reads.1) refl

-- a text and a tree that are a term's are read as it
pub term-known : (t : axioms.Term) (text : List ℕ) (d : Data) → text ≡ vertex_text t.vertex → AreWritten d t.states
    → IsTerm t → term_from text d ≡ Ok t
unfolding term_from states_of
term-known t text d same w h = rw (
  same,
  h.vertex,
  w.1,
  states-known t.vertex w.0 t.states w.2 h.states,
  ordered-same state_total t.states h.order,
) refl

-- a term is that of its two parts, with the text of its vertex
abbrev pub with-text : List ℕ → axioms.Term → Line Written
with-text text t = Ok (text, t)

pub term-split : (d : Data) (p : Data × Data) (text : List ℕ) → two_of d ≡ Ok p → text_of p.0 ≡ Ok text
    → term_of d ≡ term_from text p.1 >>= with-text text
unfolding term_of term_from
term-split d p text two first = rw (two, first) (by (vertex_in_line text))
  where
    within : (v : Vertex) (r : Line (List State))
        → r >>= (λ ss. with-text text (axioms.at v ss)) ≡ (r >>= λ ss. Ok (axioms.at v ss)) >>= with-text text
    within v (Ok ss) = refl
    within v (Err e) = refl

    by : (r : Line Vertex) → r >>= (λ v. states_of v p.1 >>= λ ss. with-text text (axioms.at v ss))
        ≡ (r >>= λ v. states_of v p.1 >>= λ ss. Ok (axioms.at v ss)) >>= with-text text
    by (Ok v) = within v (states_of v p.1)
    by (Err e) = refl

-- one more state
pub states-next : (t : TablesView) (ns : List ℕ) (ss : List StateRef) (i : ℕ) (s : StateRef) → i < length ns
    → i < length ss → s ≡ get_or ss i s → state_at t (get_or ns i 0) ≡ state_ref_view s
    → states_at t (take i ns) ≡ state_ref_views (take i ss)
    → states_at t (take (i + 1) ns) ≡ state_ref_views (take (i + 1) ss)
states-next t ns ss i s below under state is h =
    map_more (state_at t) ns i 0 below ∙ ap₂ (λ xs x. xs ++ x ∷ []) h (is ∙ ap state_ref_view state)
    ∙ sym (map_more state_ref_view ss i s under)
