-- The sets of an incompatibility are of as many states as their vertices have, and its terms one by one.
use Rattle.std.proofs.Common.{◌≡◌, ℕ, zero, suc, ◌+◌, ◌<◌, ◌≤◌, ◌==◌, List, [], ◌∷◌, ◌++◌, map, length, take, drop}
use Rattle.std.proofs.Common.{get_or, append_assoc, append-nil, Bool, true, false, cond, Option, Some, None, slice_get}
use Rattle.std.proofs.Common.{All, refl, sym, ap, ap₂, ◌∙◌, subst, arith}
use Rattle.std.specs.List.{AllByRecursion}
use Rattle.std.proofs.lemmas.List.Elements.{All-get_or}
use Rattle.std.proofs.Math.Seq.{drop-cons, take-suc}
use Rattle.std.proofs.lemmas.Bool.{eq-eqb, eqb-true, false_from_ne_true}
use Rattle.std.proofs.lemmas.List.{drop_all, get_or-map, length-map, map-append, take_all}
use Rattle.std.proofs.lemmas.Option.{none-some}
use Rattle.version_sets.specs.Sets.{Members}
use Rattle.terms.specs.Terms.{TermView, term_view, terms_view}
use Rattle.terms.specs.declared.term.Term as numbered
use Rattle.incompatibilities.specs.Incompatibilities.{AllPast, IsRising, LiesIn, states_at}
use Rattle.model.specs.Content.{Problem}
use Rattle.model.specs.Vertices.{Vertex}
use Rattle.model.specs.Axioms.{Term}
use Rattle.numbering.specs.Numberings.{Numbering}
use Rattle.solver.specs.inner.Decoding.{IsOver, sizes, states_in, terms_of, with_term}
use Rattle.derivations.specs.inner.Named.{named_view, named_views}
use Rattle.derivations.specs.declared.named.NamedTerm.{NamedTerm}
use Rattle.solver.specs.Refusing.{AreSized, spoken_view, spoken_views}
use Rattle.solver.specs.declared.speaking.Spoken.{Spoken}

-- ---- sizes

past_none : (v : ℕ) (ts : List TermView) → AllPast v ts → states_at ts v ≡ None
past_none v [] h = refl
past_none v (t ∷ ts) h =
    ap (λ b. cond b (Some t.states) (states_at ts v)) (false_from_ne_true (t.vertex == v) (λ e. let same : t.vertex
    ≡ v = eqb-true t.vertex v e in let less = h.0 in absurd (omega (arith, same, less))))
    ∙ past_none v ts h.1

lies_first : (f : ℕ → ℕ) (t : TermView) (ts : List TermView) → LiesIn f (states_at (t ∷ ts))
    → length t.states ≡ f t.vertex
lies_first f t ts h =
    h t.vertex t.states (ap (λ b. cond b (Some t.states) (states_at ts t.vertex)) (eq-eqb t.vertex t.vertex refl))

lies_rest : (f : ℕ → ℕ) (t : TermView) (ts : List TermView) → AllPast t.vertex ts → LiesIn f (states_at (t ∷ ts))
    → LiesIn f (states_at ts)
lies_rest f t ts past h u s e = by (t.vertex == u) refl
  where
    by : (b : Bool) → (t.vertex == u) ≡ b → length s ≡ f u
    by true same =
        let one : t.vertex ≡ u = eqb-true t.vertex u same in
        let no : states_at ts u ≡ None = subst (λ n. states_at ts n ≡ None) one (past_none t.vertex ts past) in
        absurd (none-some s (sym no ∙ e))
    by false other = h u s (ap (λ b. cond b (Some t.states) (states_at ts u)) other ∙ e)

sized : (f : ℕ → ℕ) (ts : List TermView) → IsRising ts → LiesIn f (states_at ts)
    → AllByRecursion (λ t. length t.states ≡ f t.vertex) ts
sized f [] rising lies = tt
sized f (t ∷ ts) rising lies = (lies_first f t ts lies, sized f ts rising.1 (lies_rest f t ts rising.0 lies))

pub over_sized : (q : Problem) (vs : Numbering) (ts : List TermView) → IsOver q vs ts → AreSized q vs ts
over_sized q vs ts over = sized (sizes q vs) ts over.is.rising over.lies

-- ---- states that are chosen

-- values that are chosen, seen through a view
pub map_chosen : {X Y : Type 0} (f : X → Y) (xs : List X) (m : Members)
    → map f (states_in xs m) ≡ states_in (map f xs) m
map_chosen f [] m = refl
map_chosen f (x ∷ xs) [] = refl
map_chosen f (x ∷ xs) (true ∷ m) = ap (λ l. f x ∷ l) (map_chosen f xs m)
map_chosen f (x ∷ xs) (false ∷ m) = map_chosen f xs m

-- ---- terms, one more

pub term_more : (q : Problem) (vs : Numbering) (t : TermView) (ts : List TermView)
    → with_term q (slice_get vs t.vertex) t.states [] ++ terms_of q vs ts ≡ terms_of q vs (t ∷ ts)
term_more q vs t ts = by (slice_get vs t.vertex)
  where
    by : (o : Option Vertex) → with_term q o t.states [] ++ terms_of q vs ts ≡ with_term q o t.states (terms_of q vs ts)
    by None = refl
    by (Some v) = refl

-- ---- what loops keep

abbrev pub IsSpeaking : Problem → Numbering → List TermView → ℕ → List Term → Type 0
IsSpeaking q vs all i made = made ++ terms_of q vs (drop i all) ≡ terms_of q vs all

module _ {S : Type 0} (tests : S → Members) (q : Problem) (vs : Numbering) where
  next_term : (all : List (numbered.Term S)) (i : ℕ) (t : numbered.Term S) → i < length all → t ≡ get_or all i t
      → drop i (terms_view tests all) ≡ term_view tests t ∷ drop (suc i) (terms_view tests all)
  next_term all i t lt is =
      let long : i < length (terms_view tests all) = subst (λ n. i < n) (sym (length-map all (term_view tests))) lt in
      drop-cons (terms_view tests all) i (term_view tests t) long
      ∙ ap (λ x. x ∷ drop (suc i) (terms_view tests all))
      (get_or-map (term_view tests) all i t (term_view tests t) lt ∙ ap (term_view tests) (sym is))

  pub spoken_more : (all : List (numbered.Term S)) (i : ℕ) (t : numbered.Term S) (made new : List Term) → i < length all
      → t ≡ get_or all i t → IsSpeaking q vs (terms_view tests all) i made
      → new ≡ made ++ with_term q (slice_get vs t.vertex) (tests t.states) []
      → IsSpeaking q vs (terms_view tests all) (i + 1) new
  spoken_more all i t made new lt is now new_is =
      let next : suc i ≡ i + 1 = omega arith in
      subst (λ n. IsSpeaking q vs (terms_view tests all) n new) next
      (ap (λ l. l ++ terms_of q vs (drop (suc i) (terms_view tests all))) new_is
      ∙ append_assoc made (with_term q (slice_get vs t.vertex) (tests t.states) [])
      (terms_of q vs (drop (suc i) (terms_view tests all)))
      ∙ ap (λ l. made ++ l) (term_more q vs (term_view tests t) (drop (suc i) (terms_view tests all)))
      ∙ ap (λ l. made ++ terms_of q vs l) (sym (next_term all i t lt is)) ∙ now)

  pub all_spoken : (all : List (numbered.Term S)) (i : ℕ) (made : List Term) → length all ≤ i
      → IsSpeaking q vs (terms_view tests all) i made → made ≡ terms_of q vs (terms_view tests all)
  all_spoken all i made past now =
      let none : drop i (terms_view tests all) ≡ [] =
      drop_all i (terms_view tests all) (subst (λ n. n ≤ i) (sym (length-map all (term_view tests))) past) in
      sym (append-nil made) ∙ ap (λ l. made ++ terms_of q vs l) (sym none) ∙ now

  pub sized_at : (all : List (numbered.Term S)) (i : ℕ) (t : numbered.Term S) → AreSized q vs (terms_view tests all)
      → i < length all → t ≡ get_or all i t → length (tests t.states) ≡ sizes q vs t.vertex
  sized_at [] i t h lt is = absurd (omega (arith, lt))
  sized_at (x ∷ all) zero t h lt is = subst (λ y. length (tests y.states) ≡ sizes q vs y.vertex) (sym is) h.0
  sized_at (x ∷ all) (suc i) t h lt is = sized_at all i t h.1 (omega (arith, lt)) is

-- what holds of each item holds of one
pub at_place : {X : Type 0} (P : X → Type 0) (xs : List X) (i : ℕ) (x : X) → i < length xs → x ≡ get_or xs i x
    → All P xs → P x
at_place P xs i x lt is all = subst P (sym is) (All-get_or P xs i x lt all)

-- ---- where terms lie

pub refs_more : (all : List Spoken) (i : ℕ) (t : Spoken) (made new : List NamedTerm) (r : NamedTerm) → i < length all
    → t ≡ get_or all i t → named_views made ≡ spoken_views (take i all) → named_view r ≡ spoken_view t
    → new ≡ made ++ r ∷ [] → named_views new ≡ spoken_views (take (i + 1) all)
refs_more all i t made new r lt is now same new_is =
    let next : suc i ≡ i + 1 = omega arith in
    ap named_views new_is ∙ map-append named_view made (r ∷ []) ∙ ap₂ (λ l x. l ++ x ∷ []) now same
    ∙ sym (map-append spoken_view (take i all) (t ∷ []))
    ∙ ap (λ x. spoken_views (take i all ++ x ∷ [])) is ∙ ap spoken_views (sym (take-suc all i t lt))
    ∙ ap (λ n. spoken_views (take n all)) next

pub all_refs : (all : List Spoken) (i : ℕ) (made : List NamedTerm) → length all ≤ i
    → named_views made ≡ spoken_views (take i all) → named_views made ≡ spoken_views all
all_refs all i made past now = now ∙ ap spoken_views (take_all i all past)
