-- As more vertices get numbers, and lists with one more at the end.
use Rattle.std.proofs.Common.{◌≡◌, ◌≢◌, ℕ, List, [], ◌∷◌, ◌++◌, Bool, true, false, cond, Contains}
use Rattle.std.proofs.Common.{Option, Some, None, slice_get, refl, sym, ap, ◌∙◌, subst, inl, inr}
use Rattle.std.specs.Prelude.{option_map}
use Rattle.std.specs.List.{AllPairs, AllByRecursion, list_any}
use Rattle.std.proofs.lemmas.Option.{none-some, same_Some}
use Rattle.std.proofs.lemmas.List.Kept.{AllPairs-cons}
use Rattle.std.proofs.lemmas.List.{append-nil, append_assoc}
use Rattle.std.proofs.lemmas.List.Elements.{Contains-append_left, Contains-push_cases}
use Rattle.terms.specs.Terms.{TermView}
use Rattle.incompatibilities.specs.Incompatibilities as numbered
use Rattle.incompatibilities.specs.Incompatibilities.{unless_full}
use Rattle.model.specs.Content.{Problem}
use Rattle.model.specs.Vertices.{Vertex, State, same_vertex}
use Rattle.model.specs.Axioms.{Term, IsVertex}
use Rattle.model.specs.Derivation as model
use Rattle.model.proofs.Same.{vertex-refl}
use Rattle.model.proofs.Lists.{pairs_first, pairs_rest, pairs_one, in_first, in_rest, to_any}
use Rattle.model.proofs.Places.{place_of, get_more}
use Rattle.model.proofs.Members.{all_in}
use Rattle.model.proofs.Accepted.{all-push}
use Rattle.model.specs.Causes.{Cause, kind_of, terms_of_cause}
use Rattle.numbering.specs.Numberings.{Numbering, IsNumbering, IsGrown, members_at, Says, with_vertex}
use Rattle.numbering.specs.Pairs.{Given, AreGiven}
use Rattle.numbering.proofs.Saying.{one_place}
use Rattle.numbering.proofs.Sound.{spoken}

-- ---- as more vertices get numbers

numbers_more : (vs more : Numbering) (ts : List Term) → AllByRecursion (λ t. Contains vs t.vertex) ts
    → AllByRecursion (λ t. Contains (vs ++ more) t.vertex) ts
numbers_more vs more [] h = tt
numbers_more vs more (t ∷ ts) h = (Contains-append_left vs more t.vertex h.0, numbers_more vs more ts h.1)

-- what is said of a vertex is said of one that has a number
spoken_of : (vs : Numbering) (ts : List Term) → AllByRecursion (λ t. Contains vs t.vertex) ts
    → (v : Vertex) (ss : List State) → model.states_at ts v ≡ Some ss → Contains vs v
spoken_of vs ts h v ss e = spoken (λ w. Contains vs w) ts h v ss e

-- ---- lists with one more at the end

pub apart_last : {X : Type 0} (xs : List X) (x : X) → AllPairs (λ v w. v ≢ w) xs → ((y : X) → Contains xs y → y ≢ x)
    → AllPairs (λ v w. v ≢ w) (xs ++ x ∷ [])
apart_last {X} [] x h n = pairs_one (λ v w. v ≢ w) x
apart_last {X} (y ∷ xs) x h n =
    AllPairs-cons (λ v w. v ≢ w) y (xs ++ x ∷ []) (all_in (λ w. y ≢ w) (xs ++ x ∷ []) first)
    (apart_last xs x (pairs_rest (λ v w. v ≢ w) y xs h) (λ z c. n z (in_rest y z xs c)))
  where
    first : (w : X) → Contains (xs ++ x ∷ []) w → y ≢ w
    first w c = elim (Contains-push_cases xs x w c) [
      | inl d ↦ pairs_first (λ v w. v ≢ w) y w xs h d
      | inr e ↦ λ s.
          n y (in_first y xs) (s ∙ sym e)
    ]

not_in : (vs : Numbering) (v : Vertex) → list_any (same_vertex v) vs ≡ false → (w : Vertex) → Contains vs w → w ≢ v
not_in vs v e w c same = let x : true ≡ false =
    sym (to_any (same_vertex v) vs w c (subst (λ z. same_vertex v z ≡ true) (sym same) (vertex-refl v))) ∙ e in cc

pub says_more : (q : Problem) (vs more : Numbering) (made : List TermView) (ts : List Term)
    → AllPairs (λ v w. v ≢ w) (vs ++ more) → Says q vs made ts → Says q (vs ++ more) made ts
says_more q vs more made ts once says = record {
  is = says.is;
  each = each;
  none = λ u e. says.none u (no_less u (slice_get vs u) refl e);
  numbers = numbers_more vs more ts says.numbers;
}
  where
    no_less : (u : ℕ) (o : Option Vertex) → slice_get vs u ≡ o → slice_get (vs ++ more) u ≡ None → slice_get vs u ≡ None
    no_less u None f e = f
    no_less u (Some w) f e = absurd (none-some w (sym e ∙ get_more vs more u w f))

    each : (u : ℕ) (v : Vertex) → slice_get (vs ++ more) u ≡ Some v
        → numbered.states_at made u ≡ unless_full (option_map (members_at q v) (model.states_at ts v))
    each u v e = by (slice_get vs u) refl
      where
        unsaid : slice_get vs u ≡ None → (o : Option (List State)) → model.states_at ts v ≡ o
            → None ≡ unless_full (option_map (members_at q v) o)
        unsaid f None h = refl
        unsaid f (Some ss) h =
            let r = place_of vs v (spoken_of vs ts says.numbers v ss h) in
            let same : u ≡ r.0 = one_place (vs ++ more) u r.0 v once e (get_more vs more r.0 v r.1) in
            absurd (none-some v (sym f ∙ ap (slice_get vs) same ∙ r.1))

        by : (o : Option Vertex) → slice_get vs u ≡ o
            → numbered.states_at made u ≡ unless_full (option_map (members_at q v) (model.states_at ts v))
        by None f = says.none u f ∙ unsaid f (model.states_at ts v) refl
        by (Some w) f = let same : w ≡ v =
            same_Some w v (sym (get_more vs more u w f) ∙ e) in says.each u v (f ∙ ap Some same)

pub given_more : (q : Problem) (vs more : Numbering) (cs : List Cause) (xs : List Given)
    → AllPairs (λ v w. v ≢ w) (vs ++ more) → AreGiven q vs cs xs → AreGiven q (vs ++ more) cs xs
given_more q vs more [] [] once are = tt
given_more q vs more [] (x ∷ xs) once are = are
given_more q vs more (c ∷ cs) [] once are = are
given_more q vs more (c ∷ cs) (x ∷ xs) once are =
    (are.0, says_more q vs more x.1 (terms_of_cause q c) once are.1, given_more q vs more cs xs once are.2)

pub given_last : (q : Problem) (vs : Numbering) (cs : List Cause) (xs : List Given) (c : Cause) (x : Given)
    → AreGiven q vs cs xs → x.0 ≡ kind_of c → Says q vs x.1 (terms_of_cause q c)
    → AreGiven q vs (cs ++ c ∷ []) (xs ++ x ∷ [])
given_last q vs [] [] c x are k says = (k, says, tt)
given_last q vs [] (y ∷ xs) c x are k says = absurd are
given_last q vs (e ∷ cs) [] c x are k says = absurd are
given_last q vs (e ∷ cs) (y ∷ xs) c x are k says = (are.0, are.1, given_last q vs cs xs c x are.2 k says)

-- a vertex that is there may get a number
pub numbering_put : (q : Problem) (vs : Numbering) (v : Vertex) → IsNumbering q vs → IsVertex q v
    → IsNumbering q (with_vertex vs v)
numbering_put q vs v ok is = by (list_any (same_vertex v) vs) refl
  where
    by : (b : Bool) → list_any (same_vertex v) vs ≡ b → IsNumbering q (cond b vs (vs ++ v ∷ []))
    by true e = ok
    by false e =
        record { once = apart_last vs v ok.once (not_in vs v e); there = all-push (λ w. IsVertex q w) vs v ok.there is }

pub put_grows : (vs : Numbering) (v : Vertex) → IsGrown vs (with_vertex vs v)
put_grows vs v = by (list_any (same_vertex v) vs)
  where
    by : (b : Bool) → IsGrown vs (cond b vs (vs ++ v ∷ []))
    by true = ([], sym (append-nil vs))
    by false = (v ∷ [], refl)

pub grows_on : (a b c : Numbering) → IsGrown a b → IsGrown b c → IsGrown a c
grows_on a b c (more, e) (rest, f) = (more ++ rest, f ∙ ap (λ l. l ++ rest) e ∙ append_assoc a more rest)

pub still_at : (vs new : Numbering) (n : ℕ) (v : Vertex) → IsGrown vs new → slice_get vs n ≡ Some v
    → slice_get new n ≡ Some v
still_at vs new n v grown e = subst (λ w. slice_get w n ≡ Some v) (sym grown.1) (get_more vs grown.0 n v e)
