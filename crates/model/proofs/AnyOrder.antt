-- Terms of which no two speak of one vertex say the same in any order, and a combination of such terms is such.
use Rattle.std.specs.Prelude.{⊤}
use Rattle.std.proofs.Common.{◌≡◌, List, [], ◌∷◌, ◌++◌, map, filter, Bool, true, false, not, cond, Contains, Option}
use Rattle.std.proofs.Common.{Some, None, refl, sym, ap, ◌∙◌, subst, inl, inr, true≢false}
use Rattle.std.specs.List.{All, AllPairs, AllByRecursion}
use Rattle.std.specs.List.Sorted.{IsPermutation}
use Rattle.std.proofs.lemmas.List.Elements.{All-from_recursion, Contains-append_cases}
use Rattle.std.proofs.lemmas.List.Kept.{AllPairs-cons}
use Rattle.std.proofs.lemmas.List.Sorted.{IsPermutation-sym, Contains-permutation}
use Rattle.model.specs.Content.{Problem}
use Rattle.model.specs.Vertices.{Vertex, State, same_vertex}
use Rattle.model.specs.Axioms.{Term, at, AreApart}
use Rattle.model.specs.Derivation.{states_at, SameAt, SameTerms, combined_at}
use Rattle.model.proofs.Lists.{in_none, in_cons, in_first, in_rest, in_map, in_filter, all_first, all_rest, pairs_all}
use Rattle.model.proofs.Lists.{pairs_none, pairs_rest}
use Rattle.model.proofs.Permuted.{pairs-permutation}
use Rattle.model.proofs.Same.{vertex-refl, vertex-other}
use Rattle.model.proofs.Members.{all_each, each_at}
use Rattle.model.specs.inner.Terms.{speaks_of, vertices_of, with_term, terms_at, combination}
use Rattle.model.proofs.Reading.{states_own}
use Rattle.model.proofs.Sets.{term_at, said_at}

abbrev Differ : Term → Term → Type 0
Differ t u = same_vertex t.vertex u.vertex ≡ false

turned : (v w : Vertex) → same_vertex v w ≡ false → same_vertex w v ≡ false
turned v w h = vertex-other w v (λ e. true≢false (sym (vertex-refl v) ∙ subst (λ x. same_vertex v x ≡ false) e h))

apart-pairs : (ts : List Term) → AreApart ts → AllPairs Differ ts
apart-pairs [] h = pairs_none Differ
apart-pairs (t ∷ ts) h = AllPairs-cons Differ t ts (All-from_recursion (Differ t) ts h.0) (apart-pairs ts h.1)

pairs-apart : (ts : List Term) → AllPairs Differ ts → AreApart ts
pairs-apart [] h = tt
pairs-apart (t ∷ ts) h = (each ts (pairs_all Differ t ts h), pairs-apart ts (pairs_rest Differ t ts h))
  where
    each : (us : List Term) → All (Differ t) us → AllByRecursion (λ u. same_vertex t.vertex u.vertex ≡ false) us
    each [] k = tt
    each (u ∷ us) k = (all_first (Differ t) u us k, each us (all_rest (Differ t) u us k))

pub apart-permuted : (a b : List Term) → IsPermutation a b → AreApart a → AreApart b
apart-permuted a b p h =
    pairs-apart b (pairs-permutation Differ (λ t u k. turned t.vertex u.vertex k) a b p (apart-pairs a h))

-- the same is said at each vertex
pub sorted-says : (a b : List Term) → IsPermutation a b → AreApart a → (v : Vertex) → states_at a v ≡ states_at b v
sorted-says a b p h v = by (states_at a v) (states_at b v) refl refl
  where
    k : AreApart b
    k = apart-permuted a b p h

    there : (xs ys : List Term) → AreApart ys → ((t : Term) → Contains xs t → Contains ys t) → (ss : List State)
        → states_at xs v ≡ Some ss → states_at ys v ≡ Some ss
    there xs ys apart to ss e =
        let r = term_at xs v ss e in
        subst (λ w. states_at ys w ≡ Some ss) (sym r.2) (states_own ys r.0 apart (to r.0 r.1) ∙ ap Some r.3)

    by : (x y : Option (List State)) → states_at a v ≡ x → states_at b v ≡ y → states_at a v ≡ states_at b v
    by (Some ss) y e f = e ∙ sym (there a b k (λ t c. Contains-permutation a b t p c) ss e)
    by None (Some ss) e f = there b a h (λ t c. Contains-permutation b a t (IsPermutation-sym a b p) c) ss f ∙ sym f
    by None None e f = e ∙ sym f

same_itself : (o : Option (List State)) → SameAt o o
same_itself None = tt
same_itself (Some ss) = λ s. refl

pub sorted-same : (a b : List Term) → IsPermutation a b → AreApart a → SameTerms a b
sorted-same a b p h v = subst (SameAt (states_at a v)) (sorted-says a b p h v) (same_itself (states_at a v))

-- ---- the combination

-- vertices of which none is there twice
abbrev AreOnce : List Vertex → Type 0
AreOnce [] = ⊤
AreOnce (v ∷ vs) = AllByRecursion (λ w. same_vertex v w ≡ false) vs × AreOnce vs

vertex-in : (said : Vertex → Option (List State)) (vs : List Vertex) (t : Term)
    → Contains (terms_at said vs) t → Contains vs t.vertex
vertex-in said [] t c = absurd (in_none t c)
vertex-in said (v ∷ vs) t c = by (said v) c (λ c. vertex-in said vs t c)
  where
    by : (o : Option (List State)) → Contains (with_term v o (terms_at said vs)) t
        → (Contains (terms_at said vs) t → Contains vs t.vertex) → Contains (v ∷ vs) t.vertex
    by None c rest = in_rest v t.vertex vs (rest c)
    by (Some ss) c rest = elim (in_cons (at v ss) t (terms_at said vs) c) [
      | inl e ↦ subst (λ (x : Term). Contains (v ∷ vs) x.vertex) e (in_first v vs)
      | inr c ↦ in_rest v t.vertex vs (rest c)
    ]

apart-terms : (said : Vertex → Option (List State)) (vs : List Vertex) → AreOnce vs → AreApart (terms_at said vs)
apart-terms said [] h = tt
apart-terms said (v ∷ vs) h = by (said v) (apart-terms said vs h.1)
  where
    by : (o : Option (List State)) → AreApart (terms_at said vs) → AreApart (with_term v o (terms_at said vs))
    by None rest = rest
    by (Some ss) rest = (
      all_each (λ (u : Term). same_vertex v u.vertex ≡ false) (terms_at said vs)
          (λ t c. each_at (λ w. same_vertex v w ≡ false) vs t.vertex h.0 (vertex-in said vs t c)),
      rest,
    )

once-map : (ts : List Term) → AreApart ts → AreOnce (map (λ t. t.vertex) ts)
once-map [] h = tt
once-map (t ∷ ts) h = (
  all_each (λ w. same_vertex t.vertex w ≡ false) (map (λ (u : Term). u.vertex) ts)
      (λ w c. let r = in_map (λ (u : Term). u.vertex) ts w c in subst (λ x. same_vertex t.vertex x ≡ false) r.2
      (each_at (λ (u : Term). same_vertex t.vertex u.vertex ≡ false) ts r.0 h.0 r.1)),
  once-map ts h.1,
)

once-filter : (p : Vertex → Bool) (vs : List Vertex) → AreOnce vs → AreOnce (filter p vs)
once-filter p [] h = tt
once-filter p (v ∷ vs) h = elim (p v) as (λ b. AreOnce (cond b (v ∷ filter p vs) (filter p vs))) [
  | true ↦ (
    all_each (λ w. same_vertex v w ≡ false) (filter p vs)
        (λ w c. each_at (λ w. same_vertex v w ≡ false) vs w h.0 (in_filter p vs w c).0),
    once-filter p vs h.1,
  )
  | false ↦ once-filter p vs h.1
]

once-append : (vs ws : List Vertex) → AreOnce vs → AreOnce ws
    → ((v w : Vertex) → Contains vs v → Contains ws w → same_vertex v w ≡ false) → AreOnce (vs ++ ws)
once-append [] ws h k apart = k
once-append (v ∷ vs) ws h k apart = (
  all_each (λ w. same_vertex v w ≡ false) (vs ++ ws) (λ w c. elim (Contains-append_cases vs ws w c) [
    | inl c ↦ each_at (λ w. same_vertex v w ≡ false) vs w h.0 c
    | inr c ↦ apart v w (in_first v vs) c
  ]),
  once-append vs ws h.1 k (λ x w c d. apart x w (in_rest v x vs c) d),
)

-- Of a combination of terms each of which has a vertex of its own, so has each.
pub combination-apart : (q : Problem) (v : Vertex) (a b : List Term) → AreApart a → AreApart b
    → AreApart (combination q v a b)
combination-apart q v a b h k = apart-terms (combined_at q a b v) (vertices_of a b)
    (once-append (map (λ t. t.vertex) a) (filter (λ w. not (speaks_of a w)) (map (λ t. t.vertex) b)) (once-map a h)
    (once-filter (λ w. not (speaks_of a w)) (map (λ t. t.vertex) b) (once-map b k)) others)
  where
    unspoken : (b : Bool) → not b ≡ true → b ≡ true → ⊥
    unspoken true h e = true≢false (sym h)
    unspoken false h e = true≢false (sym e)

    others : (x w : Vertex) → Contains (map (λ t. t.vertex) a) x
        → Contains (filter (λ w. not (speaks_of a w)) (map (λ t. t.vertex) b)) w → same_vertex x w ≡ false
    others x w c d =
        let r = in_map (λ (t : Term). t.vertex) a x c in
        let silent = (in_filter (λ w. not (speaks_of a w)) (map (λ (t : Term). t.vertex) b) w d).1 in
        let spoken : speaks_of a x ≡ true = subst (λ y. speaks_of a y ≡ true) r.2 (said_at a r.0 r.1) in
        vertex-other x w (λ e. unspoken (speaks_of a w) silent (subst (λ y. speaks_of a y ≡ true) e spoken))
