-- Terms that say the same as others read as those do.
use Rattle.std.proofs.Common.{◌≡◌, List, [], ◌∷◌, ◌++◌, true, false, not, cond, Contains, Option, Some, None, refl, sym}
use Rattle.std.proofs.Common.{ap, ap₂, ◌∙◌, subst, inl, inr, true≢false}
use Rattle.std.specs.List.{AllByRecursion, filter_map, cons_option}
use Rattle.std.specs.Option.{option_or}
use Rattle.std.proofs.lemmas.Bool.{false_from_ne_true}
use Rattle.std.proofs.lemmas.Option.{none-some, same_Some}
use Rattle.model.specs.Content.{Problem}
use Rattle.model.specs.Vertices.{Vertex, State, absent, has_state, same_vertex, space}
use Rattle.model.specs.Axioms.{Term, at, AreApart, is_full, without_full}
use Rattle.model.specs.Derivation.{states_at, SameStates, SameAt, SameTerms}
use Rattle.model.proofs.Same.{vertex-same, vertex-refl}
use Rattle.model.proofs.Lists.{in_none, in_cons, in_first, in_rest, all_at}
use Rattle.model.proofs.Spaces.{state_in, state_from, absent_in_space}
use Rattle.model.proofs.Members.{each_at}
use Rattle.model.specs.inner.Instances.{first_of, read_term, first_read}
use Rattle.model.proofs.Sets.{term_at}

-- where no vertex stands twice each term is the one that is read at its vertex
pub states_own : (ts : List Term) (t : Term) → AreApart ts → Contains ts t → states_at ts t.vertex ≡ Some t.states
states_own [] t apart c = absurd (in_none t c)
states_own (u ∷ ts) t apart c = elim (in_cons u t ts c) [
  | inl e ↦ subst (λ (x : Term). states_at (u ∷ ts) x.vertex ≡ Some x.states) e
      (ap (λ b. cond b (Some u.states) (states_at ts u.vertex)) (vertex-refl u.vertex))
  | inr c ↦ ap (λ b. cond b (Some u.states) (states_at ts t.vertex))
      (other (each_at (λ (w : Term). same_vertex u.vertex w.vertex ≡ false) ts t apart.0 c)) ∙ states_own ts t apart.1 c
]
  where
    other : same_vertex u.vertex t.vertex ≡ false → same_vertex t.vertex u.vertex ≡ false
    other h = false_from_ne_true (same_vertex t.vertex u.vertex)
        (λ s. true≢false (sym (vertex-refl t.vertex)
        ∙ subst (λ v. same_vertex v t.vertex ≡ false) (sym (vertex-same t.vertex u.vertex s)) h))

-- a term that says what another does
pub record Echo (ts : List Term) (u : Term) : Type 0 where
  pub t : Term
  pub there : Contains ts t
  pub vertex : t.vertex ≡ u.vertex
  pub states : SameStates t.states u.states

-- each term of the one list says what one of the other does
pub record Alike (ts ws : List Term) : Type 0 where
  pub forth : (t : Term) → Contains ts t
      → (u : Term) × Contains ws u × (t.vertex ≡ u.vertex) × SameStates t.states u.states
  pub back : (u : Term) → Contains ws u → Echo ts u

said_same : (o : Option (List State)) (ss : List State) → SameAt (Some ss) o
    → (xs : List State) × (o ≡ Some xs) × SameStates ss xs
said_same None ss h = absurd h
said_same (Some xs) ss h = (xs, refl, h)

said_back : (o : Option (List State)) (ss : List State) → SameAt o (Some ss)
    → (xs : List State) × (o ≡ Some xs) × SameStates xs ss
said_back None ss h = absurd h
said_back (Some xs) ss h = (xs, refl, h)

pub alike : (ts ws : List Term) → AreApart ts → AreApart ws → SameTerms ts ws → Alike ts ws
alike ts ws apart ways same = record {
  forth = λ t c.
      let r = said_same (states_at ws t.vertex) t.states
      (subst (λ o. SameAt o (states_at ws t.vertex)) (states_own ts t apart c) (same t.vertex)) in
      let u = term_at ws t.vertex r.0 r.1 in
      (u.0, u.1, u.2, subst (SameStates t.states) (sym u.3) r.2);
  back = λ u c.
      let r = said_back (states_at ts u.vertex) u.states
      (subst (SameAt (states_at ts u.vertex)) (states_own ws u ways c) (same u.vertex)) in
      let t = term_at ts u.vertex r.0 r.1 in
      record { t = t.0; there = t.1; vertex = sym t.2; states = subst (λ xs. SameStates xs u.states) (sym t.3) r.2 };
}

-- ---- readings

-- a set of one state has it first
first_single : (ss : List State) (s : State) → SameStates ss (s ∷ []) → first_of ss ≡ Some s
first_single [] s same = absurd (true≢false (sym (state_in (s ∷ []) s (in_first s [])) ∙ sym (same s)))
first_single (x ∷ xs) s same =
    elim (in_cons s x [] (state_from (s ∷ []) x (sym (same x) ∙ state_in (x ∷ xs) x (in_first x xs)))) [
      | inl e ↦ ap Some (sym e)
      | inr c ↦ absurd (in_none x c)
    ]

module _ {A : Type 0} (read : Vertex → Option State → Option A) where
  -- whatever says what the term does reads as it does
  abbrev pub Steady : Term → Type 0
  Steady u = (t : Term) → t.vertex ≡ u.vertex → SameStates t.states u.states → read_term read t ≡ read_term read u

  pub steady_one : (v : Vertex) (s : State) → Steady (at v (s ∷ []))
  steady_one v s t e same = ap₂ read e (first_single t.states s same)

  pub steady_never : (v : Vertex) (ss : List State) → ((o : Option State) → read v o ≡ None) → Steady (at v ss)
  steady_never v ss never t e same =
      ap (λ w. read w (first_of t.states)) e ∙ never (first_of t.states) ∙ sym (never (first_of ss))

  pub no_reading : (ws : List Term) → filter_map (read_term read) ws ≡ [] → (u : Term) → Contains ws u
      → read_term read u ≡ None
  no_reading [] e u c = absurd (in_none u c)
  no_reading (w ∷ ws) e u c = by (λ e c. no_reading ws e u c) (read_term read w) refl e
    where
      by : (filter_map (read_term read) ws ≡ [] → Contains ws u → read_term read u ≡ None)
          → (o : Option A) → read_term read w ≡ o
          → cons_option o (filter_map (read_term read) ws) ≡ [] → read_term read u ≡ None
      by rest None f e = elim (in_cons w u ws c) [ inl s ↦ ap (read_term read) (sym s) ∙ f | inr c ↦ rest e c ]
      by rest (Some a) f e = cc

  pub read_none : (ts : List Term) → ((t : Term) → Contains ts t → read_term read t ≡ None) → first_read read ts ≡ None
  read_none [] h = refl
  read_none (t ∷ ts) h =
      ap (λ o. option_or o (first_read read ts)) (h t (in_first t ts)) ∙ read_none ts (λ u c. h u (in_rest t u ts c))

  one_reading : (ws : List Term) (a : A) → filter_map (read_term read) ws ≡ a ∷ [] → (u : Term) → Contains ws u
      → (b : A) → read_term read u ≡ Some b → b ≡ a
  one_reading [] a e u c b h = absurd (in_none u c)
  one_reading (w ∷ ws) a e u c b h = by (λ e c. one_reading ws a e u c b h) (read_term read w) refl e
    where
      by : (filter_map (read_term read) ws ≡ a ∷ [] → Contains ws u → b ≡ a) → (o : Option A) → read_term read w ≡ o
          → cons_option o (filter_map (read_term read) ws) ≡ a ∷ [] → b ≡ a
      by rest None f e = elim (in_cons w u ws c) [
        | inl s ↦ absurd (none-some b (sym f ∙ ap (read_term read) s ∙ h))
        | inr c ↦ rest e c
      ]
      by rest (Some x) f e =
          let first : x ≡ a = cc in
          let none : filter_map (read_term read) ws ≡ [] = cc in
          elim (in_cons w u ws c) [
            | inl s ↦ same_Some b a (sym h ∙ ap (read_term read) (sym s) ∙ f ∙ ap Some first)
            | inr c ↦ absurd (none-some b (sym (no_reading ws none u c) ∙ h))
          ]

  some_reading : (ws : List Term) (a : A) → filter_map (read_term read) ws ≡ a ∷ []
      → (u : Term) × Contains ws u × (read_term read u ≡ Some a)
  some_reading [] a e = cc
  some_reading (w ∷ ws) a e = by (λ e. some_reading ws a e) (read_term read w) refl e
    where
      by : (filter_map (read_term read) ws ≡ a ∷ [] → (u : Term) × Contains ws u × (read_term read u ≡ Some a))
          → (o : Option A) → read_term read w ≡ o
          → cons_option o (filter_map (read_term read) ws) ≡ a ∷ []
          → (u : Term) × Contains (w ∷ ws) u × (read_term read u ≡ Some a)
      by rest None f e = let r = rest e in (r.0, in_rest w r.0 ws r.1, r.2)
      by rest (Some x) f e = let first : x ≡ a = cc in (w, in_first w ws, f ∙ ap Some first)

  read_is : (ts : List Term) (a : A) (t : Term) → Contains ts t → read_term read t ≡ Some a
      → ((t : Term) → Contains ts t → (b : A) → read_term read t ≡ Some b → b ≡ a)
      → first_read read ts ≡ Some a
  read_is [] a t c e all = absurd (in_none t c)
  read_is (u ∷ ts) a t c e all = by (λ c. read_is ts a t c e (λ t c. all t (in_rest u t ts c))) (read_term read u) refl
    where
      by : (Contains ts t → first_read read ts ≡ Some a) → (o : Option A) → read_term read u ≡ o
          → option_or o (first_read read ts) ≡ Some a
      by rest (Some b) f = ap Some (all u (in_first u ts) b f)
      by rest None f = elim (in_cons u t ts c) [
        | inl s ↦ absurd (none-some a (sym f ∙ ap (read_term read) s ∙ e))
        | inr c ↦ rest c
      ]

  read_first : (ts : List Term) (a : A) (t : Term) → Contains ts t → read_term read t ≡ Some a
      → (b : A) × (first_read read ts ≡ Some b) × (u : Term) × Contains ts u × (read_term read u ≡ Some b)
  read_first [] a t c e = absurd (in_none t c)
  read_first (u ∷ ts) a t c e = by (λ c. read_first ts a t c e) (read_term read u) refl
    where
      by : (Contains ts t → (b : A) × (first_read read ts ≡ Some b) × (w : Term) × Contains ts w
          × (read_term read w ≡ Some b)) → (o : Option A) → read_term read u ≡ o
          → (b : A) × (option_or o (first_read read ts) ≡ Some b) × (w : Term) × Contains (u ∷ ts) w
          × (read_term read w ≡ Some b)
      by rest (Some b) f = (b, refl, u, in_first u ts, f)
      by rest None f = elim (in_cons u t ts c) [
        | inl s ↦ absurd (none-some a (sym f ∙ ap (read_term read) s ∙ e))
        | inr c ↦ let r = rest c in (r.0, r.1, r.2, in_rest u r.2 ts r.3, r.4)
      ]

  module _ (ts ws : List Term) (same : Alike ts ws) (steady : AllByRecursion Steady ws) where
    -- what one term of the one list reads as, one term of the other reads as ..
    pub read_same : (a : A) → filter_map (read_term read) ws ≡ a ∷ [] → first_read read ts ≡ Some a
    read_same a e =
        let u = some_reading ws a e in
        let t = same.back u.0 u.1 in
        read_is ts a t.t t.there (each_at Steady ws u.0 steady u.1 t.t t.vertex t.states ∙ u.2)
        (λ t c b h. let u =
        same.forth t c in one_reading ws a e u.0 u.1 b (sym (each_at Steady ws u.0 steady u.1 t u.2 u.3) ∙ h))

    -- .. where some do, one of those is read ..
    pub read_some : (u : Term) → Contains ws u → (a : A) → read_term read u ≡ Some a
        → (b : A) × (first_read read ts ≡ Some b) × (w : Term) × Contains ws w × (read_term read w ≡ Some b)
    read_some u c a e =
        let t = same.back u c in
        let r = read_first ts a t.t t.there (each_at Steady ws u steady c t.t t.vertex t.states ∙ e) in
        let w = same.forth r.2 r.3 in
        (r.0, r.1, w.0, w.1, sym (each_at Steady ws w.0 steady w.1 r.2 w.2 w.3) ∙ r.4)

    -- .. and where none does, none does
    pub read_nothing : filter_map (read_term read) ws ≡ [] → first_read read ts ≡ None
    read_nothing e = read_none ts
        (λ t c. let u = same.forth t c in each_at Steady ws u.0 steady u.1 t u.2 u.3 ∙ no_reading ws e u.0 u.1)

-- ---- full terms

module _ (q : Problem) where
  -- a term without `absent` isn't full
  pub not_full : (v : Vertex) (ss : List State) → has_state ss absent ≡ false → is_full q (at v ss) ≡ false
  not_full v ss h = false_from_ne_true (is_full q (at v ss))
      (λ full. true≢false (sym (all_at (has_state ss) (space q v) absent full
      (state_from (space q v) absent (absent_in_space q v))) ∙ h))

  -- terms of which none is full stay, before others
  pub keeps : (us rest : List Term) → AllByRecursion (λ u. is_full q u ≡ false) us
      → without_full q (us ++ rest) ≡ us ++ without_full q rest
  keeps [] rest h = refl
  keeps (u ∷ us) rest h = ap (λ b. cond (not b) (u ∷ without_full q (us ++ rest)) (without_full q (us ++ rest))) h.0
      ∙ ap (λ l. u ∷ l) (keeps us rest h.1)

  pub last_full : (u : Term) → is_full q u ≡ true → without_full q (u ∷ []) ≡ []
  last_full u h = ap (λ b. cond (not b) (u ∷ []) []) h

  pub last_kept : (u : Term) → is_full q u ≡ false → without_full q (u ∷ []) ≡ u ∷ []
  last_kept u h = ap (λ b. cond (not b) (u ∷ []) []) h
