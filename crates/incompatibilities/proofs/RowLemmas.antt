-- Rows of an index after a write or a push.
use Rattle.std.proofs.Common.{◌≡◌, ◌≢◌, ℕ, zero, suc, ◌+◌, ◌<◌, ◌≤◌, true, false, cond, eqb, List, [], ◌∷◌}
use Rattle.std.proofs.Common.{◌++◌, length}
use Rattle.std.proofs.Common.{get_or, set, map, drop, Vec, vec_len, vec_capacity, refl, ap, sym, ◌∙◌, subst, arith}
use Rattle.std.proofs.Common.{eq-eqb, get_or-set_other, get_or-set_same, ◌⊎◌, inl, inr}
use Rattle.std.proofs.lemmas.Bool.{cases_eq, ne_eqb, or_left, or_right, true≢false}
use Rattle.std.proofs.Math.Seq.{drop-cons}
use Rattle.std.proofs.lemmas.List.{append-nil, append_assoc, get_or_append_left, length-append, length-set}
use Rattle.std.specs.declared.alloc.Global.{Global}
use Rattle.incompatibilities.specs.inner.Rows.{HasRoom, IsApart, IsGrown, Rows, listed_in, row_at, stands_in}
use Rattle.version_sets.specs.Sets.{Members}
use Rattle.terms.specs.Terms.{TermView, terms_view}
use Rattle.terms.specs.declared.term.Term.{Term}

pub row_read : {E : Type 0} (rows : Rows E) (v : ℕ) (d : Vec E Global) → v < length rows
    → row_at rows v ≡ (get_or rows v d).items
row_read [] v d within = absurd (omega arith)
row_read (r ∷ rows) zero d within = refl
row_read (r ∷ rows) (suc v) d within = row_read rows v d (omega arith)

pub row_set_same : {E : Type 0} (rows : Rows E) (v : ℕ) (r : Vec E Global) → v < length rows
    → row_at (set rows v r) v ≡ r.items
row_set_same [] v r within = absurd (omega arith)
row_set_same (x ∷ rows) zero r within = refl
row_set_same (x ∷ rows) (suc v) r within = row_set_same rows v r (omega arith)

pub row_set_other : {E : Type 0} (rows : Rows E) (v w : ℕ) (r : Vec E Global) → w ≢ v
    → row_at (set rows v r) w ≡ row_at rows w
row_set_other [] v w r o = refl
row_set_other (x ∷ rows) zero zero r o = absurd (o refl)
row_set_other (x ∷ rows) zero (suc w) r o = refl
row_set_other (x ∷ rows) (suc v) zero r o = refl
row_set_other (x ∷ rows) (suc v) (suc w) r o = row_set_other rows v w r (λ (e : w ≡ v). o (omega arith))

-- one more in one row
pub row_pushed : {E : Type 0} (rows : Rows E) (v : ℕ) (x r : Vec E Global) (item : E) → v < length rows
    → x ≡ get_or rows v x → r.items ≡ x.items ++ item ∷ [] → row_at (set rows v r) v ≡ row_at rows v ++ item ∷ []
row_pushed {E} rows v x r item within here pushed =
    row_set_same rows v r within ∙ pushed
    ∙ ap (λ (l : List E). l ++ item ∷ []) (ap (λ (y : Vec E Global). y.items) here ∙ sym (row_read rows v x within))

pub row_push : {E : Type 0} (rows : Rows E) (r : Vec E Global) (v : ℕ) → r.items ≡ []
    → row_at (rows ++ r ∷ []) v ≡ row_at rows v
row_push [] r zero e = e
row_push [] r (suc v) e = refl
row_push (x ∷ rows) r zero e = refl
row_push (x ∷ rows) r (suc v) e = row_push rows r v e

-- room stays
pub room_push : {E : Type 0} (rows : Rows E) (r : Vec E Global) (v : ℕ) → HasRoom rows v → HasRoom (rows ++ r ∷ []) v
room_push rows r v h =
    (omega (arith, length-append rows (r ∷ []), h.0), λ d. rw (get_or_append_left rows (r ∷ []) d v h.0) (h.1 d))

pub room_set_other : {E : Type 0} (rows : Rows E) (v w : ℕ) (r : Vec E Global) → w ≢ v → HasRoom rows w
    → HasRoom (set rows v r) w
room_set_other rows v w r o h = (rw length-set h.0, λ d. rw (get_or-set_other) (h.1 d))

pub room_set_same : {E : Type 0} (rows : Rows E) (v : ℕ) (r : Vec E Global) → v < length rows
    → vec_len r < vec_capacity r → HasRoom (set rows v r) v
room_set_same rows v r within h = (rw length-set within, λ d. rw (get_or-set_same) h)

-- growth
pub grown_push : {E : Type 0} (a b c : Rows E) (r : Vec E Global) → IsGrown a b → r.items ≡ []
    → c ≡ b ++ r ∷ [] → IsGrown a c
grown_push a b c r g e is = subst (IsGrown a) (sym is) (record {
  same = λ v. row_push b r v e ∙ g.same v;
  kept = λ v h. room_push b r v (g.kept v h);
})

pub grown_still : {E : Type 0} (a b c : Rows E) → IsGrown a b → c ≡ b → IsGrown a c
grown_still a b c g is = subst (IsGrown a) (sym is) g

pub grown_set : {E : Type 0} (a b : Rows E) (v : ℕ) (x r : Vec E Global) → IsGrown a b → v < length b → x ≡ get_or b v x
    → r.items ≡ x.items → vec_len r ≡ vec_len x → vec_capacity x ≤ vec_capacity r → IsGrown a (set b v r)
grown_set {E} a b v x r g within here items len cap =
    record { same = λ w. same w (cases_eq w v); kept = λ w h. rooms w (g.kept w h) (cases_eq w v) }
  where
    same : (w : ℕ) → (w ≡ v) ⊎ (w ≢ v) → row_at (set b v r) w ≡ row_at a w
    same w (inl s) = ap (row_at (set b v r)) s ∙ row_set_same b v r within ∙ items
        ∙ ap (λ (y : Vec E Global). y.items) here ∙ sym (row_read b v x within) ∙ ap (row_at b) (sym s) ∙ g.same w
    same w (inr o) = row_set_other b v w r o ∙ g.same w

    rooms : (w : ℕ) → HasRoom b w → (w ≡ v) ⊎ (w ≢ v) → HasRoom (set b v r) w
    rooms w h (inl s) =
        let old : vec_len (get_or b v x) < vec_capacity (get_or b v x) =
        subst (λ k. vec_len (get_or b k x) < vec_capacity (get_or b k x)) s (h.1 x) in
        let now : vec_len x < vec_capacity x = rw (← here) at old in
        subst (HasRoom (set b v r)) (sym s) (room_set_same b v r within (omega arith))
    rooms w h (inr o) = room_set_other b v w r o h

-- the rows of a list of vertices, one after another
pub record IsReserving {E : Type 0} (old now : Rows E) (all left : List ℕ) : Type 0 where
  pub grown : IsGrown old now
  pub room : (v : ℕ) → stands_in v all ≡ true → HasRoom now v ⊎ (stands_in v left ≡ true)

pub reserving_more : {E : Type 0} (old now next : Rows E) (all left rest : List ℕ) (w : ℕ) → left ≡ w ∷ rest
    → IsGrown now next → HasRoom next w → IsReserving old now all left → IsReserving old next all rest
reserving_more old now next all left rest w split g here r = record {
  grown = record { same = λ v. g.same v ∙ r.grown.same v; kept = λ v h. g.kept v (r.grown.kept v h) };
  room = λ v stands. elim (r.room v stands) [
    | inl h ↦ inl (g.kept v h)
    | inr s ↦ still v (cases_eq w v) (sym (ap (stands_in v) split) ∙ s)
  ];
}
  where
    still : (v : ℕ) → (w ≡ v) ⊎ (w ≢ v) → stands_in v (w ∷ rest) ≡ true → HasRoom next v ⊎ (stands_in v rest ≡ true)
    still v (inl e) s = inl (subst (HasRoom next) e here)
    still v (inr o) s = inr (rw (ne_eqb w v o) at s)

-- the vertices of terms
abbrev pub vertices : {S : Type 0} → List (Term S) → List ℕ
vertices ts = map (λ t. t.vertex) ts

-- some terms are listed, and some are left
pub record IsEntering {S E : Type 0} (item : Term S → E) (old now : Rows E) (all left : List (Term S)) : Type 0 where
  pub rows : (v : ℕ) → row_at now v ++ listed_in item v left ≡ row_at old v ++ listed_in item v all
  pub room : (v : ℕ) → stands_in v (vertices left) ≡ true → HasRoom now v
  pub apart : IsApart (vertices left)

pub entering_first : {S E : Type 0} (item : Term S → E) (rows : Rows E) (all left : List (Term S)) → left ≡ all
    → ((v : ℕ) → stands_in v (vertices all) ≡ true → HasRoom rows v) → IsApart (vertices all)
    → IsEntering item rows rows all left
entering_first item rows all left same room apart =
    subst (IsEntering item rows rows all) (sym same) (record { rows = λ v. refl; room = room; apart = apart })

pub entering_last : {S E : Type 0} (item : Term S → E) (old now : Rows E) (all left : List (Term S)) → left ≡ []
    → IsEntering item old now all left → (v : ℕ) → row_at now v ≡ row_at old v ++ listed_in item v all
entering_last {S} {E} item old now all left none r v = sym (append-nil (row_at now v))
    ∙ ap (λ (l : List (Term S)). row_at now v ++ listed_in item v l) (sym none) ∙ r.rows v

pub entering_more : {S E : Type 0} (item : Term S → E) (old now next : Rows E)
    (all left rest : List (Term S)) (t : Term S)
    → left ≡ t ∷ rest
    → row_at next t.vertex ≡ row_at now t.vertex ++ item t ∷ []
    → ((v : ℕ) → v ≢ t.vertex → row_at next v ≡ row_at now v)
    → ((v : ℕ) → v ≢ t.vertex → HasRoom now v → HasRoom next v)
    → IsEntering item old now all left → IsEntering item old next all rest
entering_more {S} {E} item old now next all left rest t split here others rooms r = record {
  rows = λ v. rows v (cases_eq t.vertex v);
  room = λ v s. rooms v (apart_from v s) (r.room v (ap (λ (l : List (Term S)). stands_in v (vertices l)) split
      ∙ or_right (eqb t.vertex v) (stands_in v (vertices rest)) s));
  apart = apart.1;
}
  where
    apart : IsApart (vertices (t ∷ rest))
    apart = subst (λ (l : List (Term S)). IsApart (vertices l)) split r.apart

    apart_from : (v : ℕ) → stands_in v (vertices rest) ≡ true → v ≢ t.vertex
    apart_from v s e = true≢false (sym s ∙ ap (λ x. stands_in x (vertices rest)) e ∙ apart.0)

    -- what was pushed is the first of what was left
    first : (v : ℕ) → t.vertex ≡ v → listed_in item v left ≡ item t ∷ listed_in item v rest
    first v e = ap (listed_in item v) split
        ∙ ap (λ b. cond b (item t ∷ listed_in item v rest) (listed_in item v rest)) (eq-eqb t.vertex v e)

    later : (v : ℕ) → t.vertex ≢ v → listed_in item v left ≡ listed_in item v rest
    later v o = ap (listed_in item v) split
        ∙ ap (λ b. cond b (item t ∷ listed_in item v rest) (listed_in item v rest)) (ne_eqb t.vertex v o)

    rows : (v : ℕ) → (t.vertex ≡ v) ⊎ (t.vertex ≢ v)
        → row_at next v ++ listed_in item v rest ≡ row_at old v ++ listed_in item v all
    rows v (inl e) =
        ap (λ (l : List E). l ++ listed_in item v rest)
        (subst (λ x. row_at next x ≡ row_at now x ++ item t ∷ []) e here)
        ∙ append_assoc (row_at now v) (item t ∷ []) (listed_in item v rest)
        ∙ ap (λ (l : List E). row_at now v ++ l) (sym (first v e)) ∙ r.rows v
    rows v (inr o) =
        ap (λ (l : List E). l ++ listed_in item v rest) (others v (λ (e : v ≡ t.vertex). o (sym e)))
        ∙ ap (λ (l : List E). row_at now v ++ l) (sym (later v o)) ∙ r.rows v

pub first_room : {S E : Type 0} (item : Term S → E) (old now : Rows E) (all left rest : List (Term S)) (t : Term S)
    → left ≡ t ∷ rest → IsEntering item old now all left → HasRoom now t.vertex
first_room {S} {E} item old now all left rest t split r =
    r.room t.vertex (ap (λ (l : List (Term S)). stands_in t.vertex (vertices l)) split
    ∙ or_left (eqb t.vertex t.vertex) (stands_in t.vertex (vertices rest)) (eq-eqb t.vertex t.vertex refl))

-- the vertices of what is left of a list of terms
pub vertices_left : {S : Type 0} (ts : List (Term S)) (i : ℕ) (t : Term S) → i < length ts → t ≡ get_or ts i t
    → vertices (drop i ts) ≡ t.vertex ∷ vertices (drop (i + 1) ts)
vertices_left {S} ts i t within here =
    let more : suc i ≡ i + 1 = omega arith in
    ap vertices (drop-cons ts i t within) ∙ ap (λ (u : Term S). u.vertex ∷ vertices (drop (suc i) ts)) (sym here)
    ∙ ap (λ k. t.vertex ∷ vertices (drop k ts)) more

pub grown_more : {E : Type 0} (a b c : Rows E) → IsGrown a b → IsGrown b c → IsGrown a c
grown_more a b c g h = record { same = λ v. h.same v ∙ g.same v; kept = λ v r. h.kept v (g.kept v r) }

pub reserved_all : {E : Type 0} (old now : Rows E) (all left : List ℕ) → left ≡ [] → IsReserving old now all left
    → (v : ℕ) → stands_in v all ≡ true → HasRoom now v
reserved_all old now all left none r v s = elim (r.room v s) [
  | inl h ↦ h
  | inr t ↦ absurd (true≢false (sym t ∙ ap (stands_in v) none))
]

-- nothing is left where as many are left as none
pub none_left : {A : Type 0} (n : ℕ) (xs : List A) → n ≡ length xs → n ≡ 0 → xs ≡ []
none_left n [] long none = refl
none_left n (x ∷ xs) long none = absurd (omega (arith, long, none))

-- copies of terms stand on their vertices
vertices_viewed : {S : Type 0} (tests : S → Members) (ts : List (Term S))
    → map (λ (u : TermView). u.vertex) (terms_view tests ts) ≡ vertices ts
vertices_viewed tests [] = refl
vertices_viewed tests (t ∷ ts) = ap (λ (vs : List ℕ). t.vertex ∷ vs) (vertices_viewed tests ts)

pub same_vertices : {S : Type 0} (tests : S → Members) (ts us : List (Term S))
    → terms_view tests ts ≡ terms_view tests us → vertices ts ≡ vertices us
same_vertices tests ts us same =
    sym (vertices_viewed tests ts) ∙ ap (map (λ (u : TermView). u.vertex)) same ∙ vertices_viewed tests us
