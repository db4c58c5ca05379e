-- Numberings that gain only certain vertices.
use Rattle.std.proofs.Common.{◌≡◌, ◌⊎◌, ◌<◌, ℕ, get_or, List, [], ◌∷◌, ◌++◌, length, map, Bool, true, false, cond}
use Rattle.std.proofs.Common.{Contains, refl, ap, ◌∙◌, subst, inl, inr}
use Rattle.std.specs.List.{list_any}
use Rattle.std.proofs.lemmas.Option.{slice_get_read}
use Rattle.std.proofs.lemmas.List.Elements.{Contains-push_cases}
use Rattle.model.specs.Content.{Problem}
use Rattle.model.specs.Vertices.{Vertex, same_vertex}
use Rattle.model.specs.Axioms.{Term}
use Rattle.model.proofs.Lists.{to_map}
use Rattle.model.proofs.Places.{got_in}
use Rattle.model.specs.Causes.{Cause, terms_of_cause}
use Rattle.numbering.specs.GivenViews.{cause_views}
use Rattle.lookups.specs.inner.CauseViews.{cause_view}
use Rattle.numbering.specs.Numberings.{AddsOnly, Numbering, with_vertex}
use Rattle.numbering.specs.Pairs.{AreCausesAt, IsCauseAt, IsSpokenOf, Pair, spoken_by}
use Rattle.numbering.specs.inner.TestedTerms.{TestedTerm, tested_view, tested_views, all_tested, vertices_of}
use Rattle.lookups.specs.declared.cause.Cause as cause
use Rattle.numbering.specs.declared.tested_terms.TestedTerm as tested_term

pub adds_on : (Is : Vertex → Type 0) (a b c : Numbering) → AddsOnly Is a b → AddsOnly Is b c → AddsOnly Is a c
adds_on Is a b c first next = λ v i. elim (next v i) [ inl d ↦ first v d | inr p ↦ inr p ]

pub adds_wider : (Is Are : Vertex → Type 0) (a b : Numbering) → ((v : Vertex) → Is v → Are v)
    → AddsOnly Is a b → AddsOnly Are a b
adds_wider Is Are a b wider adds = λ v i. elim (adds v i) [ inl d ↦ inl d | inr p ↦ inr (wider v p) ]

pub adds_put : (vs new : Numbering) (w : Vertex) → new ≡ with_vertex vs w → AddsOnly (λ v. w ≡ v) vs new
adds_put vs new w e = λ v i. by (list_any (same_vertex w) vs) v (subst (λ l. Contains l v) e i)
  where
    by : (b : Bool) (v : Vertex) → Contains (cond b vs (vs ++ w ∷ [])) v → Contains vs v ⊎ (w ≡ v)
    by true v d = inl d
    by false v d = Contains-push_cases vs w v d

-- ---- of tested terms, and of a cause's instance

item_in : {X Y : Type 0} (f : X → Y) (xs : List X) (i : ℕ) (x : X) → i < length xs → x ≡ get_or xs i x
    → Contains (map f xs) (f x)
item_in f xs i x lt is = to_map f xs x (got_in xs i x (slice_get_read xs (length xs) i x refl lt is))

pub tested_adds : (all : List tested_term.TestedTerm) (i : ℕ) (p : tested_term.TestedTerm) (a b c : Numbering)
    → i < length all → p ≡ get_or all i p
    → AddsOnly (Contains (vertices_of (tested_views all))) a b
    → AddsOnly (λ v. (tested_view p).0 ≡ v) b c → AddsOnly (Contains (vertices_of (tested_views all))) a c
tested_adds all i p a b c lt is first next =
    let here =
    to_map (λ (x : TestedTerm). x.0) (tested_views all) (tested_view p) (item_in tested_view all i p lt is) in
    adds_on (Contains (vertices_of (tested_views all))) a b c first
    (adds_wider (λ v. (tested_view p).0 ≡ v) (Contains (vertices_of (tested_views all))) b c
    (λ v e. subst (Contains (vertices_of (tested_views all))) e here) next)

tested_vertices : (q : Problem) (ts : List Term) → vertices_of (all_tested q ts) ≡ map (λ t. t.vertex) ts
tested_vertices q [] = refl
tested_vertices q (t ∷ ts) = ap (λ vs. t.vertex ∷ vs) (tested_vertices q ts)

pub cause_adds : (q : Problem) (c : Cause) (ps : List TestedTerm) (old new : Numbering)
    → ps ≡ all_tested q (terms_of_cause q c) → AddsOnly (Contains (vertices_of ps)) old new
    → AddsOnly (Contains (spoken_by q c)) old new
cause_adds q c ps old new is adds =
    let same : vertices_of ps ≡ spoken_by q c = ap vertices_of is ∙ tested_vertices q (terms_of_cause q c) in
    subst (λ vs. AddsOnly (Contains vs) old new) same adds

-- ---- of causes

pub causes_add : (q : Problem) (all : List cause.Cause) (i : ℕ) (x : cause.Cause) (a b c : Numbering)
    → i < length all → x ≡ get_or all i x
    → AddsOnly (IsSpokenOf q (Contains (cause_views all))) a b → AddsOnly (Contains (spoken_by q (cause_view x))) b c
    → AddsOnly (IsSpokenOf q (Contains (cause_views all))) a c
causes_add q all i x a b c lt is first next =
    let here = item_in cause_view all i x lt is in
    adds_on (IsSpokenOf q (Contains (cause_views all))) a b c first
    (adds_wider (Contains (spoken_by q (cause_view x))) (IsSpokenOf q (Contains (cause_views all))) b c
    (λ v i. (cause_view x, here, i)) next)

pub pair_adds : (q : Problem) (p : Pair) (cs : List Cause) (old new : Numbering) → AreCausesAt q p cs
    → AddsOnly (IsSpokenOf q (Contains cs)) old new → AddsOnly (IsSpokenOf q (IsCauseAt q p)) old new
pair_adds q p cs old new are adds = adds_wider (IsSpokenOf q (Contains cs)) (IsSpokenOf q (IsCauseAt q p)) old new
    (λ v s. (s.0, (are.listed s.0).0 s.1, s.2)) adds
