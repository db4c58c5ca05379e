-- The instances of a pair, put one after another.
use Rattle.std.proofs.Common.{◌≡◌, ◌≢◌, ℕ, zero, suc, ◌<◌, ◌≤◌, ◌+◌, get_or, take, take_all, List, [], ◌∷◌, ◌++◌}
use Rattle.std.proofs.Common.{length, true, Contains, Some, slice_get, sym, ap, ◌∙◌, subst, arith}
use Rattle.std.specs.Prelude.{unwrap_or}
use Rattle.std.specs.List.{AllByRecursion, AllPairs}
use Rattle.std.proofs.lemmas.List.{map-append}
use Rattle.std.proofs.lemmas.Option.{same_Some}
use Rattle.std.proofs.Math.Seq.{take-suc}
use Rattle.version_sets.specs.Sets.{Members}
use Rattle.terms.specs.Terms.{terms_view}
use Rattle.terms.specs.declared.term.Term as Numbered
use Rattle.model.specs.Content.{Problem}
use Rattle.model.specs.Vertices.{Vertex, State, absent, space}
use Rattle.model.proofs.Lists.{in_first, in_rest}
use Rattle.model.proofs.Members.{all_each}
use Rattle.model.specs.Causes.{Cause, is_cause, kind_of, terms_of_cause}
use Rattle.vertices.specs.Texts.{kind_view}
use Rattle.vertices.specs.declared.kind.Kind.{Kind}
use Rattle.numbering.specs.inner.Assignments.{state_at}
use Rattle.numbering.specs.GivenViews.{cause_views, given_views}
use Rattle.lookups.specs.inner.CauseViews.{cause_view}
use Rattle.numbering.specs.Numberings.{Numbering, IsGrown, IsNumbering, Says}
use Rattle.numbering.specs.Pairs.{Pair, AreCausesAt, AreGiven}
use Rattle.lookups.specs.declared.cause.Cause as code
use Rattle.numbering.proofs.Needing.{given_last, given_more}

pub given_put : {S : Type 0} (tests : S → Members) (q : Problem) (vs new : Numbering) (cs : List Cause) (c : Cause)
    (old is : List (Kind × List (Numbered.Term S))) (k : Kind) (i : List (Numbered.Term S))
    → IsNumbering q new → IsGrown vs new → is ≡ old ++ (k, i) ∷ [] → kind_view k ≡ kind_of c
    → Says q new (terms_view tests i) (terms_of_cause q c) → AreGiven q vs cs (given_views tests old)
    → AreGiven q new (cs ++ c ∷ []) (given_views tests is)
given_put {S} tests q vs new cs c old is k i ok grown same kind says are =
    let once : AllPairs (λ v w. v ≢ w) (vs ++ grown.0) = subst (AllPairs (λ v w. v ≢ w)) grown.1 ok.once in
    let kept : AreGiven q new cs (given_views tests old) = subst (λ w. AreGiven q w cs (given_views tests old))
    (sym grown.1) (given_more q vs grown.0 cs (given_views tests old) once are) in
    subst (AreGiven q new (cs ++ c ∷ [])) (sym (ap (given_views tests) same ∙ map-append
    (λ (x : Kind × List (Numbered.Term S)). (kind_view x.0, terms_view tests x.1)) old ((k, i) ∷ [])))
    (given_last q new cs (given_views tests old) c (kind_view k, terms_view tests i) kept kind says)

-- ---- one cause after another

pub causes_next : (all : List code.Cause) (i : ℕ) (x : code.Cause) → i < length all → x ≡ get_or all i x
    → cause_views (take (i + 1) all) ≡ cause_views (take i all) ++ cause_view x ∷ []
causes_next all i x lt is =
    let e : i + 1 ≡ suc i = omega arith in
    ap (λ n. cause_views (take n all)) e ∙ ap cause_views
    (take-suc all i x lt ∙ ap (λ y. take i all ++ y ∷ []) (sym is)) ∙ map-append cause_view (take i all) (x ∷ [])

pub causes_whole : (all : List code.Cause) (i : ℕ) → length all ≤ i → cause_views (take i all) ≡ cause_views all
causes_whole all i h = ap cause_views (take_all i all h)

pub cause_there : (P : Cause → Type 0) (all : List code.Cause) (i : ℕ) (x : code.Cause)
    → AllByRecursion P (cause_views all) → i < length all → x ≡ get_or all i x → P (cause_view x)
cause_there P [] i x h lt is = absurd (omega (arith, lt))
cause_there P (y ∷ all) zero x h lt is = subst (λ z. P (cause_view z)) (sym is) h.0
cause_there P (y ∷ all) (suc i) x h lt is = cause_there P all i x h.1 (omega (arith, lt)) is

-- ---- those of a pair

pub all_there : (q : Problem) (cs : List Cause) → ((c : Cause) → Contains cs c → is_cause q c ≡ true)
    → AllByRecursion (λ c. is_cause q c ≡ true) cs
all_there q cs each = all_each (λ c. is_cause q c ≡ true) cs each

pub causes_there : (q : Problem) (p : Pair) (cs : List Cause) → AreCausesAt q p cs
    → AllByRecursion (λ c. is_cause q c ≡ true) cs
causes_there q p cs are = all_there q cs (λ c i. ((are.listed c).0 i).0)

found : {X : Type 0} (xs : List X) (n : ℕ) (d : X) → n < length xs → Contains xs (unwrap_or (slice_get xs n) d)
found [] n d lt = absurd (omega (arith, lt))
found (x ∷ xs) zero d lt = in_first x xs
found (x ∷ xs) (suc n) d lt = in_rest x (unwrap_or (slice_get xs n) d) xs (found xs n d (omega (arith, lt)))

-- what holds of the vertex that has a number
pub at_number : (P : Vertex → Type 0) (vs : Numbering) (n : ℕ) (v : Vertex) → Some v ≡ slice_get vs n → P v
    → (w : Vertex) → slice_get vs n ≡ Some w → P w
at_number P vs n v at is w e = subst P (same_Some v w (at ∙ e)) is

-- the state of a number is one of the vertex
pub state_in : (q : Problem) (v : Vertex) (n : ℕ) (s : State) → n < length (space q v)
    → s ≡ state_at q v n → Contains (space q v) s
state_in q v n s lt is = subst (Contains (space q v)) (sym is) (found (space q v) n absent lt)
