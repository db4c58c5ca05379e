-- Terms in any order, put into the written one, are those of a step.
use Rattle.std.proofs.Common.{◌≡◌, ℕ, ◌<◌, List, [], ◌∷◌, map, length, get_or, Bool, true, false, refl, sym, ap, ◌∙◌}
use Rattle.std.proofs.Common.{subst, Ordering, Less, Equal, Greater}
use Rattle.std.specs.Cmp.{IsTotalOrder, unsigned_tied}
use Rattle.std.specs.Cmp.Lexicographic.{texts_ties}
use Rattle.std.specs.List.{All, AllByRecursion, IsDistinct}
use Rattle.std.specs.Ordering.{is_eq, eq_by_cmp, nat_cmp, on, ordering_then}
use Rattle.std.proofs.lemmas.Bool.{eqb-true}
use Rattle.std.proofs.lemmas.Cmp.{nat_list_cmp_total, on_total}
use Rattle.std.proofs.lemmas.List.{get_or-map, length-map}
use Rattle.std.proofs.lemmas.List.Elements.{All-get_or, recursion_from_All}
use Rattle.model.specs.Order.{text_cmp, precedence}
use Rattle.model.specs.Selection.{Class, patch, minor, major}
use Rattle.model.specs.Vertices.{Vertex, State, absent, present, version, in_class, same_vertex, same_state}
use Rattle.model.specs.Axioms.{Term}
use Rattle.model.proofs.Same.{text-same, state-refl, vertex-refl}
use Rattle.vertices.specs.Orders.{state_cmp}
use Rattle.vertices.specs.Texts.{vertex_text, state_text, vertex_of_text, state_of_text, IsReadVertex, IsReadState}
use Rattle.vertices.proofs.Bound.{same-Ok}
use Rattle.vertices.proofs.OrderLaws.{state_total}
use Rattle.derivations.specs.inner.Building.{IsNewTerm, AreNewTerms, ordered_term, ordered_terms}
use Rattle.derivations.specs.inner.Derivations.{IsTerm, term_cmp, AreTerms}
use Rattle.model.proofs.Sorting.{each-in_order, sorted-in_order}

-- ---- what the orders don't tell apart

text-tied : (a b : List ℕ) → is_eq (text_cmp a b) ≡ true → a ≡ b
text-tied a b h = text-same a b (texts_ties a b ∙ h)

number-tied : (m n : ℕ) → is_eq (nat_cmp m n) ≡ true → m ≡ n
number-tied m n h = eqb-true m n (sym (unsigned_tied m n) ∙ h)

second-tied : (r s : Ordering) → is_eq (ordering_then r s) ≡ true → is_eq s ≡ true
second-tied Less s h = cc
second-tied Equal s h = h
second-tied Greater s h = cc

class-tied : (c d : Class) → is_eq (state_cmp (in_class c) (in_class d)) ≡ true → c ≡ d
class-tied (patch m) (patch n) h = ap patch (number-tied m n h)
class-tied (patch m) (minor n) h = cc
class-tied (patch m) (major n) h = cc
class-tied (minor m) (patch n) h = cc
class-tied (minor m) (minor n) h = ap minor (number-tied m n h)
class-tied (minor m) (major n) h = cc
class-tied (major m) (patch n) h = cc
class-tied (major m) (minor n) h = cc
class-tied (major m) (major n) h = ap major (number-tied m n h)

-- states that tie have one text
state-tied : (s t : State) → is_eq (state_cmp s t) ≡ true → state_text s ≡ state_text t
state-tied absent absent h = refl
state-tied absent present h = cc
state-tied absent (version w) h = cc
state-tied absent (in_class d) h = cc
state-tied present absent h = cc
state-tied present present h = refl
state-tied present (version w) h = cc
state-tied present (in_class d) h = cc
state-tied (version v) absent h = cc
state-tied (version v) present h = cc
state-tied (version v) (version w) h = text-tied (state_text (version v)) (state_text (version w))
    (second-tied (precedence v w) (text_cmp (state_text (version v)) (state_text (version w))) h)
state-tied (version v) (in_class d) h = cc
state-tied (in_class c) absent h = cc
state-tied (in_class c) present h = cc
state-tied (in_class c) (version w) h = cc
state-tied (in_class c) (in_class d) h = ap (λ e. state_text (in_class e)) (class-tied c d h)

-- so those that read back are one
state-one : (v : Vertex) (s t : State) → IsReadState v s → IsReadState v t
    → is_eq (state_cmp s t) ≡ true → same_state s t ≡ true
state-one v s t h k tie =
    let one : s ≡ t = same-Ok _ _ (sym h ∙ ap (state_of_text v) (state-tied s t tie) ∙ k) in
    subst (λ u. same_state s u ≡ true) one (state-refl s)

vertex-one : (v w : Vertex) → IsReadVertex v → IsReadVertex w
    → is_eq (text_cmp (vertex_text v) (vertex_text w)) ≡ true → same_vertex v w ≡ true
vertex-one v w h k tie =
    let one : v ≡ w = same-Ok _ _ (sym h ∙ ap vertex_of_text (text-tied (vertex_text v) (vertex_text w) tie) ∙ k) in
    subst (λ u. same_vertex v u ≡ true) one (vertex-refl v)

-- ---- elements that differ have different places in an order

no-tie : (a b : Bool) → (b ≡ true → a ≡ true) → a ≡ false → b ≡ false
no-tie a false f h = refl
no-tie a true f h = let yes = f refl in cc

module _ {X : Type 0} (P : X → Type 0) (d e : X → X → Bool)
    (tells : (x y : X) → P x → P y → e x y ≡ true → d x y ≡ true) where
  apart-from : (x : X) (ys : List X) → P x → AllByRecursion P ys → AllByRecursion (λ y. d x y ≡ false) ys
      → AllByRecursion (λ y. e x y ≡ false) ys
  apart-from x [] p each h = tt
  apart-from x (y ∷ ys) p each h = (no-tie (d x y) (e x y) (tells x y p each.0) h.0, apart-from x ys p each.1 h.1)

  all-apart : (xs : List X) → AllByRecursion P xs → IsDistinct d xs → IsDistinct e xs
  unfolding IsDistinct
  all-apart [] each h = tt
  all-apart (x ∷ xs) each h = (apart-from x xs each.0 each.1 h.0, all-apart xs each.1 h.1)

each-map : {X Y : Type 0} (P : Y → Type 0) (f : X → Y) (xs : List X) → AllByRecursion (λ x. P (f x)) xs
    → AllByRecursion P (map f xs)
each-map P f [] h = tt
each-map P f (x ∷ xs) h = (h.0, each-map P f xs h.1)

distinct-map : {X Y : Type 0} (e : Y → Y → Bool) (f : X → Y) (xs : List X) → IsDistinct (on f e) xs
    → IsDistinct e (map f xs)
unfolding IsDistinct
distinct-map e f [] h = tt
distinct-map e f (x ∷ xs) h = (each-map (λ y. e (f x) y ≡ false) f xs h.0, distinct-map e f xs h.1)

-- ---- the terms

pub term_total : IsTotalOrder term_cmp
term_total = on_total (λ (t : Term). vertex_text t.vertex) nat_list_cmp_total

pub states-apart : (t : Term) → IsNewTerm t → IsDistinct (eq_by_cmp state_cmp) t.states
states-apart t h = all-apart (λ s. IsReadState t.vertex s) same_state (eq_by_cmp state_cmp)
    (state-one t.vertex) t.states (recursion_from_All _ t.states h.states) h.apart

term-is : (t : Term) → IsNewTerm t → IsTerm (ordered_term t)
term-is t h = record {
  vertex = h.vertex;
  states = each-in_order state_cmp (λ s. IsReadState t.vertex s) t.states (recursion_from_All _ t.states h.states);
  order = sorted-in_order state_total t.states (states-apart t h);
}

each-term : (ts : List Term) → AllByRecursion IsNewTerm ts → AllByRecursion (λ t. IsTerm (ordered_term t)) ts
each-term [] h = tt
each-term (t ∷ ts) h = (term-is t h.0, each-term ts h.1)

pub terms-apart : (ts : List Term) → AreNewTerms ts → IsDistinct (eq_by_cmp term_cmp) (map ordered_term ts)
terms-apart ts h =
    distinct-map (eq_by_cmp term_cmp) ordered_term ts
    (all-apart IsNewTerm (on (λ t. t.vertex) same_vertex) (on ordered_term (eq_by_cmp term_cmp))
    (λ t u p q. vertex-one t.vertex u.vertex p.vertex q.vertex) ts (recursion_from_All _ ts h.each) h.apart)

pub terms-are : (ts : List Term) → AreNewTerms ts → AreTerms (ordered_terms ts)
terms-are ts h = (
  each-in_order term_cmp IsTerm (map ordered_term ts) (each-map IsTerm ordered_term ts (each-term ts
      (recursion_from_All _ ts h.each))),
  sorted-in_order term_total (map ordered_term ts) (terms-apart ts h),
)

-- a term at its place among new ones
pub new-at : {X : Type 0} (v : X → Term) (xs : List X) (k : ℕ) (x : X) → All IsNewTerm (map v xs) → k < length xs
    → x ≡ get_or xs k x → IsNewTerm (v x)
new-at v xs k x h l is = subst IsNewTerm (get_or-map v xs k x (v x) l ∙ ap v (sym is))
    (All-get_or IsNewTerm (map v xs) k (v x) (rw (length-map xs v) l) h)
