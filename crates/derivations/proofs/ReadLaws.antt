-- What is read keeps what each derivation keeps.
use Rattle.std.proofs.Common.{◌≡◌, ℕ, ◌+◌, List, [], ◌∷◌, ◌++◌, length, Bool, true, false, cond, Option, Some, None, Ok}
use Rattle.std.proofs.Common.{Err, option_and_then, refl, sym, ap, ap₂, ◌∙◌, subst, arith, Ordering, Less, codes}
use Rattle.std.specs.Cmp.{IsTotalOrder}
use Rattle.std.specs.List.{AllByRecursion}
use Rattle.std.specs.List.Sorted.{IsStrictlySortedBy}
use Rattle.std.specs.Ordering.{eq_by_cmp}
use Rattle.std.proofs.lemmas.Bool.{ltb-true, and_parts}
use Rattle.serde_json.specs.Data.{Data, Items, no_items, item}
use Rattle.serde_json.specs.Find as json
use Rattle.model.specs.Order.{text_cmp, in_order, has_alike}
use Rattle.model.specs.Outcome.{guard}
use Rattle.model.specs.Vertices.{Vertex, State}
use Rattle.model.specs.Axioms.{Term}
use Rattle.model.specs.Derivation.{Step}
use Rattle.vertices.specs.Texts.{IsReadVertex, IsReadState, kind_of_text, Reading, vertex_text, vertex_of_text}
use Rattle.vertices.specs.Texts.{state_of_text}
use Rattle.derivations.specs.inner.Derivations.{IsTerm, term_cmp, AreTerms, IsStepAt, AreStepsFrom, IsDerivation}
use Rattle.derivations.specs.Orders.{ordered}
use Rattle.vertices.specs.Orders.{state_cmp}
use Rattle.derivations.specs.Steps.{data_of_bytes, text_of, whole_of, item_at, none_at, two_of, states_in, states_of}
use Rattle.derivations.specs.Steps.{Written, written_cmp, term_of, terms_in, terms_without_texts, terms_of, Origin}
use Rattle.derivations.specs.Steps.{by_axiom, by_combination, axiom_of, combination_of, origin_from, origin_of}
use Rattle.derivations.specs.Steps.{is_backward, step_by, step_of, step_of_line}
use Rattle.derivations.specs.Lines.{needed, in_line, vertex_in_line, state_in_line}
use Rattle.derivations.specs.declared.fault.LineFault.TheVariants.{NotALine, Forward}
use Rattle.vertices.proofs.Bound.{steps, same-Ok, passed}
use Rattle.vertices.proofs.OrderLaws.{state_total}
use Rattle.derivations.proofs.OrderLaws.{written_total}
use Rattle.model.proofs.Sorting.{each-in_order, sorted-in_order, distinct-from_none}
use Rattle.vertices.proofs.TextLaws.{vertex-reads, state-reads}

-- what a line reads off a text is what the text reads as
read-off : {A : Type 0} (r : Reading A) (x : A) → in_line r ≡ Ok x → r ≡ Ok x
read-off (Ok y) x h = ap Ok (same-Ok _ _ h)
read-off (Err e) x h = cc

vertex-is : (text : List ℕ) (v : Vertex) → vertex_in_line text ≡ Ok v → IsReadVertex v
vertex-is text v h = let r = read-off (vertex_of_text text) v h in ap vertex_of_text (vertex-reads text v r) ∙ r

state-is : (v : Vertex) (text : List ℕ) (s : State) → state_in_line v text ≡ Ok s → IsReadState v s
state-is v text s h = let r = read-off (state_of_text v text) s h in ap (state_of_text v) (state-reads v text s r) ∙ r

-- ---- lists in order

ordered-is : {X : Type 0} {R : X → X → Ordering} (o : IsTotalOrder R) (P : X → Type 0) (xs ys : List X)
    → AllByRecursion P xs → ordered R xs ≡ Ok ys → AllByRecursion P ys × IsStrictlySortedBy R ys
ordered-is {X} {R} o P xs ys each h = by (has_alike (eq_by_cmp R) xs) refl h
  where
    by : (b : Bool) → has_alike (eq_by_cmp R) xs ≡ b → cond b (Err NotALine) (Ok (in_order R xs)) ≡ Ok ys
        → AllByRecursion P ys × IsStrictlySortedBy R ys
    by true is h = cc
    by false is h =
        let same : in_order R xs ≡ ys = same-Ok _ _ h in (
          subst (λ zs. AllByRecursion P zs) same (each-in_order R P xs each),
          subst
              (λ zs. IsStrictlySortedBy R zs) same (sorted-in_order o xs (distinct-from_none (eq_by_cmp R) xs is)),
        )

-- ---- terms

states-read : (v : Vertex) (ds : Items) (ss : List State) → states_in v ds ≡ Ok ss
    → AllByRecursion (λ s. IsReadState v s) ss
unfolding states_in
states-read v no_items ss h = subst (λ zs. AllByRecursion (λ s. IsReadState v s) zs) (same-Ok _ _ h) tt
states-read v (item d ds) ss h =
    let t = steps (text_of d) _ ss h in
    let u = steps (state_in_line v t.at) _ ss t.then in
    let w = steps (states_in v ds) _ ss u.then in
    subst (λ zs. AllByRecursion (λ s. IsReadState v s) zs) (same-Ok _ _ w.then)
    (state-is v t.at u.at u.first, states-read v ds w.at w.first)

states-are : (v : Vertex) (d : Data) (ss : List State) → states_of v d ≡ Ok ss
    → AllByRecursion (λ s. IsReadState v s) ss × IsStrictlySortedBy state_cmp ss
unfolding states_of
states-are v d ss h =
    let t = steps (needed (json.as_array d)) _ ss h in
    let u = steps (states_in v t.at) _ ss t.then in
    ordered-is state_total (λ s. IsReadState v s) u.at ss (states-read v t.at u.at u.first) u.then

abbrev IsWritten : Written → Type 0
IsWritten t = (t.0 ≡ vertex_text t.1.vertex) × IsTerm t.1

term-is : (d : Data) (t : Written) → term_of d ≡ Ok t → IsWritten t
unfolding term_of
term-is d t h =
    let p = steps (two_of d) _ t h in
    let q = steps (text_of p.at.0) _ t p.then in
    let v = steps (vertex_in_line q.at) _ t q.then in
    let s = steps (states_of v.at p.at.1) _ t v.then in
    let both = states-are v.at p.at.1 s.at s.first in
    subst IsWritten (same-Ok _ _ s.then) (
      sym (vertex-reads q.at v.at (read-off (vertex_of_text q.at) v.at v.first)),
      record { vertex = vertex-is q.at v.at v.first; states = both.0; order = both.1 },
    )

terms-read : (ds : Items) (ts : List Written) → terms_in ds ≡ Ok ts → AllByRecursion IsWritten ts
unfolding terms_in
terms-read no_items ts h = subst (λ zs. AllByRecursion IsWritten zs) (same-Ok _ _ h) tt
terms-read (item d ds) ts h =
    let t = steps (term_of d) _ ts h in
    let u = steps (terms_in ds) _ ts t.then in
    subst (λ zs. AllByRecursion IsWritten zs) (same-Ok _ _ u.then) (term-is d t.at t.first, terms-read ds u.at u.first)

each-term : (ts : List Written) → AllByRecursion IsWritten ts → AllByRecursion IsTerm (terms_without_texts ts)
each-term [] h = tt
each-term (t ∷ ts) h = (h.0.1, each-term ts h.1)

each-after : (t : Written) (ts : List Written) → IsWritten t → AllByRecursion IsWritten ts
    → AllByRecursion (λ u. written_cmp t u ≡ Less) ts
    → AllByRecursion (λ u. term_cmp t.1 u ≡ Less) (terms_without_texts ts)
each-after t [] w ws h = tt
each-after t (u ∷ us) w ws h = (sym (ap₂ text_cmp w.0 ws.0.0) ∙ h.0, each-after t us w ws.1 h.1)

in-order : (ts : List Written) → AllByRecursion IsWritten ts → IsStrictlySortedBy written_cmp ts
    → IsStrictlySortedBy term_cmp (terms_without_texts ts)
unfolding IsStrictlySortedBy
in-order [] w h = tt
in-order (t ∷ ts) w h = (each-after t ts w.0 w.1 h.0, in-order ts w.1 h.1)

terms-are : (d : Data) (ts : List Term) → terms_of d ≡ Ok ts → AreTerms ts
unfolding terms_of
terms-are d ts h =
    let t = steps (needed (option_and_then json.as_array (json.get (codes "terms") d))) _ ts h in
    let u = steps (terms_in t.at) _ ts t.then in
    let w = steps (ordered written_cmp u.at) _ ts u.then in
    let both = ordered-is written_total IsWritten u.at w.at (terms-read t.at u.at u.first) w.first in
    subst AreTerms (same-Ok _ _ w.then) (each-term w.at both.0, in-order w.at both.0 both.1)

-- ---- steps

abbrev IsOrigin : Origin → Type 0
IsOrigin (by_axiom k) = Unit {0}
IsOrigin (by_combination a b v) = IsReadVertex v

axiom-is : (d : Data) (r : Origin) → axiom_of d ≡ Ok r → IsOrigin r
unfolding axiom_of
axiom-is d r h =
    let t = steps (text_of d) _ r h in
    let k = steps (needed (kind_of_text t.at)) _ r t.then in
    subst IsOrigin (same-Ok _ _ k.then) tt

combination-is : (d : Data) (r : Origin) → combination_of d ≡ Ok r → IsOrigin r
unfolding combination_of
combination-is d r h =
    let i = steps (item_at 0 d) _ r h in
    let a = steps (whole_of i.at) _ r i.then in
    let j = steps (item_at 1 d) _ r a.then in
    let b = steps (whole_of j.at) _ r j.then in
    let k = steps (item_at 2 d) _ r b.then in
    let t = steps (text_of k.at) _ r k.then in
    let v = steps (vertex_in_line t.at) _ r t.then in
    let n = steps (none_at 3 d) _ r v.then in
    subst IsOrigin (same-Ok _ _ n.then) (vertex-is t.at v.at v.first)

origin-is : (o p : Option Data) (r : Origin) → origin_from o p ≡ Ok r → IsOrigin r
origin-is (Some d) None r h = axiom-is d r h
origin-is None (Some d) r h = combination-is d r h
origin-is None None r h = cc
origin-is (Some d) (Some e) r h = cc

back : (n : ℕ) (r : Origin) (ts : List Term) → IsOrigin r → AreTerms ts → is_backward n r ≡ true
    → IsStepAt n (step_by r ts)
back n (by_axiom k) ts r t h = (tt, t)
back n (by_combination a b v) ts r t h = let p = and_parts _ _ h in ((ltb-true _ _ p.0, ltb-true _ _ p.1, r), t)

step-is : (n : ℕ) (d : Data) (s : Step) → step_of n d ≡ Ok s → IsStepAt n s
unfolding step_of
step-is n d s h =
    let r = steps (origin_of d) _ s h in
    let t = steps (terms_of d) _ s r.then in
    let b = steps (guard (is_backward n r.at) Forward) _ s t.then in
    subst (IsStepAt n) (same-Ok _ _ b.then) (back n r.at t.at (origin-is _ _ r.at r.first) (terms-are d t.at t.first)
    (passed (is_backward n r.at) Forward b.at b.first))

pub line-is : (n : ℕ) (text : List ℕ) (s : Step) → step_of_line n text ≡ Ok s → IsStepAt n s
unfolding step_of_line
line-is n text s h = let d = steps (data_of_bytes text) _ s h in step-is n d.at s d.then

-- ---- the whole

one-more : (n : ℕ) (ss : List Step) (s : Step) → AreStepsFrom n ss → IsStepAt (n + length ss) s
    → AreStepsFrom n (ss ++ s ∷ [])
one-more n [] s each h = (subst (λ m. IsStepAt m s) (omega arith) h, tt)
one-more n (t ∷ ss) s each h = (each.0, one-more (n + 1) ss s each.1 (subst (λ m. IsStepAt m s) (omega arith) h))

-- one more step after those of a derivation
pub one-after : (ss : List Step) (s : Step) → IsDerivation ss → IsStepAt (length ss) s → IsDerivation (ss ++ s ∷ [])
one-after ss s h step = one-more 0 ss s h (subst (λ n. IsStepAt n s) (omega arith) step)
