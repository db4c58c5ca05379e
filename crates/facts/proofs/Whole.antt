-- The answers: what is marked in the end is what holds.
use Rattle.std.proofs.Common.{◌≡◌, ◌↔◌, ℕ, zero, suc, ◌<◌, ◌+◌, List, [], ◌∷◌, ◌++◌, map, length, Bool, true, false}
use Rattle.std.proofs.Common.{Option, Some, None, slice_get, get_or, unwrap_or, refl, sym, ap, ap₂, ◌∙◌, subst, subst₂}
use Rattle.std.proofs.Common.{arith, true≢false, Result, IfOk}
use Rattle.std.proofs.lemmas.List.{length-append, append_assoc, map-append, length-map}
use Rattle.std.proofs.lemmas.List.Elements.{Contains-get_or}
use Rattle.std.proofs.lemmas.Option.{slice_get_within, same_Some}
use Rattle.std.proofs.lemmas.Result.{IfOk-weaker}
use Rattle.facts.specs.declared.rule.Rule.{Rule}
use Rattle.facts.specs.inner.Chains.{has, IsGiven, AreBelow}
use Rattle.model.specs.Summary.{Summary, Dependency, Table, has_feature}
use Rattle.model.specs.Selection.{Fact, here, on, enabled}
use Rattle.model.specs.Selection.Holds.{starts}
use Rattle.facts.specs.inner.Graphs.{NodeView, brings_if, starts_if, starts_at, IsFactOf, LacksFeature, IsGraph}
use Rattle.facts.specs.inner.Graphs.{flag_at}
use Rattle.facts.specs.inner.Graphs.{flag_in}
use Rattle.facts.specs.inner.FactNumbers.{LinkView, FactNumbersView, unmarked_for, flags_of, flags_of_all}
use Rattle.facts.specs.inner.FactNumbers.{AreNumberedFrom}
use Rattle.facts.specs.inner.RuleLists.{number_on, all_rules, here_flags, lacks_flags, enabled_flags}
use Rattle.facts.specs.inner.Answers.{AreGivenBy}
use Rattle.facts.specs.declared.facts.Facts.{Facts}
use Rattle.facts.proofs.Numbers.{Mark, is_here, lacking, is_on, is_enabled, on_marks, enabled_marks, block, marks_from}
use Rattle.facts.proofs.Numbers.{IsNumbered, numbered}
use Rattle.facts.proofs.Sound.{IsTable, At, HoldsMark, rule_step, sound}
use Rattle.facts.proofs.Complete.{Got, got}

-- ---- each package has its numbers

length-on : (n : ℕ) (rows : Table) → length (on_marks n rows) ≡ length (unmarked_for rows)
length-on n [] = refl
length-on n (row ∷ rows) = ap suc (length-on n rows)

length-enabled : (n i : ℕ) (ds : List Dependency) → length (enabled_marks n i ds) ≡ length (unmarked_for ds)
length-enabled n i [] = refl
length-enabled n i (d ∷ ds) = ap suc (length-enabled n (suc i) ds)

length-block : (n : ℕ) (x : NodeView) → length (block n x) ≡ length (flags_of x)
length-block n x =
    let rows = x.brings.features in
    let ds = x.brings.dependencies in
    ap (λ m. suc (suc m)) (length-append (on_marks n rows) (enabled_marks n 0 ds)
    ∙ ap₂ (λ a b. a + b) (length-on n rows) (length-enabled n 0 ds)
    ∙ sym (length-append (unmarked_for rows) (unmarked_for ds)))

all_numbered : (front : List Mark) (n : ℕ) (xs : List NodeView) (ps : List FactNumbersView) (j : ℕ) (x : NodeView)
    (p : FactNumbersView) → AreNumberedFrom (length front) xs ps
    → slice_get xs j ≡ Some x → slice_get ps j ≡ Some p → IsNumbered (front ++ marks_from n xs) (n + j) x p
all_numbered front n [] ps j x p a e g = let z : None ≡ Some x = e in absurd cc
all_numbered front n (y ∷ ys) [] j x p a e g = absurd a
all_numbered front n (y ∷ ys) (q ∷ qs) zero x p a e g =
    let sx : y ≡ x = cc in
    let sp : q ≡ p = cc in
    let at : n ≡ n + 0 = omega arith in
    subst (λ m. IsNumbered (front ++ (block n y ++ marks_from (suc n) ys)) m x p) at
    (subst (λ z. IsNumbered (front ++ (block n y ++ marks_from (suc n) ys)) n z p) sx
    (subst (λ z. IsNumbered (front ++ (block n y ++ marks_from (suc n) ys)) n y z) sp
    (numbered front n y q (marks_from (suc n) ys) a.0)))
all_numbered front n (y ∷ ys) (q ∷ qs) (suc j) x p a e g =
    let at : suc n + j ≡ n + suc j = omega arith in
    let long : length front + length (flags_of y) ≡ length (front ++ block n y) =
    ap (λ m. length front + m) (sym (length-block n y)) ∙ sym (length-append front (block n y)) in
    subst (λ m. IsNumbered (front ++ (block n y ++ marks_from (suc n) ys)) m x p) at
    (subst (λ ms. IsNumbered ms (suc n + j) x p) (append_assoc front (block n y) (marks_from (suc n) ys))
    (all_numbered (front ++ block n y) (suc n) ys qs j x p (subst (λ m. AreNumberedFrom m ys qs) long a.1) e g))

numbers_there : (k : ℕ) (xs : List NodeView) (ps : List FactNumbersView) (j : ℕ) (x : NodeView)
    → AreNumberedFrom k xs ps → slice_get xs j ≡ Some x → (p : FactNumbersView) × (slice_get ps j ≡ Some p)
numbers_there k [] ps j x a e = let z : None ≡ Some x = e in absurd cc
numbers_there k (y ∷ ys) [] j x a e = absurd a
numbers_there k (y ∷ ys) (q ∷ qs) zero x a e = (q, refl)
numbers_there k (y ∷ ys) (q ∷ qs) (suc j) x a e = numbers_there (k + length (flags_of y)) ys qs j x a.1 e

node_there : (k : ℕ) (xs : List NodeView) (ps : List FactNumbersView) (j : ℕ) (p : FactNumbersView)
    → AreNumberedFrom k xs ps → slice_get ps j ≡ Some p → (x : NodeView) × (slice_get xs j ≡ Some x)
node_there k xs [] j p a e = let z : None ≡ Some p = e in absurd cc
node_there k [] (q ∷ qs) j p a e = absurd a
node_there k (y ∷ ys) (q ∷ qs) zero p a e = (y, refl)
node_there k (y ∷ ys) (q ∷ qs) (suc j) p a e = node_there (k + length (flags_of y)) ys qs j p a.1 e

table : (nodes : List NodeView) (ps : List FactNumbersView) → AreNumberedFrom 0 nodes ps
    → IsTable nodes ps (marks_from 0 nodes)
table nodes ps a = record {
  numbers = λ n x e. let r = numbers_there 0 nodes ps n x a e in (r.0, r.1, is n x r.0 e r.1);
  node = λ n p e. let r = node_there 0 nodes ps n p a e in (r.0, r.1, is n r.0 p r.1 e);
}
  where
    is : (n : ℕ) (x : NodeView) (p : FactNumbersView) → slice_get nodes n ≡ Some x → slice_get ps n ≡ Some p
        → IsNumbered (marks_from 0 nodes) n x p
    is n x p e g = let at : 0 + n ≡ n =
        omega arith in subst (λ m. IsNumbered (marks_from 0 nodes) m x p) at (all_numbered [] 0 nodes ps n x p a e g)

-- ---- what is marked from the start

abbrev flag : List NodeView → Mark → Bool
flag nodes (is_here n) = starts_at nodes n
flag nodes (lacking n) = false
flag nodes (is_on n f) = false
flag nodes (is_enabled n i) = false

module _ (all : List NodeView) where
  flags-on : (n : ℕ) (rows : Table) → unmarked_for rows ≡ map (flag all) (on_marks n rows)
  flags-on n [] = refl
  flags-on n (row ∷ rows) = ap (λ r. false ∷ r) (flags-on n rows)

  flags-enabled : (n i : ℕ) (ds : List Dependency) → unmarked_for ds ≡ map (flag all) (enabled_marks n i ds)
  flags-enabled n i [] = refl
  flags-enabled n i (d ∷ ds) = ap (λ r. false ∷ r) (flags-enabled n (suc i) ds)

  flags_are : (n : ℕ) (xs : List NodeView) → ((j : ℕ) → slice_get all (n + j) ≡ slice_get xs j)
      → flags_of_all xs ≡ map (flag all) (marks_from n xs)
  flags_are n [] h = refl
  flags_are n (x ∷ xs) h =
      let rows = x.brings.features in
      let ds = x.brings.dependencies in
      let zero_at : n ≡ n + 0 = omega arith in
      let first : x.starts ≡ starts_at all n =
      sym (ap (λ m. starts_if (slice_get all m)) zero_at ∙ ap starts_if (h 0)) in
      let tail : unmarked_for rows ++ unmarked_for ds ≡ map (flag all) (on_marks n rows ++ enabled_marks n 0 ds)
      = ap₂ (λ a b. a ++ b) (flags-on n rows) (flags-enabled n 0 ds)
      ∙ sym (map-append (flag all) (on_marks n rows) (enabled_marks n 0 ds)) in
      let own : flags_of x ≡ map (flag all) (block n x) = ap₂ (λ b r. b ∷ false ∷ r) first tail in
      ap₂ (λ a b. a ++ b) own (flags_are (suc n) xs
      (λ j. (let e : suc n + j ≡ n + suc j = omega arith in ap (slice_get all) e) ∙ h (suc j)))
      ∙ sym (map-append (flag all) (block n x) (marks_from (suc n) xs))

has-map : {X : Type 0} (f : X → Bool) (xs : List X) (k : ℕ) (x : X) → slice_get xs k ≡ Some x → has (map f xs) k ≡ f x
has-map f [] k x e = let z : None ≡ Some x = e in absurd cc
has-map f (y ∷ ys) zero x e = let s : y ≡ x = cc in ap f s
has-map f (y ∷ ys) (suc k) x e = has-map f ys k x e

has-back : {X : Type 0} (f : X → Bool) (xs : List X) (k : ℕ) → has (map f xs) k ≡ true
    → (x : X) × (slice_get xs k ≡ Some x) × (f x ≡ true)
has-back f [] k h = absurd (true≢false (sym h))
has-back f (y ∷ ys) zero h = (y, refl, h)
has-back f (y ∷ ys) (suc k) h = has-back f ys k h

lists-map : {X : Type 0} (f : X → List Bool) (xs : List X) (n : ℕ) (x : X) → slice_get xs n ≡ Some x
    → unwrap_or (slice_get (map f xs) n) [] ≡ f x
lists-map f [] n x e = let z : None ≡ Some x = e in absurd cc
lists-map f (y ∷ ys) zero x e = let s : y ≡ x = cc in ap f s
lists-map f (y ∷ ys) (suc n) x e = lists-map f ys n x e

lists-back : {X : Type 0} (f : X → List Bool) (xs : List X) (n i : ℕ)
    → has (unwrap_or (slice_get (map f xs) n) []) i ≡ true → (x : X) × (slice_get xs n ≡ Some x) × (has (f x) i ≡ true)
lists-back f [] n i h = absurd (true≢false (sym h))
lists-back f (y ∷ ys) zero i h = (y, refl, h)
lists-back f (y ∷ ys) (suc n) i h = lists-back f ys n i h

-- ---- the answers

module _ (nodes : List NodeView) (root : ℕ) (ps : List FactNumbersView) (a : AreNumberedFrom 0 nodes ps) where
  flags_is : flags_of_all nodes ≡ map (flag nodes) (marks_from 0 nodes)
  flags_is = flags_are nodes 0 nodes (λ j. let e : 0 + j ≡ j = omega arith in ap (slice_get nodes) e)

  below : (k : ℕ) (m : Mark) → slice_get (marks_from 0 nodes) k ≡ Some m → k < length (flags_of_all nodes)
  below k m e =
      let lt = slice_get_within (marks_from 0 nodes) k m e in
      let long : length (flags_of_all nodes) ≡ length (marks_from 0 nodes) =
      ap length flags_is ∙ length-map (marks_from 0 nodes) (flag nodes) in
      omega (arith, lt, long)

  -- the numbers of the rules are those of facts
  pub rules_below : AreBelow (length (flags_of_all nodes)) (all_rules root ps)
  rules_below k d lt =
      let r = get_or (all_rules root ps) k d in
      let s = rule_step nodes root ps (marks_from 0 nodes) (table nodes ps a) r
      (Contains-get_or (all_rules root ps) k d lt) in
      (below r.first s.a s.first, below r.second s.b s.second, below r.gives s.c s.gives)

  begin : (k : ℕ) → has (flags_of_all nodes) k ≡ true → (m : Mark) × (slice_get (marks_from 0 nodes) k ≡ Some m)
      × HoldsMark nodes root ps (marks_from 0 nodes) (table nodes ps a) m
  begin k h =
      let r = has-back (flag nodes) (marks_from 0 nodes) k (ap (λ fs. has fs k) (sym flags_is) ∙ h) in
      (r.0, r.1, by r.0 r.2)
    where
      by : (m : Mark) → flag nodes m ≡ true → HoldsMark nodes root ps (marks_from 0 nodes) (table nodes ps a) m
      by (is_here n) e = starts n e
      by (lacking n) e = absurd (true≢false (sym e))
      by (is_on n f) e = absurd (true≢false (sym e))
      by (is_enabled n i) e = absurd (true≢false (sym e))

  begun : (n : ℕ) (x : NodeView) (p : FactNumbersView) → At nodes ps (marks_from 0 nodes) n x p → x.starts ≡ true
      → has (flags_of_all nodes) p.here ≡ true
  begun n x p h s = ap (λ fs. has fs p.here) flags_is
      ∙ has-map (flag nodes) (marks_from 0 nodes) p.here (is_here n) h.is.here ∙ ap starts_if h.got ∙ s

  module _ (graph : IsGraph nodes) (set : List Bool)
      (given : (i : ℕ) → (has set i ≡ true) ↔ IsGiven (all_rules root ps) (flags_of_all nodes) i) where
    holds : (k : ℕ) (m : Mark) → slice_get (marks_from 0 nodes) k ≡ Some m → has set k ≡ true
        → HoldsMark nodes root ps (marks_from 0 nodes) (table nodes ps a) m
    holds k m e h =
        let s =
        sound nodes root ps (marks_from 0 nodes) (table nodes ps a) (flags_of_all nodes) begin k ((given k).0 h) in
        subst (HoldsMark nodes root ps (marks_from 0 nodes) (table nodes ps a)) (same_Some s.0 m (sym s.1 ∙ e)) s.2

    gets : (w : Fact ℕ) → IsFactOf nodes root w
        → Got nodes root ps (marks_from 0 nodes) (table nodes ps a) graph (flags_of_all nodes) begun w
    gets w h = got nodes root ps (marks_from 0 nodes) (table nodes ps a) graph (flags_of_all nodes) begun w h

    at : (n : ℕ) (p : FactNumbersView) → slice_get ps n ≡ Some p
        → (x : NodeView) × At nodes ps (marks_from 0 nodes) n x p
    at n p e = let r = (table nodes ps a).node n p e in (r.0, record { got = r.1; had = e; is = r.2 })

    pub here_holds : (n : ℕ) → (flag_at (here_flags set ps) n ≡ true) ↔ IsFactOf nodes root (here n)
    here_holds n = (
      λ h. (let r = has-back (λ p. has set p.here) ps n h in let q =
          at n r.0 r.1 in holds (r.0).here (is_here n) q.1.is.here r.2),
      λ h. (let g = gets (here n) h in
          has-map (λ p. has set p.here) ps n g.p g.at.had ∙ ap (has set) g.is ∙ (given g.k).1 g.given),
    )

    pub lacks_holds : (n : ℕ) → (flag_at (lacks_flags set ps) n ≡ true) ↔ LacksFeature nodes root n
    lacks_holds n = (
      λ h. (let r = has-back (λ p. has set p.lacks) ps n h in let q =
          at n r.0 r.1 in holds (r.0).lacks (lacking n) q.1.is.lacks r.2),
      λ h. (
          let g = gets (on n h.0) h.1 in
          let none : has_feature (g.x).brings.features h.0 ≡ false =
          ap (λ (o : Summary). has_feature o.features h.0) (sym (ap brings_if g.at.got)) ∙ h.2 in
          has-map (λ p. has set p.lacks) ps n g.p g.at.had ∙ ap (has set) (is_lacks n g.x g.p h.0 g.at none ∙ g.is)
          ∙ (given g.k).1 g.given),
    )
      where
        is_lacks : (n : ℕ) (x : NodeView) (p : FactNumbersView) (f : List ℕ) → At nodes ps (marks_from 0 nodes) n x p
            → has_feature x.brings.features f ≡ false → p.lacks ≡ number_on p f
        is_lacks n x p f h none = by (p.numbers f) refl
          where
            by : (o : Option ℕ) → p.numbers f ≡ o → p.lacks ≡ unwrap_or o p.lacks
            by None e = refl
            by (Some k) e = absurd (true≢false (sym (h.is.on f k e).1 ∙ none))

    pub enabled_holds : (n i : ℕ) → (flag_in (enabled_flags set ps) n i ≡ true) ↔ IsFactOf nodes root (enabled n i)
    enabled_holds n i = (
      λ h. (
          let r = lists-back (λ p. map (λ l. has set l.enabled) p.links) ps n i h in
          let q = at n r.0 r.1 in
          let l = has-back (λ l. has set l.enabled) (r.0).links i r.2 in
          let d = q.1.is.back i l.0 l.1 in
          let k = q.1.is.link i d.0 d.1 in
          let same : (k.0).enabled ≡ (l.0).enabled =
          ap (λ (l : LinkView). l.enabled) (same_Some k.0 l.0 (sym k.1 ∙ l.1)) in
          holds (l.0).enabled (is_enabled n i) (ap (slice_get (marks_from 0 nodes)) (sym same) ∙ k.2.enabled) l.2),
      λ h. (
          let g = gets (enabled n i) h in
          ap (λ fs. flag_at fs i) (lists-map (λ p. map (λ l. has set l.enabled) p.links) ps n g.p g.at.had)
          ∙ has-map (λ l. has set l.enabled) (g.p).links i (g.is).0 (g.is).1 ∙ ap (has set) (g.is).2
          ∙ (given g.k).1 g.given),
    )

-- ---- the same of what the code has made

-- a set is closed under the rules of the packages
pub record IsClosed (nodes : List NodeView) (root : ℕ) (ps : List FactNumbersView) (set : List Bool) : Type 0 where
  pub packages : AreNumberedFrom 0 nodes ps
  pub graph : IsGraph nodes
  pub given : (i : ℕ) → (has set i ≡ true) ↔ IsGiven (all_rules root ps) (flags_of_all nodes) i

pub numbers_made : (nodes : List NodeView) (ps : List FactNumbersView) (none : List Bool) → none ≡ []
    → AreNumberedFrom (length none) nodes ps → AreNumberedFrom 0 nodes ps
numbers_made nodes ps none e a = subst (λ m. AreNumberedFrom (length m) nodes ps) e a

pub closed_made : (nodes : List NodeView) (root : ℕ) (ps : List FactNumbersView) (none flags set : List Bool)
    (rs : List Rule) → none ≡ [] → AreNumberedFrom (length none) nodes ps
    → flags ≡ none ++ flags_of_all nodes → rs ≡ all_rules root ps → IsGraph nodes
    → ((i : ℕ) → (has set i ≡ true) ↔ IsGiven rs flags i) → IsClosed nodes root ps set
closed_made nodes root ps none flags set rs e a fs is graph given = record {
  packages = numbers_made nodes ps none e a;
  graph = graph;
  given = λ i.
      subst₂ (λ rs fs. (has set i ≡ true) ↔ IsGiven rs fs i) is (fs ∙ ap (λ m. m ++ flags_of_all nodes) e) (given i);
}

pub below_made : (nodes : List NodeView) (root : ℕ) (ps : List FactNumbersView) (none flags : List Bool)
    (rs : List Rule) → none ≡ [] → AreNumberedFrom (length none) nodes ps
    → flags ≡ none ++ flags_of_all nodes → rs ≡ all_rules root ps → AreBelow (length flags) rs
below_made nodes root ps none flags rs e a fs is =
    subst₂ (λ fs rs. AreBelow (length fs) rs) (sym (fs ∙ ap (λ m. m ++ flags_of_all nodes) e)) (sym is)
    (rules_below nodes root ps (numbers_made nodes ps none e a))

module _ (nodes : List NodeView) (root : ℕ) (ps : List FactNumbersView) (set : List Bool)
    (k : IsClosed nodes root ps set) where
  pub here_shown : (fs : List Bool) → fs ≡ here_flags set ps → (n : ℕ)
      → (flag_at fs n ≡ true) ↔ IsFactOf nodes root (here n)
  here_shown fs e n = subst (λ fs. (flag_at fs n ≡ true) ↔ IsFactOf nodes root (here n)) (sym e)
      (here_holds nodes root ps k.packages k.graph set k.given n)

  pub lacks_shown : (fs : List Bool) → fs ≡ lacks_flags set ps → (n : ℕ)
      → (flag_at fs n ≡ true) ↔ LacksFeature nodes root n
  lacks_shown fs e n = subst (λ fs. (flag_at fs n ≡ true) ↔ LacksFeature nodes root n) (sym e)
      (lacks_holds nodes root ps k.packages k.graph set k.given n)

  pub enabled_shown : (fs : List (List Bool)) → fs ≡ enabled_flags set ps → (n i : ℕ)
      → (flag_in fs n i ≡ true) ↔ IsFactOf nodes root (enabled n i)
  enabled_shown fs e n i = subst (λ fs. (flag_in fs n i ≡ true) ↔ IsFactOf nodes root (enabled n i)) (sym e)
      (enabled_holds nodes root ps k.packages k.graph set k.given n i)

-- what the answers say, where the rules and the start are those of the packages
module _ {E : Type 0} (nodes : List NodeView) (root : ℕ) (ps qs : List FactNumbersView) (none flags : List Bool)
    (rs : List Rule) (r : Result Facts E) (e : none ≡ [])
    (a : AreNumberedFrom (length none) nodes ps) (fs : flags ≡ none ++ flags_of_all nodes)
    (is : rs ≡ all_rules root ps) (graph : IsGraph nodes) (same : qs ≡ ps)
    (shows : IfOk r (AreGivenBy rs flags qs)) where
  shown : (f : Facts) → AreGivenBy rs flags qs f → AreGivenBy rs flags ps f
  shown f g = subst (λ ps. AreGivenBy rs flags ps f) same g

  pub here_made : IfOk r (λ f. (n : ℕ) → (flag_at f.here.items n ≡ true) ↔ IsFactOf nodes root (here n))
  here_made =
      IfOk-weaker r (AreGivenBy rs flags qs)
      (λ f. (n : ℕ) → (flag_at f.here.items n ≡ true) ↔ IsFactOf nodes root (here n))
      (λ f g. let s = shown f g in here_shown nodes root ps s.set
      (closed_made nodes root ps none flags s.set rs e a fs is graph s.given) f.here.items s.here) shows

  pub enabled_made : IfOk r
      (λ f. (n i : ℕ) → (flag_in (map (λ v. v.items) f.enabled.items) n i ≡ true) ↔ IsFactOf nodes root (enabled n i))
  enabled_made = IfOk-weaker r (AreGivenBy rs flags qs)
      (λ f. (n i : ℕ) → (flag_in (map (λ v. v.items) f.enabled.items) n i ≡ true) ↔ IsFactOf nodes root (enabled n i))
      (λ f g. let s = shown f g in enabled_shown nodes root ps s.set (closed_made nodes root ps none flags s.set rs e
      a fs is graph s.given) (map (λ v. v.items) f.enabled.items) s.enabled) shows

  pub lacks_made : IfOk r (λ f. (n : ℕ) → (flag_at f.lacks.items n ≡ true) ↔ LacksFeature nodes root n)
  lacks_made =
      IfOk-weaker r (AreGivenBy rs flags qs)
      (λ f. (n : ℕ) → (flag_at f.lacks.items n ≡ true) ↔ LacksFeature nodes root n)
      (λ f g. let s = shown f g in lacks_shown nodes root ps s.set
      (closed_made nodes root ps none flags s.set rs e a fs is graph s.given) f.lacks.items s.lacks) shows
