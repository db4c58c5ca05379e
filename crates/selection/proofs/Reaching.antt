-- What the rules of the lists give from the root is what lists lead to.
use Rattle.std.proofs.Common.{◌≡◌, ℕ, zero, suc, ◌+◌, ◌<◌, ◌↔◌, Bool, true, List, [], ◌∷◌, ◌++◌, length, take, drop}
use Rattle.std.proofs.Common.{◌≤◌, Contains, Some, slice_get, append_assoc, refl, sym, ap, ◌∙◌, subst, arith, inl, inr}
use Rattle.std.specs.List.{All}
use Rattle.std.proofs.lemmas.List.{append-nil, drop_all, take_all}
use Rattle.std.proofs.lemmas.Option.{slice_get_within, none-some, same_Some}
use Rattle.std.proofs.lemmas.List.Elements.{Contains-append_left, Contains-append_cases, Contains-append_right}
use Rattle.facts.specs.inner.Chains.{has, IsGiven, AreBelow}
use Rattle.facts.specs.inner.Chains.IsGiven.{begins, follows}
use Rattle.facts.specs.declared.rule.Rule.{Rule}
use Rattle.model.specs.Content.{Package, Content, Problem}
use Rattle.model.specs.Selection.{IsReached}
use Rattle.model.specs.Selection.IsReached.{root as at_root, listed as by_list}
use Rattle.model.specs.Order.{IsContent}
use Rattle.model.proofs.Contents.{within_at}
use Rattle.model.proofs.Lists.{in_none, in_map, to_map}
use Rattle.model.proofs.Members.{all_in}
use Rattle.selection.specs.inner.Graphs.{IsOnlyRoot}
use Rattle.selection.specs.inner.Places.{rules_at, rules_from}

-- a rule is one of a package's list
pub record IsListed (n : ℕ) (ps : Content) (r : Rule) : Type 0 where
  pub offset : ℕ
  pub package_there : Package
  pub stands : slice_get ps offset ≡ Some package_there
  pub place : ℕ
  pub listed : Contains package_there.list place
  pub is : record { first = n + offset; second = n + offset; gives = place } ≡ r

rule_of : (n : ℕ) (ps : Content) (r : Rule) → Contains (rules_from n ps) r → IsListed n ps r
rule_of n [] r c = absurd (in_none r c)
rule_of n (p ∷ ps) r c = elim (Contains-append_cases (rules_at n p.list) (rules_from (suc n) ps) r c) [
  | inl a ↦ here (in_map (λ t. record { first = n; second = n; gives = t }) p.list r a)
  | inr b ↦ later (rule_of (suc n) ps r b)
]
  where
    here : (x : ℕ) × Contains p.list x × (record { first = n; second = n; gives = x } ≡ r) → IsListed n (p ∷ ps) r
    here h = record {
      offset = 0;
      package_there = p;
      stands = refl;
      place = h.0;
      listed = h.1;
      is = (let e : n + 0 ≡ n = omega arith in ap (λ k. record { first = k; second = k; gives = h.0 }) e ∙ h.2);
    }

    later : IsListed (suc n) ps r → IsListed n (p ∷ ps) r
    later l = record {
      offset = suc l.offset;
      package_there = l.package_there;
      stands = l.stands;
      place = l.place;
      listed = l.listed;
      is = (let e : n + suc l.offset ≡ suc n + l.offset =
          omega arith in ap (λ k. record { first = k; second = k; gives = l.place }) e ∙ l.is);
    }

rule_there : (n m k t : ℕ) (ps : Content) (p : Package) → m ≡ n + k → slice_get ps k ≡ Some p → Contains p.list t
    → Contains (rules_from n ps) (record { first = m; second = m; gives = t })
rule_there n m k t [] p at e c = absurd (none-some p e)
rule_there n m zero t (s ∷ ps) p at e c =
    let same : n ≡ m = omega arith in
    Contains-append_left (rules_at n s.list) (rules_from (suc n) ps) (record { first = m; second = m; gives = t })
    (subst (λ k. Contains (rules_at n s.list) (record { first = k; second = k; gives = t })) same
    (to_map (λ t. record { first = n; second = n; gives = t }) s.list t
    (subst (λ (x : Package). Contains x.list t) (sym (same_Some s p e)) c)))
rule_there n m (suc k) t (s ∷ ps) p at e c =
    Contains-append_right (rules_at n s.list) (rules_from (suc n) ps) (record { first = m; second = m; gives = t })
    (rule_there (suc n) m k t ps p (omega arith) e c)

-- one package more
pub rules_more : (n k : ℕ) (ps : Content) (p : Package) → slice_get ps k ≡ Some p
    → rules_from n (take (suc k) ps) ≡ rules_from n (take k ps) ++ rules_at (n + k) p.list
rules_more n k [] p e = absurd (none-some p e)
rules_more n zero (s ∷ ps) p e =
    let here : n ≡ n + 0 = omega arith in
    append-nil (rules_at n s.list) ∙ ap (λ k. rules_at k s.list) here
    ∙ ap (λ (x : Package). rules_at (n + 0) x.list) (same_Some s p e)
rules_more n (suc k) (s ∷ ps) p e =
    let here : suc n + k ≡ n + suc k = omega arith in
    ap (λ rs. rules_at n s.list ++ rs)
    (rules_more (suc n) k ps p e ∙ ap (λ m. rules_from (suc n) (take k ps) ++ rules_at m p.list) here)
    ∙ sym (append_assoc (rules_at n s.list) (rules_from (suc n) (take k ps)) (rules_at (n + suc k) p.list))

pub rules_step : (k : ℕ) (ps : Content) (p : Package) → slice_get ps k ≡ Some p → (was now : List Rule)
    → was ≡ rules_from 0 (take k ps) → now ≡ was ++ rules_at k p.list → now ≡ rules_from 0 (take (k + 1) ps)
rules_step k ps p got was now w n =
    let zero_more : k ≡ 0 + k = omega arith in
    let one_more : suc k ≡ k + 1 = omega arith in
    n ∙ ap (λ rs. rs ++ rules_at k p.list) w ∙ ap (λ m. rules_from 0 (take k ps) ++ rules_at m p.list) zero_more
    ∙ sym (rules_more 0 k ps p got) ∙ ap (λ m. rules_from 0 (take m ps)) one_more

-- what is written back into a vector
written : {X : Type 0} (len : ℕ) (new items : List X) → length new ≡ length items → length new ≤ len
    → take len (new ++ drop (length new) items) ≡ new
written len new items e le = ap (λ t. take len (new ++ t)) (drop_all (length new) items (omega (arith, e)))
    ∙ ap (take len) (append-nil new) ∙ take_all len new le

module _ (content : Content) (formed : IsContent content) where
  pub rules_below : AreBelow (length content) (rules_from 0 content)
  rules_below = all_in (λ (r : Rule). (r.first < length content) × (r.second < length content)
      × (r.gives < length content)) (rules_from 0 content) (λ r c. below r (rule_of 0 content r c))
    where
      contained : (P : ℕ → Type 0) (xs : List ℕ) (x : ℕ) → All P xs → Contains xs x → P x
      contained P xs x h c = subst P c.2 (h c.0 x c.1)

      below : (r : Rule) → IsListed 0 content r
          → (r.first < length content) × (r.second < length content) × (r.gives < length content)
      below r l =
          let here = slice_get_within content l.offset l.package_there l.stands in
          let first : r.first ≡ 0 + l.offset = ap (λ (x : Rule). x.first) (sym l.is) in
          let second : r.second ≡ 0 + l.offset = ap (λ (x : Rule). x.second) (sym l.is) in
          let gives : r.gives ≡ l.place = ap (λ (x : Rule). x.gives) (sym l.is) in
          let there = contained (λ t. t < length content) l.package_there.list l.place
          (within_at content formed l.offset l.package_there l.stands) l.listed in
          (omega arith, omega arith, subst (λ t. t < length content) (sym gives) there)

  module _ (q : Problem) (root : ℕ) (only : IsOnlyRoot q content root) (start : List Bool)
      (begun : (n : ℕ) → (has start n ≡ true) ↔ (n ≡ root)) where
    given_reached : (n : ℕ) → IsGiven (rules_from 0 content) start n → IsReached q content n
    given_reached n (begins i h) = at_root i ((only i).1 ((begun i).0 h))
    given_reached n (follows r c f s) =
        let l = rule_of 0 content r c in
        let first : r.first ≡ l.offset =
        ap (λ (x : Rule). x.first) (sym l.is) ∙ (let e : 0 + l.offset ≡ l.offset = omega arith in e) in
        let gives : l.place ≡ r.gives = ap (λ (x : Rule). x.gives) l.is in
        subst (λ t. IsReached q content t) gives
        (by_list l.offset l.place l.package_there
        (subst (λ k. IsReached q content k) first (given_reached r.first f)) l.stands l.listed)

    reached_given : (n : ℕ) → IsReached q content n → IsGiven (rules_from 0 content) start n
    reached_given n (at_root i h) = begins i ((begun i).1 ((only i).0 h))
    reached_given n (by_list i t p h got c) =
        let there = rule_there 0 i i t content p (let e : i ≡ 0 + i = omega arith in e) got c in
        follows (record { first = i; second = i; gives = t }) there (reached_given i h) (reached_given i h)

    pub reached_is : (n : ℕ) → IsGiven (rules_from 0 content) start n ↔ IsReached q content n
    reached_is n = (given_reached n, reached_given n)

  pub closed : (q : Problem) (root : ℕ) → IsOnlyRoot q content root → (rules : List Rule) (start done items : List Bool)
      (len : ℕ) → rules ≡ rules_from 0 content → ((n : ℕ) → (has start n ≡ true) ↔ (n ≡ root))
      → ((i : ℕ) → (has done i ≡ true) ↔ IsGiven rules start i) → length done ≡ length items → length done ≤ len
      → (n : ℕ) → (has (take len (done ++ drop (length done) items)) n ≡ true) ↔ IsReached q content n
  closed q root only rules start done items len r begun given same le n =
      subst (λ s. (has s n ≡ true) ↔ IsReached q content n) (sym (written len done items same le))
      (let g = subst (λ rs. (has done n ≡ true) ↔ IsGiven rs start n) r (given n) in
      let to = reached_is q root only start begun n in
      (λ h. to.0 (g.0 h), λ h. g.1 (to.1 h)))
