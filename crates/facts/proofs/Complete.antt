-- All facts are given by the rules.
use Rattle.std.proofs.Common.{◌≡◌, ℕ, ◌<◌, List, [], ◌∷◌, length, Bool, true, false, not, ◌||◌, cond, nat_eq, Option}
use Rattle.std.proofs.Common.{Some, None, slice_get, option_and_then, Contains, refl, sym, ap, ◌∙◌, subst, true≢false}
use Rattle.std.specs.List.{flat_map}
use Rattle.std.proofs.lemmas.Bool.{eq-eqb}
use Rattle.std.proofs.lemmas.List.Elements.{Contains-append_left, Contains-append_right}
use Rattle.std.proofs.lemmas.Option.{same_Some}
use Rattle.std.proofs.Math.Bool.{or-true}
use Rattle.facts.specs.declared.rule.Rule.{Rule}
use Rattle.facts.specs.inner.Chains.{has, IsGiven}
use Rattle.facts.specs.inner.Chains.IsGiven.{begins, follows}
use Rattle.model.specs.Summary.{Summary, Dependency, Entry, feature, dependency, dependency_feature, weak_feature}
use Rattle.model.specs.Summary.{same_text, entries_at, asked_of_target}
use Rattle.model.specs.Selection.{Fact, here, on, enabled, Brings, Lists}
use Rattle.model.specs.Selection.Holds.{starts, arrives, root_needs, needs, asks, root_wants, turns_on, enables}
use Rattle.model.specs.Selection.Holds.{enables_for, wants, wants_weakly}
use Rattle.model.proofs.Same.{text-refl}
use Rattle.model.proofs.Lists.{in_none, in_first, in_rest, to_filter, all_get}
use Rattle.model.proofs.Flat.{to_flat, in_flat}
use Rattle.model.proofs.Places.{some_at, got_in}
use Rattle.manifest.specs.Manifests.{root_asks, asked_by}
use Rattle.facts.specs.inner.Graphs.{NodeView, brings_if, starts_if, target_if, brings_at, target_at, IsFactOf}
use Rattle.facts.specs.inner.Graphs.{AreWithin}
use Rattle.facts.specs.inner.Graphs.{IsGraph}
use Rattle.facts.specs.inner.FactNumbers.{LinkView, FactNumbersView}
use Rattle.facts.specs.inner.RuleLists.{one, both, number_on, package_at, ask, ask_features, arrive, is_needed, need}
use Rattle.facts.specs.inner.RuleLists.{enable_all, ask_all, entry_rules, root_rules, all_rules}
use Rattle.facts.proofs.Numbers.{Mark, IsLink}
use Rattle.facts.proofs.Members.{in_one, to_link, to_entry, to_root}
use Rattle.facts.proofs.Sound.{IsTable, At}

eq-refl : (n : ℕ) → nat_eq n n ≡ true
eq-refl n = eq-eqb n n refl

module _ (nodes : List NodeView) (root : ℕ) (ps : List FactNumbersView) (marks : List Mark)
    (t : IsTable nodes ps marks) (graph : IsGraph nodes)
    (flags : List Bool) (begun : (n : ℕ) (x : NodeView) (p : FactNumbersView) → At nodes ps marks n x p
    → x.starts ≡ true → has flags p.here ≡ true) where
  abbrev IsAt : ℕ → NodeView → FactNumbersView → Type 0
  IsAt = At nodes ps marks

  abbrev G : ℕ → Type 0
  G = IsGiven (all_rules root ps) flags

  -- the number of a fact is given
  pub record IsGot (n : ℕ) (number : FactNumbersView → ℕ → Type 0) : Type 0 where
    pub x : NodeView
    pub p : FactNumbersView
    pub at : At nodes ps marks n x p
    pub k : ℕ
    pub is : number p k
    pub given : IsGiven (all_rules root ps) flags k

  abbrev pub Got : Fact ℕ → Type 0
  Got (here n) = IsGot n (λ p k. p.here ≡ k)
  Got (on n f) = IsGot n (λ p k. number_on p f ≡ k)
  Got (enabled n i) = IsGot n (λ p k. (l : LinkView) × (slice_get p.links i ≡ Some l) × (l.enabled ≡ k))

  brings_is : (n : ℕ) (x : NodeView) (p : FactNumbersView) → IsAt n x p → brings_at nodes n ≡ x.brings
  brings_is n x p h = ap brings_if h.got

  same_numbers : (n : ℕ) (x y : NodeView) (p q : FactNumbersView) → IsAt n x p → IsAt n y q → p ≡ q
  same_numbers n x y p q a b = same_Some p q (sym a.had ∙ b.had)

  -- the dependency with its number
  record Dep (n : ℕ) (x : NodeView) (p : FactNumbersView) (i : ℕ) (d : Dependency) : Type 0 where
    pub l : LinkView
    pub had : slice_get p.links i ≡ Some l
    pub is : IsLink marks n x.targets i d l

  dep : (n : ℕ) (x : NodeView) (p : FactNumbersView) (i : ℕ) (d : Dependency) → IsAt n x p
      → Brings (brings_at nodes) n i d → Dep n x p i d
  dep n x p i d h b = let r =
      h.is.link i d (ap (λ (o : Summary). slice_get o.dependencies i) (sym (brings_is n x p h)) ∙ b) in
      record { l = r.0; had = r.1; is = r.2 }

  -- the number of an enabled dependency
  enabled_given : (n : ℕ) (x : NodeView) (p : FactNumbersView) (i : ℕ) (d : Dependency) → IsAt n x p
      → (k : Dep n x p i d) → Got (enabled n i) → G (k.l).enabled
  enabled_given n x p i d h k got =
      let s : got.p ≡ p = same_numbers n got.x x got.p p got.at h in
      let e : (got.is).0 ≡ k.l =
      same_Some (got.is).0 k.l (sym (got.is).1 ∙ ap (λ (q : FactNumbersView). slice_get q.links i) s ∙ k.had) in
      subst G (sym (got.is).2 ∙ ap (λ (l : LinkView). l.enabled) e) got.given

  here_given : (n : ℕ) → (got : Got (here n)) → G (got.p).here
  here_given n got = subst G (sym got.is) got.given

  on_given : (n : ℕ) (f : List ℕ) → (got : Got (on n f)) → G (number_on got.p f)
  on_given n f got = subst G (sym got.is) got.given

  -- the target of a dependency
  record To (u : ℕ) (l : LinkView) : Type 0 where
    pub y : NodeView
    pub q : FactNumbersView
    pub at : At nodes ps marks u y q
    pub leads : package_at ps l.target ≡ Some q

  inner_some : (targets : List (Option ℕ)) (i u : ℕ) → option_and_then (λ o. o) (slice_get targets i) ≡ Some u
      → slice_get targets i ≡ Some (Some u)
  inner_some targets i u e = by (slice_get targets i) refl e
    where
      by : (o : Option (Option ℕ)) → slice_get targets i ≡ o → option_and_then (λ o. o) o ≡ Some u
          → slice_get targets i ≡ Some (Some u)
      by None z e = let w : None ≡ Some u = e in absurd cc
      by (Some v) z e = z ∙ ap Some e

  to : (n : ℕ) (x : NodeView) (p : FactNumbersView) (i : ℕ) (d : Dependency) (u : ℕ) → IsAt n x p → (k : Dep n x p i d)
      → target_at nodes n i ≡ Some u → To u k.l
  to n x p i d u h k e =
      let e2 : option_and_then (λ o. o) (slice_get x.targets i) ≡ Some u = ap (target_if i) (sym h.got) ∙ e in
      let within = all_get (λ (x : NodeView). AreWithin (length nodes) x.targets) nodes n x graph h.got in
      let lt = all_get (λ o. (t : ℕ) → o ≡ Some t → t < length nodes) x.targets i (Some u) within
      (inner_some x.targets i u e2) u refl in
      let y = some_at nodes u lt in
      let q = t.numbers u y.0 y.1 in
      record {
        y = y.0;
        q = q.0;
        at = record { got = y.1; had = q.1; is = q.2 };
        leads = ap (package_at ps) ((k.is).target ∙ e2) ∙ q.1;
      }

  by_rule : (r : Rule) → Contains (all_rules root ps) r → G r.first → G r.second → G r.gives
  by_rule r c f s = follows r c f s

  -- what the arrival of a target gives
  arrived : (n : ℕ) (x : NodeView) (p : FactNumbersView) (i : ℕ) (d : Dependency) (u : ℕ) (r : Rule) → IsAt n x p
      → (k : Dep n x p i d) → (g : To u k.l)
      → Contains (arrive k.l (Some g.q)) r → Contains (all_rules root ps) r
  arrived n x p i d u r h k g c = to_link ps root n p i k.l r h.had k.had
      (Contains-append_right (need (nat_eq n root) p.here k.l) (arrive k.l (package_at ps (k.l).target)) r
      (subst (λ o. Contains (arrive k.l o) r) (sym g.leads) c))

  needed : (n : ℕ) (x : NodeView) (p : FactNumbersView) (i : ℕ) (d : Dependency) → IsAt n x p → (k : Dep n x p i d)
      → is_needed (nat_eq n root) k.l ≡ true → G p.here → G (k.l).enabled
  needed n x p i d h k e g =
      let r = one p.here (k.l).enabled in
      by_rule r
      (to_link ps root n p i k.l r h.had k.had
      (Contains-append_left (need (nat_eq n root) p.here k.l) (arrive k.l (package_at ps (k.l).target)) r
      (subst (λ b. Contains (cond b (r ∷ []) []) r) (sym e) (in_first r [])))) g g

  enabled_got : (n : ℕ) (x : NodeView) (p : FactNumbersView) (i : ℕ) (d : Dependency) → IsAt n x p → (k : Dep n x p i d)
      → G (k.l).enabled → Got (enabled n i)
  enabled_got n x p i d h k g = record { x = x; p = p; at = h; k = (k.l).enabled; is = (k.l, k.had, refl); given = g }

  on_got : (u : ℕ) (f : List ℕ) (l : LinkView) (g : To u l) → G (number_on g.q f) → Got (on u f)
  on_got u f l g h = record { x = g.y; p = g.q; at = g.at; k = number_on g.q f; is = refl; given = h }

  -- dependencies that are called so
  called : (n : ℕ) (x : NodeView) (p : FactNumbersView) (i : ℕ) (d : Dependency) → IsAt n x p → (k : Dep n x p i d)
      → Contains (p.called d.name) k.l
  called n x p i d h k = subst (λ ls. Contains ls k.l) (sym (h.is.called d.name))
      (to_filter (λ (l : LinkView). same_text d.name l.dependency.name) p.links k.l (got_in p.links i k.l k.had)
      (ap (λ (e : Dependency). same_text d.name e.name) (k.is).dependency ∙ text-refl d.name))

  -- a rule of an entry of a feature of the package
  of_entry : (n : ℕ) (x : NodeView) (p : FactNumbersView) (f : List ℕ) (e : Entry) (r : Rule) → IsAt n x p
      → Lists (brings_at nodes) n f e → Contains (entry_rules ps p (number_on p f) e) r
      → Contains (all_rules root ps) r
  of_entry n x p f e r h l c = to_entry ps root n p f l.0 e r h.had
      (ap (λ (o : Summary). entries_at f o.features) (h.is.brings ∙ sym (brings_is n x p h)) ∙ l.1) l.2 c

  -- asking the target of a dependency
  asked : (a b : ℕ) (l : LinkView) (u : ℕ) (g : List ℕ) (q : To u l)
      → Contains (ask a b (package_at ps l.target) g) (both a b (number_on q.q g))
  asked a b l u g q = subst (λ o. Contains (ask a b o g) (both a b (number_on q.q g))) (sym q.leads)
      (in_first (both a b (number_on q.q g)) [])

  pub got : (w : Fact ℕ) → IsFactOf nodes root w → Got w
  got w (starts n s) = by (slice_get nodes n) refl s
    where
      by : (o : Option NodeView) → slice_get nodes n ≡ o → starts_if o ≡ true → Got (here n)
      by None z s = absurd (true≢false (sym s))
      by (Some x) z s =
          let q = t.numbers n x z in
          let h : IsAt n x q.0 = record { got = z; had = q.1; is = q.2 } in
          record { x = x; p = q.0; at = h; k = (q.0).here; is = refl; given = begins (q.0).here (begun n x q.0 h s) }
  got w (arrives n u i d h b l) =
      let e = got (enabled n i) h in
      let k = dep n e.x e.p i d e.at b in
      let g = to n e.x e.p i d u e.at k l in
      let r = one (k.l).enabled (g.q).here in
      let on_it = enabled_given n e.x e.p i d e.at k e in
      record {
        x = g.y;
        p = g.q;
        at = g.at;
        k = (g.q).here;
        is = refl;
        given = by_rule r (arrived n e.x e.p i d u r e.at k g
            (in_first r (ask_features (k.l).enabled g.q (asked_of_target (k.l).dependency)))) on_it on_it;
      }
  got w (root_needs n i d h is b) =
      let e = got (here n) h in
      let k = dep n e.x e.p i d e.at b in
      enabled_got n e.x e.p i d e.at k
      (needed n e.x e.p i d e.at k
      (ap (λ b. b || not (k.l).dependency.optional) (ap (nat_eq n) (sym is) ∙ eq-refl n)) (here_given n e))
  got w (needs n i d h b o) =
      let e = got (here n) h in
      let k = dep n e.x e.p i d e.at b in
      let opt : (k.l).dependency.optional ≡ false = ap (λ (d : Dependency). d.optional) (k.is).dependency ∙ o in
      enabled_got n e.x e.p i d e.at k (needed n e.x e.p i d e.at k
      (ap (λ c. nat_eq n root || not c) opt ∙ or-true (nat_eq n root)) (here_given n e))
  got w (asks n u i d f h b l a) =
      let e = got (enabled n i) h in
      let k = dep n e.x e.p i d e.at b in
      let g = to n e.x e.p i d u e.at k l in
      let r = one (k.l).enabled (number_on g.q f) in
      let on_it = enabled_given n e.x e.p i d e.at k e in
      let has : Contains (asked_of_target (k.l).dependency) f =
      subst (λ d. Contains (asked_of_target d) f) (sym (k.is).dependency) a in
      on_got u f k.l g
      (by_rule r (arrived n e.x e.p i d u r e.at k g (in_rest (one (k.l).enabled (g.q).here) r
      (ask_features (k.l).enabled g.q (asked_of_target (k.l).dependency))
      (to_flat (λ f. one (k.l).enabled (number_on g.q f) ∷ []) (asked_of_target (k.l).dependency) f r has
      (in_first r [])))) on_it on_it)
  got w (root_wants n u i d g h is b l a) =
      let e = got (here n) h in
      let k = dep n e.x e.p i d e.at b in
      let q = to n e.x e.p i d u e.at k l in
      let hn = (e.p).here in
      let r = both hn hn (number_on q.q g) in
      let rows : (brings_at nodes root).features ≡ (e.p).brings.features = ap (λ (o : Summary). o.features)
      (ap (brings_at nodes) (sym is) ∙ brings_is n e.x e.p e.at ∙ sym e.at.is.brings) in
      let row = in_flat (λ row. flat_map asked_by row.1) (e.p).brings.features (d.name, g)
      (subst (λ t. Contains (root_asks t) (d.name, g)) rows a) in
      let entry = in_flat asked_by (row.0).1 (d.name, g) row.2 in
      let all : Contains (ask_all ps hn ((e.p).called d.name) g) r
      = to_flat (λ l. ask hn hn (package_at ps l.target) g) ((e.p).called d.name) k.l r (called n e.x e.p i d e.at k)
      (asked hn hn k.l u g q) in
      let hg = here_given n e in
      on_got u g k.l q
      (by_rule r (to_root ps root n e.p row.0 entry.0 r e.at.had (ap (nat_eq n) (sym is) ∙ eq-refl n) row.1 entry.1
      (root_rule entry.0 e.p d.name g r entry.2 all)) hg hg)
    where
      root_rule : (e : Entry) (p : FactNumbersView) (d g : List ℕ) (r : Rule) → Contains (asked_by e) (d, g)
          → Contains (ask_all ps p.here (p.called d) g) r → Contains (root_rules ps p e) r
      root_rule (feature f) p d g r c all = absurd (in_none (d, g) c)
      root_rule (dependency f) p d g r c all = absurd (in_none (d, g) c)
      root_rule (dependency_feature a f) p d g r c all = let s = in_one (a, f) (d, g) c in
          subst (λ (z : List ℕ × List ℕ). Contains (ask_all ps p.here (p.called z.0) z.1) r) (sym s) all
      root_rule (weak_feature a f) p d g r c all = let s = in_one (a, f) (d, g) c in
          subst (λ (z : List ℕ × List ℕ). Contains (ask_all ps p.here (p.called z.0) z.1) r) (sym s) all
  got w (turns_on n f g h l) =
      let e = got (on n f) h in
      let r = one (number_on e.p f) (number_on e.p g) in
      let o = on_given n f e in
      record {
        x = e.x;
        p = e.p;
        at = e.at;
        k = number_on e.p g;
        is = refl;
        given = by_rule r (of_entry n e.x e.p f (feature g) r e.at l (in_first r [])) o o;
      }
  got w (enables n i d f h b l) =
      let e = got (on n f) h in
      let k = dep n e.x e.p i d e.at b in
      let a = number_on e.p f in
      let r = one a (k.l).enabled in
      let o = on_given n f e in
      enabled_got n e.x e.p i d e.at k
      (by_rule r (of_entry n e.x e.p f (dependency d.name) r e.at l
      (to_flat (λ l. one a l.enabled ∷ []) ((e.p).called d.name) k.l r (called n e.x e.p i d e.at k) (in_first r []))) o
      o)
  got w (enables_for n i d f g h b l) =
      let e = got (on n f) h in
      let k = dep n e.x e.p i d e.at b in
      let a = number_on e.p f in
      let r = one a (k.l).enabled in
      let o = on_given n f e in
      enabled_got n e.x e.p i d e.at k
      (by_rule r (of_entry n e.x e.p f (dependency_feature d.name g) r e.at l
      (Contains-append_left (enable_all a ((e.p).called d.name)) (ask_all ps a ((e.p).called d.name) g) r
      (to_flat (λ l. one a l.enabled ∷ []) ((e.p).called d.name) k.l r (called n e.x e.p i d e.at k) (in_first r []))))
      o o)
  got w (wants n u i d f g h b l leads) =
      let e = got (on n f) h in
      let k = dep n e.x e.p i d e.at b in
      let q = to n e.x e.p i d u e.at k leads in
      let a = number_on e.p f in
      let r = both a a (number_on q.q g) in
      let o = on_given n f e in
      on_got u g k.l q
      (by_rule r (of_entry n e.x e.p f (dependency_feature d.name g) r e.at l
      (Contains-append_right (enable_all a ((e.p).called d.name)) (ask_all ps a ((e.p).called d.name) g) r
      (to_flat (λ l. ask a a (package_at ps l.target) g) ((e.p).called d.name) k.l r (called n e.x e.p i d e.at k)
      (asked a a k.l u g q)))) o o)
  got w (wants_weakly n u i d f g h b l en leads) =
      let e = got (on n f) h in
      let k = dep n e.x e.p i d e.at b in
      let q = to n e.x e.p i d u e.at k leads in
      let a = number_on e.p f in
      let r = both a (k.l).enabled (number_on q.q g) in
      on_got u g k.l q
      (by_rule r (of_entry n e.x e.p f (weak_feature d.name g) r e.at l
      (to_flat (λ l. ask a l.enabled (package_at ps l.target) g) ((e.p).called d.name) k.l r
      (called n e.x e.p i d e.at k) (asked a (k.l).enabled k.l u g q)))
      (on_given n f e) (enabled_given n e.x e.p i d e.at k (got (enabled n i) en)))
