-- What the rules give are facts, and all facts are given.
use Rattle.std.proofs.Common.{◌≡◌, ℕ, List, [], ◌∷◌, Bool, true, false, not, ◌||◌, cond, nat_eq, Option, Some, None}
use Rattle.std.proofs.Common.{slice_get, is_some, unwrap_or, Contains, refl, sym, ap, ◌∙◌, subst, inl, inr, true≢false}
use Rattle.std.specs.List.{flat_map}
use Rattle.std.proofs.lemmas.List.Elements.{Contains-append_cases}
use Rattle.std.proofs.lemmas.Bool.{eqb-true}
use Rattle.std.proofs.lemmas.Option.{same_Some}
use Rattle.facts.specs.declared.rule.Rule.{Rule}
use Rattle.facts.specs.inner.Chains.{has, IsGiven}
use Rattle.facts.specs.inner.Chains.IsGiven.{begins, follows}
use Rattle.model.specs.Summary.{Summary, Dependency, Entry, feature, dependency, dependency_feature, weak_feature}
use Rattle.model.specs.Summary.{Table, same_text, has_feature, entries_at, asked_of_target}
use Rattle.model.specs.Selection.{Fact, here, on, enabled, Brings, Lists}
use Rattle.model.specs.Selection.Holds.{arrives, root_needs, needs, asks, root_wants, turns_on, enables, enables_for}
use Rattle.model.specs.Selection.Holds.{wants}
use Rattle.model.specs.Selection.Holds.{wants_weakly}
use Rattle.model.proofs.Same.{text-same}
use Rattle.model.proofs.Lists.{in_none, in_cons, in_first, in_filter}
use Rattle.model.proofs.Flat.{to_flat, in_flat}
use Rattle.model.proofs.Places.{place_of}
use Rattle.manifest.specs.Manifests.{root_asks, asked_by}
use Rattle.facts.specs.inner.Graphs.{NodeView, brings_if, target_if, brings_at, target_at, IsFactOf, LacksFeature}
use Rattle.facts.specs.inner.FactNumbers.{LinkView, FactNumbersView}
use Rattle.facts.specs.inner.RuleLists.{one, both, number_on, package_at, ask, ask_features, arrive, need, link_rules}
use Rattle.facts.specs.inner.RuleLists.{enable_all, ask_all, entry_rules, root_rules, root_entries, root_table}
use Rattle.facts.specs.inner.RuleLists.{entries_rules}
use Rattle.facts.specs.inner.RuleLists.{feature_rules, features_rules, table_rules, all_rules}
use Rattle.facts.proofs.Numbers.{Mark, is_here, lacking, is_on, is_enabled, IsLink, IsNumbered}
use Rattle.facts.proofs.Members.{in_one, in_rules}

-- the packages and the numbers of their facts
pub record IsTable (nodes : List NodeView) (ps : List FactNumbersView) (marks : List Mark) : Type 0 where
  pub numbers : (n : ℕ) (x : NodeView) → slice_get nodes n ≡ Some x
      → (p : FactNumbersView) × (slice_get ps n ≡ Some p) × IsNumbered marks n x p
  pub node : (n : ℕ) (p : FactNumbersView) → slice_get ps n ≡ Some p
      → (x : NodeView) × (slice_get nodes n ≡ Some x) × IsNumbered marks n x p

-- the package at a place
pub record At (nodes : List NodeView) (ps : List FactNumbersView) (marks : List Mark) (n : ℕ) (x : NodeView)
    (p : FactNumbersView) : Type 0 where
  pub got : slice_get nodes n ≡ Some x
  pub had : slice_get ps n ≡ Some p
  pub is : IsNumbered marks n x p

none_some : {X : Type 0} (x : X) → None ≡ Some x → ⊥
none_some x e = cc

module _ (nodes : List NodeView) (root : ℕ) (ps : List FactNumbersView) (marks : List Mark)
    (t : IsTable nodes ps marks) where
  abbrev IsTrue : Fact ℕ → Type 0
  IsTrue = IsFactOf nodes root

  abbrev IsAt : ℕ → NodeView → FactNumbersView → Type 0
  IsAt = At nodes ps marks

  -- the fact that a mark stands for holds
  abbrev pub HoldsMark : Mark → Type 0
  HoldsMark (is_here n) = IsFactOf nodes root (here n)
  HoldsMark (lacking n) = LacksFeature nodes root n
  HoldsMark (is_on n f) = IsFactOf nodes root (on n f)
  HoldsMark (is_enabled n i) = IsFactOf nodes root (enabled n i)

  -- a rule stands for a step between facts
  pub record IsStep (r : Rule) : Type 0 where
    pub a : Mark
    pub b : Mark
    pub c : Mark
    pub first : slice_get marks r.first ≡ Some a
    pub second : slice_get marks r.second ≡ Some b
    pub gives : slice_get marks r.gives ≡ Some c
    pub step : HoldsMark a → HoldsMark b → HoldsMark c

  -- the dependency with its number
  record Dep (n : ℕ) (x : NodeView) (l : LinkView) : Type 0 where
    pub i : ℕ
    pub d : Dependency
    pub brings : slice_get x.brings.dependencies i ≡ Some d
    pub is : IsLink marks n x.targets i d l

  brings_is : (n : ℕ) (x : NodeView) (p : FactNumbersView) → IsAt n x p → brings_at nodes n ≡ x.brings
  brings_is n x p h = ap brings_if h.got

  brings : (n : ℕ) (x : NodeView) (p : FactNumbersView) (i : ℕ) (d : Dependency) → IsAt n x p
      → slice_get x.brings.dependencies i ≡ Some d → Brings (brings_at nodes) n i d
  brings n x p i d h e = ap (λ (o : Summary). slice_get o.dependencies i) (brings_is n x p h) ∙ e

  dep_at : (n : ℕ) (x : NodeView) (p : FactNumbersView) (i : ℕ) (l : LinkView) → IsAt n x p
      → slice_get p.links i ≡ Some l → Dep n x l
  dep_at n x p i l h e =
      let b = h.is.back i l e in
      let r = h.is.link i b.0 b.1 in
      let same : r.0 ≡ l = same_Some r.0 l (sym r.1 ∙ e) in
      record { i = i; d = b.0; brings = b.1; is = subst (λ k. IsLink marks n x.targets i b.0 k) same r.2 }

  dep_in : (n : ℕ) (x : NodeView) (p : FactNumbersView) (l : LinkView) → IsAt n x p → Contains p.links l → Dep n x l
  dep_in n x p l h c = let r = place_of p.links l c in dep_at n x p r.0 l h r.1

  -- a dependency that is called so
  dep_called : (n : ℕ) (x : NodeView) (p : FactNumbersView) (l : LinkView) (name : List ℕ) → IsAt n x p
      → Contains (p.called name) l → (k : Dep n x l) × (name ≡ k.d.name)
  dep_called n x p l name h c =
      let f = in_filter (λ (l : LinkView). same_text name l.dependency.name) p.links l
      (subst (λ ls. Contains ls l) (h.is.called name) c) in
      let k = dep_in n x p l h f.0 in
      (k, text-same name l.dependency.name f.1 ∙ ap (λ (d : Dependency). d.name) k.is.dependency)

  target_is : (n : ℕ) (x : NodeView) (p : FactNumbersView) (l : LinkView) (k : Dep n x l) (u : ℕ) → IsAt n x p
      → l.target ≡ Some u → target_at nodes n k.i ≡ Some u
  target_is n x p l k u h e = ap (target_if k.i) h.got ∙ sym k.is.target ∙ e

  -- the target of a dependency
  record Target (n : ℕ) (x : NodeView) (l : LinkView) (k : Dep n x l) (q : FactNumbersView) : Type 0 where
    pub u : ℕ
    pub y : NodeView
    pub at : IsAt u y q
    pub leads : target_at nodes n k.i ≡ Some u

  target_of : (n : ℕ) (x : NodeView) (p : FactNumbersView) (l : LinkView) (k : Dep n x l) (q : FactNumbersView)
      → IsAt n x p → package_at ps l.target ≡ Some q → Target n x l k q
  target_of n x p l k q h e = by l.target refl e
    where
      by : (o : Option ℕ) → l.target ≡ o → package_at ps o ≡ Some q → Target n x l k q
      by None z e = absurd (none_some q e)
      by (Some u) z e = let r = t.node u q e in
          record { u = u; y = r.0; at = record { got = r.1; had = e; is = r.2 }; leads = target_is n x p l k u h z }

  -- the number of a feature that is on
  gives_on : (u : ℕ) (y : NodeView) (q : FactNumbersView) (f : List ℕ) → IsAt u y q
      → (c : Mark) × (slice_get marks (number_on q f) ≡ Some c) × (IsTrue (on u f) → HoldsMark c)
  gives_on u y q f h = by (q.numbers f) refl
    where
      by : (o : Option ℕ) → q.numbers f ≡ o
          → (c : Mark) × (slice_get marks (unwrap_or o q.lacks) ≡ Some c) × (IsTrue (on u f) → HoldsMark c)
      by (Some k) e = (is_on u f, (h.is.on f k e).0, λ w. w)
      by None e = (
        lacking u,
        h.is.lacks,
        λ w. (f, w, ap (λ (o : Summary). has_feature o.features f) (brings_is u y q h) ∙ h.is.absent f e),
      )

  -- the number of a feature that is there
  needs_on : (n : ℕ) (x : NodeView) (p : FactNumbersView) (f : List ℕ) (es : List Entry) → IsAt n x p
      → entries_at f p.brings.features ≡ Some es → slice_get marks (number_on p f) ≡ Some (is_on n f)
  needs_on n x p f es h e = by (p.numbers f) refl
    where
      by : (o : Option ℕ) → p.numbers f ≡ o → slice_get marks (unwrap_or o p.lacks) ≡ Some (is_on n f)
      by (Some k) z = (h.is.on f k z).0
      by None z =
          absurd (true≢false (sym (ap is_some (ap (λ (o : Summary). entries_at f o.features) (sym h.is.brings) ∙ e))
          ∙ h.is.absent f z))

  -- a rule that needs one fact
  step_one : (k g : ℕ) (a c : Mark) → slice_get marks k ≡ Some a → slice_get marks g ≡ Some c
      → (HoldsMark a → HoldsMark c) → IsStep (one k g)
  step_one k g a c x y s = record { a = a; b = a; c = c; first = x; second = x; gives = y; step = λ h w. s h }

  is_the_root : (n : ℕ) → nat_eq n root ≡ true → n ≡ root
  is_the_root n e = eqb-true n root e

  -- ---- each rule is a step

  need_step : (n : ℕ) (x : NodeView) (p : FactNumbersView) (l : LinkView) (r : Rule) → IsAt n x p → Dep n x l
      → Contains (need (nat_eq n root) p.here l) r → IsStep r
  need_step n x p l r h k c = by (nat_eq n root) l.dependency.optional refl refl c
    where
      at : (IsTrue (here n) → IsTrue (enabled n k.i)) → Contains (one p.here l.enabled ∷ []) r → IsStep r
      at s c = subst IsStep (in_one (one p.here l.enabled) r c)
          (step_one p.here l.enabled (is_here n) (is_enabled n k.i) h.is.here k.is.enabled s)

      by : (a o : Bool) → nat_eq n root ≡ a → l.dependency.optional ≡ o
          → Contains (cond (a || not o) (one p.here l.enabled ∷ []) []) r → IsStep r
      by true o e z c = at (λ w. root_needs n k.i k.d w (is_the_root n e) (brings n x p k.i k.d h k.brings)) c
      by false false e z c = at (λ w. needs n k.i k.d w (brings n x p k.i k.d h k.brings)
          (ap (λ (d : Dependency). d.optional) (sym k.is.dependency) ∙ z)) c
      by false true e z c = absurd (in_none r c)

  arrive_step : (n : ℕ) (x : NodeView) (p : FactNumbersView) (l : LinkView) (r : Rule) → IsAt n x p → Dep n x l
      → Contains (arrive l (package_at ps l.target)) r → IsStep r
  arrive_step n x p l r h k c = by (package_at ps l.target) refl c
    where
      by : (o : Option FactNumbersView) → package_at ps l.target ≡ o → Contains (arrive l o) r → IsStep r
      by None e c = absurd (in_none r c)
      by (Some q) e c =
          let g = target_of n x p l k q h e in
          let b = brings n x p k.i k.d h k.brings in
          elim (in_cons (one l.enabled q.here) r (ask_features l.enabled q (asked_of_target l.dependency)) c) [
            | inl s ↦ subst IsStep s (step_one l.enabled q.here (is_enabled n k.i)
                (is_here g.u) k.is.enabled g.at.is.here (λ w. arrives n g.u k.i k.d w b g.leads))
            | inr c ↦
                let f = in_flat (λ f. one l.enabled (number_on q f) ∷ []) (asked_of_target l.dependency) r c in
                let o = gives_on g.u g.y q f.0 g.at in
                let asked : Contains (asked_of_target k.d) f.0 =
                subst (λ d. Contains (asked_of_target d) f.0) k.is.dependency f.1 in
                subst IsStep (in_one (one l.enabled (number_on q f.0)) r f.2)
                (step_one l.enabled (number_on q f.0) (is_enabled n k.i) o.0 k.is.enabled o.1
                (λ w. o.2 (asks n g.u k.i k.d f.0 w b g.leads asked)))
          ]

  link_step : (n : ℕ) (x : NodeView) (p : FactNumbersView) (l : LinkView) (r : Rule) → IsAt n x p → Contains p.links l
      → Contains (link_rules ps (nat_eq n root) p.here l) r → IsStep r
  link_step n x p l r h m c =
      let k = dep_in n x p l h m in
      elim (Contains-append_cases (need (nat_eq n root) p.here l) (arrive l (package_at ps l.target)) r c) [
        | inl c ↦ need_step n x p l r h k c
        | inr c ↦ arrive_step n x p l r h k c
      ]

  -- asking a target of a dependency that is called so
  ask_step : (n : ℕ) (x : NodeView) (p : FactNumbersView) (l : LinkView) (name g : List ℕ) (r : Rule) (f s : ℕ)
      (a b : Mark) → IsAt n x p → Contains (p.called name) l
      → slice_get marks f ≡ Some a → slice_get marks s ≡ Some b
      → ((k : Dep n x l) (u : ℕ) → name ≡ k.d.name → target_at nodes n k.i ≡ Some u → HoldsMark a
      → HoldsMark b → IsTrue (on u g))
      → Contains (ask f s (package_at ps l.target) g) r → IsStep r
  ask_step n x p l name g r f s a b h m fa sb step c = by (package_at ps l.target) refl c
    where
      by : (o : Option FactNumbersView) → package_at ps l.target ≡ o → Contains (ask f s o g) r → IsStep r
      by None e c = absurd (in_none r c)
      by (Some q) e c =
          let k = dep_called n x p l name h m in
          let to = target_of n x p l k.0 q h e in
          let o = gives_on to.u to.y q g to.at in
          subst IsStep (in_one (both f s (number_on q g)) r c)
          (record {
            a = a;
            b = b;
            c = o.0;
            first = fa;
            second = sb;
            gives = o.1;
            step =
                λ v w. o.2 (step k.0 to.u k.1 to.leads v w);
          })

  lists : (n : ℕ) (x : NodeView) (p : FactNumbersView) (f : List ℕ) (es : List Entry) (e : Entry) → IsAt n x p
      → entries_at f p.brings.features ≡ Some es → Contains es e → Lists (brings_at nodes) n f e
  lists n x p f es e h found c =
      (es, ap (λ (o : Summary). entries_at f o.features) (brings_is n x p h ∙ sym h.is.brings) ∙ found, c)

  enable_step : (n : ℕ) (x : NodeView) (p : FactNumbersView) (f name : List ℕ) (r : Rule) (a : ℕ) → IsAt n x p
      → slice_get marks a ≡ Some (is_on n f)
      → ((k : ℕ) (d : Dependency) → name ≡ d.name → Brings (brings_at nodes) n k d → IsTrue (on n f)
      → IsTrue (enabled n k)) → Contains (enable_all a (p.called name)) r → IsStep r
  enable_step n x p f name r a h fa step c =
      let m = in_flat (λ l. one a l.enabled ∷ []) (p.called name) r c in
      let k = dep_called n x p m.0 name h m.1 in
      subst IsStep (in_one (one a (m.0).enabled) r m.2)
      (step_one a (m.0).enabled (is_on n f) (is_enabled n (k.0).i) fa
      (k.0).is.enabled (step (k.0).i (k.0).d k.1 (brings n x p (k.0).i (k.0).d h (k.0).brings)))

  weak_step : (n : ℕ) (x : NodeView) (p : FactNumbersView) (l : LinkView) (name g : List ℕ) (r : Rule) (a : ℕ)
      (f : List ℕ) → Lists (brings_at nodes) n f (weak_feature name g) → IsAt n x p → Contains (p.called name) l
      → slice_get marks a ≡ Some (is_on n f) → Contains (ask a l.enabled (package_at ps l.target) g) r → IsStep r
  weak_step n x p l name g r a f entry h m fa c = by (package_at ps l.target) refl c
    where
      by : (o : Option FactNumbersView) → package_at ps l.target ≡ o → Contains (ask a l.enabled o g) r → IsStep r
      by None e c = absurd (in_none r c)
      by (Some q) e c =
          let (k, s) = dep_called n x p l name h m in
          let to = target_of n x p l k q h e in
          let o = gives_on to.u to.y q g to.at in
          subst IsStep (in_one (both a l.enabled (number_on q g)) r c)
          (record {
            a = is_on n f;
            b = is_enabled n k.i;
            c = o.0;
            first = fa;
            second = k.is.enabled;
            gives = o.1;
            step = λ v w. o.2 (wants_weakly n to.u k.i k.d f g v (brings n x p k.i k.d h k.brings)
                (subst (λ z. Lists (brings_at nodes) n f (weak_feature z g)) s entry) w to.leads);
          })

  entry_step : (n : ℕ) (x : NodeView) (p : FactNumbersView) (f : List ℕ) (es : List Entry) (e : Entry) (r : Rule)
      → IsAt n x p → entries_at f p.brings.features ≡ Some es → Contains es e
      → Contains (entry_rules ps p (number_on p f) e) r → IsStep r
  entry_step n x p f es (feature g) r h found m c =
      let o = gives_on n x p g h in
      subst IsStep (in_one (one (number_on p f) (number_on p g)) r c)
      (step_one (number_on p f) (number_on p g) (is_on n f) o.0 (needs_on n x p f es h found) o.1
      (λ w. o.2 (turns_on n f g w (lists n x p f es (feature g) h found m))))
  entry_step n x p f es (dependency d) r h found m c =
      enable_step n x p f d r (number_on p f) h (needs_on n x p f es h found)
      (λ i k s b w. enables n i k f w b
      (subst (λ z. Lists (brings_at nodes) n f (dependency z)) s (lists n x p f es (dependency d) h found m))) c
  entry_step n x p f es (dependency_feature d g) r h found m c =
      let a = number_on p f in
      let at = needs_on n x p f es h found in
      let l : (z : List ℕ) → d ≡ z → Lists (brings_at nodes) n f (dependency_feature z g)
      = λ z s. subst (λ z. Lists (brings_at nodes) n f (dependency_feature z g)) s
      (lists n x p f es (dependency_feature d g) h found m) in
      elim (Contains-append_cases (enable_all a (p.called d)) (ask_all ps a (p.called d) g) r c) [
        | inl c ↦ enable_step n x p f d r a h at (λ i k s b w. enables_for n i k f g w b (l k.name s)) c
        | inr c ↦
            let q = in_flat (λ l. ask a a (package_at ps l.target) g) (p.called d) r c in
            ask_step n x p q.0 d g r a a (is_on n f) (is_on n f) h q.1 at at
            (λ k u s to v w. wants n u k.i k.d f g v (brings n x p k.i k.d h k.brings) (l k.d.name s) to) q.2
      ]
  entry_step n x p f es (weak_feature d g) r h found m c =
      let a = number_on p f in
      let at = needs_on n x p f es h found in
      let q = in_flat (λ l. ask a l.enabled (package_at ps l.target) g) (p.called d) r c in
      weak_step n x p q.0 d g r a f (lists n x p f es (weak_feature d g) h found m) h q.1 at q.2

  -- what the root's entries ask of its dependencies
  root_asked : (n : ℕ) (x : NodeView) (p : FactNumbersView) (row : List ℕ × List Entry) (e : Entry)
      (a : List ℕ × List ℕ) → IsAt n x p → n ≡ root → Contains p.brings.features row
      → Contains row.1 e → Contains (asked_by e) a → Contains (root_asks (brings_at nodes root).features) a
  root_asked n x p row e a h z has m c =
      let rows : p.brings.features ≡ (brings_at nodes root).features =
      ap (λ (o : Summary). o.features) (h.is.brings ∙ sym (brings_is n x p h) ∙ ap (brings_at nodes) z) in
      subst (λ (t : Table). Contains (root_asks t) a) rows
      (to_flat (λ row. flat_map asked_by row.1) p.brings.features row a has (to_flat asked_by row.1 e a m c))

  root_ask_step : (n : ℕ) (x : NodeView) (p : FactNumbersView) (d g : List ℕ) (r : Rule) → IsAt n x p → n ≡ root
      → Contains (root_asks (brings_at nodes root).features) (d, g)
      → Contains (ask_all ps p.here (p.called d) g) r → IsStep r
  root_ask_step n x p d g r h z asked c =
      let q = in_flat (λ l. ask p.here p.here (package_at ps l.target) g) (p.called d) r c in
      ask_step n x p q.0 d g r p.here p.here (is_here n) (is_here n) h q.1 h.is.here h.is.here
      (λ k u s to v w. root_wants n u k.i k.d g v z (brings n x p k.i k.d h k.brings) to
      (subst (λ y. Contains (root_asks (brings_at nodes root).features) (y, g)) s asked)) q.2

  root_step : (n : ℕ) (x : NodeView) (p : FactNumbersView) (row : List ℕ × List Entry) (e : Entry) (r : Rule)
      → IsAt n x p → n ≡ root → Contains p.brings.features row → Contains row.1 e
      → Contains (root_rules ps p e) r → IsStep r
  root_step n x p row (feature g) r h z has m c = absurd (in_none r c)
  root_step n x p row (dependency d) r h z has m c = absurd (in_none r c)
  root_step n x p row (dependency_feature d g) r h z has m c = root_ask_step n x p d g r h z
      (root_asked n x p row (dependency_feature d g) (d, g) h z has m (in_first (d, g) [])) c
  root_step n x p row (weak_feature d g) r h z has m c =
      root_ask_step n x p d g r h z (root_asked n x p row (weak_feature d g) (d, g) h z has m (in_first (d, g) [])) c

  feature_step : (n : ℕ) (x : NodeView) (p : FactNumbersView) (f : List ℕ) (r : Rule) → IsAt n x p
      → Contains (feature_rules ps p p.brings.features f) r → IsStep r
  feature_step n x p f r h c = by (entries_at f p.brings.features) refl c
    where
      by : (o : Option (List Entry)) → entries_at f p.brings.features ≡ o
          → Contains (entries_rules ps p (number_on p f) (unwrap_or o [])) r → IsStep r
      by None e c = absurd (in_none r c)
      by (Some es) e c = let m =
          in_flat (entry_rules ps p (number_on p f)) es r c in entry_step n x p f es m.0 r h e m.1 m.2

  root_table_step : (n : ℕ) (x : NodeView) (p : FactNumbersView) (r : Rule) → IsAt n x p
      → Contains (cond (nat_eq n root) (root_table ps p p.brings.features) []) r → IsStep r
  root_table_step n x p r h c = by (nat_eq n root) refl c
    where
      by : (b : Bool) → nat_eq n root ≡ b → Contains (cond b (root_table ps p p.brings.features) []) r → IsStep r
      by false z c = absurd (in_none r c)
      by true z c =
          let row = in_flat (λ row. root_entries ps p row.1) p.brings.features r c in
          let e = in_flat (root_rules ps p) (row.0).1 r row.2 in
          root_step n x p row.0 e.0 r h (is_the_root n z) row.1 e.1 e.2

  pub rule_step : (r : Rule) → Contains (all_rules root ps) r → IsStep r
  rule_step r c =
      let (n, p, had, has) = in_rules ps root r c in
      let (x, got, is) = t.node n p had in
      let h : IsAt n x p = record { got = got; had = had; is = is } in
      let rows = p.brings.features in
      elim (Contains-append_cases (flat_map (link_rules ps (nat_eq n root) p.here) p.links)
      (table_rules ps (nat_eq n root) p rows) r has) [
        | inl c ↦ let m = in_flat (link_rules ps (nat_eq n root) p.here) p.links r c in link_step n x p m.0 r h m.1 m.2
        | inr c ↦ elim
            (Contains-append_cases (features_rules ps p rows) (cond (nat_eq n root) (root_table ps p rows) []) r c) [
              | inl c ↦ let m =
                  in_flat (λ row. feature_rules ps p rows row.0) rows r c in feature_step n x p (m.0).0 r h m.2
              | inr c ↦ root_table_step n x p r h c
            ]
      ]

  -- all that is given holds
  pub sound : (flags : List Bool)
      → ((k : ℕ) → has flags k ≡ true → (m : Mark) × (slice_get marks k ≡ Some m) × HoldsMark m)
      → (k : ℕ) → IsGiven (all_rules root ps) flags k → (m : Mark) × (slice_get marks k ≡ Some m) × HoldsMark m
  sound flags start k (begins j h) = start j h
  sound flags start k (follows r c f s) =
      let step = rule_step r c in
      let (a, ia, ha) = sound flags start r.first f in
      let (b, ib, hb) = sound flags start r.second s in
      let sa : a ≡ step.a = same_Some a step.a (sym ia ∙ step.first) in
      let sb : b ≡ step.b = same_Some b step.b (sym ib ∙ step.second) in
      (step.c, step.gives, step.step (subst HoldsMark sa ha) (subst HoldsMark sb hb))
