-- A cause that is there gives rise to an instance of its kind, and each instance has a cause.
use Rattle.std.proofs.Common.{◌≡◌, ◌≢◌, ℕ, List, true, not, ◌&&◌, Contains, Some, nat_eq, refl, sym, ap}
use Rattle.std.proofs.Common.{◌∙◌, subst, inl, inr, ◌⊎◌, true≢false}
use Rattle.std.specs.List.{list_any}
use Rattle.std.proofs.lemmas.Bool.{and_from, eqb-true, eq-eqb, false_from_ne_true, not-true}
use Rattle.semver.specs.Parse.{Parts}
use Rattle.model.specs.Summary.{Dependency, Entry, feature, dependency, dependency_feature, weak_feature}
use Rattle.model.specs.Summary.{asked_of_target, same_text}
use Rattle.model.specs.Content.{Problem, passes}
use Rattle.model.specs.Selection.{Class, class_of}
use Rattle.model.specs.Vertices.{Owner, version_of, Vertex, feat, same_vertex, class_candidates}
use Rattle.model.specs.Axioms.{Term, Kind, Target, WantsFeature, NewestListed, WeakFeature, is_lower, matched, IsNeeded}
use Rattle.model.specs.Axioms.{HasDep, HasClass, HasEntry, RootAsks, IsInstance}
use Rattle.model.specs.Axioms.IsInstance.{root_is, needed, has_target, has_its_feature, wants_by_list, wants_by_entry}
use Rattle.model.specs.Axioms.IsInstance.{feature_on, dependency_on, feature_asks, newest_listed, weakly}
use Rattle.model.proofs.Same.{both, text-same, text-refl, vertex-same, vertex-refl}
use Rattle.model.specs.Causes.{Cause, of_root, of_need, of_target, of_feature, of_list, of_ask, of_entry}
use Rattle.model.specs.Causes.{of_enabling, of_asking, of_newest, of_weak, kind_of, same_entry, enables}
use Rattle.model.specs.Causes.{is_needed, dependency_at, has_class, has_entry, some_entry, lists_feature}
use Rattle.model.specs.Causes.{is_overtaken, is_weak_on, is_cause, terms_with, terms_of_cause}
use Rattle.model.proofs.Named.{entry-same, entry-refl, enables-is, passes-is, to_passes, needed-is, to_needed}
use Rattle.model.proofs.Named.{dep_owner, has_entry-is, to_has_entry, some_entry-is, to_some_entry, class-is}
use Rattle.model.proofs.Named.{to_class, lists-is, to_lists, feature-is, to_feature}

-- tests that fail where the things differ
text-differs : (f g : List ℕ) → not (same_text f g) ≡ true → f ≢ g
text-differs f g h e = true≢false (sym (subst (λ x. same_text f x ≡ true) e (text-refl f)) ∙ not-true (same_text f g) h)

to_text-differs : (f g : List ℕ) → f ≢ g → not (same_text f g) ≡ true
to_text-differs f g n = ap not (false_from_ne_true (same_text f g) (λ t. n (text-same f g t)))

nat-differs : (i j : ℕ) → not (nat_eq i j) ≡ true → i ≢ j
nat-differs i j h e = true≢false (sym (eq-eqb i j e) ∙ not-true (nat_eq i j) h)

to_nat-differs : (i j : ℕ) → i ≢ j → not (nat_eq i j) ≡ true
to_nat-differs i j n = ap not (false_from_ne_true (nat_eq i j) (λ t. n (eqb-true i j t)))

vertex-differs : (v w : Vertex) → not (same_vertex v w) ≡ true → v ≢ w
vertex-differs v w h e =
    true≢false (sym (subst (λ x. same_vertex v x ≡ true) e (vertex-refl v)) ∙ not-true (same_vertex v w) h)

to_vertex-differs : (v w : Vertex) → v ≢ w → not (same_vertex v w) ≡ true
to_vertex-differs v w n = ap not (false_from_ne_true (same_vertex v w) (λ t. n (vertex-same v w t)))

module _ (q : Problem) where
  -- what is known of a dependency's terms, once the dependency is
  with_dep : (terms : Dependency → List Term) (k : Kind) (o : Owner) (i : ℕ) (d : Dependency)
      → dependency_at q o i ≡ Some d
      → IsInstance q k (terms d) → IsInstance q k (terms_with terms (dependency_at q o i))
  with_dep terms k o i d e h = subst (λ x. IsInstance q k (terms_with terms x)) (sym e) h

  enabling : (name : List ℕ) (v : Parts) (f : List ℕ) (e : Entry) (d : List ℕ)
      → enables d e ≡ true → HasEntry q name v f e
      → HasEntry q name v f (dependency d) ⊎ ((g : List ℕ) × HasEntry q name v f (dependency_feature d g))
  enabling name v f e d t h = elim (enables-is d e t) [
    | inl x ↦ inl (subst (HasEntry q name v f) x h)
    | inr x ↦ inr (x.0, subst (HasEntry q name v f) x.1 h)
  ]

  -- two dependencies, where a cause of `NewestListed` is there
  pub record Overtaken (o : Owner) (i j : ℕ) (k m : Class) : Type 0 where
    pub lesser : Dependency
    pub greater : Dependency
    pub lesser_there : dependency_at q o i ≡ Some lesser
    pub greater_there : dependency_at q o j ≡ Some greater
    pub apart : not (nat_eq i j) ≡ true
    pub named : same_text lesser.real_name greater.real_name ≡ true
    pub lesser_led : has_class q k lesser ≡ true
    pub greater_led : has_class q m greater ≡ true
    pub lower : is_lower k m ≡ true
    pub higher : has_class q m lesser ≡ true

  pub overtaken-there : (o : Owner) (i j : ℕ) (k m : Class) → is_cause q (of_newest o i j k m) ≡ true
      → Overtaken o i j k m
  overtaken-there o i j k m t =
      let x = both (not (nat_eq i j))
      (passes (λ d. passes (is_overtaken q k m d) (dependency_at q o j)) (dependency_at q o i)) t in
      let r = passes-is (λ d. passes (is_overtaken q k m d) (dependency_at q o j)) (dependency_at q o i) x.1 in
      let s = passes-is (is_overtaken q k m r.0) (dependency_at q o j) r.2 in
      let a = both (same_text (r.0).real_name (s.0).real_name)
      (has_class q k r.0 && (has_class q m s.0 && (is_lower k m && has_class q m r.0))) s.2 in
      let b = both (has_class q k r.0) (has_class q m s.0 && (is_lower k m && has_class q m r.0)) a.1 in
      let c = both (has_class q m s.0) (is_lower k m && has_class q m r.0) b.1 in
      let e = both (is_lower k m) (has_class q m r.0) c.1 in
      record {
        lesser = r.0;
        greater = s.0;
        lesser_there = r.1;
        greater_there = s.1;
        apart = x.0;
        named = a.0;
        lesser_led = b.0;
        greater_led = c.0;
        lower = e.0;
        higher = e.1;
      }

  -- the dependency, where a cause of `WeakFeature` is there
  pub record Weakly (name : List ℕ) (v : Parts) (f g : List ℕ) (i : ℕ) (k : Class) : Type 0 where
    pub called : Dependency
    pub there : dependency_at q (version_of name v) i ≡ Some called
    pub led : has_class q k called ≡ true
    pub entry : has_entry q name v f (weak_feature called.name g) ≡ true
    pub differs : not (same_vertex (feat name (class_of v) f) (feat called.real_name k g)) ≡ true

  pub weakly-there : (name : List ℕ) (v : Parts) (f g : List ℕ) (i : ℕ) (k : Class)
      → is_cause q (of_weak name v f g i k) ≡ true → Weakly name v f g i k
  weakly-there name v f g i k t =
      let r = passes-is (is_weak_on q name v f g k) (dependency_at q (version_of name v) i) t in
      let a = both (has_class q k r.0) (has_entry q name v f (weak_feature (r.0).name g)
      && not (same_vertex (feat name (class_of v) f) (feat (r.0).real_name k g))) r.2 in
      let b = both (has_entry q name v f (weak_feature (r.0).name g))
      (not (same_vertex (feat name (class_of v) f) (feat (r.0).real_name k g))) a.1 in
      record { called = r.0; there = r.1; led = a.0; entry = b.0; differs = b.1 }

  -- A cause that is there gives rise to an instance of its kind.
  pub cause_instance : (c : Cause) → is_cause q c ≡ true → IsInstance q (kind_of c) (terms_of_cause q c)
  cause_instance of_root t = root_is
  cause_instance (of_need o i) t = let r =
      passes-is (is_needed o) (dependency_at q o i) t in needed o i r.0 (dep_owner q o i r.0 r.1) (needed-is o r.0 r.2)
  cause_instance (of_target o i k) t =
      let r = passes-is (has_class q k) (dependency_at q o i) t in
      with_dep _ Target o i r.0 r.1 (has_target o i r.0 k (dep_owner q o i r.0 r.1) (class-is q r.0 k r.2))
  cause_instance (of_feature name k f) t = has_its_feature name k f (feature-is q name k f t)
  cause_instance (of_list o i k g) t =
      let r = passes-is (λ d. has_class q k d && lists_feature q o d g) (dependency_at q o i) t in
      let e = both (has_class q k r.0) (lists_feature q o r.0 g) r.2 in
      with_dep _ WantsFeature o i r.0 r.1
      (wants_by_list o i r.0 k g (dep_owner q o i r.0 r.1) (class-is q r.0 k e.0) (lists-is q o r.0 g e.1))
  cause_instance (of_ask name v i g k) t =
      let r = passes-is (λ d. has_class q k d && some_entry q (same_entry (dependency_feature d.name g)) name v)
      (dependency_at q (version_of name v) i) t in
      let e = both (has_class q k r.0) (some_entry q (same_entry (dependency_feature (r.0).name g)) name v) r.2 in
      let s = some_entry-is q (same_entry (dependency_feature (r.0).name g)) name v e.1 in
      with_dep _ WantsFeature (version_of name v) i r.0 r.1
      (wants_by_entry name v i r.0 k s.0 g (dep_owner q (version_of name v) i r.0 r.1) (class-is q r.0 k e.0)
      (subst (HasEntry q name v s.0) (sym (entry-same (dependency_feature (r.0).name g) s.1 s.3)) s.2))
  cause_instance (of_entry name v f g) t =
      let e = both (has_entry q name v f (feature g)) (not (same_text f g)) t in
      feature_on name v f g (has_entry-is q name v f (feature g) e.0) (text-differs f g e.1)
  cause_instance (of_enabling name v f e i) t =
      let x =
      both (has_entry q name v f e) (passes (λ d. enables d.name e) (dependency_at q (version_of name v) i)) t in
      let r = passes-is (λ d. enables d.name e) (dependency_at q (version_of name v) i) x.1 in
      dependency_on name v i r.0 f (dep_owner q (version_of name v) i r.0 r.1)
      (enabling name v f e (r.0).name r.2 (has_entry-is q name v f e x.0))
  cause_instance (of_asking name v f g i) t =
      let r = passes-is
      (λ d. has_entry q name v f (dependency_feature d.name g)) (dependency_at q (version_of name v) i) t in
      feature_asks name v i r.0 f g (dep_owner q (version_of name v) i r.0 r.1)
      (has_entry-is q name v f (dependency_feature (r.0).name g) r.2)
  cause_instance (of_newest o i j k m) t =
      let p = overtaken-there o i j k m t in
      with_dep _ NewestListed o i p.lesser p.lesser_there
      (newest_listed o i j p.lesser p.greater k m (nat-differs i j p.apart) (dep_owner q o i p.lesser p.lesser_there)
      (dep_owner q o j p.greater p.greater_there) (text-same (p.lesser).real_name (p.greater).real_name p.named)
      (class-is q p.lesser k p.lesser_led) (class-is q p.greater m p.greater_led) p.lower p.higher)
  cause_instance (of_weak name v f g i k) t =
      let p = weakly-there name v f g i k t in
      with_dep _ WeakFeature (version_of name v) i p.called p.there
      (weakly name v i p.called k f g (dep_owner q (version_of name v) i p.called p.there) (class-is q p.called k p.led)
      (has_entry-is q name v f (weak_feature (p.called).name g) p.entry)
      (vertex-differs (feat name (class_of v) f) (feat (p.called).real_name k g) p.differs))

  -- ---- the cause of each instance

  pub need-there : (o : Owner) (i : ℕ) (d : Dependency) → HasDep q o i d → IsNeeded o d
      → is_cause q (of_need o i) ≡ true
  need-there o i d h n = to_passes (is_needed o) (dependency_at q o i) d h.1 (to_needed o d n)

  pub target-there : (o : Owner) (i : ℕ) (d : Dependency) (k : Class) → HasDep q o i d → HasClass q d k
      → is_cause q (of_target o i k) ≡ true
  target-there o i d k h c = to_passes (has_class q k) (dependency_at q o i) d h.1 (to_class q d k c)

  pub list-there : (o : Owner) (i : ℕ) (d : Dependency) (k : Class) (g : List ℕ) → HasDep q o i d → HasClass q d k
      → Contains (asked_of_target d) g ⊎ RootAsks q o d g
      → is_cause q (of_list o i k g) ≡ true
  list-there o i d k g h c a = to_passes (λ d. has_class q k d && lists_feature q o d g) (dependency_at q o i) d h.1
      (and_from (has_class q k d) (lists_feature q o d g) (to_class q d k c) (to_lists q o d g a))

  pub ask-there : (name : List ℕ) (v : Parts) (i : ℕ) (d : Dependency) (k : Class) (f g : List ℕ)
      → HasDep q (version_of name v) i d → HasClass q d k
      → HasEntry q name v f (dependency_feature d.name g) → is_cause q (of_ask name v i g k) ≡ true
  ask-there name v i d k f g h c e = to_passes (λ d. has_class q k d
      && some_entry q (same_entry (dependency_feature d.name g)) name v) (dependency_at q (version_of name v) i) d h.1
      (and_from (has_class q k d) (some_entry q (same_entry (dependency_feature d.name g)) name v) (to_class q d k c)
      (to_some_entry q (same_entry (dependency_feature d.name g)) name v f (dependency_feature d.name g) e
      (entry-refl (dependency_feature d.name g))))

  pub entry-there : (name : List ℕ) (v : Parts) (f g : List ℕ) → HasEntry q name v f (feature g) → f ≢ g
      → is_cause q (of_entry name v f g) ≡ true
  entry-there name v f g e n = and_from (has_entry q name v f (feature g)) (not (same_text f g))
      (to_has_entry q name v f (feature g) e) (to_text-differs f g n)

  pub enabling-there : (name : List ℕ) (v : Parts) (i : ℕ) (d : Dependency) (f : List ℕ) (e : Entry)
      → HasDep q (version_of name v) i d → HasEntry q name v f e → enables d.name e ≡ true
      → is_cause q (of_enabling name v f e i) ≡ true
  enabling-there name v i d f e h x t = and_from (has_entry q name v f e)
      (passes (λ d. enables d.name e) (dependency_at q (version_of name v) i)) (to_has_entry q name v f e x)
      (to_passes (λ d. enables d.name e) (dependency_at q (version_of name v) i) d h.1 t)

  pub asking-there : (name : List ℕ) (v : Parts) (i : ℕ) (d : Dependency) (f g : List ℕ)
      → HasDep q (version_of name v) i d → HasEntry q name v f (dependency_feature d.name g)
      → is_cause q (of_asking name v f g i) ≡ true
  asking-there name v i d f g h e =
      to_passes (λ d. has_entry q name v f (dependency_feature d.name g)) (dependency_at q (version_of name v) i) d h.1
      (to_has_entry q name v f (dependency_feature d.name g) e)

  pub newest-there : (o : Owner) (i j : ℕ) (d e : Dependency) (k m : Class) → i ≢ j → HasDep q o i d → HasDep q o j e
      → d.real_name ≡ e.real_name
      → HasClass q d k → HasClass q e m → is_lower k m ≡ true
      → list_any (matched d) (class_candidates q d.real_name m) ≡ true → is_cause q (of_newest o i j k m) ≡ true
  newest-there o i j d e k m n h had same c r lower any =
      and_from (not (nat_eq i j)) (passes (λ d. passes (is_overtaken q k m d) (dependency_at q o j))
      (dependency_at q o i)) (to_nat-differs i j n)
      (to_passes (λ d. passes (is_overtaken q k m d) (dependency_at q o j)) (dependency_at q o i) d h.1
      (to_passes (is_overtaken q k m d) (dependency_at q o j) e had.1
      (and_from (same_text d.real_name e.real_name)
      (has_class q k d && (has_class q m e && (is_lower k m && has_class q m d)))
      (subst (λ x. same_text d.real_name x ≡ true) same (text-refl d.real_name))
      (and_from (has_class q k d) (has_class q m e && (is_lower k m && has_class q m d)) (to_class q d k c)
      (and_from (has_class q m e) (is_lower k m && has_class q m d) (to_class q e m r)
      (and_from (is_lower k m) (has_class q m d) lower any))))))

  pub weak-there : (name : List ℕ) (v : Parts) (i : ℕ) (d : Dependency) (k : Class) (f g : List ℕ)
      → HasDep q (version_of name v) i d → HasClass q d k
      → HasEntry q name v f (weak_feature d.name g) → feat name (class_of v) f ≢ feat d.real_name k g
      → is_cause q (of_weak name v f g i k) ≡ true
  weak-there name v i d k f g h c e n =
      to_passes (is_weak_on q name v f g k) (dependency_at q (version_of name v) i) d h.1
      (and_from (has_class q k d) (has_entry q name v f (weak_feature d.name g)
      && not (same_vertex (feat name (class_of v) f) (feat d.real_name k g))) (to_class q d k c)
      (and_from (has_entry q name v f (weak_feature d.name g)) (not (same_vertex (feat name (class_of v) f)
      (feat d.real_name k g))) (to_has_entry q name v f (weak_feature d.name g) e)
      (to_vertex-differs (feat name (class_of v) f) (feat d.real_name k g) n)))

  -- the entry that enables the dependency
  pub enabled_by : (name : List ℕ) (v : Parts) (f d : List ℕ)
      → HasEntry q name v f (dependency d) ⊎ ((g : List ℕ) × HasEntry q name v f (dependency_feature d g))
      → (e : Entry) × HasEntry q name v f e × (enables d e ≡ true)
  enabled_by name v f d (inl h) = (dependency d, h, text-refl d)
  enabled_by name v f d (inr h) = (dependency_feature d h.0, h.1, text-refl d)

  pub record CauseOf (k : Kind) (ts : List Term) : Type 0 where
    pub cause : Cause
    pub there : is_cause q cause ≡ true
    pub kind : kind_of cause ≡ k
    pub terms : terms_of_cause q cause ≡ ts

  -- Each instance has a cause.
  pub instance_cause : (k : Kind) (ts : List Term) → IsInstance q k ts → CauseOf k ts
  instance_cause k ts root_is = record { cause = of_root; there = refl; kind = refl; terms = refl }
  instance_cause k ts (needed o i d h n) =
      record { cause = of_need o i; there = need-there o i d h n; kind = refl; terms = refl }
  instance_cause k ts (has_target o i d m h c) =
      record { cause = of_target o i m; there = target-there o i d m h c; kind = refl; terms = ap (terms_with _) h.1 }
  instance_cause k ts (has_its_feature name m f v) =
      record { cause = of_feature name m f; there = to_feature q name m f v; kind = refl; terms = refl }
  instance_cause k ts (wants_by_list o i d m g h c a) =
      record { cause = of_list o i m g; there = list-there o i d m g h c a; kind = refl; terms = ap (terms_with _) h.1 }
  instance_cause k ts (wants_by_entry name v i d m f g h c e) = record {
    cause = of_ask name v i g m;
    there =
        ask-there name v i d m f g h c e;
    kind = refl;
    terms = ap (terms_with _) h.1;
  }
  instance_cause k ts (feature_on name v f g e n) =
      record { cause = of_entry name v f g; there = entry-there name v f g e n; kind = refl; terms = refl }
  instance_cause k ts (dependency_on name v i d f h e) = let x = enabled_by name v f d.name e in
      record {
        cause = of_enabling name v f x.0 i;
        there =
            enabling-there name v i d f x.0 h x.1 x.2;
        kind = refl;
        terms = refl;
      }
  instance_cause k ts (feature_asks name v i d f g h e) =
      record { cause = of_asking name v f g i; there = asking-there name v i d f g h e; kind = refl; terms = refl }
  instance_cause k ts (newest_listed o i j d e m l n h had same c r lower any) =
      record {
        cause = of_newest o i j m l;
        there = newest-there o i j d e m l n h had same c r lower any;
        kind =
            refl;
        terms = ap (terms_with _) h.1;
      }
  instance_cause k ts (weakly name v i d m f g h c e n) =
      record {
        cause = of_weak name v f g i m;
        there = weak-there name v i d m f g h c e n;
        kind =
            refl;
        terms = ap (terms_with _) h.1;
      }
