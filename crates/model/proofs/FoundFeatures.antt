-- The terms of an instance that is about a feature that is on pass the test.
use Rattle.std.proofs.Common.{◌≡◌, ◌≢◌, ℕ, List, [], ◌∷◌, ◌++◌, Bool, true, false, not, ◌&&◌, Some, option_map, refl}
use Rattle.std.proofs.Common.{sym, ap, ◌∙◌, subst, ◌⊎◌}
use Rattle.std.specs.List.{list_any, find}
use Rattle.std.specs.Option.{option_or}
use Rattle.std.proofs.lemmas.Bool.{and_from}
use Rattle.semver.specs.Parse.{Parts}
use Rattle.model.specs.Summary.{Dependency, Entry, feature, dependency, dependency_feature, weak_feature, has_feature}
use Rattle.model.specs.Content.{Problem}
use Rattle.model.specs.Selection.{Class, class_of}
use Rattle.model.specs.Vertices.{version_of, pkg, dep, feat, ask, absent, present, version, in_class, owner_brings}
use Rattle.model.specs.Axioms.{Term, at, HasFeature, FeatureOnFeature, FeatureOnDependency, FeatureAsks, WeakFeature}
use Rattle.model.specs.Axioms.{AreApart, absent_or, HasDep, HasClass, HasEntry, HasFeatVertex, is_full, without_full}
use Rattle.model.specs.Axioms.IsInstance.{has_its_feature, feature_on, dependency_on, feature_asks, weakly}
use Rattle.model.specs.Derivation.{SameTerms}
use Rattle.model.proofs.Lists.{to_any}
use Rattle.model.proofs.Same.{both}
use Rattle.model.specs.Causes.{of_feature, of_entry, of_enabling, of_asking, of_weak, enables, dependency_at}
use Rattle.model.specs.Causes.{is_unmatched, entries_of, terms_with, feature_holds}
use Rattle.model.specs.inner.Instances.{◌>>=◌, first_read, version_read, dep_read, led_read, feature_read}
use Rattle.model.specs.inner.Instances.{on_read}
use Rattle.model.specs.inner.Instances.{off_read, ask_read, number_read, enabled_unmatched, enabling_in}
use Rattle.model.specs.inner.Instances.{is_instance}
use Rattle.model.proofs.Bools.{find-there, place-there}
use Rattle.model.proofs.Named.{dep_owner, entry-is, to_entry, to_feature}
use Rattle.model.proofs.CauseLaws.{entry-there, enabling-there, asking-there, weak-there, enabled_by}
use Rattle.model.proofs.Reading.{steady_one, steady_never, read_same, read_nothing, not_full, keeps, last_full}
use Rattle.model.proofs.FoundTerms.{dep_full, version_kept, accept, like, two_cases}

module _ (q : Problem) (ts : List Term) (apart : AreApart ts) where
  -- ---- HasFeature

  pub feature_found : (name : List ℕ) (k : Class) (f : List ℕ) → HasFeatVertex q name k f
      → SameTerms ts (without_full q (at (feat name k f) (present ∷ [])
      ∷ at (pkg name k) (absent_or q (λ c. not (has_feature c.brings.features f)) name k) ∷ []))
      → is_instance q HasFeature ts ≡ true
  feature_found name k f v same =
      let us : List Term = at (feat name k f) (present ∷ []) ∷ [] in
      let w : Term = at (pkg name k) (absent_or q (λ c. not (has_feature c.brings.features f)) name k) in
      let e1 : first_read feature_read ts ≡ Some (name, k, f) = two_cases q ts apart HasFeature us w
      (first_read feature_read ts ≡ Some (name, k, f)) (refl, tt) (has_its_feature name k f v) same
      (λ al. read_same feature_read ts (us ++ w ∷ []) al (
        steady_one feature_read (feat name k f) present,
        (steady_never feature_read w.vertex w.states (λ s. refl), tt),
      ) (name, k, f) refl)
      (λ al. read_same feature_read ts us al
      (steady_one feature_read (feat name k f) present, tt) (name, k, f) refl) in
      accept q ts apart HasFeature (of_feature name k f) (us ++ w ∷ [])
      (λ j. e1 j >>= λ x. Some (of_feature x.0 x.1 x.2)) (to_feature q name k f v) refl same

  -- ---- FeatureOnFeature, FeatureAsks

  pub entry_found : (name : List ℕ) (v : Parts) (f g : List ℕ) → HasEntry q name v f (feature g) → f ≢ g
      → SameTerms ts (without_full q (feature_holds name v f (at (feat name (class_of v) g) (absent ∷ []) ∷ [])))
      → is_instance q FeatureOnFeature ts ≡ true
  entry_found name v f g e n same =
      let us : List Term = feature_holds name v f (at (feat name (class_of v) g) (absent ∷ []) ∷ []) in
      let al = like q ts apart FeatureOnFeature us us (feature_on name v f g e n) same
      (keeps q us [] (version_kept q name v, (refl, (refl, tt)))) in
      let e1 = read_same version_read ts us al (
        steady_one version_read (pkg name (class_of v)) (version v),
        (
          steady_one version_read (feat name (class_of v) f) present,
          (steady_one version_read (feat name (class_of v) g) absent, tt),
        ),
      ) (name, v) refl in
      let e2 = read_same on_read ts us al (
        steady_one on_read (pkg name (class_of v)) (version v),
        (
          steady_one on_read (feat name (class_of v) f) present,
          (steady_one on_read (feat name (class_of v) g) absent, tt),
        ),
      ) f refl in
      let e3 = read_same off_read ts us al (
        steady_one off_read (pkg name (class_of v)) (version v),
        (
          steady_one off_read (feat name (class_of v) f) present,
          (steady_one off_read (feat name (class_of v) g) absent, tt),
        ),
      ) g refl in
      accept q ts apart FeatureOnFeature (of_entry name v f g) us (λ j. e1 j >>= λ p. e2 j >>= λ f. e3 j >>= λ g.
      Some (of_entry p.0 p.1 f g)) (entry-there q name v f g e n) refl same

  pub asking_found : (name : List ℕ) (v : Parts) (i : ℕ) (d : Dependency) (f g : List ℕ)
      → HasDep q (version_of name v) i d → HasEntry q name v f (dependency_feature d.name g)
      → SameTerms ts (without_full q (feature_holds name v f (at (ask name v i g) (absent ∷ []) ∷ [])))
      → is_instance q FeatureAsks ts ≡ true
  asking_found name v i d f g h e same =
      let us : List Term = feature_holds name v f (at (ask name v i g) (absent ∷ []) ∷ []) in
      let al = like q ts apart FeatureAsks us us (feature_asks name v i d f g h e) same
      (keeps q us [] (version_kept q name v, (refl, (refl, tt)))) in
      let e1 = read_same version_read ts us al (
        steady_one version_read (pkg name (class_of v)) (version v),
        (
          steady_one version_read (feat name (class_of v) f) present,
          (steady_one version_read (ask name v i g) absent, tt),
        ),
      ) (name, v) refl in
      let e2 = read_same on_read ts us al (
        steady_one on_read (pkg name (class_of v)) (version v),
        (steady_one on_read (feat name (class_of v) f) present, (steady_one on_read (ask name v i g) absent, tt)),
      ) f refl in
      let e3 = read_same ask_read ts us al (
        steady_one ask_read (pkg name (class_of v)) (version v),
        (steady_one ask_read (feat name (class_of v) f) present, (steady_one ask_read (ask name v i g) absent, tt)),
      ) (name, v, i, g) refl in
      accept q ts apart FeatureAsks (of_asking name v f g i) us (λ j. e1 j >>= λ p. e2 j >>= λ f. e3 j >>= λ a.
      Some (of_asking p.0 p.1 f a.3 a.2)) (asking-there q name v i d f g h e) refl same

  -- ---- FeatureOnDependency

  -- the cause that is found, once the version, the feature and a number are
  enabling_read : (name : List ℕ) (v : Parts) (f : List ℕ) (i : ℕ) (d : Dependency) (e : Entry)
      → first_read version_read ts ≡ Some (name, v) → first_read on_read ts ≡ Some f
      → option_or (number_read ts) (enabled_unmatched q name v f) ≡ Some i
      → dependency_at q (version_of name v) i ≡ Some d → find (enables d.name) (entries_of q name v f) ≡ Some e
      → enabling_in q ts ≡ Some (of_enabling name v f e i)
  enabling_read name v f i d e e1 e2 e3 e4 e5 =
      (λ j. e1 j >>= λ p. e2 j >>= λ f. option_or (number_read ts) (enabled_unmatched q p.0 p.1 f) >>= λ i.
      dependency_at q (version_of p.0 p.1) i >>= λ d.
      find (enables d.name) (entries_of q p.0 p.1 f) >>= λ e. Some (of_enabling p.0 p.1 f e i))
      ∙ ap (λ x. x >>= λ i. dependency_at q (version_of name v) i >>= λ d.
      find (enables d.name) (entries_of q name v f) >>= λ e. Some (of_enabling name v f e i)) e3
      ∙ ap (λ x. x >>= λ d. find (enables d.name) (entries_of q name v f) >>= λ e. Some (of_enabling name v f e i)) e4
      ∙ ap (λ x. x >>= λ e. Some (of_enabling name v f e i)) e5

  enabling_dropped : (name : List ℕ) (v : Parts) (f : List ℕ) (i : ℕ)
      → is_full q (at (dep (version_of name v) i) (absent ∷ [])) ≡ true
      → without_full q (feature_holds name v f (at (dep (version_of name v) i) (absent ∷ []) ∷ []))
      ≡ feature_holds name v f []
  enabling_dropped name v f i full = keeps q (feature_holds name v f [])
      (at (dep (version_of name v) i) (absent ∷ []) ∷ []) (version_kept q name v, (refl, tt))
      ∙ ap (λ l. feature_holds name v f l) (last_full q (at (dep (version_of name v) i) (absent ∷ [])) full)

  pub enabling_found : (name : List ℕ) (v : Parts) (i : ℕ) (d : Dependency) (f : List ℕ)
      → HasDep q (version_of name v) i d
      → HasEntry q name v f (dependency d.name) ⊎ ((g : List ℕ) × HasEntry q name v f (dependency_feature d.name g))
      → SameTerms ts (without_full q (feature_holds name v f (at (dep (version_of name v) i) (absent ∷ []) ∷ [])))
      → is_instance q FeatureOnDependency ts ≡ true
  enabling_found name v i d f h enabled same = by (is_full q (at (dep (version_of name v) i) (absent ∷ []))) refl
    where
      some : list_any (enables d.name) (entries_of q name v f) ≡ true
      some = let x = enabled_by q name v f d.name enabled in
          to_any (enables d.name) (entries_of q name v f) x.0 (to_entry q name v f x.0 x.1) x.2

      kept : is_full q (at (dep (version_of name v) i) (absent ∷ [])) ≡ false
          → is_instance q FeatureOnDependency ts ≡ true
      kept full =
          let us : List Term = feature_holds name v f (at (dep (version_of name v) i) (absent ∷ []) ∷ []) in
          let al = like q ts apart FeatureOnDependency us us (dependency_on name v i d f h enabled) same
          (keeps q us [] (version_kept q name v, (refl, (full, tt)))) in
          let e1 = read_same version_read ts us al (
            steady_one version_read (pkg name (class_of v)) (version v),
            (
              steady_one version_read (feat name (class_of v) f) present,
              (steady_one version_read (dep (version_of name v) i) absent, tt),
            ),
          ) (name, v) refl in
          let e2 = read_same on_read ts us al (
            steady_one on_read (pkg name (class_of v)) (version v),
            (
              steady_one on_read (feat name (class_of v) f) present,
              (steady_one on_read (dep (version_of name v) i) absent, tt),
            ),
          ) f refl in
          let e3 = read_same dep_read ts us al (
            steady_one dep_read (pkg name (class_of v)) (version v),
            (
              steady_one dep_read (feat name (class_of v) f) present,
              (steady_one dep_read (dep (version_of name v) i) absent, tt),
            ),
          ) (version_of name v, i) refl in
          let x = find-there (enables d.name) (entries_of q name v f) some in
          accept q ts apart FeatureOnDependency (of_enabling name v f x.0 i) us
          (enabling_read name v f i d x.0 e1 e2
          (ap (λ r. option_or (option_map (λ p. p.1) r) (enabled_unmatched q name v f)) e3) h.1 x.1)
          (enabling-there q name v i d f x.0 h (entry-is q name v f x.0 x.2) x.3) refl same

      full : is_full q (at (dep (version_of name v) i) (absent ∷ [])) ≡ true
          → is_instance q FeatureOnDependency ts ≡ true
      full f_full =
          let us : List Term = feature_holds name v f (at (dep (version_of name v) i) (absent ∷ []) ∷ []) in
          let ws : List Term = feature_holds name v f [] in
          let al = like q ts apart FeatureOnDependency us ws (dependency_on name v i d f h enabled) same
          (enabling_dropped name v f i f_full) in
          let e1 = read_same version_read ts ws al (
            steady_one version_read (pkg name (class_of v)) (version v),
            (steady_one version_read (feat name (class_of v) f) present, tt),
          ) (name, v) refl in
          let e2 = read_same on_read ts ws al (
            steady_one on_read (pkg name (class_of v)) (version v),
            (steady_one on_read (feat name (class_of v) f) present, tt),
          ) f refl in
          let e3 = read_nothing dep_read ts ws al (
            steady_one dep_read (pkg name (class_of v)) (version v),
            (steady_one dep_read (feat name (class_of v) f) present, tt),
          ) refl in
          let p = place-there (λ d. list_any (enables d.name) (entries_of q name v f) && is_unmatched q d)
          (owner_brings q (version_of name v)).dependencies i d h.1
          (and_from (list_any (enables d.name) (entries_of q name v f)) (is_unmatched q d) some
          (sym (dep_full q (version_of name v) i d h.1) ∙ f_full)) in
          let b = both (list_any (enables (p.1).name) (entries_of q name v f)) (is_unmatched q p.1) p.4 in
          let x = find-there (enables (p.1).name) (entries_of q name v f) b.0 in
          let same_left = enabling_dropped name v f i f_full
          ∙ sym (enabling_dropped name v f p.0 (dep_full q (version_of name v) p.0 p.1 p.3 ∙ b.1)) in
          accept q ts apart FeatureOnDependency (of_enabling name v f x.0 p.0)
          (feature_holds name v f (at (dep (version_of name v) p.0) (absent ∷ []) ∷ []))
          (enabling_read name v f p.0 p.1 x.0 e1 e2
          (ap (λ r. option_or (option_map (λ p. p.1) r) (enabled_unmatched q name v f)) e3 ∙ p.2) p.3 x.1)
          (enabling-there q name v p.0 p.1 f x.0 (dep_owner q (version_of name v) p.0 p.1 p.3)
          (entry-is q name v f x.0 x.2) x.3) refl (subst (SameTerms ts) same_left same)

      by : (b : Bool) → is_full q (at (dep (version_of name v) i) (absent ∷ [])) ≡ b
          → is_instance q FeatureOnDependency ts ≡ true
      by true f = full f
      by false f = kept f

  -- ---- WeakFeature

  pub weak_found : (name : List ℕ) (v : Parts) (i : ℕ) (d : Dependency) (k : Class) (f g : List ℕ)
      → HasDep q (version_of name v) i d → HasClass q d k
      → HasEntry q name v f (weak_feature d.name g) → feat name (class_of v) f ≢ feat d.real_name k g
      → SameTerms ts (without_full q (feature_holds name v f (at (dep (version_of name v) i) (in_class k ∷ [])
      ∷ at (feat d.real_name k g) (absent ∷ []) ∷ []))) → is_instance q WeakFeature ts ≡ true
  weak_found name v i d k f g h c e n same =
      let us : List Term = feature_holds name v f
      (at (dep (version_of name v) i) (in_class k ∷ []) ∷ at (feat d.real_name k g) (absent ∷ []) ∷ []) in
      let al = like q ts apart WeakFeature us us (weakly name v i d k f g h c e n) same (keeps q us [] (
        version_kept q name v,
        (refl, (not_full q (dep (version_of name v) i) (in_class k ∷ []) refl, (refl, tt))),
      )) in
      let e1 = read_same version_read ts us al (
        steady_one version_read (pkg name (class_of v)) (version v),
        (
          steady_one version_read (feat name (class_of v) f) present,
          (
            steady_one version_read (dep (version_of name v) i) (in_class k),
            (steady_one version_read (feat d.real_name k g) absent, tt),
          ),
        ),
      ) (name, v) refl in
      let e2 = read_same on_read ts us al (
        steady_one on_read (pkg name (class_of v)) (version v),
        (
          steady_one on_read (feat name (class_of v) f) present,
          (
            steady_one on_read (dep (version_of name v) i) (in_class k),
            (steady_one on_read (feat d.real_name k g) absent, tt),
          ),
        ),
      ) f refl in
      let e3 = read_same off_read ts us al (
        steady_one off_read (pkg name (class_of v)) (version v),
        (
          steady_one off_read (feat name (class_of v) f) present,
          (
            steady_one off_read (dep (version_of name v) i) (in_class k),
            (steady_one off_read (feat d.real_name k g) absent, tt),
          ),
        ),
      ) g refl in
      let e4 = read_same led_read ts us al (
        steady_one led_read (pkg name (class_of v)) (version v),
        (
          steady_one led_read (feat name (class_of v) f) present,
          (
            steady_one led_read (dep (version_of name v) i) (in_class k),
            (steady_one led_read (feat d.real_name k g) absent, tt),
          ),
        ),
      ) (version_of name v, i, k) refl in
      accept q ts apart WeakFeature (of_weak name v f g i k) us (λ j. e1 j >>= λ p. e2 j >>= λ f. e3 j >>= λ g.
      e4 j >>= λ l. Some (of_weak p.0 p.1 f g l.1 l.2)) (weak-there q name v i d k f g h c e n)
      (ap (terms_with _) h.1) same
