-- An assignment that breaks no instance says what holds of what the root reaches in it.
use Rattle.std.specs.Prelude.{⊤}
use Rattle.std.proofs.Common.{◌≡◌, ◌≢◌, ℕ, List, [], ◌∷◌, map, filter, Bool, true, false, not, Contains, Some, refl}
use Rattle.std.proofs.Common.{sym, ap, ◌∙◌, subst, inl, inr, ◌⊎◌, true≢false}
use Rattle.semver.specs.Parse.{Parts}
use Rattle.semver.specs.EvalViews.{matches_views}
use Rattle.model.specs.Summary.{Dependency, Entry, feature, dependency, dependency_feature, weak_feature}
use Rattle.model.specs.Summary.{asked_of_target, same_text, has_feature, entries_at}
use Rattle.model.specs.Selection.{Fact, here, on, enabled, Brings, Lists, Class, class_of}
use Rattle.model.specs.Selection.Holds.{starts, arrives, root_needs, needs, asks, root_wants, turns_on, enables}
use Rattle.model.specs.Selection.Holds.{enables_for, wants, wants_weakly}
use Rattle.model.specs.Content.{Problem, Candidate, candidates_of, candidate_at, brings_of}
use Rattle.model.specs.Vertices.{Owner, the_root, version_of, Vertex, root, pkg, dep, feat, ask, State, absent, present}
use Rattle.model.specs.Vertices.{version, in_class, same_vertex, same_class, owner_brings, dep_classes}
use Rattle.model.specs.Vertices.{class_candidates, in_that_class, dep_space, space}
use Rattle.model.specs.Axioms.{at, Root, Needed, Target, HasFeature, WantsFeature, FeatureOnFeature}
use Rattle.model.specs.Axioms.{FeatureOnDependency, FeatureAsks, NewestListed, WeakFeature, HasOneOf, owner_holds}
use Rattle.model.specs.Axioms.{IsOwner, HasDep, HasClass, HasEntry, absent_or, versions_that, matched, is_lower}
use Rattle.model.specs.Axioms.{HasFeatVertex, RootAsks, IsInstance}
use Rattle.model.specs.Axioms.IsInstance.{root_is, needed, has_target, has_its_feature, wants_by_list, wants_by_entry}
use Rattle.model.specs.Axioms.IsInstance.{feature_on, dependency_on, feature_asks, newest_listed, weakly}
use Rattle.model.specs.Axioms.HasFeatVertex.{had, asked as vertex_of_asked, by_entry}
use Rattle.model.specs.Order.{IsCatalogue}
use Rattle.model.specs.inner.Search.{IsUnbroken, LeadsTo, IsTheRoot, IsReachedFact, IsPresent, IsOn, SaysOfFact}
use Rattle.model.proofs.Same.{class-same, text-same, text-refl, vertex-same, vertex-refl, class-refl}
use Rattle.model.proofs.Inner.{version_inner}
use Rattle.model.proofs.Lists.{in_first, in_rest, in_cons, in_none, in_filter, to_filter, in_map, to_map, to_any}
use Rattle.model.proofs.Spaces.{state_from, state_in}
use Rattle.model.proofs.Orders.{not_lower_itself}
use Rattle.model.proofs.Contents.{feature_known}
use Rattle.model.proofs.Owners.{candidate_at-is, candidate_at-there}

module _ (q : Problem) (state : Vertex → State) (ok : IsUnbroken q state) where
  -- the vertex has this state, and so one of a list with it
  one : (v : Vertex) (x : State) → state v ≡ x → HasOneOf (λ v s. state v ≡ s) v (x ∷ [])
  one v x e = (x, e, state_in (x ∷ []) x (in_first x []))

  present_or_not : (v : Vertex) → space q v ≡ absent ∷ present ∷ [] → state v ≢ absent → state v ≡ present
  present_or_not v e n =
      let c : Contains (absent ∷ present ∷ []) (state v) =
      subst (λ ss. Contains ss (state v)) e (state_from (space q v) (state v) (ok.within v)) in
      elim (in_cons absent (state v) (present ∷ []) c) [
        | inl a ↦ absurd (n (sym a))
        | inr c ↦ elim (in_cons present (state v) [] c) [ inl p ↦ sym p | inr c ↦ absurd (in_none (state v) c) ]
      ]

  -- a version that is chosen is a candidate's, of that class
  pub chosen_version : (name : List ℕ) (k : Class) (v : Parts) → state (pkg name k) ≡ version v
      → (c : Candidate) × Contains (candidates_of q.candidates name) c × (c.version ≡ v) × (class_of v ≡ k)
  chosen_version name k v e =
      let vs : List State = map (λ (x : Candidate). version x.version) (class_candidates q name k) in
      let c : Contains (absent ∷ vs) (version v) = subst (λ s. Contains (absent ∷ vs) s) e
      (state_from (space q (pkg name k)) (state (pkg name k)) (ok.within (pkg name k))) in
      let d : Contains vs (version v) = elim
      (in_cons absent (version v) vs c) [ inl a ↦ absurd (let x : absent ≡ version v = a in cc) | inr c ↦ c ] in
      let r = in_map (λ (x : Candidate). version x.version) (class_candidates q name k) (version v) d in
      let f = in_filter (in_that_class k) (candidates_of q.candidates name) r.0 r.1 in
      let is : (r.0).version ≡ v = version_inner (r.0).version v r.2 in
      (r.0, f.0, is, sym (class-same k (class_of (r.0).version) f.1 ∙ ap class_of is))

  -- and what is found there
  found_version : (name : List ℕ) (v : Parts) → IsPresent q state (version_of name v)
      → (c : Candidate) × (candidate_at (candidates_of q.candidates name) v ≡ Some c)
      × Contains (candidates_of q.candidates name) c × Contains (class_candidates q name (class_of v)) c
      × (v ≡ c.version)
  found_version name v h =
      let c = chosen_version name (class_of v) v h in
      let e = candidate_at-there (candidates_of q.candidates name) c.0 c.1 in
      let at_v : candidate_at (candidates_of q.candidates name) v ≡ Some e.0 =
      subst (λ w. candidate_at (candidates_of q.candidates name) w ≡ Some e.0) c.2 e.1 in
      let r = candidate_at-is (candidates_of q.candidates name) v e.0 at_v in
      let in_it : Contains (class_candidates q name (class_of v)) e.0 =
      to_filter (in_that_class (class_of v)) (candidates_of q.candidates name) e.0 r.0
      (subst (λ w. same_class (class_of v) (class_of w) ≡ true) r.1 (class-refl (class_of v))) in
      (e.0, at_v, r.0, in_it, r.1)

  is_owner : (n : Owner) → IsPresent q state n → IsOwner q n
  is_owner the_root h = tt
  is_owner (version_of name v) h = let c = chosen_version name (class_of v) v h in (c.0, c.1, c.2)

  has_dep : (n : Owner) (i : ℕ) (d : Dependency) → IsPresent q state n → Brings (owner_brings q) n i d → HasDep q n i d
  has_dep n i d h b = (is_owner n h, b)

  has_entry : (name : List ℕ) (v : Parts) (f : List ℕ) (e : Entry) → IsPresent q state (version_of name v)
      → Lists (owner_brings q) (version_of name v) f e → HasEntry q name v f e
  has_entry name v f e h l = (is_owner (version_of name v) h, l.0, l.1, l.2)

  -- a class that is chosen is one in which a candidate matches
  pub chosen_class : (n : Owner) (i : ℕ) (d : Dependency) → Brings (owner_brings q) n i d → state (dep n i) ≢ absent
      → (k : Class) × (state (dep n i) ≡ in_class k) × HasClass q d k
  chosen_class n i d b no_absent =
      let ks : List State = map in_class (dep_classes q d) in
      let c : Contains (absent ∷ ks) (state (dep n i)) = subst (λ o. Contains (dep_space q o) (state (dep n i))) b
      (state_from (space q (dep n i)) (state (dep n i)) (ok.within (dep n i))) in
      let e : Contains ks (state (dep n i)) =
      elim (in_cons absent (state (dep n i)) ks c) [ inl a ↦ absurd (no_absent (sym a)) | inr c ↦ c ] in
      let r = in_map in_class (dep_classes q d) (state (dep n i)) e in
      (r.0, sym r.2, r.1)

  has_class : (n : Owner) (i : ℕ) (d : Dependency) (k : Class) → Brings (owner_brings q) n i d
      → state (dep n i) ≡ in_class k → HasClass q d k
  has_class n i d k b e =
      let r = chosen_class n i d b (λ a. let x : in_class k ≡ absent = sym e ∙ a in cc) in
      let x : in_class r.0 ≡ in_class k = sym r.1 ∙ e in
      let is : r.0 ≡ k = cc in
      subst (λ m. HasClass q d m) is r.2

  pub root_present : state root ≡ present
  root_present = present_or_not root refl (λ a. ok.unbroken Root _ root_is (one root absent a, tt))

  owner_term : (n : Owner) → IsPresent q state n
      → HasOneOf (λ v s. state v ≡ s) (owner_holds n).vertex (owner_holds n).states
  owner_term the_root h = one root present root_present
  owner_term (version_of name v) h = one (pkg name (class_of v)) (version v) h

  -- a feature that is on at a target
  on_target : (n : Owner) (i : ℕ) (d : Dependency) (t : Owner) (g : List ℕ) (l : LeadsTo q state n i d t)
      → state (feat d.real_name l.k g) ≢ absent → IsOn q state t g
  on_target n i d t g l no_absent =
      let c = chosen_version d.real_name l.k l.v l.locked in
      let p : state (feat d.real_name l.k g) ≡ present = present_or_not (feat d.real_name l.k g) refl no_absent in
      subst (λ o. IsOn q state o g) (sym l.target) (
        subst (λ k. state (pkg d.real_name k) ≡ version l.v) (sym c.3) l.locked,
        subst (λ k. state (feat d.real_name k g) ≡ present) (sym c.3) p,
      )

  arrive : (n : Owner) (i : ℕ) (d : Dependency) (t : Owner) → LeadsTo q state n i d t → IsPresent q state t
  arrive n i d t l =
      let c = chosen_version d.real_name l.k l.v l.locked in
      subst (λ o. IsPresent q state o) (sym l.target)
      (subst (λ k. state (pkg d.real_name k) ≡ version l.v) (sym c.3) l.locked)

  need : (n : Owner) (i : ℕ) (d : Dependency) → IsPresent q state n → Brings (owner_brings q) n i d
      → (HasDep q n i d → IsInstance q Needed (owner_holds n ∷ at (dep n i) (absent ∷ []) ∷ []))
      → IsPresent q state n × (state (dep n i) ≢ absent)
  need n i d h b inst =
      (h, λ a. ok.unbroken Needed _ (inst (has_dep n i d h b)) (owner_term n h, (one (dep n i) absent a, tt)))

  need_root : (n : Owner) (i : ℕ) (d : Dependency) → IsTheRoot q state n → Brings (owner_brings q) n i d
      → IsPresent q state n × (state (dep n i) ≢ absent)
  need_root n i d e b =
      subst (λ o. IsPresent q state o × (state (dep o i) ≢ absent)) (sym e)
      (need the_root i d tt (subst (λ o. Brings (owner_brings q) o i d) e b) (λ h. needed the_root i d h tt))

  need_each : (n : Owner) (i : ℕ) (d : Dependency) → IsPresent q state n → Brings (owner_brings q) n i d
      → d.optional ≡ false → IsPresent q state n × (state (dep n i) ≢ absent)
  need_each the_root i d h b o = need the_root i d h b (λ h. needed the_root i d h tt)
  need_each (version_of name v) i d h b o = need (version_of name v) i d h b (λ h. needed (version_of name v) i d h o)

  asked : (n t : Owner) (i : ℕ) (d : Dependency) (g : List ℕ) → IsPresent q state n → Brings (owner_brings q) n i d
      → LeadsTo q state n i d t
      → Contains (asked_of_target d) g ⊎ RootAsks q n d g → IsOn q state t g
  asked n t i d g h b l a = on_target n i d t g l
      (λ off. ok.unbroken WantsFeature _
      (wants_by_list n i d l.k g (has_dep n i d h b) (has_class n i d l.k b l.chosen) a)
      (one (dep n i) (in_class l.k) l.chosen, (one (feat d.real_name l.k g) absent off, tt)))

  asked_by_root : (n t : Owner) (i : ℕ) (d : Dependency) (g : List ℕ) → IsTheRoot q state n
      → Brings (owner_brings q) n i d → LeadsTo q state n i d t
      → Contains q.root_asks (d.name, g) → IsOn q state t g
  asked_by_root n t i d g e b l a = asked the_root t i d g tt (subst (λ o. Brings (owner_brings q) o i d) e b)
      (subst (λ o. LeadsTo q state o i d t) e l) (inr a)

  turn : (n : Owner) (f g : List ℕ) → IsOn q state n f → Lists (owner_brings q) n f (feature g) → IsOn q state n g
  turn the_root f g h l = absurd h
  turn (version_of name v) f g (h, p) l = (h, by (same_text f g) refl)
    where
      by : (b : Bool) → same_text f g ≡ b → state (feat name (class_of v) g) ≡ present
      by true e = subst (λ x. state (feat name (class_of v) x) ≡ present) (text-same f g e) p
      by false e = present_or_not (feat name (class_of v) g) refl
          (λ off. ok.unbroken FeatureOnFeature _ (feature_on name v f g (has_entry name v f (feature g) h l)
          (λ same. true≢false (sym (text-refl f) ∙ ap (same_text f) same ∙ e))) (
            one (pkg name (class_of v)) (version v) h,
            (one (feat name (class_of v) f) present p, (one (feat name (class_of v) g) absent off, tt)),
          ))

  enable : (n : Owner) (i : ℕ) (d : Dependency) (f : List ℕ) → IsOn q state n f → Brings (owner_brings q) n i d
      → Lists (owner_brings q) n f (dependency d.name)
      ⊎ ((g : List ℕ) × Lists (owner_brings q) n f (dependency_feature d.name g))
      → IsPresent q state n × (state (dep n i) ≢ absent)
  enable the_root i d f h b l = absurd h
  enable (version_of name v) i d f (h, p) b l = (
    h,
    λ off. ok.unbroken FeatureOnDependency _
        (dependency_on name v i d f (has_dep (version_of name v) i d h b) (elim l [
          | inl e ↦ inl (has_entry name v f (dependency d.name) h e)
          | inr e ↦ inr (e.0, has_entry name v f (dependency_feature d.name e.0) h e.1)
        ])) (
          one (pkg name (class_of v)) (version v) h,
          (one (feat name (class_of v) f) present p, (one (dep (version_of name v) i) absent off, tt)),
        ),
  )

  -- an entry `d/g` of a feature that is on asks
  pub asking : (name : List ℕ) (v : Parts) (i : ℕ) (d : Dependency) (f g : List ℕ) → IsOn q state (version_of name v) f
      → Brings (owner_brings q) (version_of name v) i d
      → Lists (owner_brings q) (version_of name v) f (dependency_feature d.name g) → state (ask name v i g) ≡ present
  asking name v i d f g (h, p) b l = present_or_not (ask name v i g) refl
      (λ off. ok.unbroken FeatureAsks _ (feature_asks name v i d f g (has_dep (version_of name v) i d h b)
      (has_entry name v f (dependency_feature d.name g) h l)) (
        one (pkg name (class_of v)) (version v) h,
        (one (feat name (class_of v) f) present p, (one (ask name v i g) absent off, tt)),
      ))

  want : (n t : Owner) (i : ℕ) (d : Dependency) (f g : List ℕ) → IsOn q state n f → Brings (owner_brings q) n i d
      → Lists (owner_brings q) n f (dependency_feature d.name g)
      → LeadsTo q state n i d t → IsOn q state t g
  want the_root t i d f g h b l to = absurd h
  want (version_of name v) t i d f g (h, p) b l to = on_target (version_of name v) i d t g to
      (λ off. ok.unbroken WantsFeature _
      (wants_by_entry name v i d to.k f g (has_dep (version_of name v) i d h b)
      (has_class (version_of name v) i d to.k b to.chosen) (has_entry name v f (dependency_feature d.name g) h l)) (
        one (ask name v i g) present (asking name v i d f g (h, p) b l),
        (
          one (dep (version_of name v) i)
              (in_class to.k) to.chosen,
          (one (feat d.real_name to.k g) absent off, tt),
        ),
      ))

  want_weakly : (n t : Owner) (i : ℕ) (d : Dependency) (f g : List ℕ) → IsOn q state n f → Brings (owner_brings q) n i d
      → Lists (owner_brings q) n f (weak_feature d.name g)
      → LeadsTo q state n i d t → IsOn q state t g
  want_weakly the_root t i d f g h b l to = absurd h
  want_weakly (version_of name v) t i d f g (h, p) b l to = on_target (version_of name v) i d t g to
      (λ off. by off (same_vertex (feat name (class_of v) f) (feat d.real_name to.k g)) refl)
    where
      by : state (feat d.real_name to.k g) ≡ absent → (b : Bool)
          → same_vertex (feat name (class_of v) f) (feat d.real_name to.k g) ≡ b → ⊥
      by off true e = let x : present ≡ absent =
          sym p ∙ ap state (vertex-same (feat name (class_of v) f) (feat d.real_name to.k g) e) ∙ off in cc
      by off false e = ok.unbroken WeakFeature _
          (weakly name v i d to.k f g (has_dep (version_of name v) i d h b)
          (has_class (version_of name v) i d to.k b to.chosen) (has_entry name v f (weak_feature d.name g) h l)
          (λ same. true≢false
          (sym (vertex-refl (feat name (class_of v) f)) ∙ ap (same_vertex (feat name (class_of v) f)) same ∙ e))) (
            one (pkg name (class_of v)) (version v) h,
            (
              one (feat name (class_of v) f) present p,
              (
                one (dep (version_of name v) i) (in_class to.k) to.chosen,
                (one (feat d.real_name to.k g) absent off, tt),
              ),
            ),
          )

  -- each fact that the root reaches is what the assignment says
  pub reached_says : (f : Fact Owner) → IsReachedFact q state f → SaysOfFact q state f
  reached_says f (starts n e) = subst (λ o. IsPresent q state o) (sym e) tt
  reached_says f (arrives n t i d h b l) = arrive n i d t l
  reached_says f (root_needs n i d h e b) = need_root n i d e b
  reached_says f (needs n i d h b o) = need_each n i d (reached_says (here n) h) b o
  reached_says f (asks n t i d g h b l a) = asked n t i d g (reached_says (enabled n i) h).0 b l (inl a)
  reached_says f (root_wants n t i d g h e b l a) = asked_by_root n t i d g e b l a
  reached_says f (turns_on n g k h l) = turn n g k (reached_says (on n g) h) l
  reached_says f (enables n i d g h b l) = enable n i d g (reached_says (on n g) h) b (inl l)
  reached_says f (enables_for n i d g k h b l) = enable n i d g (reached_says (on n g) h) b (inr (k, l))
  reached_says f (wants n t i d g k h b l to) = want n t i d g k (reached_says (on n g) h) b l to
  reached_says f (wants_weakly n t i d g k h b l e to) = want_weakly n t i d g k (reached_says (on n g) h) b l to

  -- the state of a name and class
  pkg_cases : (name : List ℕ) (k : Class) → (state (pkg name k) ≡ absent)
      ⊎ ((c : Candidate) × Contains (class_candidates q name k) c × (state (pkg name k) ≡ version c.version))
  pkg_cases name k =
      let vs : List State = map (λ (x : Candidate). version x.version) (class_candidates q name k) in
      elim (in_cons absent (state (pkg name k)) vs
      (state_from (space q (pkg name k)) (state (pkg name k)) (ok.within (pkg name k)))) [
        | inl a ↦ inl (sym a)
        | inr c ↦ let r = in_map (λ (x : Candidate). version x.version) (class_candidates q name k)
            (state (pkg name k)) c in inr (r.0, r.1, sym r.2)
      ]

  -- the state is absent, or a version that passes the test
  one_absent : (test : Candidate → Bool) (name : List ℕ) (k : Class) → state (pkg name k) ≡ absent
      → HasOneOf (λ v s. state v ≡ s) (pkg name k) (absent_or q test name k)
  one_absent test name k e =
      (absent, e, state_in (absent_or q test name k) absent (in_first absent (versions_that q test name k)))

  one_that : (test : Candidate → Bool) (name : List ℕ) (k : Class) (c : Candidate)
      → Contains (class_candidates q name k) c → test c ≡ true → state (pkg name k) ≡ version c.version
      → HasOneOf (λ v s. state v ≡ s) (pkg name k) (versions_that q test name k)
  one_that test name k c i t e = (
    version c.version,
    e,
    state_in (versions_that q test name k) (version c.version)
        (to_map (λ (x : Candidate). version x.version) (filter test (class_candidates q name k)) c
        (to_filter test (class_candidates q name k) c i t)),
  )

  one_or : (test : Candidate → Bool) (name : List ℕ) (k : Class) (c : Candidate)
      → Contains (class_candidates q name k) c → test c ≡ true → state (pkg name k) ≡ version c.version
      → HasOneOf (λ v s. state v ≡ s) (pkg name k) (absent_or q test name k)
  one_or test name k c i t e = (
    version c.version,
    e,
    state_in (absent_or q test name k) (version c.version)
        (in_rest absent (version c.version) (versions_that q test name k)
        (to_map (λ (x : Candidate). version x.version) (filter test (class_candidates q name k)) c
        (to_filter test (class_candidates q name k) c i t))),
  )

  -- and each enabled dependency that the root reaches leads to a version that it matches
  pub reached_met : (n : Owner) (i : ℕ) (d : Dependency) → IsReachedFact q state (enabled n i)
      → Brings (owner_brings q) n i d
      → (t : Owner) × (l : LeadsTo q state n i d t) × (matches_views d.requirement l.v ≡ true)
  reached_met n i d h b =
      let s = reached_says (enabled n i) h in
      let r = chosen_class n i d b s.1 in
      by r.0 r.1 r.2 (has_dep n i d s.0 b) (pkg_cases d.real_name r.0)
    where
      by : (k : Class) → state (dep n i) ≡ in_class k → HasClass q d k → HasDep q n i d
          → (state (pkg d.real_name k) ≡ absent) ⊎ ((c : Candidate) × Contains (class_candidates q d.real_name k) c
          × (state (pkg d.real_name k) ≡ version c.version))
          → (t : Owner) × (l : LeadsTo q state n i d t) × (matches_views d.requirement l.v ≡ true)
      by k e is has (inl a) = absurd (ok.unbroken Target _ (has_target n i d k has is)
          (one (dep n i) (in_class k) e, (one_absent (λ c. not (matched d c)) d.real_name k a, tt)))
      by k e is has (inr c) = (
        version_of d.real_name (c.0).version,
        record {
          k = k;
          v = (c.0).version;
          chosen =
              e;
          locked = c.2;
          target = refl;
        },
        fits (matches_views d.requirement (c.0).version) refl,
      )
        where
          fits : (b : Bool) → matches_views d.requirement (c.0).version ≡ b → b ≡ true
          fits true m = refl
          fits false m = absurd (ok.unbroken Target _ (has_target n i d k has is) (
            one (dep n i) (in_class k) e,
            (one_or (λ c. not (matched d c)) d.real_name k c.0 c.1 (ap not m) c.2, tt),
          ))

  -- what a feature that is on has: a vertex
  abbrev pub HasVertexAt : Owner → List ℕ → Type 0
  HasVertexAt the_root f = ⊤
  HasVertexAt (version_of name v) f = HasFeatVertex q name (class_of v) f

  abbrev pub HasVertex : Fact Owner → Type 0
  HasVertex (here n) = ⊤
  HasVertex (on n f) = HasVertexAt n f
  HasVertex (enabled n i) = ⊤

  -- the version that a dependency leads to, as a candidate of its class
  at_target : (n : Owner) (i : ℕ) (d : Dependency) (t : Owner) (l : LeadsTo q state n i d t)
      → (c : Candidate) × Contains (class_candidates q d.real_name l.k) c
  at_target n i d t l =
      let c = chosen_version d.real_name l.k l.v l.locked in (
        c.0,
        to_filter (in_that_class l.k) (candidates_of q.candidates d.real_name) c.0 c.1
            (subst (λ w. same_class l.k (class_of w) ≡ true) (sym c.2)
            (subst (λ k. same_class l.k k ≡ true) (sym c.3) (class-refl l.k))),
      )

  vertex_at : (n : Owner) (i : ℕ) (d : Dependency) (t : Owner) (g : List ℕ) (l : LeadsTo q state n i d t)
      → HasFeatVertex q d.real_name l.k g → HasVertexAt t g
  vertex_at n i d t g l h =
      let c = chosen_version d.real_name l.k l.v l.locked in
      subst (λ o. HasVertexAt o g) (sym l.target) (subst (λ k. HasFeatVertex q d.real_name k g) (sym c.3) h)

  vertex_asked : (n t : Owner) (i : ℕ) (d : Dependency) (g : List ℕ) → IsPresent q state n
      → Brings (owner_brings q) n i d → LeadsTo q state n i d t
      → Contains (asked_of_target d) g ⊎ RootAsks q n d g → HasVertexAt t g
  vertex_asked n t i d g h b l a = let c = at_target n i d t l in
      vertex_at n i d t g l (vertex_of_asked n i d l.k g c.0 (has_dep n i d h b) c.1 a)

  vertex_by_entry : (n t : Owner) (i : ℕ) (d : Dependency) (f g : List ℕ) → IsOn q state n f
      → Brings (owner_brings q) n i d
      → Lists (owner_brings q) n f (dependency_feature d.name g) ⊎ Lists (owner_brings q) n f (weak_feature d.name g)
      → LeadsTo q state n i d t → HasVertexAt t g
  vertex_by_entry the_root t i d f g h b l to = absurd h
  vertex_by_entry (version_of name v) t i d f g (h, p) b l to = let c = at_target (version_of name v) i d t to in
      vertex_at (version_of name v) i d t g to
      (by_entry name v i d to.k f g c.0 (has_dep (version_of name v) i d h b) c.1 (elim l [
        | inl e ↦ inl (has_entry name v f (dependency_feature d.name g) h e)
        | inr e ↦ inr (has_entry name v f (weak_feature d.name g) h e)
      ]))

  vertex_turned : IsCatalogue q → (n : Owner) (f g : List ℕ) → IsOn q state n f
      → Lists (owner_brings q) n f (feature g) → HasVertexAt n g
  vertex_turned known the_root f g h l = absurd h
  vertex_turned known (version_of name v) f g (h, p) l =
      let c = found_version name v h in
      let entries : entries_at f ((c.0).brings).features ≡ Some l.0 =
      subst (λ o. entries_at f (brings_of o).features ≡ Some l.0) c.1 l.1 in
      had name (class_of v) g c.0 c.0 c.2 c.3 (feature_known q known name c.0 c.2 f g l.0 entries l.2)

  -- each feature that is on has a vertex
  pub reached_vertex : IsCatalogue q → (f : Fact Owner) → IsReachedFact q state f → HasVertex f
  reached_vertex known f (starts n e) = tt
  reached_vertex known f (arrives n t i d h b l) = tt
  reached_vertex known f (root_needs n i d h e b) = tt
  reached_vertex known f (needs n i d h b o) = tt
  reached_vertex known f (asks n t i d g h b l a) = vertex_asked n t i d g (reached_says (enabled n i) h).0 b l (inl a)
  reached_vertex known f (root_wants n t i d g h e b l a) =
      vertex_asked the_root t i d g tt (subst (λ o. Brings (owner_brings q) o i d) e b)
      (subst (λ o. LeadsTo q state o i d t) e l) (inr a)
  reached_vertex known f (turns_on n g k h l) = vertex_turned known n g k (reached_says (on n g) h) l
  reached_vertex known f (enables n i d g h b l) = tt
  reached_vertex known f (enables_for n i d g k h b l) = tt
  reached_vertex known f (wants n t i d g k h b l to) =
      vertex_by_entry n t i d g k (reached_says (on n g) h) b (inl l) to
  reached_vertex known f (wants_weakly n t i d g k h b l e to) =
      vertex_by_entry n t i d g k (reached_says (on n g) h) b (inr l) to

  -- a feature that is on, and has a vertex, is one of the version
  pub reached_exists : (name : List ℕ) (v : Parts) (f : List ℕ) → IsOn q state (version_of name v) f
      → HasFeatVertex q name (class_of v) f
      → has_feature (owner_brings q (version_of name v)).features f ≡ true
  reached_exists name v f (h, p) vertex =
      let c = found_version name v h in
      ap (λ o. has_feature (brings_of o).features f) c.1 ∙ by c.0 c.3 c.4 (has_feature ((c.0).brings).features f) refl
    where
      by : (e : Candidate) → Contains (class_candidates q name (class_of v)) e → v ≡ e.version → (b : Bool)
          → has_feature (e.brings).features f ≡ b → b ≡ true
      by e i w true x = refl
      by e i w false x = absurd (ok.unbroken HasFeature _ (has_its_feature name (class_of v) f vertex) (
        one (feat name (class_of v) f) present p,
        (
          one_or (λ c. not (has_feature c.brings.features f)) name
              (class_of v) e i (ap not x) (h ∙ ap version w),
          tt,
        ),
      ))

  -- no lower class is chosen where another dependency brings a newer version that serves
  pub reached_newest : (n : Owner) (i j : ℕ) (d e : Dependency) (k m : Class) (v : Parts) → IsPresent q state n
      → Brings (owner_brings q) n i d → Brings (owner_brings q) n j e
      → d.real_name ≡ e.real_name → state (dep n i) ≡ in_class k → state (dep n j) ≡ in_class m
      → state (pkg d.real_name m) ≡ version v
      → matches_views d.requirement v ≡ true → is_lower k m ≡ true → ⊥
  reached_newest n i j d e k m v h b c same at_i at_j at_m fits lower =
      elim (pkg_cases d.real_name m) [
        | inl a ↦ (let x : absent ≡ version v = sym a ∙ at_m in cc)
        | inr r ↦
            let is : (r.0).version ≡ v = version_inner (r.0).version v (sym r.2 ∙ at_m) in
            let served : matched d r.0 ≡ true = ap (matches_views d.requirement) is ∙ fits in
            ok.unbroken NewestListed _
            (newest_listed n i j d e k m other (has_dep n i d h b) (has_dep n j e h c) same (has_class n i d k b at_i)
            (has_class n j e m c at_j) lower
            (to_any (matched d) (class_candidates q d.real_name m) r.0 r.1 served)) (
              one (dep n i) (in_class k) at_i,
              (one (dep n j) (in_class m) at_j, (one_that (matched d) d.real_name m r.0 r.1 served r.2, tt)),
            )
      ]
    where
      other : i ≢ j
      other e =
          let x : in_class k ≡ in_class m = sym at_i ∙ ap (λ x. state (dep n x)) e ∙ at_j in
          let y : k ≡ m = cc in
          not_lower_itself m (subst (λ z. is_lower z m ≡ true) y lower)

  -- so each feature that is on exists
  pub reached_features : IsCatalogue q → (n : Owner) (f : List ℕ) → IsReachedFact q state (on n f)
      → has_feature (owner_brings q n).features f ≡ true
  reached_features known the_root f h = absurd (reached_says (on the_root f) h)
  reached_features known (version_of name v) f h = reached_exists name v f (reached_says (on (version_of name v) f) h)
      (reached_vertex known (on (version_of name v) f) h)
