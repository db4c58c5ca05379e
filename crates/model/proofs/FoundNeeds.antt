-- The terms of an instance that is about an owner's dependencies pass the test.
use Rattle.std.proofs.Common.{◌≡◌, ◌≢◌, ℕ, List, [], ◌∷◌, ◌++◌, cond, arith, Bool, true, false, not, ◌&&◌, Contains}
use Rattle.std.proofs.Common.{Some, None, option_map, nat_eq, refl, sym, ap, ◌∙◌, subst, inl, inr, ◌⊎◌, true≢false}
use Rattle.std.specs.List.{AllByRecursion, list_any, filter_map, cons_option}
use Rattle.std.specs.Option.{option_or}
use Rattle.std.proofs.lemmas.Bool.{and_from, eq-eqb, eqb-true, ltb-true, false_from_ne_true}
use Rattle.std.proofs.lemmas.Option.{none-some, same_Some}
use Rattle.semver.specs.Parse.{Parts}
use Rattle.model.specs.Summary.{Dependency, dependency_feature, asked_of_target}
use Rattle.model.specs.Content.{Problem}
use Rattle.model.specs.Selection.{Class, patch, minor, major}
use Rattle.model.specs.Vertices.{Owner, version_of, pkg, dep, feat, ask, absent, present, in_class, class_candidates}
use Rattle.model.specs.Vertices.{owner_brings}
use Rattle.model.specs.Axioms.{Term, at, Needed, Target, WantsFeature, NewestListed, AreApart, is_lower, owner_holds}
use Rattle.model.specs.Axioms.{matched, absent_or, versions_that, IsNeeded, HasDep, HasClass, HasEntry, RootAsks}
use Rattle.model.specs.Axioms.{is_full, without_full}
use Rattle.model.specs.Axioms.IsInstance.{needed, has_target, wants_by_list, wants_by_entry, newest_listed}
use Rattle.model.specs.Derivation.{SameTerms}
use Rattle.model.proofs.Lists.{in_cons, in_first}
use Rattle.model.proofs.Same.{both}
use Rattle.model.specs.Causes.{of_need, of_target, of_list, of_ask, of_newest, is_needed, is_unmatched}
use Rattle.model.specs.Causes.{terms_with}
use Rattle.model.specs.inner.Instances.{◌>>=◌, first_read, read_term, owner_read, dep_read, led_read}
use Rattle.model.specs.inner.Instances.{other_read, off_read, ask_read, needed_unmatched, list_in, newest_of, newest_in}
use Rattle.model.specs.inner.Instances.{is_instance}
use Rattle.model.proofs.Bools.{place-there}
use Rattle.model.proofs.Named.{needed-is, to_needed, dep_owner}
use Rattle.model.proofs.CauseLaws.{need-there, target-there, list-there, ask-there, newest-there}
use Rattle.model.proofs.Reading.{Alike, Steady, steady_one, steady_never, no_reading, read_same, read_some}
use Rattle.model.proofs.Reading.{read_nothing, not_full, keeps, last_full}
use Rattle.model.proofs.FoundTerms.{dep_full, owner_reads, owner_no_dep, owner_kept, owner_steady, accept, like}
use Rattle.model.proofs.FoundTerms.{two_cases}

-- of two classes one is the lower
lower_once : (k m : Class) → is_lower k m ≡ true → is_lower m k ≡ true → ⊥
lower_once (patch a) (patch b) h g = let x = ltb-true a b h in let y = ltb-true b a g in omega arith
lower_once (patch a) (minor b) h g = true≢false (sym g)
lower_once (patch a) (major b) h g = true≢false (sym g)
lower_once (minor a) (patch b) h g = true≢false (sym h)
lower_once (minor a) (minor b) h g = let x = ltb-true a b h in let y = ltb-true b a g in omega arith
lower_once (minor a) (major b) h g = true≢false (sym g)
lower_once (major a) (patch b) h g = true≢false (sym h)
lower_once (major a) (minor b) h g = true≢false (sym h)
lower_once (major a) (major b) h g = let x = ltb-true a b h in let y = ltb-true b a g in omega arith

module _ (q : Problem) (ts : List Term) (apart : AreApart ts) where
  -- ---- Needed

  pub need_found : (o : Owner) (i : ℕ) (d : Dependency) → HasDep q o i d → IsNeeded o d
      → SameTerms ts (without_full q (owner_holds o ∷ at (dep o i) (absent ∷ []) ∷ []))
      → is_instance q Needed ts ≡ true
  need_found o i d h n same = by (is_full q (at (dep o i) (absent ∷ []))) refl
    where
      kept : is_full q (at (dep o i) (absent ∷ [])) ≡ false → is_instance q Needed ts ≡ true
      kept f =
          let us : List Term = owner_holds o ∷ at (dep o i) (absent ∷ []) ∷ [] in
          let al = like q ts apart Needed us us (needed o i d h n) same (keeps q us [] (owner_kept q o, (f, tt))) in
          let e1 = read_same owner_read ts us al (
            owner_steady q owner_read o,
            (steady_one owner_read (dep o i) absent, tt),
          ) o (ap (λ r. cons_option r []) (owner_reads q o)) in
          let e2 = read_same dep_read ts us al (owner_steady q dep_read o, (steady_one dep_read (dep o i) absent, tt))
          (o, i) (ap (λ r. cons_option r ((o, i) ∷ [])) (owner_no_dep q o)) in
          accept q ts apart Needed (of_need o i) us (λ j. e1 j >>= λ o. option_or (option_map (λ p. p.1) (e2 j))
          (needed_unmatched q o) >>= λ i. Some (of_need o i)) (need-there q o i d h n) refl same

      dropped : (o : Owner) (i : ℕ) → is_full q (at (dep o i) (absent ∷ [])) ≡ true
          → without_full q (owner_holds o ∷ at (dep o i) (absent ∷ []) ∷ []) ≡ owner_holds o ∷ []
      dropped o i f = keeps q (owner_holds o ∷ []) (at (dep o i) (absent ∷ []) ∷ []) (owner_kept q o, tt)
          ∙ ap (λ l. owner_holds o ∷ l) (last_full q (at (dep o i) (absent ∷ [])) f)

      full : is_full q (at (dep o i) (absent ∷ [])) ≡ true → is_instance q Needed ts ≡ true
      full f =
          let us : List Term = owner_holds o ∷ at (dep o i) (absent ∷ []) ∷ [] in
          let ws : List Term = owner_holds o ∷ [] in
          let al = like q ts apart Needed us ws (needed o i d h n) same (dropped o i f) in
          let e1 = read_same owner_read ts ws al (owner_steady q owner_read o, tt) o
          (ap (λ r. cons_option r []) (owner_reads q o)) in
          let e2 = read_nothing dep_read ts ws al (owner_steady q dep_read o, tt)
          (ap (λ r. cons_option r []) (owner_no_dep q o)) in
          let p = place-there (λ d. is_needed o d && is_unmatched q d) (owner_brings q o).dependencies i d h.1
          (and_from (is_needed o d) (is_unmatched q d) (to_needed o d n) (sym (dep_full q o i d h.1) ∙ f)) in
          let b = both (is_needed o p.1) (is_unmatched q p.1) p.4 in
          let same_left = dropped o i f ∙ sym (dropped o p.0 (dep_full q o p.0 p.1 p.3 ∙ b.1)) in
          accept q ts apart Needed (of_need o p.0) (owner_holds o ∷ at (dep o p.0) (absent ∷ []) ∷ [])
          ((λ j. e1 j >>= λ o. option_or (option_map (λ p. p.1) (e2 j)) (needed_unmatched q o) >>= λ i.
          Some (of_need o i)) ∙ ap (λ x. x >>= λ i. Some (of_need o i)) p.2)
          (need-there q o p.0 p.1 (dep_owner q o p.0 p.1 p.3) (needed-is o p.1 b.0)) refl
          (subst (SameTerms ts) same_left same)

      by : (b : Bool) → is_full q (at (dep o i) (absent ∷ [])) ≡ b → is_instance q Needed ts ≡ true
      by true f = full f
      by false f = kept f

  -- ---- Target

  pub target_found : (o : Owner) (i : ℕ) (d : Dependency) (k : Class) → HasDep q o i d → HasClass q d k
      → SameTerms ts (without_full q (at (dep o i) (in_class k ∷ []) ∷ at (pkg d.real_name k)
      (absent_or q (λ c. not (matched d c)) d.real_name k) ∷ [])) → is_instance q Target ts ≡ true
  target_found o i d k h c same =
      let us : List Term = at (dep o i) (in_class k ∷ []) ∷ [] in
      let w : Term = at (pkg d.real_name k) (absent_or q (λ c. not (matched d c)) d.real_name k) in
      let e1 : first_read led_read ts ≡ Some (o, i, k) = two_cases q ts apart Target us w (first_read led_read ts
      ≡ Some (o, i, k)) (not_full q (dep o i) (in_class k ∷ []) refl, tt) (has_target o i d k h c) same
      (λ al. read_same led_read ts (us ++ w ∷ []) al (
        steady_one led_read (dep o i) (in_class k),
        (steady_never led_read w.vertex w.states (λ s. refl), tt),
      ) (o, i, k) refl)
      (λ al. read_same led_read ts us al (steady_one led_read (dep o i) (in_class k), tt) (o, i, k) refl) in
      accept q ts apart Target (of_target o i k) (us ++ w ∷ [])
      (λ j. e1 j >>= λ l. Some (of_target l.0 l.1 l.2)) (target-there q o i d k h c) (ap (terms_with _) h.1) same

  -- ---- WantsFeature

  pub list_found : (o : Owner) (i : ℕ) (d : Dependency) (k : Class) (g : List ℕ) → HasDep q o i d → HasClass q d k
      → Contains (asked_of_target d) g ⊎ RootAsks q o d g
      → SameTerms ts (without_full q (at (dep o i) (in_class k ∷ []) ∷ at (feat d.real_name k g) (absent ∷ []) ∷ []))
      → is_instance q WantsFeature ts ≡ true
  list_found o i d k g h c a same =
      let us : List Term = at (dep o i) (in_class k ∷ []) ∷ at (feat d.real_name k g) (absent ∷ []) ∷ [] in
      let al = like q ts apart WantsFeature us us (wants_by_list o i d k g h c a) same
      (keeps q us [] (not_full q (dep o i) (in_class k ∷ []) refl, (refl, tt))) in
      let e0 = read_nothing ask_read ts us al (
        steady_one ask_read (dep o i) (in_class k),
        (steady_one ask_read (feat d.real_name k g) absent, tt),
      ) refl in
      let e1 = read_same led_read ts us al (
        steady_one led_read (dep o i) (in_class k),
        (steady_one led_read (feat d.real_name k g) absent, tt),
      ) (o, i, k) refl in
      let e2 = read_same off_read ts us al (
        steady_one off_read (dep o i) (in_class k),
        (steady_one off_read (feat d.real_name k g) absent, tt),
      ) g refl in
      accept q ts apart WantsFeature (of_list o i k g) us
      (λ j. option_or (e0 j >>= λ a. first_read led_read ts >>= λ l. Some (of_ask a.0 a.1 a.2 a.3 l.2))
      (e1 j >>= λ l. e2 j >>= λ g. Some (of_list l.0 l.1 l.2 g)))
      (list-there q o i d k g h c a) (ap (terms_with _) h.1) same

  pub ask_found : (name : List ℕ) (v : Parts) (i : ℕ) (d : Dependency) (k : Class) (f g : List ℕ)
      → HasDep q (version_of name v) i d → HasClass q d k → HasEntry q name v f (dependency_feature d.name g)
      → SameTerms ts (without_full q (at (ask name v i g) (present ∷ [])
      ∷ at (dep (version_of name v) i) (in_class k ∷ []) ∷ at (feat d.real_name k g) (absent ∷ []) ∷ []))
      → is_instance q WantsFeature ts ≡ true
  ask_found name v i d k f g h c e same =
      let us : List Term = at (ask name v i g) (present ∷ []) ∷ at (dep (version_of name v) i) (in_class k ∷ [])
      ∷ at (feat d.real_name k g) (absent ∷ []) ∷ [] in
      let al = like q ts apart WantsFeature us us (wants_by_entry name v i d k f g h c e) same
      (keeps q us [] (refl, (not_full q (dep (version_of name v) i) (in_class k ∷ []) refl, (refl, tt)))) in
      let e1 = read_same ask_read ts us al (
        steady_one ask_read (ask name v i g) present,
        (
          steady_one ask_read (dep (version_of name v) i) (in_class k),
          (steady_one ask_read (feat d.real_name k g) absent, tt),
        ),
      ) (name, v, i, g) refl in
      let e2 = read_same led_read ts us al (
        steady_one led_read (ask name v i g) present,
        (
          steady_one led_read (dep (version_of name v) i) (in_class k),
          (steady_one led_read (feat d.real_name k g) absent, tt),
        ),
      ) (version_of name v, i, k) refl in
      accept q ts apart WantsFeature (of_ask name v i g k) us
      (λ j. option_or (e1 j >>= λ a. e2 j >>= λ l. Some (of_ask a.0 a.1 a.2 a.3 l.2)) (list_in ts))
      (ask-there q name v i d k f g h c e) (ap (terms_with _) h.1) same

  -- ---- NewestListed

  -- the two dependencies are read in either order
  newest_read : (o : Owner) (i j : ℕ) (k m : Class) → i ≢ j → is_lower k m ≡ true → (rest : List Term)
      → Alike ts (at (dep o i) (in_class k ∷ []) ∷ at (dep o j) (in_class m ∷ []) ∷ rest)
      → AllByRecursion (Steady led_read) rest → ((n : ℕ) → AllByRecursion (Steady (other_read n)) rest)
      → filter_map (read_term led_read) rest ≡ [] → ((n : ℕ) → filter_map (read_term (other_read n)) rest ≡ [])
      → newest_in ts ≡ Some (of_newest o i j k m)
  newest_read o i j k m n lower rest al led other no_led no_other =
      let r = read_some led_read ts ws al
      (steady_one led_read (dep o i) (in_class k), (steady_one led_read (dep o j) (in_class m), led)) first
      (in_first first (second ∷ rest)) (o, i, k) refl in
      elim (in_cons first r.2 (second ∷ rest) r.3) [
        | inl s ↦ at_first (r.1 ∙ ap Some (same_Some r.0 (o, i, k) (sym r.4 ∙ ap (read_term led_read) (sym s))))
        | inr c ↦ elim (in_cons second r.2 rest c) [
          | inl s ↦ at_second (r.1 ∙ ap Some (same_Some r.0 (o, j, m) (sym r.4 ∙ ap (read_term led_read) (sym s))))
          | inr c ↦ absurd (none-some r.0 (sym (no_reading led_read rest no_led r.2 c) ∙ r.4))
        ]
      ]
    where
      first : Term
      first = at (dep o i) (in_class k ∷ [])

      second : Term
      second = at (dep o j) (in_class m ∷ [])

      ws : List Term
      ws = at (dep o i) (in_class k ∷ []) ∷ at (dep o j) (in_class m ∷ []) ∷ rest

      differ : (a b : ℕ) → a ≢ b → nat_eq a b ≡ false
      differ a b n = false_from_ne_true (nat_eq a b) (λ t. n (eqb-true a b t))

      steady : (n : ℕ) → AllByRecursion (Steady (other_read n))
          (at (dep o i) (in_class k ∷ []) ∷ at (dep o j) (in_class m ∷ []) ∷ rest)
      steady n = (
        steady_one (other_read n) (dep o i) (in_class k),
        (steady_one (other_read n) (dep o j) (in_class m), other n),
      )

      at_first : first_read led_read ts ≡ Some (o, i, k) → newest_in ts ≡ Some (of_newest o i j k m)
      at_first e1 =
          let e2 = read_same (other_read i) ts ws al (steady i) (j, m)
          ((λ t. cons_option (cond (eq-eqb i i refl t) None (Some (i, k)))
          (cons_option (cond (differ j i (λ e. n (sym e)) t) None (Some (j, m))) (no_other i t)))) in
          (λ t. e1 t >>= λ l. first_read (other_read l.1) ts >>= λ x. Some (newest_of l.0 l.1 l.2 x.0 x.1))
          ∙ ap (λ r. r >>= λ x. Some (newest_of o i k x.0 x.1)) e2
          ∙ ap (λ b. Some (cond b (of_newest o i j k m) (of_newest o j i m k))) lower

      at_second : first_read led_read ts ≡ Some (o, j, m) → newest_in ts ≡ Some (of_newest o i j k m)
      at_second e1 =
          let e2 = read_same (other_read j) ts ws al (steady j) (i, k)
          ((λ t. cons_option (cond (differ i j n t) None (Some (i, k)))
          (cons_option (cond (eq-eqb j j refl t) None (Some (j, m))) (no_other j t)))) in
          (λ t. e1 t >>= λ l. first_read (other_read l.1) ts >>= λ x. Some (newest_of l.0 l.1 l.2 x.0 x.1))
          ∙ ap (λ r. r >>= λ x. Some (newest_of o j m x.0 x.1)) e2
          ∙ ap (λ b. Some (cond b (of_newest o j i m k) (of_newest o i j k m)))
          (false_from_ne_true (is_lower m k) (lower_once k m lower))

  pub newest_found : (o : Owner) (i j : ℕ) (d e : Dependency) (k m : Class) → i ≢ j → HasDep q o i d → HasDep q o j e
      → d.real_name ≡ e.real_name
      → HasClass q d k → HasClass q e m → is_lower k m ≡ true
      → list_any (matched d) (class_candidates q d.real_name m) ≡ true
      → SameTerms ts (without_full q (at (dep o i) (in_class k ∷ []) ∷ at (dep o j) (in_class m ∷ [])
      ∷ at (pkg d.real_name m) (versions_that q (matched d) d.real_name m) ∷ []))
      → is_instance q NewestListed ts ≡ true
  newest_found o i j d e k m n h had name c r lower any same =
      let us : List Term = at (dep o i) (in_class k ∷ []) ∷ at (dep o j) (in_class m ∷ []) ∷ [] in
      let w : Term = at (pkg d.real_name m) (versions_that q (matched d) d.real_name m) in
      let read : newest_in ts ≡ Some (of_newest o i j k m) =
      two_cases q ts apart NewestListed us w (newest_in ts ≡ Some (of_newest o i j k m))
      (not_full q (dep o i) (in_class k ∷ []) refl, (not_full q (dep o j) (in_class m ∷ []) refl, tt))
      (newest_listed o i j d e k m n h had name c r lower any) same
      (λ al. newest_read o i j k m n lower (w ∷ []) al (steady_never led_read w.vertex w.states (λ s. refl), tt)
      (λ x. (steady_never (other_read x) w.vertex w.states (λ s. refl), tt)) refl (λ x. refl))
      (λ al. newest_read o i j k m n lower [] al tt (λ x. tt) refl (λ x. refl)) in
      accept q ts apart NewestListed (of_newest o i j k m) (us ++ w ∷ []) read
      (newest-there q o i j d e k m n h had name c r lower any) (ap (terms_with _) h.1) same
