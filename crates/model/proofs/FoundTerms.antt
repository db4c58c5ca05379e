-- Terms that say the same as those of an instance, without full ones, are read as these are.
use Rattle.std.proofs.Common.{◌≡◌, ℕ, List, [], ◌∷◌, ◌++◌, map, Bool, true, false, not, Contains, Option, Some}
use Rattle.std.proofs.Common.{None, refl, sym, ap, ◌∙◌, subst, true≢false}
use Rattle.std.specs.List.{AllByRecursion, list_any, list_all}
use Rattle.std.proofs.lemmas.Bool.{and_from, false_from_ne_true}
use Rattle.semver.specs.Parse.{Parts}
use Rattle.model.specs.Summary.{Dependency}
use Rattle.model.specs.Content.{Problem, candidates_of}
use Rattle.model.specs.Selection.{class_of}
use Rattle.model.specs.Vertices.{Owner, the_root, version_of, Vertex, root, pkg, dep, State, absent, present, version}
use Rattle.model.specs.Vertices.{in_class, has_state, matching, classes_of, dep_space}
use Rattle.model.specs.Axioms.{Term, at, Kind, AreApart, owner_holds, matched, IsInstance, is_full, without_full}
use Rattle.model.specs.Derivation.{SameTerms}
use Rattle.model.proofs.Accepted.{instance_apart}
use Rattle.model.proofs.Lists.{in_rest, any_of, to_filter, to_map, all_at}
use Rattle.model.proofs.Spaces.{class_in}
use Rattle.model.proofs.Terms.{apart-without_full}
use Rattle.model.specs.inner.Terms.{same_terms}
use Rattle.model.specs.Causes.{Cause, dependency_at, is_unmatched, is_cause, terms_of_cause}
use Rattle.model.specs.inner.Instances.{read_term, owner_read, dep_read, cause_in, is_its_if, is_instance}
use Rattle.model.proofs.Bools.{filter-none}
use Rattle.model.proofs.Reading.{Alike, alike, Steady, steady_one, not_full, keeps, last_full, last_kept}
use Rattle.model.proofs.Sets.{same_terms-is}

module _ (q : Problem) where
  -- ---- a dependency's `absent` is full just where nothing matches

  unmatched_full : (d : Dependency) → list_all (has_state (absent ∷ [])) (dep_space q (Some d)) ≡ is_unmatched q d
  unmatched_full d = by (list_any (matched d) (candidates_of q.candidates d.real_name)) refl
    where
      some : list_any (matched d) (candidates_of q.candidates d.real_name) ≡ true
          → list_all (has_state (absent ∷ [])) (dep_space q (Some d)) ≡ true → ⊥
      some h full =
          let r = any_of (matched d) (candidates_of q.candidates d.real_name) h in
          let m : Contains (matching q d) r.0 =
          to_filter (matched d) (candidates_of q.candidates d.real_name) r.0 r.1 r.2 in
          let c =
          to_map in_class (classes_of (matching q d)) (class_of (r.0).version) (class_in (matching q d) r.0 m) in
          true≢false
          (sym (all_at (has_state (absent ∷ [])) (dep_space q (Some d)) (in_class (class_of (r.0).version)) full
          (in_rest absent (in_class (class_of (r.0).version)) (map in_class (classes_of (matching q d))) c)))

      by : (b : Bool) → list_any (matched d) (candidates_of q.candidates d.real_name) ≡ b
          → list_all (has_state (absent ∷ [])) (dep_space q (Some d))
          ≡ not (list_any (matched d) (candidates_of q.candidates d.real_name))
      by true h =
          false_from_ne_true (list_all (has_state (absent ∷ [])) (dep_space q (Some d))) (some h) ∙ sym (ap not h)
      by false h = ap (λ cs. list_all (has_state (absent ∷ [])) (absent ∷ map in_class (classes_of cs)))
          (filter-none (matched d) (candidates_of q.candidates d.real_name) h) ∙ sym (ap not h)

  pub dep_full : (o : Owner) (i : ℕ) (d : Dependency) → dependency_at q o i ≡ Some d
      → is_full q (at (dep o i) (absent ∷ [])) ≡ is_unmatched q d
  dep_full o i d e = ap (λ x. list_all (has_state (absent ∷ [])) (dep_space q x)) e ∙ unmatched_full d

  -- ---- the owner's term

  pub owner_reads : (o : Owner) → read_term owner_read (owner_holds o) ≡ Some o
  owner_reads the_root = refl
  owner_reads (version_of name v) = refl

  pub owner_no_dep : (o : Owner) → read_term dep_read (owner_holds o) ≡ None
  owner_no_dep the_root = refl
  owner_no_dep (version_of name v) = refl

  pub owner_kept : (o : Owner) → is_full q (owner_holds o) ≡ false
  owner_kept the_root = refl
  owner_kept (version_of name v) = not_full q (pkg name (class_of v)) (version v ∷ []) refl

  pub owner_steady : {A : Type 0} (read : Vertex → Option State → Option A) (o : Owner) → Steady read (owner_holds o)
  owner_steady read the_root = steady_one read root present
  owner_steady read (version_of name v) = steady_one read (pkg name (class_of v)) (version v)

  -- ---- the version's term

  pub version_kept : (name : List ℕ) (v : Parts) → is_full q (at (pkg name (class_of v)) (version v ∷ [])) ≡ false
  version_kept name v = not_full q (pkg name (class_of v)) (version v ∷ []) refl

  module _ (ts : List Term) (apart : AreApart ts) where
    -- a cause that is found, and whose terms these are, accepts them
    pub accept : (k : Kind) (c : Cause) (us : List Term) → cause_in q k ts ≡ Some c → is_cause q c ≡ true
        → terms_of_cause q c ≡ us → SameTerms ts (without_full q us) → is_instance q k ts ≡ true
    accept k c us e t f same =
        ap (is_its_if q ts) e ∙ and_from (is_cause q c) (same_terms ts (without_full q (terms_of_cause q c))) t
        (ap (λ xs. same_terms ts (without_full q xs)) f ∙ (same_terms-is ts (without_full q us)).1 same)

    -- the terms are like those of the instance that aren't full
    pub like : (k : Kind) (us ws : List Term) → IsInstance q k us → SameTerms ts (without_full q us)
        → without_full q us ≡ ws → Alike ts ws
    like k us ws h same e = alike ts ws apart (subst AreApart e (apart-without_full q us (instance_apart q k us h)))
        (subst (SameTerms ts) e same)

    -- ---- a list of terms before one on a package, which may be full

    pub two_cases : (k : Kind) (us : List Term) (w : Term) (P : Type 0) → AllByRecursion (λ u. is_full q u ≡ false) us
        → IsInstance q k (us ++ w ∷ []) → SameTerms ts (without_full q (us ++ w ∷ []))
        → (Alike ts (us ++ w ∷ []) → P) → (Alike ts (us ++ []) → P) → P
    two_cases k us w P nf h same whole short = by (is_full q w) refl
      where
        by : (b : Bool) → is_full q w ≡ b → P
        by true f = short
            (like k (us ++ w ∷ []) (us ++ []) h same (keeps q us (w ∷ []) nf ∙ ap (λ l. us ++ l) (last_full q w f)))
        by false f = whole
            (like k (us ++ w ∷ []) (us ++ w ∷ []) h same (keeps q us (w ∷ []) nf ∙ ap (λ l. us ++ l) (last_kept q w f)))
