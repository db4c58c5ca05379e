-- The list of causes has each cause that is there, and no other.
use Rattle.std.proofs.Common.{◌≡◌, ◌↔◌, ℕ, zero, suc, List, [], ◌∷◌, ◌++◌, map, filter, Bool, true, false, not, cond}
use Rattle.std.proofs.Common.{◌&&◌, Contains, Option, Some, None, is_some, slice_get, nat_eq, refl, sym, ◌∙◌, subst}
use Rattle.std.proofs.Common.{inl, inr, ◌⊎◌, true≢false, ◌≢◌}
use Rattle.std.specs.List.{list_any, flat_map, All, AllPairs}
use Rattle.std.proofs.lemmas.Bool.{eqb-true, and_from, eq-eqb}
use Rattle.std.proofs.lemmas.Option.{none-some}
use Rattle.std.proofs.lemmas.List.Kept.{AllPairs-cons}
use Rattle.semver.specs.Parse.{Parts}
use Rattle.model.specs.Summary.{Dependency, Entry, feature, dependency, dependency_feature, weak_feature, Table}
use Rattle.model.specs.Summary.{entries_at, has_feature, asked_of_target, same_text}
use Rattle.model.specs.Content.{Problem, Candidate, candidates_of, passes}
use Rattle.model.specs.Selection.{Class, class_of}
use Rattle.model.specs.Vertices.{Owner, the_root, version_of, in_that_class, owner_brings, classes_of, class_candidates}
use Rattle.model.specs.Axioms.{IsOwner, HasEntry, HasFeatVertex, RootAsks}
use Rattle.model.specs.Axioms.HasFeatVertex.{had, asked, by_entry}
use Rattle.model.proofs.Flat.{to_flat}
use Rattle.model.proofs.Lists.{in_none, in_cons, in_first, in_rest, in_filter, to_filter, to_map, any_of, all_none}
use Rattle.model.proofs.Lists.{all_cons, pairs_none, to_any}
use Rattle.model.proofs.Same.{both, text-same, version-same, class-same, owner-same, owner-refl, class-refl, text-refl}
use Rattle.model.proofs.Same.{version-refl}
use Rattle.model.proofs.Spaces.{class_in}
use Rattle.model.proofs.Places.{got_in}
use Rattle.model.specs.Causes.{Cause, of_root, of_need, of_target, of_feature, of_list, of_ask, of_entry}
use Rattle.model.specs.Causes.{of_enabling, of_asking, of_newest, of_weak, same_entry, enables, is_needed}
use Rattle.model.specs.Causes.{dependency_at, has_class, has_entry, some_entry, lists_feature}
use Rattle.model.specs.Causes.{entries_of, table_of_owner, owners, is_cause}
use Rattle.model.specs.inner.Listed.{once, same_cause, numbers, asked_by, names_in, numbers_of, classes_if}
use Rattle.model.specs.inner.Listed.{classes_at}
use Rattle.model.specs.inner.Listed.{asked_if, class_pool, dep_pool, entry_pool, turned_on, feature_pool}
use Rattle.model.specs.inner.Listed.{version_pool}
use Rattle.model.specs.inner.Listed.{owner_pool, entries_ask, asked_of_others, had_by, named_features}
use Rattle.model.specs.inner.Listed.{class_features}
use Rattle.model.specs.inner.Listed.{name_pool, causes}
use Rattle.std.proofs.lemmas.List.Elements.{Contains-append_right, Contains-append_left}
use Rattle.model.proofs.CauseLaws.{overtaken-there, weakly-there}
use Rattle.model.proofs.Named.{entry-same, passes-is, dep_owner, has_entry-is, some_entry-is, class-is, lists-is}
use Rattle.model.proofs.Named.{feature-is, to_owners, to_entry, row_of, entry-refl}

-- ---- lists

pub in_numbers : {X : Type 0} (xs : List X) (i : ℕ) (x : X) → slice_get xs i ≡ Some x → Contains (numbers xs) i
in_numbers [] i x e = absurd (none-some x e)
in_numbers (y ∷ xs) zero x e = in_first 0 (map suc (numbers xs))
in_numbers (y ∷ xs) (suc i) x e =
    in_rest 0 (suc i) (map suc (numbers xs)) (to_map suc (numbers xs) i (in_numbers xs i x e))

module _ {X : Type 0} (same : X → X → Bool) (sure : (x y : X) → same x y ≡ true → x ≡ y) where
  pub to_once : (xs : List X) (x : X) → Contains xs x → Contains (once same xs) x
  to_once [] x c = absurd (in_none x c)
  to_once (y ∷ xs) x c = by (λ c. to_once xs x c) (list_any (same y) xs) refl (in_cons y x xs c)
    where
      by : (Contains xs x → Contains (once same xs) x) → (b : Bool) → list_any (same y) xs ≡ b
          → (y ≡ x) ⊎ Contains xs x → Contains (cond b (once same xs) (y ∷ once same xs)) x
      by rest true e (inl s) = let r = any_of (same y) xs e in rest (subst (Contains xs) (sym (sure y r.0 r.2) ∙ s) r.1)
      by rest true e (inr c) = rest c
      by rest false e (inl s) = subst (Contains (y ∷ once same xs)) s (in_first y (once same xs))
      by rest false e (inr c) = in_rest y x (once same xs) (rest c)

  pub from_once : (xs : List X) (x : X) → Contains (once same xs) x → Contains xs x
  from_once [] x c = c
  from_once (y ∷ xs) x c = by (λ c. from_once xs x c) (list_any (same y) xs) c
    where
      by : (Contains (once same xs) x → Contains xs x) → (b : Bool)
          → Contains (cond b (once same xs) (y ∷ once same xs)) x → Contains (y ∷ xs) x
      by rest true c = in_rest y x xs (rest c)
      by rest false c = elim (in_cons y x (once same xs) c)
          [ inl s ↦ subst (Contains (y ∷ xs)) s (in_first y xs) | inr c ↦ in_rest y x xs (rest c) ]

  all_each : (P : X → Type 0) (xs : List X) → ((x : X) → Contains xs x → P x) → All P xs
  all_each P [] h = all_none P
  all_each P (x ∷ xs) h = all_cons P x xs (h x (in_first x xs)) (all_each P xs (λ y c. h y (in_rest x y xs c)))

  -- no two of them are the same
  pub once_distinct : ((x : X) → same x x ≡ true) → (xs : List X) → AllPairs (λ x y. x ≢ y) (once same xs)
  once_distinct itself [] = pairs_none (λ x y. x ≢ y)
  once_distinct itself (x ∷ xs) = by (list_any (same x) xs) refl (once_distinct itself xs)
    where
      by : (b : Bool) → list_any (same x) xs ≡ b → AllPairs (λ x y. x ≢ y) (once same xs)
          → AllPairs (λ x y. x ≢ y) (cond b (once same xs) (x ∷ once same xs))
      by true e rest = rest
      by false e rest = AllPairs-cons (λ x y. x ≢ y) x (once same xs) (all_each (λ y. x ≢ y) (once same xs)
          (λ y c is. true≢false
          (sym (to_any (same x) xs y (from_once xs y c) (subst (λ z. same x z ≡ true) is (itself x))) ∙ e))) rest

-- a candidate's name has a row
pub name_there : (rows : List (List ℕ × List Candidate)) (name : List ℕ) (c : Candidate)
    → Contains (candidates_of rows name) c → (row : List ℕ × List Candidate) × Contains rows row × (name ≡ row.0)
name_there [] name c i = absurd (in_none c i)
name_there (row ∷ rows) name c i = by (λ i. name_there rows name c i) (same_text name row.0) refl i
  where
    by : (Contains (candidates_of rows name) c → (r : List ℕ × List Candidate) × Contains rows r × (name ≡ r.0))
        → (b : Bool) → same_text name row.0 ≡ b
        → Contains (cond b row.1 (candidates_of rows name)) c
        → (r : List ℕ × List Candidate) × Contains (row ∷ rows) r × (name ≡ r.0)
    by rest true s i = (row, in_first row rows, text-same name row.0 s)
    by rest false s i = let r = rest i in (r.0, in_rest row r.0 rows r.1, r.2)

-- ---- equal causes

pub cause-same : (x y : Cause) → same_cause x y ≡ true → x ≡ y
cause-same of_root of_root h = refl
cause-same (of_need o i) (of_need p j) h = let a = both _ _ h in
    let x = owner-same o p a.0 in let y = eqb-true i j a.1 in λ t. of_need (x t) (y t)
cause-same (of_target o i k) (of_target p j m) h = let a = both _ _ h in let b = both _ _ a.1 in
    let x = owner-same o p a.0 in let y = eqb-true i j b.0 in let z =
    class-same k m b.1 in λ t. of_target (x t) (y t) (z t)
cause-same (of_feature n k f) (of_feature r m g) h = let a = both _ _ h in let b = both _ _ a.1 in
    let x = text-same n r a.0 in let y = class-same k m b.0 in let z =
    text-same f g b.1 in λ t. of_feature (x t) (y t) (z t)
cause-same (of_list o i k g) (of_list p j m l) h = let a = both _ _ h in let b = both _ _ a.1 in let c = both _ _ b.1 in
    let x = owner-same o p a.0 in let y = eqb-true i j b.0 in let z = class-same k m c.0 in let w =
    text-same g l c.1 in λ t. of_list (x t) (y t) (z t) (w t)
cause-same (of_ask n v i g k) (of_ask r w j l m) h = let a = both _ _ h in let b = both _ _ a.1 in let c =
    both _ _ b.1 in let d = both _ _ c.1 in
    let x = text-same n r a.0 in let y = version-same v w b.0 in let z = eqb-true i j c.0 in let s =
    text-same g l d.0 in let u = class-same k m d.1 in λ t. of_ask (x t) (y t) (z t) (s t) (u t)
cause-same (of_entry n v f g) (of_entry r w e l) h = let a = both _ _ h in let b =
    both _ _ a.1 in let c = both _ _ b.1 in
    let x = text-same n r a.0 in let y = version-same v w b.0 in let z = text-same f e c.0 in let s =
    text-same g l c.1 in λ t. of_entry (x t) (y t) (z t) (s t)
cause-same (of_enabling n v f e i) (of_enabling r w g l j) h = let a = both _ _ h in let b = both _ _ a.1 in let c =
    both _ _ b.1 in let d = both _ _ c.1 in
    let x = text-same n r a.0 in let y = version-same v w b.0 in let z = text-same f g c.0 in let s =
    entry-same e l d.0 in let u = eqb-true i j d.1 in λ t. of_enabling (x t) (y t) (z t) (s t) (u t)
cause-same (of_asking n v f g i) (of_asking r w e l j) h = let a = both _ _ h in let b = both _ _ a.1 in let c =
    both _ _ b.1 in let d = both _ _ c.1 in
    let x = text-same n r a.0 in let y = version-same v w b.0 in let z = text-same f e c.0 in let s =
    text-same g l d.0 in let u = eqb-true i j d.1 in λ t. of_asking (x t) (y t) (z t) (s t) (u t)
cause-same (of_newest o i j k m) (of_newest p a b x y) h = let c = both _ _ h in let d = both _ _ c.1 in let e =
    both _ _ d.1 in let f = both _ _ e.1 in
    let o_is = owner-same o p c.0 in let i_is = eqb-true i a d.0 in let j_is = eqb-true j b e.0 in let k_is =
    class-same k x f.0 in let m_is = class-same m y f.1 in
    λ t. of_newest (o_is t) (i_is t) (j_is t) (k_is t) (m_is t)
cause-same (of_weak n v f g i k) (of_weak r w e l j m) h = let a = both _ _ h in let b = both _ _ a.1 in let c =
    both _ _ b.1 in let d = both _ _ c.1 in let z = both _ _ d.1 in
    let n_is = text-same n r a.0 in let v_is = version-same v w b.0 in let f_is = text-same f e c.0 in let g_is =
    text-same g l d.0 in let i_is = eqb-true i j z.0 in let k_is = class-same k m z.1 in
    λ t. of_weak (n_is t) (v_is t) (f_is t) (g_is t) (i_is t) (k_is t)
cause-same x y h = absurd (true≢false (sym h))

same_nat : (i : ℕ) → nat_eq i i ≡ true
same_nat i = eq-eqb i i refl

pub cause-refl : (x : Cause) → same_cause x x ≡ true
cause-refl of_root = refl
cause-refl (of_need o i) = and_from _ _ (owner-refl o) (same_nat i)
cause-refl (of_target o i k) = and_from _ _ (owner-refl o) (and_from _ _ (same_nat i) (class-refl k))
cause-refl (of_feature n k f) = and_from _ _ (text-refl n) (and_from _ _ (class-refl k) (text-refl f))
cause-refl (of_list o i k g) =
    and_from _ _ (owner-refl o) (and_from _ _ (same_nat i) (and_from _ _ (class-refl k) (text-refl g)))
cause-refl (of_ask n v i g k) = and_from _ _ (text-refl n)
    (and_from _ _ (version-refl v) (and_from _ _ (same_nat i) (and_from _ _ (text-refl g) (class-refl k))))
cause-refl (of_entry n v f g) =
    and_from _ _ (text-refl n) (and_from _ _ (version-refl v) (and_from _ _ (text-refl f) (text-refl g)))
cause-refl (of_enabling n v f e i) = and_from _ _ (text-refl n)
    (and_from _ _ (version-refl v) (and_from _ _ (text-refl f) (and_from _ _ (entry-refl e) (same_nat i))))
cause-refl (of_asking n v f g i) = and_from _ _ (text-refl n)
    (and_from _ _ (version-refl v) (and_from _ _ (text-refl f) (and_from _ _ (text-refl g) (same_nat i))))
cause-refl (of_newest o i j k m) = and_from _ _ (owner-refl o)
    (and_from _ _ (same_nat i) (and_from _ _ (same_nat j) (and_from _ _ (class-refl k) (class-refl m))))
cause-refl (of_weak n v f g i k) = and_from _ _ (text-refl n)
    (and_from _ _ (version-refl v)
    (and_from _ _ (text-refl f) (and_from _ _ (text-refl g) (and_from _ _ (same_nat i) (class-refl k)))))

module _ (q : Problem) where
  pool : List Cause
  pool = of_root ∷ (flat_map (owner_pool q) (owners q) ++ flat_map (name_pool q) q.candidates)

  -- ---- by owner

  of_owner : (o : Owner) (c : Cause) → IsOwner q o → Contains (owner_pool q o) c → Contains pool c
  unfolding pool
  of_owner o c h i = in_rest of_root c (flat_map (owner_pool q) (owners q) ++ flat_map (name_pool q) q.candidates)
      (Contains-append_left (flat_map (owner_pool q) (owners q)) (flat_map (name_pool q) q.candidates) c
      (to_flat (owner_pool q) (owners q) o c (to_owners q o h) i))

  of_dep : (o : Owner) (i : ℕ) (d : Dependency) (c : Cause) → dependency_at q o i ≡ Some d
      → Contains (dep_pool q o i) c → Contains pool c
  of_dep o i d c e h = of_owner o c (dep_owner q o i d e).0
      (Contains-append_left (flat_map (dep_pool q o) (numbers_of q o)) (version_pool q o) c
      (to_flat (dep_pool q o) (numbers_of q o) i c (in_numbers (owner_brings q o).dependencies i d e) h))

  class_there : (o : Owner) (i : ℕ) (d : Dependency) (k : Class) → dependency_at q o i ≡ Some d → has_class q k d ≡ true
      → Contains (classes_at q o i) k
  class_there o i d k e h = subst (λ x. Contains (classes_if q x) k) (sym e) (class-is q d k h)

  of_class : (o : Owner) (i : ℕ) (d : Dependency) (k : Class) (c : Cause) → dependency_at q o i ≡ Some d
      → has_class q k d ≡ true → Contains (class_pool q o i k) c → Contains pool c
  of_class o i d k c e h m = of_dep o i d c e (in_rest (of_need o i) c (flat_map (class_pool q o i) (classes_at q o i))
      (to_flat (class_pool q o i) (classes_at q o i) k c (class_there o i d k e h) m))

  -- ---- by an entry of a version

  of_an_entry : (name : List ℕ) (v : Parts) (f : List ℕ) (e : Entry) (c : Cause) → HasEntry q name v f e
      → Contains (turned_on name v f e ++ flat_map (entry_pool q name v f e) (numbers_of q (version_of name v))) c
      → Contains pool c
  of_an_entry name v f e c h m =
      let r = row_of q (table_of_owner q (version_of name v)) f h.1 h.2 in
      let f_in : Contains (names_in (table_of_owner q (version_of name v))) f =
      subst (Contains (names_in (table_of_owner q (version_of name v)))) (sym r.2)
      (to_map (λ (row : List ℕ × List Entry). row.0) (table_of_owner q (version_of name v)) r.0 r.1) in
      of_owner (version_of name v) c h.0 (Contains-append_right (flat_map (dep_pool q (version_of name v))
      (numbers_of q (version_of name v))) (version_pool q (version_of name v)) c
      (to_flat (feature_pool q name v) (names_in (table_of_owner q (version_of name v))) f c f_in
      (to_flat (λ e. turned_on name v f e ++ flat_map (entry_pool q name v f e) (numbers_of q (version_of name v)))
      (entries_of q name v f) e c (to_entry q name v f e h) m)))

  of_entry_dep : (name : List ℕ) (v : Parts) (f : List ℕ) (e : Entry) (i : ℕ) (d : Dependency) (c : Cause)
      → HasEntry q name v f e → dependency_at q (version_of name v) i ≡ Some d
      → Contains (entry_pool q name v f e i) c → Contains pool c
  of_entry_dep name v f e i d c h at m = of_an_entry name v f e c h
      (Contains-append_right (turned_on name v f e)
      (flat_map (entry_pool q name v f e) (numbers_of q (version_of name v))) c
      (to_flat (entry_pool q name v f e) (numbers_of q (version_of name v)) i c
      (in_numbers (owner_brings q (version_of name v)).dependencies i d at) m))

  enabled_in : (name : List ℕ) (v : Parts) (f d : List ℕ) (e : Entry) (i : ℕ) → enables d e ≡ true
      → Contains (entry_pool q name v f e i) (of_enabling name v f e i)
  enabled_in name v f d (feature g) i h = absurd (true≢false (sym h))
  enabled_in name v f d (dependency x) i h = in_first (of_enabling name v f (dependency x) i) []
  enabled_in name v f d (dependency_feature x g) i h =
      in_first (of_enabling name v f (dependency_feature x g) i)
      (of_asking name v f g i ∷ map (of_ask name v i g) (classes_at q (version_of name v) i))
  enabled_in name v f d (weak_feature x g) i h = absurd (true≢false (sym h))

  -- ---- the features of classes

  feature_name : (table : Table) (f : List ℕ) → has_feature table f ≡ true → Contains (names_in table) f
  feature_name table f h = by (entries_at f table) refl h
    where
      by : (o : Option (List Entry)) → entries_at f table ≡ o → is_some o ≡ true → Contains (names_in table) f
      by None e h = absurd (true≢false (sym h))
      by (Some es) e h = let r = row_of q table f es e in
          subst (Contains (names_in table)) (sym r.2) (to_map (λ (row : List ℕ × List Entry). row.0) table r.0 r.1)

  Names : List (List ℕ)
  Names = map (λ p. p.1) q.root_asks ++ (flat_map (asked_of_others q) (owners q) ++ flat_map (had_by q) q.candidates)

  asked_named : (o : Owner) (f : List ℕ) → IsOwner q o → Contains (asked_of_others q o) f → Contains Names f
  unfolding Names
  asked_named o f h c = Contains-append_right (map (λ p. p.1) q.root_asks)
      (flat_map (asked_of_others q) (owners q) ++ flat_map (had_by q) q.candidates) f
      (Contains-append_left (flat_map (asked_of_others q) (owners q)) (flat_map (had_by q) q.candidates) f
      (to_flat (asked_of_others q) (owners q) o f (to_owners q o h) c))

  entry_named : (name : List ℕ) (v : Parts) (f g : List ℕ) (e : Entry) → HasEntry q name v f e
      → Contains (asked_by e) g → Contains Names g
  entry_named name v f g e h c =
      let r = row_of q (table_of_owner q (version_of name v)) f h.1 h.2 in
      let f_in : Contains (names_in (table_of_owner q (version_of name v))) f =
      subst (Contains (names_in (table_of_owner q (version_of name v)))) (sym r.2)
      (to_map (λ (row : List ℕ × List Entry). row.0) (table_of_owner q (version_of name v)) r.0 r.1) in
      asked_named (version_of name v) g h.0 (Contains-append_right (flat_map asked_of_target
      (owner_brings q (version_of name v)).dependencies) (entries_ask q (version_of name v)) g
      (to_flat (λ f. flat_map asked_by (entries_of q name v f))
      (names_in (table_of_owner q (version_of name v))) f g f_in
      (to_flat asked_by (entries_of q name v f) e g (to_entry q name v f e h) c)))

  feature_named : (name : List ℕ) (k : Class) (f : List ℕ) → HasFeatVertex q name k f → Contains Names f
  unfolding Names
  feature_named name k f (had _ _ _ c e i j h) =
      let r = name_there q.candidates name c i in
      Contains-append_right (map (λ p. p.1) q.root_asks)
      (flat_map (asked_of_others q) (owners q) ++ flat_map (had_by q) q.candidates) f
      (Contains-append_right (flat_map (asked_of_others q) (owners q)) (flat_map (had_by q) q.candidates) f
      (to_flat (had_by q) q.candidates r.0 f r.1
      (to_flat (λ (c : Candidate). names_in c.brings.features) (candidates_of q.candidates (r.0).0) c f
      (subst (λ n. Contains (candidates_of q.candidates n) c) r.2 i) (feature_name c.brings.features f h))))
  feature_named name k f (asked o i d _ _ e h c (inl a)) = asked_named o f h.0
      (Contains-append_left (flat_map asked_of_target (owner_brings q o).dependencies) (entries_ask q o) f
      (to_flat asked_of_target (owner_brings q o).dependencies d f
      (got_in (owner_brings q o).dependencies i d h.1) a))
  feature_named name k f (asked the_root i d _ _ e h c (inr a)) =
      Contains-append_left (map (λ p. p.1) q.root_asks) (flat_map (asked_of_others q) (owners q)
      ++ flat_map (had_by q) q.candidates) f (to_map (λ (p : List ℕ × List ℕ). p.1) q.root_asks (d.name, f) a)
  feature_named name k f (asked (version_of m v) i d _ _ e h c (inr a)) = absurd a
  feature_named name k f (by_entry m v i d _ g _ e h c (inl a)) =
      entry_named m v g f (dependency_feature d.name f) a (in_first f [])
  feature_named name k f (by_entry m v i d _ g _ e h c (inr a)) =
      entry_named m v g f (weak_feature d.name f) a (in_first f [])

  class_candidate : (name : List ℕ) (k : Class) (f : List ℕ) → HasFeatVertex q name k f
      → (c : Candidate) × Contains (class_candidates q name k) c
  class_candidate name k f (had _ _ _ c e i j h) = (e, j)
  class_candidate name k f (asked o i d _ _ e h c a) = (e, c)
  class_candidate name k f (by_entry m v i d _ g _ e h c a) = (e, c)

  of_a_feature : (name : List ℕ) (k : Class) (f : List ℕ) → HasFeatVertex q name k f
      → Contains pool (of_feature name k f)
  unfolding pool Names
  of_a_feature name k f h =
      let c = class_candidate name k f h in
      let x = in_filter (in_that_class k) (candidates_of q.candidates name) c.0 c.1 in
      let r = name_there q.candidates name c.0 x.0 in
      let k_in : Contains (classes_of (candidates_of q.candidates name)) k = subst
      (Contains (classes_of (candidates_of q.candidates name))) (sym (class-same k (class_of (c.0).version) x.1))
      (class_in (candidates_of q.candidates name) c.0 x.0) in
      let f_in : Contains (named_features q) f = to_once same_text text-same Names f (feature_named name k f h) in
      in_rest of_root (of_feature name k f) (flat_map (owner_pool q) (owners q) ++ flat_map (name_pool q) q.candidates)
      (Contains-append_right (flat_map (owner_pool q) (owners q)) (flat_map (name_pool q) q.candidates)
      (of_feature name k f)
      (to_flat (name_pool q) q.candidates r.0 (of_feature name k f) r.1
      (subst (λ n. Contains (flat_map (class_features q n) (classes_of (candidates_of q.candidates n)))
      (of_feature name k f)) r.2
      (to_flat (class_features q name) (classes_of (candidates_of q.candidates name)) k (of_feature name k f) k_in
      (to_map (of_feature name k) (named_features q) f f_in)))))

  -- ---- each cause

  pooled : (c : Cause) → is_cause q c ≡ true → Contains pool c
  unfolding pool
  pooled of_root t = in_first of_root (flat_map (owner_pool q) (owners q) ++ flat_map (name_pool q) q.candidates)
  pooled (of_need o i) t = let r = passes-is (is_needed o) (dependency_at q o i) t in
      of_dep o i r.0 (of_need o i) r.1 (in_first (of_need o i) (flat_map (class_pool q o i) (classes_at q o i)))
  pooled (of_target o i k) t = let r = passes-is (has_class q k) (dependency_at q o i) t in
      of_class o i r.0 k (of_target o i k) r.1 r.2
      (in_first (of_target o i k) (map (of_list o i k) (asked_if q (dependency_at q o i))
      ++ flat_map (λ j. map (of_newest o i j k) (classes_at q o j)) (numbers_of q o)))
  pooled (of_feature name k f) t = of_a_feature name k f (feature-is q name k f t)
  pooled (of_list o i k g) t =
      let r = passes-is (λ d. has_class q k d && lists_feature q o d g) (dependency_at q o i) t in
      let e = both (has_class q k r.0) (lists_feature q o r.0 g) r.2 in
      let g_in : Contains (asked_of_target r.0 ++ map (λ p. p.1) q.root_asks) g =
      listed o r.0 g (lists-is q o r.0 g e.1) in
      of_class o i r.0 k (of_list o i k g) r.1 e.0
      (in_rest (of_target o i k) (of_list o i k g) (map (of_list o i k) (asked_if q (dependency_at q o i))
      ++ flat_map (λ j. map (of_newest o i j k) (classes_at q o j)) (numbers_of q o))
      (Contains-append_left (map (of_list o i k) (asked_if q (dependency_at q o i)))
      (flat_map (λ j. map (of_newest o i j k) (classes_at q o j)) (numbers_of q o)) (of_list o i k g)
      (to_map (of_list o i k) (asked_if q (dependency_at q o i)) g
      (subst (λ x. Contains (asked_if q x) g) (sym r.1) g_in))))
    where
      listed : (o : Owner) (d : Dependency) (g : List ℕ) → Contains (asked_of_target d) g ⊎ RootAsks q o d g
          → Contains (asked_of_target d ++ map (λ p. p.1) q.root_asks) g
      listed o d g (inl a) = Contains-append_left (asked_of_target d) (map (λ p. p.1) q.root_asks) g a
      listed the_root d g (inr a) = Contains-append_right (asked_of_target d) (map (λ p. p.1) q.root_asks) g
          (to_map (λ (p : List ℕ × List ℕ). p.1) q.root_asks (d.name, g) a)
      listed (version_of m v) d g (inr a) = absurd a
  pooled (of_ask name v i g k) t =
      let r = passes-is (λ d. has_class q k d && some_entry q (same_entry (dependency_feature d.name g)) name v)
      (dependency_at q (version_of name v) i) t in
      let e = both (has_class q k r.0) (some_entry q (same_entry (dependency_feature (r.0).name g)) name v) r.2 in
      let s = some_entry-is q (same_entry (dependency_feature (r.0).name g)) name v e.1 in
      let h : HasEntry q name v s.0 (dependency_feature (r.0).name g) =
      subst (HasEntry q name v s.0) (sym (entry-same (dependency_feature (r.0).name g) s.1 s.3)) s.2 in
      of_entry_dep name v s.0 (dependency_feature (r.0).name g) i r.0 (of_ask name v i g k) h r.1
      (in_rest _ (of_ask name v i g k)
      (of_asking name v s.0 g i ∷ map (of_ask name v i g) (classes_at q (version_of name v) i))
      (in_rest _ (of_ask name v i g k) (map (of_ask name v i g) (classes_at q (version_of name v) i))
      (to_map (of_ask name v i g) (classes_at q (version_of name v) i) k
      (class_there (version_of name v) i r.0 k r.1 e.0))))
  pooled (of_entry name v f g) t =
      let e = both (has_entry q name v f (feature g)) (not (same_text f g)) t in
      of_an_entry name v f (feature g) (of_entry name v f g) (has_entry-is q name v f (feature g) e.0)
      (in_first (of_entry name v f g) (flat_map (entry_pool q name v f (feature g)) (numbers_of q (version_of name v))))
  pooled (of_enabling name v f e i) t =
      let x =
      both (has_entry q name v f e) (passes (λ d. enables d.name e) (dependency_at q (version_of name v) i)) t in
      let r = passes-is (λ d. enables d.name e) (dependency_at q (version_of name v) i) x.1 in
      of_entry_dep name v f e i r.0 (of_enabling name v f e i) (has_entry-is q name v f e x.0) r.1
      (enabled_in name v f (r.0).name e i r.2)
  pooled (of_asking name v f g i) t =
      let r = passes-is
      (λ d. has_entry q name v f (dependency_feature d.name g)) (dependency_at q (version_of name v) i) t in
      of_entry_dep name v f (dependency_feature (r.0).name g) i r.0 (of_asking name v f g i)
      (has_entry-is q name v f (dependency_feature (r.0).name g) r.2) r.1
      (in_rest _ (of_asking name v f g i)
      (of_asking name v f g i ∷ map (of_ask name v i g) (classes_at q (version_of name v) i))
      (in_first (of_asking name v f g i) (map (of_ask name v i g) (classes_at q (version_of name v) i))))
  pooled (of_newest o i j k m) t =
      let p = overtaken-there q o i j k m t in
      of_class o i p.lesser k (of_newest o i j k m) p.lesser_there p.lesser_led
      (in_rest (of_target o i k) (of_newest o i j k m) (map (of_list o i k) (asked_if q (dependency_at q o i))
      ++ flat_map (λ j. map (of_newest o i j k) (classes_at q o j)) (numbers_of q o))
      (Contains-append_right (map (of_list o i k) (asked_if q (dependency_at q o i)))
      (flat_map (λ j. map (of_newest o i j k) (classes_at q o j)) (numbers_of q o)) (of_newest o i j k m)
      (to_flat (λ j. map (of_newest o i j k) (classes_at q o j)) (numbers_of q o) j (of_newest o i j k m)
      (in_numbers (owner_brings q o).dependencies j p.greater p.greater_there)
      (to_map (of_newest o i j k) (classes_at q o j) m (class_there o j p.greater m p.greater_there p.greater_led)))))
  pooled (of_weak name v f g i k) t =
      let p = weakly-there q name v f g i k t in
      of_entry_dep name v f (weak_feature (p.called).name g) i p.called (of_weak name v f g i k)
      (has_entry-is q name v f (weak_feature (p.called).name g) p.entry) p.there
      (to_map (of_weak name v f g i) (classes_at q (version_of name v) i) k
      (class_there (version_of name v) i p.called k p.there p.led))

  -- A cause is listed exactly where it is there.
  pub listed-is : (c : Cause) → Contains (causes q) c ↔ (is_cause q c ≡ true)
  unfolding pool
  listed-is c = (
    λ i. (in_filter (is_cause q) pool c (from_once same_cause cause-same (filter (is_cause q) pool) c i)).1,
    λ t. to_once same_cause cause-same (filter (is_cause q) pool) c (to_filter (is_cause q) pool c (pooled c t) t),
  )

  -- and none twice
  pub listed-once : AllPairs (λ a b. a ≢ b) (causes q)
  listed-once = once_distinct same_cause cause-same cause-refl
      (filter (is_cause q) (of_root ∷ (flat_map (owner_pool q) (owners q) ++ flat_map (name_pool q) q.candidates)))
