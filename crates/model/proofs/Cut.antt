-- The content that an assignment stands for, if it breaks no instance, is a valid selection.
use Rattle.std.proofs.Common.{◌≡◌, ℕ, zero, suc, List, [], ◌∷◌, Bool, true, false, ◌&&◌, cond, ◌<◌, ◌≤◌, length}
use Rattle.std.proofs.Common.{Contains, Option, Some, None, slice_get, is_some, option_map, option_and_then, refl, sym}
use Rattle.std.proofs.Common.{ap, ◌∙◌, subst, subst₂, inl, inr, ◌⊎◌, true≢false, eq-or-lt_of_le, arith, nat_lt}
use Rattle.std.proofs.lemmas.Option.{same_Some, slice_get_within}
use Rattle.std.proofs.lemmas.Bool.{ltb-false, and_from}
use Rattle.semver.specs.Parse.{Parts}
use Rattle.semver.specs.EvalViews.{matches_views}
use Rattle.model.specs.Summary.{Dependency, Entry, feature, dependency, dependency_feature, weak_feature, entries_at}
use Rattle.model.specs.Summary.{has_feature, same_text}
use Rattle.model.specs.Selection.{Fact, here, on, enabled, Brings, Lists, Class, patch, minor, major, class_of}
use Rattle.model.specs.Selection.{IsValidSelection, IsFact, IsRootAt, HasTarget, IsReached}
use Rattle.model.specs.Selection.Holds.{starts, arrives, root_needs, needs, asks, root_wants, turns_on, enables}
use Rattle.model.specs.Selection.Holds.{enables_for, wants, wants_weakly}
use Rattle.model.specs.Content.{Problem, Content, Package, Candidate, candidates_of, candidate_at, candidate_of}
use Rattle.model.specs.Content.{if_checksum, same_option, is_root, brings_of, summary_if, summary_of, summary_at}
use Rattle.model.specs.Content.{serves, serves_if, last_serving, list_if, target_of}
use Rattle.model.specs.Selection.IsReached.{root, listed}
use Rattle.model.specs.Order.{IsCatalogue}
use Rattle.model.specs.Vertices.{Owner, the_root, version_of, Vertex, pkg, dep, State, version, in_class, owner_brings}
use Rattle.model.specs.Axioms.{is_lower}
use Rattle.model.specs.Walk.{name_of, IsLink, StandsFor}
use Rattle.model.specs.inner.Search.{IsUnbroken, LeadsTo, IsReachedFact, IsPresent}
use Rattle.model.proofs.Same.{both, text-refl, text-same}
use Rattle.model.proofs.Inner.{version_inner, class_inner, name_in, version_in}
use Rattle.model.proofs.Orders.{last_is, none_serves, class_above}
use Rattle.model.proofs.Contents.{no_two_alike, older_first, rising_at}
use Rattle.model.proofs.Owners.{candidate_at-there, not_root, root_parts}
use Rattle.model.proofs.Reached.{chosen_version, reached_says, reached_met, reached_features, reached_newest}

three_nat : (a b : ℕ) → (nat_lt a b ≡ true) ⊎ ((a ≡ b) ⊎ (nat_lt b a ≡ true))
three_nat a b = by (nat_lt a b) (nat_lt b a) refl refl
  where
    by : (s t : Bool) → nat_lt a b ≡ s → nat_lt b a ≡ t → (nat_lt a b ≡ true) ⊎ ((a ≡ b) ⊎ (nat_lt b a ≡ true))
    by true t e f = inl e
    by false true e f = inr (inr f)
    by false false e f = inr (inl (let x = ltb-false a b e in let y = ltb-false b a f in omega arith))

three : (k m : Class) → (is_lower k m ≡ true) ⊎ ((k ≡ m) ⊎ (is_lower m k ≡ true))
three (patch a) (patch b) =
    elim (three_nat a b) [ inl h ↦ inl h | inr h ↦ elim h [ inl e ↦ inr (inl (ap patch e)) | inr l ↦ inr (inr l) ] ]
three (patch a) (minor b) = inl refl
three (patch a) (major b) = inl refl
three (minor a) (patch b) = inr (inr refl)
three (minor a) (minor b) =
    elim (three_nat a b) [ inl h ↦ inl h | inr h ↦ elim h [ inl e ↦ inr (inl (ap minor e)) | inr l ↦ inr (inr l) ] ]
three (minor a) (major b) = inl refl
three (major a) (patch b) = inr (inr refl)
three (major a) (minor b) = inr (inr refl)
three (major a) (major b) =
    elim (three_nat a b) [ inl h ↦ inl h | inr h ↦ elim h [ inl e ↦ inr (inl (ap major e)) | inr l ↦ inr (inr l) ] ]

pub package_at : (content : Content) (n : ℕ) → n < length content → (p : Package) × (slice_get content n ≡ Some p)
package_at [] n lt = absurd (omega arith)
package_at (p ∷ ps) zero lt = (p, refl)
package_at (p ∷ ps) (suc n) lt = package_at ps n (omega arith)

module _ (q : Problem) (state : Vertex → State) (ok : IsUnbroken q state) (known : IsCatalogue q) (content : Content)
    (stands : StandsFor q (LeadsTo q state) content) where
  abbrev pub At : ℕ → Package → Type 0
  At n p = slice_get content n ≡ Some p

  -- each package is reached
  pub package_here : (n : ℕ) (p : Package) → At n p → IsReachedFact q state (here (name_of q p))
  package_here n p got = (stands.packages (name_of q p)).1 (n, p, got, refl)

  name_root : (p : Package) → is_root q p ≡ true → name_of q p ≡ the_root
  name_root p e = ap (λ b. cond b the_root (version_of p.name p.version)) e

  pub name_other : (p : Package) → is_root q p ≡ false → name_of q p ≡ version_of p.name p.version
  name_other p e = ap (λ b. cond b the_root (version_of p.name p.version)) e

  root_if : (p : Package) → name_of q p ≡ the_root → is_root q p ≡ true
  root_if p e = by (is_root q p) refl
    where
      by : (b : Bool) → is_root q p ≡ b → b ≡ true
      by true h = refl
      by false h = let x : version_of p.name p.version ≡ the_root = sym (name_other p h) ∙ e in cc

  -- a package other than the root is present
  pub is_present : (n : ℕ) (p : Package) → At n p → is_root q p ≡ false
      → state (pkg p.name (class_of p.version)) ≡ version p.version
  is_present n p got e =
      subst (IsPresent q state) (name_other p e) (reached_says q state ok (here (name_of q p)) (package_here n p got))

  is_found : (n : ℕ) (p : Package) → At n p → is_root q p ≡ false
      → (c : Candidate) × (candidate_at (candidates_of q.candidates p.name) p.version ≡ Some c)
  is_found n p got e =
      let c = chosen_version q state ok p.name (class_of p.version) p.version (is_present n p got e) in
      let r = candidate_at-there (candidates_of q.candidates p.name) c.0 c.1 in
      (r.0, subst (λ w. candidate_at (candidates_of q.candidates p.name) w ≡ Some r.0) c.2 r.1)

  is_candidate : (n : ℕ) (p : Package) → At n p → is_root q p ≡ false → (c : Candidate) × (candidate_of q p ≡ Some c)
      × (candidate_at (candidates_of q.candidates p.name) p.version ≡ Some c)
  is_candidate n p got e =
      let c = is_found n p got e in
      let src : p.source ≡ Some q.source = stands.sources n p got e in
      let sum : p.checksum ≡ Some (c.0).checksum =
      stands.checksums n p got e ∙ ap (option_map (λ (x : Candidate). x.checksum)) c.1 in
      let a : same_option p.source (Some q.source) ≡ true =
      ap (λ o. same_option o (Some q.source)) src ∙ text-refl q.source in
      let b : same_option p.checksum (Some (c.0).checksum) ≡ true =
      ap (λ o. same_option o (Some (c.0).checksum)) sum ∙ text-refl (c.0).checksum in (
        c.0,
        ap (λ t. cond t (option_and_then (if_checksum p.checksum)
            (candidate_at (candidates_of q.candidates p.name) p.version)) None) a
            ∙ ap (option_and_then (if_checksum p.checksum)) c.1 ∙ ap (λ t. cond t (Some c.0) None) b,
        c.1,
      )

  -- a package brings what its owner does
  brings_same : (n : ℕ) (p : Package) → At n p → summary_at q content n ≡ owner_brings q (name_of q p)
  brings_same n p got = ap (summary_if q) got ∙ by (is_root q p) refl
    where
      by : (b : Bool) → is_root q p ≡ b → summary_of q p ≡ owner_brings q (name_of q p)
      by true e = ap (λ t. cond t q.brings (brings_of (candidate_of q p))) e ∙ sym (ap (owner_brings q) (name_root p e))
      by false e = let c = is_candidate n p got e in
          ap (λ t. cond t q.brings (brings_of (candidate_of q p))) e ∙ ap brings_of c.1 ∙ sym (ap brings_of c.2)
          ∙ sym (ap (owner_brings q) (name_other p e))

  -- an owner has one place
  pub one_place : (n m : ℕ) (p r : Package) → At n p → At m r → name_of q p ≡ name_of q r → n ≡ m
  one_place n m p r got had e = by (is_root q p) (is_root q r) refl refl
    where
      by : (a b : Bool) → is_root q p ≡ a → is_root q r ≡ b → n ≡ m
      by true true x y = let i = root_parts q p x in let j = root_parts q r y in
          no_two_alike content stands.is_content n m p r got had (sym i.1 ∙ j.1) (sym i.2 ∙ j.2) (i.0 ∙ sym j.0)
      by true false x y = let z : the_root ≡ version_of r.name r.version =
          sym (name_root p x) ∙ e ∙ name_other r y in cc
      by false true x y = let z : version_of p.name p.version ≡ the_root =
          sym (name_other p x) ∙ e ∙ name_root r y in cc
      by false false x y =
          let z : version_of p.name p.version ≡ version_of r.name r.version =
          sym (name_other p x) ∙ e ∙ name_other r y in
          no_two_alike content stands.is_content n m p r got had (name_in p.name r.name p.version r.version z)
          (version_in p.name r.name p.version r.version z)
          (stands.sources n p got x ∙ sym (stands.sources m r had y))

  served_name : (n : ℕ) (p : Package) → At n p → (d : Dependency) → serves d p ≡ true
      → (is_root q p ≡ false) × (d.real_name ≡ p.name) × (matches_views d.requirement p.version ≡ true)
  served_name n p got d h =
      let e = both (is_some p.source && same_text d.real_name p.name) (matches_views d.requirement p.version) h in
      let f = both (is_some p.source) (same_text d.real_name p.name) e.0 in
      (not_root q p f.0, text-same d.real_name p.name f.1, e.1)

  -- what a link leads to
  pub record Linked (n : ℕ) (p : Package) (i : ℕ) (d : Dependency) : Type 0 where
    pub u : ℕ
    pub s : Package
    pub got : slice_get content u ≡ Some s
    pub link : IsLink q (LeadsTo q state) p s i d
    pub target : target_of content n d ≡ Some u

  pub named_of : (s : Package) (name : List ℕ) (v : Parts) → name_of q s ≡ version_of name v
      → (is_root q s ≡ false) × (s.name ≡ name) × (s.version ≡ v)
  named_of s name v e = by (is_root q s) refl
    where
      by : (b : Bool) → is_root q s ≡ b → (b ≡ false) × (s.name ≡ name) × (s.version ≡ v)
      by true x = let z : the_root ≡ version_of name v = sym (name_root s x) ∙ e in cc
      by false x = let z : version_of s.name s.version ≡ version_of name v =
          sym (name_other s x) ∙ e in (refl, name_in s.name name s.version v z, version_in s.name name s.version v z)

  -- the target of an enabled dependency is what the assignment chooses
  pub to_target : (n : ℕ) (p : Package) (i : ℕ) (d : Dependency) → At n p → Brings (owner_brings q) (name_of q p) i d
      → IsReachedFact q state (enabled (name_of q p) i) → Linked n p i d
  to_target n p i d got b on_it =
      let m = reached_met q state ok (name_of q p) i d on_it b in
      let l = m.1 in
      let place = (stands.packages m.0).0 (arrives (name_of q p) m.0 i d on_it b l) in
      let u = place.0 in
      let s = place.1 in
      let s_is = named_of s d.real_name l.v (place.3 ∙ l.target) in
      let link : IsLink q (LeadsTo q state) p s i d = record {
        brings = b;
        is_enabled = on_it;
        leads =
            subst (LeadsTo q state (name_of q p) i d) (sym place.3) l;
      } in
      let in_list : Contains p.list u = (stands.lists n u p got).1 (s, i, d, place.2, link) in
      let src : is_some s.source ≡ true = ap is_some (stands.sources u s place.2 s_is.0) in
      let fits : matches_views d.requirement s.version ≡ true = ap (matches_views d.requirement) s_is.2 ∙ m.2 in
      let serving : serves_if d (slice_get content u) ≡ true = ap (serves_if d) place.2
      ∙ and_from (is_some s.source && same_text d.real_name s.name) (matches_views d.requirement s.version)
      (and_from (is_some s.source) (same_text d.real_name s.name) src
      (subst (λ x. same_text d.real_name x ≡ true) (sym s_is.1) (text-refl d.real_name))) fits in
      let is_target : last_serving content d p.list ≡ Some u =
      last_from u s l.k l.v link place.2 in_list serving s_is (l.chosen) l.locked in
      record {
        u = u;
        s = s;
        got = place.2;
        link = link;
        target =
            ap (λ o. last_serving content d (list_if o)) got ∙ is_target;
      }
    where
      last_from : (u : ℕ) (s : Package) (k : Class) (v : Parts) → IsLink q (LeadsTo q state) p s i d
          → slice_get content u ≡ Some s → Contains p.list u → serves_if d (slice_get content u) ≡ true
          → (is_root q s ≡ false) × (s.name ≡ d.real_name) × (s.version ≡ v) → state (dep (name_of q p) i) ≡ in_class k
          → state (pkg d.real_name k) ≡ version v
          → last_serving content d p.list ≡ Some u
      last_from u s k v link had in_list serving s_is at_i at_k = by (last_serving content d p.list) refl
        where
          found : (t : ℕ) → last_serving content d p.list ≡ Some t → u ≡ t
          found t at_t =
              let last = last_is content d p.list t at_t in
              let le : u ≤ t = last.last (rising_at content stands.is_content n p got) u in_list serving in
              let r = (stands.lists n t p got).0 last.listed in
              let r_serves : serves d r.0 ≡ true = ap (serves_if d) (sym r.3) ∙ last.serving in
              let r_is = served_name t r.0 r.3 d r_serves in
              let j = r.1 in
              let e = r.2 in
              let l = (r.4).leads in
              let r_named = named_of r.0 e.real_name l.v l.target in
              let real : d.real_name ≡ e.real_name = r_is.1 ∙ r_named.1 in
              let at_m : state (pkg d.real_name l.k) ≡ version l.v =
              subst (λ x. state (pkg x l.k) ≡ version l.v) (sym real) l.locked in
              let fits : matches_views d.requirement l.v ≡ true =
              ap (matches_views d.requirement) (sym r_named.2) ∙ r_is.2 in
              let s_class : class_of s.version ≡ k =
              ap class_of s_is.2 ∙ (chosen_version q state ok d.real_name k v at_k).3 in
              let r_class : class_of (r.0).version ≡ l.k =
              ap class_of r_named.2 ∙ (chosen_version q state ok d.real_name l.k l.v at_m).3 in
              let same_name : s.name ≡ (r.0).name = s_is.1 ∙ r_is.1 in
              elim (eq-or-lt_of_le le) [
                | inl e ↦ e
                | inr lt ↦ elim (three k l.k) [
                  | inl lower ↦ absurd (reached_newest q state ok (name_of q p) i j d e k l.k l.v
                      (reached_says q state ok (enabled (name_of q p) i) link.is_enabled).0
                      link.brings (r.4).brings real at_i l.chosen at_m fits lower)
                  | inr h ↦ elim h [
                    | inl same ↦
                        let vs : v ≡ l.v = version_inner v l.v
                        (sym at_k ∙ subst (λ x. state (pkg d.real_name x) ≡ version l.v) (sym same) at_m) in
                        let versions : s.version ≡ (r.0).version = s_is.2 ∙ vs ∙ sym r_named.2 in
                        one_place u t s r.0 had r.3 (name_other s s_is.0 ∙ (λ x. version_of (same_name x) (versions x))
                        ∙ sym (name_other r.0 r_is.0))
                    | inr lower ↦ absurd (true≢false (sym (class_above (r.0).version s.version
                        (subst₂ (λ x y. is_lower x y ≡ true) (sym r_class) (sym s_class) lower))
                        ∙ older_first content stands.is_content u t s r.0 had r.3 lt same_name))
                  ]
                ]
              ]

          by : (o : Option ℕ) → last_serving content d p.list ≡ o → o ≡ Some u
          by None e = absurd (none_serves content d p.list u e in_list serving)
          by (Some t) e = ap Some (sym (found t e))

  -- a link and a target say the same
  link_from : (n t i : ℕ) (p : Package) (d : Dependency) → At n p → Brings (owner_brings q) (name_of q p) i d
      → IsReachedFact q state (enabled (name_of q p) i)
      → HasTarget q content n d t → (r : Package) × At t r × IsLink q (LeadsTo q state) p r i d
  link_from n t i p d got b on_it h =
      let x = to_target n p i d got b on_it in
      let same : x.u ≡ t = same_Some x.u t (sym x.target ∙ h) in
      (x.s, subst (λ k. At k x.s) same x.got, x.link)

  same_lead : (n : Owner) (i : ℕ) (d : Dependency) (a b : Owner) → LeadsTo q state n i d a
      → LeadsTo q state n i d b → a ≡ b
  same_lead n i d a b l m =
      let ks : l.k ≡ m.k = class_inner l.k m.k (sym l.chosen ∙ m.chosen) in
      let vs : l.v ≡ m.v = version_inner l.v m.v
      (sym l.locked ∙ subst (λ k. state (pkg d.real_name k) ≡ version m.v) (sym ks) m.locked) in
      l.target ∙ ap (version_of d.real_name) vs ∙ sym m.target

  target_from : (n t i : ℕ) (p r : Package) (d : Dependency) → At n p → At t r → IsLink q (LeadsTo q state) p r i d
      → HasTarget q content n d t
  target_from n t i p r d got had link =
      let x = to_target n p i d got link.brings link.is_enabled in
      let same : x.u ≡ t = one_place x.u t x.s r x.got had
      (same_lead (name_of q p) i d (name_of q x.s) (name_of q r) (x.link).leads link.leads) in
      x.target ∙ ap Some same

  -- what the fact of a content says of the assignment
  abbrev pub Means : Fact ℕ → Type 0
  Means (here n) = (p : Package) × At n p
  Means (on n f) = (p : Package) × At n p × IsReachedFact q state (on (name_of q p) f)
  Means (enabled n i) = (p : Package) × At n p × IsReachedFact q state (enabled (name_of q p) i)

  pub brings_there : (n i : ℕ) (p : Package) (d : Dependency) → At n p → Brings (summary_at q content) n i d
      → Brings (owner_brings q) (name_of q p) i d
  brings_there n i p d got b = subst (λ o. slice_get o.dependencies i ≡ Some d) (brings_same n p got) b

  pub lists_there : (n : ℕ) (p : Package) (f : List ℕ) (e : Entry) → At n p → Lists (summary_at q content) n f e
      → Lists (owner_brings q) (name_of q p) f e
  lists_there n p f e got l = (l.0, subst (λ o. entries_at f o.features ≡ Some l.0) (brings_same n p got) l.1, l.2)

  pub at_root : (n : ℕ) (p : Package) → At n p → IsRootAt q content n → name_of q p ≡ the_root
  at_root n p got (r, had, is) = name_root p (ap (is_root q) (same_Some p r (sym got ∙ had)) ∙ is)

  -- each fact of the content is one that the root reaches
  pub means : (f : Fact ℕ) → IsFact q content f → Means f
  means f (starts n lt) = package_at content n lt
  means f (arrives n t i d h b l) = let x = means (enabled n i) h in let r =
      link_from n t i x.0 d x.1 (brings_there n i x.0 d x.1 b) x.2 l in (r.0, r.1)
  means f (root_needs n i d h e b) = let x = means (here n) h in (
    x.0,
    x.1,
    root_needs (name_of q x.0) i d (package_here n x.0 x.1) (at_root n x.0 x.1 e)
        (brings_there n i x.0 d x.1 b),
  )
  means f (needs n i d h b o) = let x = means (here n) h in
      (x.0, x.1, needs (name_of q x.0) i d (package_here n x.0 x.1) (brings_there n i x.0 d x.1 b) o)
  means f (asks n t i d g h b l a) =
      let x = means (enabled n i) h in
      let c = brings_there n i x.0 d x.1 b in
      let r = link_from n t i x.0 d x.1 c x.2 l in
      (r.0, r.1, asks (name_of q x.0) (name_of q r.0) i d g x.2 c (r.2).leads a)
  means f (root_wants n t i d g h e b l a) =
      let x = means (here n) h in
      let c = brings_there n i x.0 d x.1 b in
      let y = root_needs (name_of q x.0) i d (package_here n x.0 x.1) (at_root n x.0 x.1 e) c in
      let r = link_from n t i x.0 d x.1 c y l in (
        r.0,
        r.1,
        root_wants (name_of q x.0) (name_of q r.0) i d g (package_here n x.0 x.1)
            (at_root n x.0 x.1 e) c (r.2).leads a,
      )
  means f (turns_on n g k h l) = let x =
      means (on n g) h in (x.0, x.1, turns_on (name_of q x.0) g k x.2 (lists_there n x.0 g (feature k) x.1 l))
  means f (enables n i d g h b l) = let x = means (on n g) h in (
    x.0,
    x.1,
    enables (name_of q x.0) i d g x.2 (brings_there n i x.0 d x.1 b)
        (lists_there n x.0 g (dependency d.name) x.1 l),
  )
  means f (enables_for n i d g k h b l) = let x = means (on n g) h in (
    x.0,
    x.1,
    enables_for (name_of q x.0) i d g k x.2 (brings_there n i x.0 d x.1 b)
        (lists_there n x.0 g (dependency_feature d.name k) x.1 l),
  )
  means f (wants n t i d g k h b l to) =
      let x = means (on n g) h in
      let c = brings_there n i x.0 d x.1 b in
      let e = lists_there n x.0 g (dependency_feature d.name k) x.1 l in
      let r = link_from n t i x.0 d x.1 c (enables_for (name_of q x.0) i d g k x.2 c e) to in
      (r.0, r.1, wants (name_of q x.0) (name_of q r.0) i d g k x.2 c e (r.2).leads)
  means f (wants_weakly n t i d g k h b l on_it to) =
      let x = means (on n g) h in
      let y = means (enabled n i) on_it in
      let same : y.0 ≡ x.0 = same_Some y.0 x.0 (sym y.1 ∙ x.1) in
      let z = subst (λ p. IsReachedFact q state (enabled (name_of q p) i)) same y.2 in
      let c = brings_there n i x.0 d x.1 b in
      let e = lists_there n x.0 g (weak_feature d.name k) x.1 l in
      let r = link_from n t i x.0 d x.1 c z to in
      (r.0, r.1, wants_weakly (name_of q x.0) (name_of q r.0) i d g k x.2 c e z (r.2).leads)

  -- a place of the owner, which lists lead to
  pub record Place (n : Owner) : Type 0 where
    pub a : ℕ
    pub p : Package
    pub got : slice_get content a ≡ Some p
    pub named : name_of q p ≡ n
    pub reached : IsReached q content a

  pub record PlaceWith (n : Owner) (F : ℕ → Fact ℕ) : Type 0 where
    pub place : Place n
    pub fact : IsFact q content (F place.a)

  -- what a fact that the root reaches says of the content
  abbrev pub Back : Fact Owner → Type 0
  Back (here n) = Place n
  Back (on n f) = PlaceWith n (λ a. on a f)
  Back (enabled n i) = PlaceWith n (λ a. enabled a i)

  here_back : (n : Owner) (x : Place n) → IsFact q content (here x.a)
  here_back n x = starts x.a (slice_get_within content x.a x.p x.got)

  pub brings_back : (n : Owner) (x : Place n) (i : ℕ) (d : Dependency) → Brings (owner_brings q) n i d
      → Brings (summary_at q content) x.a i d
  brings_back n x i d b =
      subst (λ o. slice_get o.dependencies i ≡ Some d) (sym (brings_same x.a x.p x.got ∙ ap (owner_brings q) x.named)) b

  lists_back : (n : Owner) (x : Place n) (f : List ℕ) (e : Entry) → Lists (owner_brings q) n f e
      → Lists (summary_at q content) x.a f e
  lists_back n x f e l = (
    l.0,
    subst (λ o. entries_at f o.features ≡ Some l.0)
        (sym (brings_same x.a x.p x.got ∙ ap (owner_brings q) x.named)) l.1,
    l.2,
  )

  pub root_back : (n : Owner) (x : Place n) → n ≡ the_root → IsRootAt q content x.a
  root_back n x e = (x.p, x.got, root_if x.p (x.named ∙ e))

  -- one step along a link
  pub record Next (n t : Owner) (x : Place n) (d : Dependency) : Type 0 where
    pub to : Place t
    pub target : HasTarget q content x.a d to.a

  pub next : (n t : Owner) (i : ℕ) (d : Dependency) (x : Place n) → IsReachedFact q state (enabled n i)
      → Brings (owner_brings q) n i d → LeadsTo q state n i d t → Next n t x d
  next n t i d x on_it b l =
      let y = (stands.packages t).0 (arrives n t i d on_it b l) in
      let link : IsLink q (LeadsTo q state) x.p y.1 i d = record {
        brings = subst (λ o. Brings (owner_brings q) o i d) (sym x.named) b;
        is_enabled = subst (λ o. IsReachedFact q state (enabled o i)) (sym x.named) on_it;
        leads = subst₂ (λ o u. LeadsTo q state o i d u) (sym x.named) (sym y.3) l;
      } in
      record {
        to = record {
          a = y.0;
          p = y.1;
          got = y.2;
          named = y.3;
          reached =
              listed x.a y.0 x.p x.reached x.got ((stands.lists x.a y.0 x.p x.got).1 (y.1, i, d, y.2, link));
        };
        target = target_from x.a y.0 i x.p y.1 d x.got y.2 link;
      }

  pub back : (f : Fact Owner) → IsReachedFact q state f → Back f
  back f (starts n e) =
      let x = (stands.packages n).0 (starts n e) in
      record { a = x.0; p = x.1; got = x.2; named = x.3; reached = root x.0 (x.1, x.2, root_if x.1 (x.3 ∙ e)) }
  back f (arrives n t i d h b l) = let x = back (enabled n i) h in (next n t i d x.place h b l).to
  back f (root_needs n i d h e b) = let x = back (here n) h in
      record { place = x; fact = root_needs x.a i d (here_back n x) (root_back n x e) (brings_back n x i d b) }
  back f (needs n i d h b o) = let x =
      back (here n) h in record { place = x; fact = needs x.a i d (here_back n x) (brings_back n x i d b) o }
  back f (asks n t i d g h b l a) =
      let x = back (enabled n i) h in
      let y = next n t i d x.place h b l in
      record { place = y.to; fact = asks (x.place).a (y.to).a i d g x.fact (brings_back n x.place i d b) y.target a }
  back f (root_wants n t i d g h e b l a) =
      let x = back (here n) h in
      let y = next n t i d x (root_needs n i d h e b) b l in
      record {
        place = y.to;
        fact =
            root_wants x.a (y.to).a i d g (here_back n x) (root_back n x e) (brings_back n x i d b) y.target a;
      }
  back f (turns_on n g k h l) = let x = back (on n g) h in
      record { place = x.place; fact = turns_on (x.place).a g k x.fact (lists_back n x.place g (feature k) l) }
  back f (enables n i d g h b l) = let x = back (on n g) h in
      record {
        place = x.place;
        fact = enables (x.place).a i d g x.fact (brings_back n x.place i d b)
            (lists_back n x.place g (dependency d.name) l);
      }
  back f (enables_for n i d g k h b l) = let x = back (on n g) h in
      record {
        place = x.place;
        fact = enables_for (x.place).a i d g k x.fact (brings_back n x.place i d b)
            (lists_back n x.place g (dependency_feature d.name k) l);
      }
  back f (wants n t i d g k h b l to) =
      let x = back (on n g) h in
      let y = next n t i d x.place (enables_for n i d g k h b l) b to in
      record {
        place = y.to;
        fact = wants (x.place).a (y.to).a i d g k x.fact (brings_back n x.place i d b)
            (lists_back n x.place g (dependency_feature d.name k) l) y.target;
      }
  back f (wants_weakly n t i d g k h b l on_it to) =
      let x = back (on n g) h in
      let z = back (enabled n i) on_it in
      let same : (z.place).a ≡ (x.place).a =
      one_place (z.place).a (x.place).a (z.place).p (x.place).p (z.place).got (x.place).got ((z.place).named
      ∙ sym (x.place).named) in
      let y = next n t i d x.place on_it b to in
      record {
        place = y.to;
        fact = wants_weakly (x.place).a (y.to).a i d g k x.fact (brings_back n x.place i d b)
            (lists_back n x.place g (weak_feature d.name k) l)
            (subst (λ a. IsFact q content (enabled a i)) same z.fact) y.target;
      }

  enabled_back : (n i : ℕ) (p : Package) → At n p → IsReachedFact q state (enabled (name_of q p) i)
      → IsFact q content (enabled n i)
  enabled_back n i p got h =
      let x = back (enabled (name_of q p) i) h in
      subst (λ a. IsFact q content (enabled a i))
      (one_place (x.place).a n (x.place).p p (x.place).got got (x.place).named) x.fact

  -- the content is a valid selection
  pub stands_valid : IsValidSelection q content
  stands_valid = record {
    is_content = stands.is_content;
    root = let x = (stands.packages the_root).0 (starts the_root refl) in (x.0, (x.1, x.2, root_if x.1 x.3));
    candidates = λ n p o. let c = is_candidate n p o.0 o.1 in ap is_some c.1;
    one_in_class = λ n m p r o u name class.
        let x = is_present n p o.0 o.1 in
        let y = is_present m r u.0 u.1 in
        let same : version p.version ≡ version r.version = sym x ∙ (λ i. state (pkg (name i) (class i))) ∙ y in
        no_two_alike content stands.is_content n m p r o.0 u.0 name (version_inner p.version r.version same)
        (stands.sources n p o.0 o.1 ∙ sym (stands.sources m r u.0 u.1));
    met = λ n i d e.
        let x = means (enabled n i) e.1 in
        let y = to_target n x.0 i d x.1 (brings_there n i x.0 d x.1 e.0) x.2 in
        (y.u, y.target);
    features_exist = λ n f h.
        let x = means (on n f) h in
        ap (λ o. has_feature o.features f) (brings_same n x.0 x.1)
        ∙ reached_features q state ok known (name_of q x.0) f x.2;
    lists = λ n t p got. (
      λ c. let x = (stands.lists n t p got).0 c in (
        x.1,
        x.2,
        (
          subst (λ o. slice_get o.dependencies x.1 ≡ Some x.2) (sym (brings_same n p got)) (x.4).brings,
          enabled_back n x.1 p got (x.4).is_enabled,
        ),
        target_from n t x.1 p x.0 x.2 got x.3 x.4,
      ),
      λ z. let x = means (enabled n z.0) (z.2).1 in
          let y = link_from n t z.0 x.0 z.1 x.1 (brings_there n z.0 x.0 z.1 x.1 (z.2).0) x.2 z.3 in
          subst (λ (w : Package). Contains w.list t) (same_Some x.0 p (sym x.1 ∙ got))
          ((stands.lists n t x.0 x.1).1 (y.0, z.0, z.1, y.1, y.2)),
    );
    reached = λ n lt.
        let x = package_at content n lt in
        let y = back (here (name_of q x.0)) (package_here n x.0 x.1) in
        subst (IsReached q content) (one_place y.a n y.p x.0 y.got x.1 y.named) y.reached;
  }
