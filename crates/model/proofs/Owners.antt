-- Which place an owner has in a content, and what it brings there.
use Rattle.std.proofs.Common.{◌≡◌, ℕ, List, [], ◌∷◌, Bool, true, false, not, cond, ◌&&◌, Contains, Option, Some, None}
use Rattle.std.proofs.Common.{slice_get, IsSome, is_some, option_and_then, refl, sym, ap, ◌∙◌, subst, inl, inr, ◌⊎◌}
use Rattle.std.proofs.Common.{true≢false}
use Rattle.std.proofs.lemmas.Bool.{and_from}
use Rattle.std.proofs.lemmas.Option.{none-some, same_Some, slice_get_within}
use Rattle.semver.specs.Parse.{Parts}
use Rattle.semver.specs.EvalViews.{matches_views}
use Rattle.model.specs.Summary.{Dependency, same_text}
use Rattle.model.specs.Selection.{here, enabled, Class, class_of, IsValidSelection, IsFact, IsRootAt, IsOther}
use Rattle.model.specs.Selection.{HasTarget}
use Rattle.model.specs.Selection.Holds.{starts}
use Rattle.model.specs.Content.{Problem, Content, Package, Candidate, candidates_of, candidate_at, candidate_of}
use Rattle.model.specs.Content.{if_checksum, same_option, same_version, is_root, brings_of, summary_if, summary_at}
use Rattle.model.specs.Content.{serves, serves_if, list_if}
use Rattle.model.specs.Vertices.{Owner, the_root, version_of, State, in_class, owner_brings, dep}
use Rattle.model.specs.inner.Assignment.{Locks, IsOwnerAt, Leads, Has}
use Rattle.model.proofs.Same.{both, text-same, text-refl, version-same, version-refl}
use Rattle.model.proofs.Lists.{in_none, in_cons, in_first, in_rest}
use Rattle.model.proofs.Orders.{IsLast, last_is}
use Rattle.model.proofs.Contents.{no_two_alike}

-- a candidate that is looked up is there, and has the version
pub candidate_at-is : (cs : List Candidate) (v : Parts) (c : Candidate) → candidate_at cs v ≡ Some c
    → Contains cs c × (v ≡ c.version)
candidate_at-is [] v c h = absurd (none-some c h)
candidate_at-is (e ∷ cs) v c h = by (λ h. candidate_at-is cs v c h) (same_version v e.version) refl h
  where
    by : (candidate_at cs v ≡ Some c → Contains cs c × (v ≡ c.version)) → (b : Bool) → same_version v e.version ≡ b
        → cond b (Some e) (candidate_at cs v) ≡ Some c
        → Contains (e ∷ cs) c × (v ≡ c.version)
    by rest true s h = let e_is : e ≡ c = same_Some e c h in (
      subst (λ x. Contains (e ∷ cs) x) e_is (in_first e cs),
      version-same v e.version s ∙ ap (λ (x : Candidate). x.version) e_is,
    )
    by rest false s h = let r = rest h in (in_rest e c cs r.0, r.1)

-- a version of which there is a candidate is found
pub candidate_at-there : (cs : List Candidate) (c : Candidate) → Contains cs c
    → (e : Candidate) × (candidate_at cs c.version ≡ Some e)
candidate_at-there [] c i = absurd (in_none c i)
candidate_at-there (e ∷ cs) c i =
    by (λ i. candidate_at-there cs c i) (same_version c.version e.version) refl (in_cons e c cs i)
  where
    by : (Contains cs c → (x : Candidate) × (candidate_at cs c.version ≡ Some x)) → (b : Bool)
        → same_version c.version e.version ≡ b → (e ≡ c) ⊎ Contains cs c
        → (x : Candidate) × (cond b (Some e) (candidate_at cs c.version) ≡ Some x)
    by rest true h i = (e, refl)
    by rest false h (inl s) = absurd (true≢false (sym (version-refl c.version)
        ∙ ap (λ (x : Candidate). same_version c.version x.version) (sym s) ∙ h))
    by rest false h (inr i) = rest i

module _ (q : Problem) where
  checked : (b : Bool) (e c : Candidate) → cond b (Some e) None ≡ Some c → Some e ≡ Some c
  checked true e c h = h
  checked false e c h = absurd (none-some c h)

  found : (b : Bool) (sum : Option (List ℕ)) (o : Option Candidate) (c : Candidate)
      → cond b (option_and_then (if_checksum sum) o) None ≡ Some c → o ≡ Some c
  found true sum (Some e) c h = checked (same_option sum (Some e.checksum)) e c h
  found true sum None c h = h
  found false sum o c h = absurd (none-some c h)

  pub candidate_of-is : (p : Package) (c : Candidate) → candidate_of q p ≡ Some c
      → candidate_at (candidates_of q.candidates p.name) p.version ≡ Some c
  candidate_of-is p c h = found (same_option p.source (Some q.source)) p.checksum
      (candidate_at (candidates_of q.candidates p.name) p.version) c h

  some_is : (o : Option Candidate) → IsSome o → (c : Candidate) × (o ≡ Some c)
  some_is (Some c) h = (c, refl)
  some_is None h = absurd (true≢false (sym h))

  -- what makes a package the root
  pub root_parts : (p : Package) → is_root q p ≡ true → (p.source ≡ None) × (q.name ≡ p.name) × (q.version ≡ p.version)
  root_parts p h =
      let e = both (not (is_some p.source) && same_text q.name p.name) (same_version q.version p.version) h in
      let f = both (not (is_some p.source)) (same_text q.name p.name) e.0 in
      (none p.source f.0, text-same q.name p.name f.1, version-same q.version p.version e.1)
    where
      none : (o : Option (List ℕ)) → not (is_some o) ≡ true → o ≡ None
      none None h = refl
      none (Some x) h = absurd (true≢false (sym h))

  -- a package with a source is not the root
  pub not_root : (p : Package) → is_some p.source ≡ true → is_root q p ≡ false
  not_root p h = ap (λ b. not b && same_text q.name p.name && same_version q.version p.version) h

  module _ (content : Content) (valid : IsValidSelection q content) where
    pub is_candidate : (n : ℕ) (p : Package) → IsOther q content n p
        → (c : Candidate) × (candidate_of q p ≡ Some c)
        × (candidate_at (candidates_of q.candidates p.name) p.version ≡ Some c)
    is_candidate n p other = let r =
        some_is (candidate_of q p) (valid.candidates n p other) in (r.0, r.1, candidate_of-is p r.0 r.1)

    -- an owner brings at its place what it brings
    pub owner_is : (o : Owner) (n : ℕ) → IsOwnerAt q content o n → summary_at q content n ≡ owner_brings q o
    owner_is the_root n (p, got, is) =
        ap (summary_if q) got ∙ ap (λ b. cond b q.brings (brings_of (candidate_of q p))) is
    owner_is (version_of name v) n (p, l, is) =
        let c = is_candidate n p l.other in
        let sought : candidate_at (candidates_of q.candidates name) v ≡ Some c.0 =
        subst (λ m. candidate_at (candidates_of q.candidates m) v ≡ Some c.0) l.named
        (subst (λ w. candidate_at (candidates_of q.candidates p.name) w ≡ Some c.0) is c.2) in
        ap (summary_if q) l.other.0 ∙ ap (λ b. cond b q.brings (brings_of (candidate_of q p))) l.other.1
        ∙ ap brings_of c.1 ∙ sym (ap brings_of sought)

    -- of a name and class there is one package
    pub same_locked : (name : List ℕ) (k : Class) (n m : ℕ) (p r : Package) → Locks q content name k n p
        → Locks q content name k m r → n ≡ m
    same_locked name k n m p r l j =
        valid.one_in_class n m p r l.other j.other (l.named ∙ sym j.named) (l.classed ∙ sym j.classed)

    pub same_package : (name : List ℕ) (k : Class) (n m : ℕ) (p r : Package) → Locks q content name k n p
        → Locks q content name k m r → p ≡ r
    same_package name k n m p r l j =
        same_Some p r (sym l.other.0 ∙ ap (slice_get content) (same_locked name k n m p r l j) ∙ j.other.0)

    -- a version has one place
    pub same_place : (name : List ℕ) (v : Parts) (n m : ℕ) → IsOwnerAt q content (version_of name v) n
        → IsOwnerAt q content (version_of name v) m → n ≡ m
    same_place name v n m (p, l, _) (r, j, _) = same_locked name (class_of v) n m p r l j

    -- so has the root
    pub same_root : (n m : ℕ) → IsRootAt q content n → IsRootAt q content m → n ≡ m
    same_root n m (p, got, is) (r, had, was) =
        let e = root_parts p is in
        let f = root_parts r was in
        no_two_alike content valid.is_content n m p r got had (sym e.1 ∙ f.1) (sym e.2 ∙ f.2) (e.0 ∙ sym f.0)

    pub same_owner_place : (o : Owner) (n m : ℕ) → IsOwnerAt q content o n → IsOwnerAt q content o m → n ≡ m
    same_owner_place the_root n m a b = same_root n m a b
    same_owner_place (version_of name v) n m a b = same_place name v n m a b

    -- each package is here from the start
    pub is_here : (n : ℕ) (p : Package) → slice_get content n ≡ Some p → IsFact q content (here n)
    is_here n p got = starts n (slice_get_within content n p got)

    -- the target of a dependency is a package that serves it
    pub target_is : (n t : ℕ) (d : Dependency) → HasTarget q content n d t
        → IsLast content d (list_if (slice_get content n)) t
    target_is n t d h = last_is content d (list_if (slice_get content n)) t h

    serving_is : (d : Dependency) (o : Option Package) → serves_if d o ≡ true
        → (p : Package) × (o ≡ Some p) × (serves d p ≡ true)
    serving_is d None h = absurd (true≢false (sym h))
    serving_is d (Some p) h = (p, refl, h)

    -- an enabled dependency leads to a package
    pub to_lead : (o : Owner) (i n : ℕ) (d : Dependency) → IsOwnerAt q content o n
        → slice_get (summary_at q content n).dependencies i ≡ Some d
        → IsFact q content (enabled n i) → (s : State) × Has q content (dep o i) s
    to_lead o i n d owner has fact =
        let t = valid.met n i d (has, fact) in
        let p = serving_is d (slice_get content t.0) (target_is n t.0 d t.1).serving in (
          in_class (class_of (p.0).version),
          (n, t.0, d, p.0, record { owner = owner; enabled = (has, fact); target = t.1; served = p.1 }, refl),
        )

    -- what serves a dependency
    pub serves_parts : (d : Dependency) (p : Package) → serves d p ≡ true
        → (is_some p.source ≡ true) × (d.real_name ≡ p.name) × (matches_views d.requirement p.version ≡ true)
    serves_parts d p h =
        let e = both (is_some p.source && same_text d.real_name p.name) (matches_views d.requirement p.version) h in
        let f = both (is_some p.source) (same_text d.real_name p.name) e.0 in
        (f.0, text-same d.real_name p.name f.1, e.1)

    pub serves_from : (d : Dependency) (p : Package) → is_some p.source ≡ true → d.real_name ≡ p.name
        → matches_views d.requirement p.version ≡ true → serves d p ≡ true
    serves_from d p s n m =
        and_from (is_some p.source && same_text d.real_name p.name) (matches_views d.requirement p.version)
        (and_from (is_some p.source) (same_text d.real_name p.name) s
        (subst (λ x. same_text d.real_name x ≡ true) n (text-refl d.real_name))) m

    pub lead_serves : (o : Owner) (i n t : ℕ) (d : Dependency) (p : Package)
        → Leads q content o i n t d p → serves d p ≡ true
    lead_serves o i n t d p l =
        let s = serving_is d (slice_get content t) (target_is n t d l.target).serving in
        let is : s.0 ≡ p = same_Some s.0 p (sym s.1 ∙ l.served) in
        subst (λ r. serves d r ≡ true) is s.2

    pub owner_package : (o : Owner) (n : ℕ) → IsOwnerAt q content o n → (p : Package) × (slice_get content n ≡ Some p)
    owner_package the_root n (p, got, is) = (p, got)
    owner_package (version_of name v) n (p, l, is) = (p, (l.other).0)

    -- the package that a dependency leads to
    pub served_is : (o : Owner) (i n t : ℕ) (d : Dependency) (p : Package) → Leads q content o i n t d p
        → Locks q content d.real_name (class_of p.version) t p × (matches_views d.requirement p.version ≡ true)
    served_is o i n t d p l =
        let e = serves_parts d p (lead_serves o i n t d p l) in
        (record { other = (l.served, not_root p e.0); named = sym e.1; classed = refl }, e.2)
