-- A valid selection that the root alone brings stands for where dependencies lead in an assignment that has no states
-- but its own and absent.
use Rattle.std.proofs.Common.{◌≡◌, ◌<◌, ℕ, List, length, Bool, true, false, cond, Option, Some, None, option_map}
use Rattle.std.proofs.Common.{slice_get, refl, sym, ap, ◌∙◌, subst, inl, inr, true≢false}
use Rattle.std.specs.Option.{option_and_then}
use Rattle.std.proofs.lemmas.Option.{slice_get_within, same_Some, none-some}
use Rattle.semver.specs.Parse.{Parts}
use Rattle.model.specs.Summary.{Dependency, Entry, entries_at}
use Rattle.model.specs.Selection.{Fact, Holds, here, on, enabled, Brings, Lists, Class, IsFact, IsPlace, IsRootAt}
use Rattle.model.specs.Selection.{IsTarget, HasTarget, IsValidSelection, class_of}
use Rattle.model.specs.Selection.Holds.{starts, arrives, root_needs, needs, asks, root_wants, turns_on, enables}
use Rattle.model.specs.Selection.Holds.{enables_for, wants, wants_weakly}
use Rattle.model.specs.Content.{Candidate, Package, Content, Problem, is_root, candidates_of, candidate_at}
use Rattle.model.specs.Content.{candidate_of, if_checksum, same_option, summary_at, target_of}
use Rattle.model.specs.Vertices.{Owner, the_root, version_of, Vertex, pkg, dep, State, absent, version, in_class}
use Rattle.model.specs.Vertices.{owner_brings, same_owner}
use Rattle.model.specs.Walk.{IsLink, IsReachedFact, StandsFor, name_of}
use Rattle.model.specs.inner.Assignment.{Assigns, IsOwnerAt, Locks}
use Rattle.model.specs.inner.Search.{IsUnbroken, LeadsTo}
use Rattle.model.proofs.Same.{owner-refl, owner-same, text-same}
use Rattle.model.proofs.Inner.{version_inner, class_inner}
use Rattle.model.proofs.Owners.{is_candidate, owner_is, owner_package, same_owner_place, same_package, served_is}
use Rattle.model.proofs.Reached.{reached_met}
use Rattle.facts.proofs.Mapped.{Keeps, HoldsFar, holds_far}
use Rattle.model.specs.Selected.{HasBareRoot, IsBrought}
use Rattle.facts.specs.inner.Followed.{AgreesWith}

-- ---- states

text_option : (o : Option (List ℕ)) (x : List ℕ) → same_option o (Some x) ≡ true → o ≡ Some x
text_option None x h = absurd (true≢false (sym h))
text_option (Some a) x h = ap Some (text-same a x h)

-- ---- the source and the checksum of a candidate

module _ (q : Problem) (p : Package) (c : Candidate) where
  source_is : candidate_of q p ≡ Some c → p.source ≡ Some q.source
  source_is e = by (same_option p.source (Some q.source)) refl e
    where
      by : (b : Bool) → same_option p.source (Some q.source) ≡ b → cond b (option_and_then (if_checksum p.checksum)
          (candidate_at (candidates_of q.candidates p.name) p.version)) None ≡ Some c → p.source ≡ Some q.source
      by true s e = text_option p.source q.source s
      by false s e = absurd (none-some c e)

  checksum_is : candidate_of q p ≡ Some c
      → p.checksum ≡ option_map (λ c. c.checksum) (candidate_at (candidates_of q.candidates p.name) p.version)
  checksum_is e =
      by (same_option p.source (Some q.source)) (candidate_at (candidates_of q.candidates p.name) p.version) e
    where
      checked : (d : Candidate) (b : Bool) → same_option p.checksum (Some d.checksum) ≡ b
          → cond b (Some d) None ≡ Some c → p.checksum ≡ Some d.checksum
      checked d true s e = text_option p.checksum d.checksum s
      checked d false s e = absurd (none-some c e)

      by : (b : Bool) (o : Option Candidate) → cond b (option_and_then (if_checksum p.checksum) o) None ≡ Some c
          → p.checksum ≡ option_map (λ c. c.checksum) o
      by true (Some d) e = checked d (same_option p.checksum (Some d.checksum)) refl e
      by true None e = absurd (none-some c e)
      by false o e = absurd (none-some c e)

module _ (q : Problem) (content : Content) where
  -- ---- the owner that a package is

  named_at : (n : ℕ) (p : Package) → slice_get content n ≡ Some p → IsOwnerAt q content (name_of q p) n
  named_at n p got = by (is_root q p) refl
    where
      by : (b : Bool) → is_root q p ≡ b → IsOwnerAt q content (cond b the_root (version_of p.name p.version)) n
      by true e = (p, got, e)
      by false e = (p, record { other = (got, e); named = refl; classed = refl }, refl)

  name_at : (o : Owner) (n : ℕ) (p : Package) → IsOwnerAt q content o n → slice_get content n ≡ Some p → name_of q p ≡ o
  name_at the_root n p (r, got, is) had =
      let same : r ≡ p = same_Some r p (sym got ∙ had) in
      ap (λ b. cond b the_root (version_of p.name p.version)) (subst (λ x. is_root q x ≡ true) same is)
  name_at (version_of name v) n p (r, l, is) had =
      let same : r ≡ p = same_Some r p (sym l.other.0 ∙ had) in
      let names : r.name ≡ name = l.named in
      ap (name_of q) (sym same) ∙ ap (λ b. cond b the_root (version_of r.name r.version)) l.other.1
      ∙ ap (λ x. version_of x r.version) names ∙ ap (version_of name) is

  module _ (state : Vertex → State) (valid : IsValidSelection q content) where
    abbrev Far : Fact Owner → Type 0
    Far = IsReachedFact q (LeadsTo q state)

    -- ---- where a dependency leads

    record Led (n : ℕ) (d : Dependency) (k : Class) : Type 0 where
      m : ℕ
      p : Package
      target : HasTarget q content n d m
      locks : Locks q content d.real_name k m p

    chosen_at : (o : Owner) (i n : ℕ) (d : Dependency) (k : Class) → IsOwnerAt q content o n
        → Brings (owner_brings q) o i d → state (dep o i) ≡ in_class k
        → Assigns q content (dep o i) (state (dep o i)) → Led n d k
    chosen_at o i n d k at b chosen (inr none) = absurd (let x : in_class k ≡ absent = sym chosen ∙ none.0 in cc)
    chosen_at o i n d k at b chosen (inl (n', t, d', p, l, is)) =
        let same : n' ≡ n = same_owner_place q content valid o n' n l.owner at in
        let brought : slice_get (owner_brings q o).dependencies i ≡ Some d' =
        subst (λ s. slice_get s.dependencies i ≡ Some d') (owner_is q content valid o n' l.owner) (l.enabled).0 in
        let alike : d' ≡ d = same_Some d' d (sym brought ∙ b) in
        let classed : class_of p.version ≡ k = class_inner (class_of p.version) k (sym is ∙ chosen) in
        let locks = (served_is q content valid o i n' t d' p l).0 in
        record {
          m = t;
          p = p;
          target = subst (λ x. HasTarget q content x d t) same (subst (λ x. HasTarget q content n' x t) alike l.target);
          locks = subst (λ c. Locks q content d.real_name c t p) classed
              (subst (λ (x : Dependency). Locks q content x.real_name (class_of p.version) t p) alike locks);
        }

    locked_at : (name : List ℕ) (k : Class) (v : Parts) → state (pkg name k) ≡ version v
        → Assigns q content (pkg name k) (state (pkg name k))
        → (n : ℕ) × (p : Package) × Locks q content name k n p × (p.version ≡ v)
    locked_at name k v locked (inr none) = absurd (let x : version v ≡ absent = sym locked ∙ none.0 in cc)
    locked_at name k v locked (inl (n, p, l, is)) = (n, p, l, version_inner p.version v (sym is ∙ locked))

    abbrev LeadsHere : Owner → ℕ → Dependency → Type 0
    LeadsHere t n d = (m : ℕ) × IsOwnerAt q content t m × HasTarget q content n d m

    led_here : (o t : Owner) (i n : ℕ) (d : Dependency) → IsOwnerAt q content o n → Brings (owner_brings q) o i d
        → (l : LeadsTo q state o i d t)
        → Assigns q content (dep o i) (state (dep o i))
        → Assigns q content (pkg d.real_name l.k) (state (pkg d.real_name l.k)) → LeadsHere t n d
    led_here o t i n d at b l has locked =
        let x = chosen_at o i n d l.k at b l.chosen has in
        let (m, p, locks, is) = locked_at d.real_name l.k l.v l.locked locked in
        let same : p ≡ x.p = same_package q content valid d.real_name l.k m x.m p x.p locks x.locks in
        let is_v : (x.p).version ≡ l.v = ap (λ (r : Package). r.version) (sym same) ∙ is in (
          x.m,
          subst (λ u. IsOwnerAt q content u x.m) (sym l.target)
              (x.p, record { other = (x.locks).other; named = (x.locks).named; classed = ap class_of is_v }, is_v),
          x.target,
        )

    -- whether it leads there can be looked up, so it does if nothing speaks against it
    looked_up : (t : Owner) (n : ℕ) (d : Dependency) → ((LeadsHere t n d → ⊥) → ⊥) → LeadsHere t n d
    looked_up t n d some = by (target_of content n d) refl
      where
        named : (m : ℕ) (p : Package) → target_of content n d ≡ Some m → slice_get content m ≡ Some p → (b : Bool)
            → same_owner (name_of q p) t ≡ b → LeadsHere t n d
        named m p e got true s =
            (m, subst (λ o. IsOwnerAt q content o m) (owner-same (name_of q p) t s) (named_at m p got), e)
        named m p e got false s = absurd (some (λ (k, at, target).
            let same : k ≡ m = same_Some k m (sym target ∙ e) in
            let is : name_of q p ≡ t = name_at t m p (subst (IsOwnerAt q content t) same at) got in
            true≢false (sym (owner-refl (name_of q p)) ∙ ap (same_owner (name_of q p)) is ∙ s)))

        there : (m : ℕ) → target_of content n d ≡ Some m → (o : Option Package)
            → slice_get content m ≡ o → LeadsHere t n d
        there m e None f = absurd (some (λ (k, at, target).
            let (p, got) = owner_package q content valid t k at in
            none-some p (sym f ∙ ap (slice_get content) (same_Some m k (sym e ∙ target)) ∙ got)))
        there m e (Some p) f = named m p e f (same_owner (name_of q p) t) refl

        by : (o : Option ℕ) → target_of content n d ≡ o → LeadsHere t n d
        by None e = absurd (some (λ (k, at, target). none-some k (sym e ∙ target)))
        by (Some m) e = there m e (slice_get content m) refl

    module _ (unbroken : IsUnbroken q state) (agrees : AgreesWith q state content) where
      leads_here : (o t : Owner) (i : ℕ) (d : Dependency) (n : ℕ) → IsOwnerAt q content o n
          → Brings (owner_brings q) o i d → LeadsTo q state o i d t → LeadsHere t n d
      leads_here o t i d n at b l = looked_up t n d (λ none.
          agrees (dep o i) (λ e. let x : in_class l.k ≡ absent = sym l.chosen ∙ e in cc) (λ has.
          agrees (pkg d.real_name l.k) (λ e. let x : version l.v ≡ absent = sym l.locked ∙ e in cc) (λ locked.
          none (led_here o t i n d at b l has locked))))

      -- ---- what the root reaches holds in the content

      to_places : Keeps (owner_brings q) (λ o. o ≡ the_root) (λ o. o ≡ the_root) q.root_asks (LeadsTo q state)
          (summary_at q content) (IsRootAt q content) (IsPlace q content) q.root_asks
          (λ n i d t. HasTarget q content n d t) (λ o n. IsOwnerAt q content o n)
      to_places = record {
        one = λ o n m at there. same_owner_place q content valid o n m at there;
        owners = λ o n at. sym (owner_is q content valid o n at);
        roots = λ o n at e. subst (λ o. IsOwnerAt q content o n) e at;
        asked = λ o e a c. c;
        begun = λ o e. let (n, r) =
            valid.root in (n, subst (λ o. IsOwnerAt q content o n) (sym e) r, slice_get_within content n r.0 r.1);
        leads = leads_here;
      }

      near_of : (x : Fact Owner) → Far x
          → HoldsFar (owner_brings q) (λ o. o ≡ the_root) (λ o. o ≡ the_root) q.root_asks (LeadsTo q state)
          (summary_at q content) (IsRootAt q content) (IsPlace q content) q.root_asks
          (λ n i d t. HasTarget q content n d t) (λ o n. IsOwnerAt q content o n) x
      near_of x h = holds_far (owner_brings q) (λ o. o ≡ the_root) (λ o. o ≡ the_root) q.root_asks (LeadsTo q state)
          (summary_at q content) (IsRootAt q content) (IsPlace q content) q.root_asks
          (λ n i d t. HasTarget q content n d t) (λ o n. IsOwnerAt q content o n) to_places x h

      -- ---- what holds in the content the root reaches

      -- the root reaches the fact of the owner that the package is
      abbrev ReachedAt : Fact ℕ → Type 0
      ReachedAt (here n) = (o : Owner) × IsOwnerAt q content o n × Far (here o)
      ReachedAt (on n f) = (o : Owner) × IsOwnerAt q content o n × Far (on o f)
      ReachedAt (enabled n i) = (o : Owner) × IsOwnerAt q content o n × Far (enabled o i)

      one_owner : (n : ℕ) (o u : Owner) → IsOwnerAt q content o n → IsOwnerAt q content u n → o ≡ u
      one_owner n o u at there = let (p, got) =
          owner_package q content valid o n at in sym (name_at o n p at got) ∙ name_at u n p there got

      brings_far : (n i : ℕ) (d : Dependency) (o : Owner) → IsOwnerAt q content o n
          → Brings (summary_at q content) n i d → Brings (owner_brings q) o i d
      brings_far n i d o at b = subst (λ s. slice_get s.dependencies i ≡ Some d) (owner_is q content valid o n at) b

      lists_far : (n : ℕ) (f : List ℕ) (e : Entry) (o : Owner) → IsOwnerAt q content o n
          → Lists (summary_at q content) n f e → Lists (owner_brings q) o f e
      lists_far n f e o at l =
          (l.0, subst (λ s. entries_at f s.features ≡ Some l.0) (owner_is q content valid o n at) l.1, l.2)

      enabled_at : (n i : ℕ) (o : Owner) → IsOwnerAt q content o n → ReachedAt (enabled n i) → Far (enabled o i)
      enabled_at n i o at (u, there, h) = subst (λ x. Far (enabled x i)) (one_owner n u o there at) h

      -- an enabled dependency leads to the owner that its target is
      leads_far : (n t i : ℕ) (d : Dependency) (o : Owner) → IsOwnerAt q content o n
          → Brings (summary_at q content) n i d → HasTarget q content n d t → Far (enabled o i)
          → (u : Owner) × IsOwnerAt q content u t × LeadsTo q state o i d u
      leads_far n t i d o at b target h =
          let brought = brings_far n i d o at b in
          let (u, l, _) = reached_met q state unbroken o i d h brought in
          let (m, there, is) = leads_here o u i d n at brought l in
          (u, subst (IsOwnerAt q content u) (same_Some m t (sym is ∙ target)) there, l)

      module _ (Starts : ℕ → Type 0) (begun : (n : ℕ) → Starts n → ReachedAt (here n)) where
        reached_at : (x : Fact ℕ) → Holds (summary_at q content) (IsRootAt q content) Starts q.root_asks
            (λ n i d t. HasTarget q content n d t) x → ReachedAt x
        reached_at x (starts n s) = begun n s
        reached_at x (arrives n t i d h b l) =
            let (o, r, p) = reached_at (enabled n i) h in
            let u = leads_far n t i d o r b l p in
            (u.0, u.1, arrives o u.0 i d p (brings_far n i d o r b) u.2)
        reached_at x (root_needs n i d h is b) =
            let (o, r, p) = reached_at (here n) h in
            (o, r, root_needs o i d p (one_owner n o the_root r is) (brings_far n i d o r b))
        reached_at x (needs n i d h b stays) =
            let (o, r, p) = reached_at (here n) h in
            (o, r, needs o i d p (brings_far n i d o r b) stays)
        reached_at x (asks n t i d f h b l a) =
            let (o, r, p) = reached_at (enabled n i) h in
            let u = leads_far n t i d o r b l p in
            (u.0, u.1, asks o u.0 i d f p (brings_far n i d o r b) u.2 a)
        reached_at x (root_wants n t i d g h is b l a) =
            let (o, r, p) = reached_at (here n) h in
            let root = one_owner n o the_root r is in
            let brought = brings_far n i d o r b in
            let u = leads_far n t i d o r b l (root_needs o i d p root brought) in
            (u.0, u.1, root_wants o u.0 i d g p root brought u.2 a)
        reached_at x (turns_on n f g h l) =
            let (o, r, p) = reached_at (on n f) h in
            (o, r, turns_on o f g p (lists_far n f _ o r l))
        reached_at x (enables n i d f h b l) =
            let (o, r, p) = reached_at (on n f) h in
            (o, r, enables o i d f p (brings_far n i d o r b) (lists_far n f _ o r l))
        reached_at x (enables_for n i d f g h b l) =
            let (o, r, p) = reached_at (on n f) h in
            (o, r, enables_for o i d f g p (brings_far n i d o r b) (lists_far n f _ o r l))
        reached_at x (wants n t i d f g h b l to) =
            let (o, r, p) = reached_at (on n f) h in
            let brought = brings_far n i d o r b in
            let listed = lists_far n f _ o r l in
            let u = leads_far n t i d o r b to (enables_for o i d f g p brought listed) in
            (u.0, u.1, wants o u.0 i d f g p brought listed u.2)
        reached_at x (wants_weakly n t i d f g h b l e to) =
            let (o, r, p) = reached_at (on n f) h in
            let is_enabled = enabled_at n i o r (reached_at (enabled n i) e) in
            let u = leads_far n t i d o r b to is_enabled in
            (u.0, u.1, wants_weakly o u.0 i d f g p (brings_far n i d o r b) (lists_far n f _ o r l) is_enabled u.2)

      -- ---- so the content is that of what the root reaches

      module _ (bare : HasBareRoot q content) (brought : IsBrought q content) where
        here_at : (n : ℕ) → n < length content → ReachedAt (here n)
        here_at n lt =
            reached_at (IsRootAt q content) (λ n r. (the_root, r, starts the_root refl)) (here n) (brought n lt)

        far_of : (x : Fact ℕ) → IsFact q content x → ReachedAt x
        far_of x h = reached_at (IsPlace q content) here_at x h

        to_package : (t : Owner) → Far (here t)
            → (n : ℕ) × (p : Package) × (slice_get content n ≡ Some p) × (name_of q p ≡ t)
        to_package t h =
            let (n, at, _) = near_of (here t) h in
            let (p, got) = owner_package q content valid t n at in
            (n, p, got, name_at t n p at got)

        from_package : (t : Owner)
            → (n : ℕ) × (p : Package) × (slice_get content n ≡ Some p) × (name_of q p ≡ t) → Far (here t)
        from_package t (n, p, got, e) =
            let (o, at, h) = here_at n (slice_get_within content n p got) in
            subst (λ x. Far (here x)) (sym (name_at o n p at got) ∙ e) h

        abbrev Linked : ℕ → Package → Type 0
        Linked t p = (r : Package) × (i : ℕ) × (d : Dependency) × (slice_get content t ≡ Some r)
            × IsLink q (LeadsTo q state) p r i d

        to_link : (n t : ℕ) (p : Package) → slice_get content n ≡ Some p → IsTarget q content n t → Linked t p
        to_link n t p got (i, d, is, target) =
            let at = named_at n p got in
            let h = enabled_at n i (name_of q p) at (far_of (enabled n i) is.1) in
            let (u, there, l) = leads_far n t i d (name_of q p) at is.0 target h in
            let (r, had) = owner_package q content valid u t there in (
              r,
              i,
              d,
              had,
              record {
                brings = brings_far n i d (name_of q p) at is.0;
                is_enabled = h;
                leads =
                    subst (LeadsTo q state (name_of q p) i d) (sym (name_at u t r there had)) l;
              },
            )

        from_link : (n t : ℕ) (p : Package) → slice_get content n ≡ Some p → Linked t p → IsTarget q content n t
        from_link n t p got (r, i, d, had, link) =
            let at = named_at n p got in
            let (k, there, h) = near_of (enabled (name_of q p) i) link.is_enabled in
            let same : k ≡ n = same_owner_place q content valid (name_of q p) k n there at in
            let (m, led, target) = leads_here (name_of q p) (name_of q r) i d n at link.brings link.leads in
            let place : m ≡ t = same_owner_place q content valid (name_of q r) m t led (named_at t r had) in (
              i,
              d,
              (
                subst (λ s. slice_get s.dependencies i ≡ Some d) (sym (owner_is q content valid (name_of q p) n at))
                    link.brings,
                subst (λ x. IsFact q content (enabled x i)) same h,
              ),
              subst (HasTarget q content n d) place target,
            )

        pub follows : StandsFor q (LeadsTo q state) content
        follows = record {
          is_content = valid.is_content;
          packages = λ t. (to_package t, from_package t);
          root_checksum = bare;
          sources = λ n p got e. let c = is_candidate q content valid n p (got, e) in source_is q p c.0 c.1;
          checksums = λ n p got e. let c = is_candidate q content valid n p (got, e) in checksum_is q p c.0 c.1;
          lists = λ n t p got. let r =
              valid.lists n t p got in (λ c. to_link n t p got (r.0 c), λ x. r.1 (from_link n t p got x));
        }
