-- What the facts find over packages is what the root reaches, wherever dependencies lead; and the content that is built
-- of it.
use Rattle.std.proofs.Common.{◌≡◌, ◌↔◌, ◌≢◌, ℕ, List, [], ◌∷◌, Bool, true, false, nat_eq}
use Rattle.std.proofs.Common.{Contains, Option, Some, None, option_map, slice_get, get_or, refl, sym, ap, ap₂, ◌∙◌}
use Rattle.std.proofs.Common.{subst, subst₂, inl, inr, arith, true≢false}
use Rattle.std.specs.Option.{option_and_then}
use Rattle.std.proofs.lemmas.Bool.{cases_order, eqb-true}
use Rattle.std.proofs.lemmas.Option.{slice_get_within, slice_get-get_or, same_Some, none-some}
use Rattle.model.specs.Summary.{Summary, Dependency}
use Rattle.model.specs.Selection.{Fact, here, enabled, Brings}
use Rattle.model.specs.Content.{Package, Content, Problem, is_root, candidates_of, candidate_at}
use Rattle.model.specs.Vertices.{Owner, the_root, version_of, owner_brings}
use Rattle.model.specs.Walk.{IsLink, IsReachedFact, StandsFor, name_of}
use Rattle.model.proofs.Lists.{in_first, in_rest, all_none, all_cons, pairs_get}
use Rattle.model.proofs.Same.{text-refl, version-refl}
use Rattle.manifest.specs.Manifests.{root_asks}
use Rattle.facts.specs.inner.Graphs.{NodeView, brings_if, starts_if, target_if, brings_at, starts_at, target_at}
use Rattle.facts.specs.inner.Graphs.{flag_at}
use Rattle.facts.specs.inner.Graphs.{IsFactOf, IsGraph}
use Rattle.facts.proofs.Mapped.{Keeps, HoldsFar, holds_far}
use Rattle.std.specs.List.{All}
use Rattle.model.specs.Axioms.{IsOwner}
use Rattle.model.specs.inner.ContentOf.{Kept, package_of, IsTargetOf, AreKept}
use Rattle.model.proofs.Closed.{owner_of_fact}
use Rattle.model.proofs.Gathered.{name_back}
use Rattle.model.proofs.Places.{some_at, place_of, got_in}
use Rattle.facts.specs.inner.Nodes.{AreMet, IsNode, IsLead, AreFlags}
use Rattle.facts.specs.inner.Built.{LeadsFrom, AreFound, IsBuilt}

-- ---- the package that an owner is

root_is_root : (q : Problem) (l : List ℕ) → is_root q (package_of q the_root l) ≡ true
root_is_root q l = rw (text-refl q.name, version-refl q.version) refl

bare : (q : Problem) (o : Owner) (p : Package) → p ≡ package_of q o p.list → is_root q p ≡ true → p.checksum ≡ None
bare q the_root p e h = ap (λ (p : Package). p.checksum) e
bare q (version_of n v) p e h = absurd (true≢false (sym h ∙ ap (is_root q) e))

sourced : (q : Problem) (o : Owner) (p : Package) → p ≡ package_of q o p.list → is_root q p ≡ false
    → p.source ≡ Some q.source
sourced q the_root p e h = absurd (true≢false (sym (root_is_root q p.list) ∙ sym (ap (is_root q) e) ∙ h))
sourced q (version_of n v) p e h = ap (λ (p : Package). p.source) e

summed : (q : Problem) (o : Owner) (p : Package) → p ≡ package_of q o p.list → is_root q p ≡ false
    → p.checksum ≡ option_map (λ c. c.checksum) (candidate_at (candidates_of q.candidates p.name) p.version)
summed q the_root p e h = absurd (true≢false (sym (root_is_root q p.list) ∙ sym (ap (is_root q) e) ∙ h))
summed q (version_of n v) p e h =
    ap (λ (p : Package). p.checksum) e
    ∙ ap₂ (λ k w. option_map (λ c. c.checksum) (candidate_at (candidates_of q.candidates k) w))
    (sym (ap (λ (p : Package). p.name) e)) (sym (ap (λ (p : Package). p.version) e))

-- ---- small steps

joined : (o : Option (Option ℕ)) (t : ℕ) → option_and_then (λ o. o) o ≡ Some t → o ≡ Some (Some t)
joined None t h = absurd (none-some t h)
joined (Some None) t h = absurd (none-some t h)
joined (Some (Some s)) t h = ap Some h

is_zero : (n : ℕ) → nat_eq n 0 ≡ true → n ≡ 0
is_zero n h = eqb-true n 0 h

-- the root of a content that is built has no checksum
pub bare_root : (q : Problem) (owners : List Owner) (nodes : List NodeView) (lists : List (List Bool))
    (flags : List Bool) (content : Content) → IsBuilt owners nodes lists q flags content
    → (k : ℕ) (p : Package) → slice_get content k ≡ Some p → is_root q p ≡ true → p.checksum ≡ None
bare_root q owners nodes lists flags content built k p got h =
    let lt = slice_get_within content k p got in
    let many = built.as_many in
    let (n, at) = some_at (built.places) k (omega (arith, lt, many)) in
    let (o, stands, is) = built.packages k n p got at in
    bare q o p is h

module _ (q : Problem) (LeadsTo : Owner → ℕ → Dependency → Owner → Type 0) (owners : List Owner) (nodes : List NodeView)
    (met : AreMet q LeadsTo owners nodes)
    (asks : q.root_asks ≡ root_asks q.brings.features) where
  abbrev Near : Fact ℕ → Type 0
  Near = IsFactOf nodes 0

  abbrev Far : Fact Owner → Type 0
  Far = IsReachedFact q LeadsTo

  abbrev At : ℕ → Owner → Type 0
  At n o = slice_get owners n ≡ Some o

  -- what stands at the place of an owner
  pub node_at : (n : ℕ) (o : Owner) → At n o
      → (v : NodeView) × (slice_get nodes n ≡ Some v) × IsNode q LeadsTo owners n o v
  node_at n o at =
      let lt = slice_get_within owners n o at in
      let many = met.as_many in
      let (v, got) = some_at nodes n (omega (arith, lt, many)) in
      (v, got, met.each n o v at got)

  pub owner_there : (n : ℕ) (v : NodeView) → slice_get nodes n ≡ Some v → (o : Owner) × At n o
  owner_there n v got =
      let lt = slice_get_within nodes n v got in
      let many = met.as_many in
      some_at owners n (omega (arith, lt, many))

  one_owner : (n : ℕ) (o u : Owner) → At n o → At n u → o ≡ u
  one_owner n o u at there = same_Some o u (sym at ∙ there)

  pub one_place : (o : Owner) (n m : ℕ) → At n o → At m o → n ≡ m
  one_place o n m at there = elim (cases_order n m) [
    | inl e ↦ e
    | inr h ↦ elim h [
      | inl lt ↦ absurd (pairs_get (λ a b. a ≢ b) owners n m o o met.distinct lt at there refl)
      | inr gt ↦ absurd (pairs_get (λ a b. a ≢ b) owners m n o o met.distinct gt there at refl)
    ]
  ]

  brings_is : (n : ℕ) (o : Owner) → At n o → brings_at nodes n ≡ owner_brings q o
  brings_is n o at = let (v, got, is) = node_at n o at in ap brings_if got ∙ is.brings

  asks_are : root_asks (brings_at nodes 0).features ≡ q.root_asks
  asks_are = ap (λ (o : Summary). root_asks o.features) (brings_is 0 the_root met.root) ∙ sym asks

  target_is : (n i t : ℕ) (v : NodeView) → slice_get nodes n ≡ Some v → target_at nodes n i ≡ Some t
      → slice_get v.targets i ≡ Some (Some t)
  target_is n i t v got h = joined (slice_get v.targets i) t (sym (ap (target_if i) got) ∙ h)

  -- each place to which a dependency leads is one of them
  pub is_graph : IsGraph nodes
  is_graph k e lt i f within t is =
      let v = get_or nodes k e in
      let got : slice_get nodes k ≡ Some v = slice_get-get_or nodes k e lt in
      let (o, at) = owner_there k v got in
      let node = met.each k o v at got in
      let many = (node.leads).as_many in
      let (d, brought) = some_at (v.brings).dependencies i (omega (arith, within, many)) in
      let (u, there, l, only) =
      (node.leads).leads i d (Some t) brought (slice_get-get_or v.targets i f within ∙ ap Some is) in
      let below = slice_get_within owners t u there in
      let wide = met.as_many in
      omega (arith, below, wide)

  -- ---- facts of places and facts of owners

  to_names : Keeps (brings_at nodes) (λ n. n ≡ 0)
      (λ n. starts_at nodes n ≡ true) (root_asks (brings_at nodes 0).features) (λ n i d t. target_at nodes n i ≡ Some t)
      (owner_brings q) (λ o. o ≡ the_root) (λ o. o ≡ the_root) q.root_asks LeadsTo At
  to_names = record {
    one = one_owner;
    owners = brings_is;
    roots = λ n m r e. one_owner 0 m the_root (subst (λ k. At k m) e r) met.root;
    asked = λ n e a c. subst (λ l. Contains l a) asks_are c;
    begun = begins;
    leads = lead;
  }
    where
      begins : (n : ℕ) → starts_at nodes n ≡ true → (m : Owner) × At n m × (m ≡ the_root)
      begins n h = by (slice_get nodes n) refl h
        where
          by : (o : Option NodeView) → slice_get nodes n ≡ o → starts_if o ≡ true
              → (m : Owner) × At n m × (m ≡ the_root)
          by None e s = absurd (true≢false (sym s))
          by (Some v) e s =
              let (o, at) = owner_there n v e in
              let zero_is = is_zero n (sym (met.each n o v at e).starts ∙ s) in
              (the_root, subst (λ k. At k the_root) (sym zero_is) met.root, refl)

      lead : (n t i : ℕ) (d : Dependency) (m : Owner) → At n m → Brings (brings_at nodes) n i d
          → target_at nodes n i ≡ Some t → (u : Owner) × At t u × LeadsTo m i d u
      lead n t i d m at b l =
          let (v, got, is) = node_at n m at in
          let brought : slice_get (v.brings).dependencies i ≡ Some d =
          subst (λ (o : Summary). slice_get o.dependencies i ≡ Some d) (ap brings_if got) b in
          let (u, stands, to, only) = (is.leads).leads i d (Some t) brought (target_is n i t v got l) in
          (u, stands, to)

  to_places : Keeps (owner_brings q) (λ o. o ≡ the_root) (λ o. o ≡ the_root) q.root_asks LeadsTo
      (brings_at nodes) (λ n. n ≡ 0) (λ n. starts_at nodes n ≡ true) (root_asks (brings_at nodes 0).features)
      (λ n i d t. target_at nodes n i ≡ Some t) (λ o n. At n o)
  to_places = record {
    one = one_place;
    owners = λ o n at. sym (brings_is n o at);
    roots = λ o n at e. one_place the_root n 0 (subst (At n) e at) met.root;
    asked = λ o e a c. subst (λ l. Contains l a) (sym asks_are) c;
    begun = λ o e. let (v, got, is) =
        node_at 0 the_root met.root in (0, subst (At 0) (sym e) met.root, ap starts_if got ∙ is.starts);
    leads = lead;
  }
    where
      lead : (o t : Owner) (i : ℕ) (d : Dependency) (n : ℕ) → At n o → Brings (owner_brings q) o i d → LeadsTo o i d t
          → (s : ℕ) × At s t × (target_at nodes n i ≡ Some s)
      lead o t i d n at b l =
          let (v, got, is) = node_at n o at in
          let brought : slice_get (v.brings).dependencies i ≡ Some d =
          subst (λ (o : Summary). slice_get o.dependencies i ≡ Some d) (sym is.brings) b in
          let lt = slice_get_within (v.brings).dependencies i d brought in
          let many = (is.leads).as_many in
          let (target, stands) = some_at v.targets i (omega (arith, lt, many)) in
          by v got target stands ((is.leads).leads i d target brought stands)
        where
          by : (v : NodeView) → slice_get nodes n ≡ Some v → (target : Option ℕ) → slice_get v.targets i ≡ Some target
              → IsLead q LeadsTo owners o i d target
              → (s : ℕ) × At s t × (target_at nodes n i ≡ Some s)
          by v got None stands none = absurd (none t l)
          by v got (Some s) stands (x, there, to, only) =
              (s, there ∙ ap Some (only t l), ap (target_if i) got ∙ ap (option_and_then (λ o. o)) stands)

  far_of : (x : Fact ℕ) → Near x → HoldsFar (brings_at nodes) (λ n. n ≡ 0)
      (λ n. starts_at nodes n ≡ true) (root_asks (brings_at nodes 0).features) (λ n i d t. target_at nodes n i ≡ Some t)
      (owner_brings q) (λ o. o ≡ the_root) (λ o. o ≡ the_root) q.root_asks LeadsTo At x
  far_of x h = holds_far (brings_at nodes) (λ n. n ≡ 0)
      (λ n. starts_at nodes n ≡ true) (root_asks (brings_at nodes 0).features) (λ n i d t. target_at nodes n i ≡ Some t)
      (owner_brings q) (λ o. o ≡ the_root) (λ o. o ≡ the_root) q.root_asks LeadsTo At to_names x h

  pub near_of : (x : Fact Owner) → Far x
      → HoldsFar (owner_brings q) (λ o. o ≡ the_root) (λ o. o ≡ the_root) q.root_asks LeadsTo
      (brings_at nodes) (λ n. n ≡ 0) (λ n. starts_at nodes n ≡ true) (root_asks (brings_at nodes 0).features)
      (λ n i d t. target_at nodes n i ≡ Some t) (λ o n. At n o) x
  near_of x h = holds_far (owner_brings q) (λ o. o ≡ the_root) (λ o. o ≡ the_root) q.root_asks LeadsTo
      (brings_at nodes) (λ n. n ≡ 0) (λ n. starts_at nodes n ≡ true) (root_asks (brings_at nodes 0).features)
      (λ n i d t. target_at nodes n i ≡ Some t) (λ o n. At n o) to_places x h

  pub here_far : (n : ℕ) (o : Owner) → At n o → Near (here n) → Far (here o)
  here_far n o at h = let (m, r, p) = far_of (here n) h in subst (λ x. Far (here x)) (one_owner n m o r at) p

  pub enabled_far : (n i : ℕ) (o : Owner) → At n o → Near (enabled n i) → Far (enabled o i)
  enabled_far n i o at h = let (m, r, p) =
      far_of (enabled n i) h in subst (λ x. Far (enabled x i)) (one_owner n m o r at) p

  enabled_near : (n i : ℕ) (o : Owner) → At n o → Far (enabled o i) → Near (enabled n i)
  enabled_near n i o at h = let (m, r, p) =
      near_of (enabled o i) h in subst (λ x. Near (enabled x i)) (one_place o m n r at) p

  -- ---- the content that is built of them

  module _ (flags : List Bool) (lists : List (List Bool)) (are : AreFlags nodes flags lists) where
    -- those that are found are kept
    pub kept_are : (arriving : (n t : Owner) (i : ℕ) (d : Dependency) → LeadsTo n i d t → IsOwner q t) (ks : List Kept)
        → AreFound owners nodes lists flags ks → AreKept q LeadsTo ks
    kept_are arriving ks found = record {
      distinct = found.distinct;
      owners = of_each ks
          (λ k c. owner_of_fact q LeadsTo arriving k.owner (here_of k.owner ((found.members k.owner).0 (k, c, refl))));
      reached = λ t. (
        λ h. let (n, at, near) = near_of (here t) h in (found.members t).1 (n, at, (are.each_here n).1 near),
        λ k. here_of t ((found.members t).0 k),
      );
      targets = each_has ks (λ k c. found.targets k c) (λ k c. (found.members k.owner).0 (k, c, refl));
    }
      where
        here_of : (o : Owner) → (n : ℕ) × (slice_get owners n ≡ Some o) × (flag_at flags n ≡ true) → Far (here o)
        here_of o (n, at, flag) = here_far n o at ((are.each_here n).0 flag)

        of_each : (ks : List Kept) → ((k : Kept) → Contains ks k → IsOwner q k.owner) → All (λ k. IsOwner q k.owner) ks
        of_each [] h = all_none (λ (k : Kept). IsOwner q k.owner)
        of_each (k ∷ ks) h = all_cons
            (λ (k : Kept). IsOwner q k.owner) k ks (h k (in_first k ks)) (of_each ks (λ m c. h m (in_rest k m ks c)))

        to_target : (o : Owner) (n : ℕ) (t : Owner) → At n o
            → (s : ℕ) × LeadsFrom owners nodes lists n s × (slice_get owners s ≡ Some t) → IsTargetOf q LeadsTo o t
        to_target o n t at (s, leads, at_s) =
            let (i, flag, target) = leads in
            let (v, got_v, is) = node_at n o at in
            let stands = target_is n i s v got_v target in
            let lt = slice_get_within v.targets i (Some s) stands in
            let wide = (is.leads).as_many in
            let (d, brought) = some_at (v.brings).dependencies i (omega (arith, lt, wide)) in
            let (u, there, to, only) = (is.leads).leads i d (Some s) brought stands in (
              i,
              d,
              subst (λ (b : Summary). slice_get b.dependencies i ≡ Some d) is.brings brought,
              enabled_far n i o at ((are.each_enabled n i).0 flag),
              subst (LeadsTo o i d) (one_owner s u t there at_s) to,
            )

        from_target : (o : Owner) (n : ℕ) (t : Owner) → At n o → IsTargetOf q LeadsTo o t
            → (s : ℕ) × LeadsFrom owners nodes lists n s × (slice_get owners s ≡ Some t)
        from_target o n t at (i, d, b, h, l) =
            let (s, at_s, target) = to_places.leads o t i d n at b l in
            (s, (i, (are.each_enabled n i).1 (enabled_near n i o at h), target), at_s)

        each_has : (ks : List Kept)
            → ((k : Kept) → Contains ks k → (n : ℕ) → slice_get owners n ≡ Some k.owner → (t : Owner)
            → Contains k.targets t ↔ ((s : ℕ) × LeadsFrom owners nodes lists n s × (slice_get owners s ≡ Some t)))
            → ((k : Kept) → Contains ks k → (n : ℕ) × (slice_get owners n ≡ Some k.owner) × (flag_at flags n ≡ true))
            → All (λ k. (t : Owner) → Contains k.targets t ↔ IsTargetOf q LeadsTo k.owner t) ks
        each_has [] f g = all_none (λ (k : Kept). (t : Owner) → Contains k.targets t ↔ IsTargetOf q LeadsTo k.owner t)
        each_has (k ∷ ks) f g =
            all_cons (λ (k : Kept). (t : Owner) → Contains k.targets t ↔ IsTargetOf q LeadsTo k.owner t) k ks
            (this (g k (in_first k ks))) (each_has ks (λ m c. f m (in_rest k m ks c)) (λ m c. g m (in_rest k m ks c)))
          where
            this : (n : ℕ) × (slice_get owners n ≡ Some k.owner) × (flag_at flags n ≡ true) → (t : Owner)
                → Contains k.targets t ↔ IsTargetOf q LeadsTo k.owner t
            this (n, at, flag) t = let r = f k (in_first k ks) n at t in
                (λ c. to_target k.owner n t at (r.0 c), λ x. r.1 (from_target k.owner n t at x))

    module _ (content : Content) (built : IsBuilt owners nodes lists q flags content) where
      -- the package at a place of the content, and the owner that it is
      record Placed (k : ℕ) (p : Package) : Type 0 where
        n : ℕ
        at : slice_get (built.places) k ≡ Some n
        o : Owner
        stands : At n o
        is : p ≡ package_of q o p.list
        name : name_of q p ≡ o

      placed_with : (k n : ℕ) (p : Package) → slice_get content k ≡ Some p
          → slice_get (built.places) k ≡ Some n → Placed k p
      placed_with k n p got at =
          let (o, stands, is) = built.packages k n p got at in
          record { n = n; at = at; o = o; stands = stands; is = is; name = ap (name_of q) is ∙ name_back q o p.list }

      placed : (k : ℕ) (p : Package) → slice_get content k ≡ Some p → Placed k p
      placed k p got =
          let lt = slice_get_within content k p got in
          let many = built.as_many in
          let (n, at) = some_at (built.places) k (omega (arith, lt, many)) in
          placed_with k n p got at

      to_packages : (t : Owner) → Far (here t)
          → (k : ℕ) × (p : Package) × (slice_get content k ≡ Some p) × (name_of q p ≡ t)
      unfolding near_of placed_with
      to_packages t h =
          let (n, at, near) = near_of (here t) h in
          let c = (built.members n).1 ((are.each_here n).1 near, t, at) in
          let (k, got_n) = place_of (built.places) n c in
          let lt = slice_get_within (built.places) k n got_n in
          let many = built.as_many in
          let (p, got) = some_at content k (omega (arith, lt, many)) in
          let x = placed_with k n p got got_n in
          (k, p, got, x.name ∙ one_owner n x.o t x.stands at)

      from_packages : (t : Owner)
          → (k : ℕ) × (p : Package) × (slice_get content k ≡ Some p) × (name_of q p ≡ t) → Far (here t)
      from_packages t (k, p, got, e) =
          let x = placed k p got in
          let m = (built.members x.n).0 (got_in (built.places) k x.n x.at) in
          subst (λ o. Far (here o)) (sym x.name ∙ e) (here_far x.n x.o x.stands ((are.each_here x.n).0 m.0))

      abbrev Linked : ℕ → Package → Type 0
      Linked t p =
          (r : Package) × (i : ℕ) × (d : Dependency) × (slice_get content t ≡ Some r) × IsLink q LeadsTo p r i d

      to_links : (k t : ℕ) (p : Package) → slice_get content k ≡ Some p → Contains p.list t → Linked t p
      unfolding placed_with placed
      to_links k t p got c =
          let x = placed k p got in
          let (s, leads, at_s) = (built.lists k x.n t p got x.at).0 c in
          let (i, flag, target) = leads in
          let lt_t = slice_get_within (built.places) t s at_s in
          let many = built.as_many in
          let (r, got_r) = some_at content t (omega (arith, lt_t, many)) in
          let y = placed_with t s r got_r at_s in
          let (v, got_v, is) = node_at x.n x.o x.stands in
          let stands = target_is x.n i s v got_v target in
          let lt = slice_get_within v.targets i (Some s) stands in
          let wide = (is.leads).as_many in
          let (d, brought) = some_at (v.brings).dependencies i (omega (arith, lt, wide)) in
          let (u, there, to, only) = (is.leads).leads i d (Some s) brought stands in
          let goal : u ≡ name_of q r = one_owner s u y.o there y.stands ∙ sym y.name in (
            r,
            i,
            d,
            got_r,
            record {
              brings = subst (λ o. Brings (owner_brings q) o i d) (sym x.name)
                  (subst (λ (o : Summary). slice_get o.dependencies i ≡ Some d) is.brings brought);
              is_enabled = subst (λ o. Far (enabled o i)) (sym x.name)
                  (enabled_far x.n i x.o x.stands ((are.each_enabled x.n i).0 flag));
              leads = subst₂ (λ o w. LeadsTo o i d w) (sym x.name) goal to;
            },
          )

      from_links : (k t : ℕ) (p : Package) → slice_get content k ≡ Some p → Linked t p → Contains p.list t
      from_links k t p got (r, i, d, got_r, link) =
          let x = placed k p got in
          let y = placed t r got_r in
          let flag = (are.each_enabled x.n i).1
          (enabled_near x.n i x.o x.stands (subst (λ o. Far (enabled o i)) x.name link.is_enabled)) in
          let brought = subst (λ o. Brings (owner_brings q) o i d) x.name link.brings in
          let (s, at_s, target) = to_places.leads x.o (name_of q r) i d x.n x.stands brought
          (subst (λ o. LeadsTo o i d (name_of q r)) x.name link.leads) in
          let same : s ≡ y.n = one_place (name_of q r) s y.n at_s (subst (At y.n) (sym y.name) y.stands) in
          (built.lists k x.n t p got x.at).1 (s, (i, flag, target), y.at ∙ ap Some (sym same))

      pub stands : StandsFor q LeadsTo content
      stands = record {
        is_content = built.is_content;
        packages = λ t. (to_packages t, from_packages t);
        root_checksum = λ k p got e. let x = placed k p got in bare q x.o p x.is e;
        sources = λ k p got e. let x = placed k p got in sourced q x.o p x.is e;
        checksums = λ k p got e. let x = placed k p got in summed q x.o p x.is e;
        lists = λ k t p got. (to_links k t p got, from_links k t p got);
      }
