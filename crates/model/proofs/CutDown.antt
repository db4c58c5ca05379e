-- The assignment cut down to what the root reaches is that of the content that stands for it, state by state.
use Rattle.std.proofs.Common.{◌≡◌, ◌↔◌, ℕ, List, false, Some, slice_get, refl, sym, ap, ap₂, ◌∙◌, subst, inl, inr}
use Rattle.std.proofs.lemmas.Option.{same_Some}
use Rattle.semver.specs.Parse.{Parts}
use Rattle.model.specs.Summary.{Dependency, dependency_feature}
use Rattle.model.specs.Selection.{Fact, here, on, enabled, Brings, Lists, class_of, IsFact}
use Rattle.model.specs.Selection.Holds.{starts, arrives, root_needs, needs, asks, root_wants, turns_on, enables}
use Rattle.model.specs.Selection.Holds.{enables_for, wants, wants_weakly}
use Rattle.model.specs.Content.{Problem, Content, Package, is_root}
use Rattle.model.specs.Order.{IsCatalogue}
use Rattle.model.specs.Vertices.{Owner, the_root, version_of, Vertex, root, pkg, dep, feat, ask, State, version}
use Rattle.model.specs.Vertices.{in_class, owner_brings}
use Rattle.model.specs.Walk.{name_of, StandsFor}
use Rattle.model.specs.inner.Search.{IsUnbroken, LeadsTo, IsReachedFact, IsOn, IsReachedVertex, AssignsReached}
use Rattle.model.specs.inner.Assignment.{Locks, IsOwnerAt, Has, Assigns}
use Rattle.model.proofs.Reached.{root_present, asking, chosen_version, reached_says, reached_met}
use Rattle.model.proofs.Cut.{package_here, name_other, is_present, named_of, at_root, brings_there, brings_back}
use Rattle.model.proofs.Cut.{root_back, Linked, to_target, means, Place, next, back}

module _ (q : Problem) (state : Vertex → State) where
  -- a dependency that is enabled is there
  abbrev IsThere : Fact Owner → Type 0
  IsThere (here n) = Unit {0}
  IsThere (on n f) = Unit {0}
  IsThere (enabled n i) = (d : Dependency) × Brings (owner_brings q) n i d

  is_there : (f : Fact Owner) → IsReachedFact q state f → IsThere f
  is_there f (starts n e) = tt
  is_there f (arrives n t i d h b l) = tt
  is_there f (root_needs n i d h e b) = (d, b)
  is_there f (needs n i d h b o) = (d, b)
  is_there f (asks n t i d g h b l a) = tt
  is_there f (root_wants n t i d g h e b l a) = tt
  is_there f (turns_on n g k h l) = tt
  is_there f (enables n i d g h b l) = (d, b)
  is_there f (enables_for n i d g k h b l) = (d, b)
  is_there f (wants n t i d g k h b l to) = tt
  is_there f (wants_weakly n t i d g k h b l e to) = tt

  module _ (ok : IsUnbroken q state) (known : IsCatalogue q) (content : Content)
      (stands : StandsFor q (LeadsTo q state) content) where
    -- the owner that a package is
    owner_named : (o : Owner) (n : ℕ) (p : Package) → slice_get content n ≡ Some p
        → IsOwnerAt q content o n → name_of q p ≡ o
    owner_named the_root n p got r = at_root q state ok known content stands n p got r
    owner_named (version_of name v) n p got (r, l, is) =
        let same : p ≡ r = same_Some p r (sym got ∙ (l.other).0) in
        ap (name_of q) same ∙ name_other q state ok known content stands r (l.other).1 ∙ ap₂ version_of l.named is

    locks : (n : ℕ) (p : Package) (name : List ℕ) (v : Parts) → slice_get content n ≡ Some p
        → name_of q p ≡ version_of name v → Locks q content name (class_of v) n p × (p.version ≡ v)
    locks n p name v got e =
        let r = named_of q state ok known content stands p name v e in
        (record { other = (got, r.0); named = r.1; classed = ap class_of r.2 }, r.2)

    owner_placed : (o : Owner) (x : Place q state ok known content stands o) → IsOwnerAt q content o x.a
    owner_placed the_root x = root_back q state ok known content stands the_root x refl
    owner_placed (version_of name v) x = let r = locks x.a x.p name v x.got x.named in (x.p, r.0, r.1)

    -- a version that is on at its place
    on_version : (n : ℕ) (p : Package) (name : List ℕ) (f : List ℕ) → slice_get content n ≡ Some p → is_root q p ≡ false
        → p.name ≡ name → IsFact q content (on n f)
        → IsReachedFact q state (on (version_of name p.version) f)
    on_version n p name f got other named h =
        let x = means q state ok known content stands (on n f) h in
        let same : x.0 ≡ p = same_Some x.0 p (sym x.1 ∙ got) in
        subst (λ o. IsReachedFact q state (on o f)) (ap (name_of q) same
        ∙ name_other q state ok known content stands p other ∙ ap (λ m. version_of m p.version) named) x.2

    -- where the dependency of a package leads, as a state
    leads_in : (n t i : ℕ) (p r : Package) (d : Dependency) (x : Linked q state ok known content stands n p i d)
        → x.u ≡ t → slice_get content t ≡ Some r
        → state (dep (name_of q p) i) ≡ in_class (class_of r.version)
    leads_in n t i p r d x place got =
        let l = (x.link).leads in
        let same : x.s ≡ r = same_Some x.s r (sym x.got ∙ ap (slice_get content) place ∙ got) in
        let is = named_of q state ok known content stands x.s d.real_name l.v l.target in
        let class : class_of r.version ≡ l.k = ap (λ (p : Package). class_of p.version) (sym same) ∙ ap class_of is.2
        ∙ (chosen_version q state ok d.real_name l.k l.v l.locked).3 in
        l.chosen ∙ ap in_class (sym class)

    -- what has a state in the content is reached, and has it in the assignment
    has_from : (v : Vertex) (s : State) → Has q content v s → IsReachedVertex q state v × (s ≡ state v)
    has_from root s e = (tt, e ∙ sym (root_present q state ok))
    has_from (pkg name k) s (n, p, l, e) =
        let here_it = package_here q state ok known content stands n p (l.other).0 in
        let named : name_of q p ≡ version_of name p.version =
        name_other q state ok known content stands p (l.other).1 ∙ ap (λ m. version_of m p.version) l.named in (
          (p.version, subst (λ o. IsReachedFact q state (here o)) named here_it, l.classed),
          e ∙ sym (is_present q state ok known content stands n p (l.other).0 (l.other).1)
              ∙ ap₂ (λ m c. state (pkg m c)) l.named l.classed,
        )
    has_from (dep o i) s (n, t, d, r, l, e) =
        let x = means q state ok known content stands (enabled n i) (l.enabled).1 in
        let named : name_of q x.0 ≡ o = owner_named o n x.0 x.1 l.owner in
        let link = to_target q state ok known content stands n x.0 i d x.1
        (brings_there q state ok known content stands n i x.0 d x.1 (l.enabled).0) x.2 in
        let place : link.u ≡ t = same_Some link.u t (sym link.target ∙ l.target) in
        let class = leads_in n t i x.0 r d link place l.served in
        (subst (λ m. IsReachedFact q state (enabled m i)) named x.2, e ∙ sym class ∙ ap (λ m. state (dep m i)) named)
    has_from (feat name k f) s (n, p, l, h, e) =
        let fact = on_version n p name f (l.other).0 (l.other).1 l.named h in
        let says : IsOn q state (version_of name p.version) f =
        reached_says q state ok (on (version_of name p.version) f) fact in
        ((p.version, fact, l.classed), e ∙ sym says.1 ∙ ap (λ c. state (feat name c f)) l.classed)
    has_from (ask name v i g) s (n, d, f, a, e) =
        let w = a.owner in
        let l = w.1 in
        let fact : IsReachedFact q state (on (version_of name v) f) =
        subst (λ x. IsReachedFact q state (on (version_of name x) f)) w.2
        (on_version n w.0 name f (l.other).0 (l.other).1 l.named a.is_on) in
        let named = owner_named (version_of name v) n w.0 (l.other).0 a.owner in
        let b = subst (λ o. Brings (owner_brings q) o i d) named
        (brings_there q state ok known content stands n i w.0 d (l.other).0 a.dependency) in
        let says : IsOn q state (version_of name v) f = reached_says q state ok (on (version_of name v) f) fact in
        let entry : Lists (owner_brings q) (version_of name v) f (dependency_feature d.name g) =
        ((a.entry).1, (a.entry).2, (a.entry).3) in
        ((d, f, fact, b, entry), e ∙ sym (asking q state ok name v i d f g says b entry))

    -- what is reached has its state in the content
    to_has : (v : Vertex) → IsReachedVertex q state v → Has q content v (state v)
    to_has root h = root_present q state ok
    to_has (pkg name k) (v, h, class) =
        let x = back q state ok known content stands (here (version_of name v)) h in
        let r = locks x.a x.p name v x.got x.named in
        let says : state (pkg name (class_of v)) ≡ version v = reached_says q state ok (here (version_of name v)) h in (
          x.a,
          x.p,
          subst (λ c. Locks q content name c x.a x.p) class r.0,
          ap (λ c. state (pkg name c)) (sym class) ∙ says ∙ ap version (sym r.1),
        )
    to_has (dep o i) h =
        let x = back q state ok known content stands (enabled o i) h in
        let d = is_there (enabled o i) h in
        let m = reached_met q state ok o i d.0 h d.1 in
        let y = next q state ok known content stands o m.0 i d.0 x.place h d.1 m.1 in
        let to = y.to in
        let l = m.1 in
        let is = named_of q state ok known content stands to.p (d.0).real_name l.v (to.named ∙ l.target) in
        let class : class_of (to.p).version ≡ l.k =
        ap class_of is.2 ∙ (chosen_version q state ok (d.0).real_name l.k l.v l.locked).3 in (
          (x.place).a,
          to.a,
          d.0,
          to.p,
          record {
            owner = owner_placed o x.place;
            enabled = (brings_back q state ok known content stands o x.place i d.0 d.1, x.fact);
            target = y.target;
            served = to.got;
          },
          l.chosen ∙ ap in_class (sym class),
        )
    to_has (feat name k f) (v, h, class) =
        let x = back q state ok known content stands (on (version_of name v) f) h in
        let r = locks (x.place).a (x.place).p name v (x.place).got (x.place).named in
        let says : IsOn q state (version_of name v) f = reached_says q state ok (on (version_of name v) f) h in (
          (x.place).a,
          (x.place).p,
          subst (λ c. Locks q content name c (x.place).a (x.place).p) class r.0,
          x.fact,
          ap (λ c. state (feat name c f)) (sym class) ∙ says.1,
        )
    to_has (ask name v i g) (d, f, h, b, l) =
        let x = back q state ok known content stands (on (version_of name v) f) h in
        let r = locks (x.place).a (x.place).p name v (x.place).got (x.place).named in
        let says : IsOn q state (version_of name v) f = reached_says q state ok (on (version_of name v) f) h in
        let there = chosen_version q state ok name (class_of v) v says.0 in (
          (x.place).a,
          d,
          f,
          record {
            owner = ((x.place).p, r.0, r.1);
            dependency = brings_back q state ok known content stands (version_of name v) x.place i d b;
            is_on = x.fact;
            entry = ((there.0, there.1, there.2), l.0, l.1, l.2);
          },
          asking q state ok name v i d f g says b l,
        )

    -- the state of a vertex in the content is its state in the assignment cut down
    pub same_states : (v : Vertex) (s : State) → Assigns q content v s ↔ AssignsReached q state v s
    same_states v s = (to, from)
      where
        to : Assigns q content v s → AssignsReached q state v s
        to (inl h) = inl (has_from v s h)
        to (inr (e, none)) = inr (e, λ r. none (state v) (to_has v r))

        from : AssignsReached q state v s → Assigns q content v s
        from (inl (r, e)) = inl (subst (Has q content v) (sym e) (to_has v r))
        from (inr (e, none)) = inr (e, λ r h. none (has_from v r h).0)
