-- The root alone brings a content that an assignment stands for, if the assignment breaks no instance.
use Rattle.std.proofs.Common.{◌≡◌, ℕ, List, Bool, true, false, cond, Some, refl, sym, ◌∙◌, subst}
use Rattle.model.specs.Summary.{Summary, Dependency, Entry, entries_at, feature, dependency, dependency_feature}
use Rattle.model.specs.Summary.{weak_feature}
use Rattle.model.specs.Selection.{Fact, Holds, here, on, enabled, Brings, Lists, HasTarget, IsRootAt}
use Rattle.model.specs.Selection.Holds.{starts, arrives, root_needs, needs, asks, root_wants, turns_on, enables}
use Rattle.model.specs.Selection.Holds.{enables_for, wants, wants_weakly}
use Rattle.model.specs.Content.{Content, Problem, is_root, summary_at}
use Rattle.model.specs.Order.{IsCatalogue}
use Rattle.model.specs.Vertices.{Owner, the_root, version_of, Vertex, State, owner_brings}
use Rattle.model.specs.Walk.{StandsFor, name_of}
use Rattle.model.specs.inner.Assignment.{IsOwnerAt}
use Rattle.model.specs.inner.Search.{IsUnbroken, IsReachedFact, LeadsTo}
use Rattle.model.proofs.Cut.{Next, Place, back, brings_back, next, one_place, package_at, package_here, root_back}
use Rattle.model.proofs.Cut.{stands_valid}
use Rattle.model.proofs.Owners.{owner_is}
use Rattle.model.specs.Selected.{IsBrought}

module _ (q : Problem) (state : Vertex → State) (ok : IsUnbroken q state) (known : IsCatalogue q) (content : Content)
    (stands : StandsFor q (LeadsTo q state) content) where
  -- the facts of the content that the root alone brings
  abbrev IsBroughtFact : Fact ℕ → Type 0
  IsBroughtFact = Holds (summary_at q content) (IsRootAt q content) (IsRootAt q content) q.root_asks
      (λ n i d t. HasTarget q content n d t)

  abbrev PlaceOf : Owner → Type 0
  PlaceOf n = Place q state ok known content stands n

  -- a place of the owner, of which the root brings the fact
  record BroughtAt (n : Owner) (F : ℕ → Fact ℕ) : Type 0 where
    place : PlaceOf n
    fact : IsBroughtFact (F place.a)

  abbrev IsBroughtBack : Fact Owner → Type 0
  IsBroughtBack (here n) = BroughtAt n (λ a. here a)
  IsBroughtBack (on n f) = BroughtAt n (λ a. on a f)
  IsBroughtBack (enabled n i) = BroughtAt n (λ a. enabled a i)

  owner_at : (n : Owner) (x : PlaceOf n) → IsOwnerAt q content n x.a
  owner_at n x = subst (λ o. IsOwnerAt q content o x.a) x.named (by (is_root q x.p) refl)
    where
      by : (b : Bool) → is_root q x.p ≡ b
          → IsOwnerAt q content (cond b the_root (version_of (x.p).name (x.p).version)) x.a
      by true e = (x.p, x.got, e)
      by false e = (x.p, record { other = (x.got, e); named = refl; classed = refl }, refl)

  at_root : (n : Owner) (x : PlaceOf n) → n ≡ the_root → IsRootAt q content x.a
  at_root n x e = root_back q state ok known content stands n x e

  brings_here : (n : Owner) (x : PlaceOf n) (i : ℕ) (d : Dependency) → Brings (owner_brings q) n i d
      → Brings (summary_at q content) x.a i d
  brings_here n x i d b = brings_back q state ok known content stands n x i d b

  lists_here : (n : Owner) (x : PlaceOf n) (f : List ℕ) (e : Entry) → Lists (owner_brings q) n f e
      → Lists (summary_at q content) x.a f e
  lists_here n x f e l =
      let same = owner_is q content (stands_valid q state ok known content stands) n x.a (owner_at n x) in
      (l.0, subst (λ (s : Summary). entries_at f s.features ≡ Some l.0) (sym same) l.1, l.2)

  -- one step along an enabled dependency
  step : (n t : Owner) (i : ℕ) (d : Dependency) (x : PlaceOf n) → IsReachedFact q state (enabled n i)
      → Brings (owner_brings q) n i d → LeadsTo q state n i d t
      → Next q state ok known content stands n t x d
  step n t i d x on_it b l = next q state ok known content stands n t i d x on_it b l

  -- what the root reaches in the assignment it brings in the content
  brought_back : (f : Fact Owner) → IsReachedFact q state f → IsBroughtBack f
  brought_back f (starts n e) =
      let x = back q state ok known content stands (here n) (starts n e) in
      record { place = x; fact = starts x.a (at_root n x e) }
  brought_back f (arrives n t i d h b l) =
      let x = brought_back (enabled n i) h in
      let y = step n t i d x.place h b l in
      record { place = y.to; fact = arrives (x.place).a (y.to).a i d x.fact (brings_here n x.place i d b) y.target }
  brought_back f (root_needs n i d h e b) =
      let x = brought_back (here n) h in
      record {
        place = x.place;
        fact =
            root_needs (x.place).a i d x.fact (at_root n x.place e) (brings_here n x.place i d b);
      }
  brought_back f (needs n i d h b o) =
      let x = brought_back (here n) h in
      record { place = x.place; fact = needs (x.place).a i d x.fact (brings_here n x.place i d b) o }
  brought_back f (asks n t i d g h b l a) =
      let x = brought_back (enabled n i) h in
      let y = step n t i d x.place h b l in
      record { place = y.to; fact = asks (x.place).a (y.to).a i d g x.fact (brings_here n x.place i d b) y.target a }
  brought_back f (root_wants n t i d g h e b l a) =
      let x = brought_back (here n) h in
      let y = step n t i d x.place (root_needs n i d h e b) b l in
      record {
        place = y.to;
        fact = root_wants (x.place).a (y.to).a i d g x.fact (at_root n x.place e)
            (brings_here n x.place i d b) y.target a;
      }
  brought_back f (turns_on n g k h l) =
      let x = brought_back (on n g) h in
      record { place = x.place; fact = turns_on (x.place).a g k x.fact (lists_here n x.place g (feature k) l) }
  brought_back f (enables n i d g h b l) =
      let x = brought_back (on n g) h in
      record {
        place = x.place;
        fact = enables (x.place).a i d g x.fact (brings_here n x.place i d b)
            (lists_here n x.place g (dependency d.name) l);
      }
  brought_back f (enables_for n i d g k h b l) =
      let x = brought_back (on n g) h in
      record {
        place = x.place;
        fact = enables_for (x.place).a i d g k x.fact (brings_here n x.place i d b)
            (lists_here n x.place g (dependency_feature d.name k) l);
      }
  brought_back f (wants n t i d g k h b l to) =
      let x = brought_back (on n g) h in
      let y = step n t i d x.place (enables_for n i d g k h b l) b to in
      record {
        place = y.to;
        fact = wants (x.place).a (y.to).a i d g k x.fact (brings_here n x.place i d b)
            (lists_here n x.place g (dependency_feature d.name k) l) y.target;
      }
  brought_back f (wants_weakly n t i d g k h b l on_it to) =
      let x = brought_back (on n g) h in
      let z = brought_back (enabled n i) on_it in
      let same : (z.place).a ≡ (x.place).a = one_place q state ok known content stands (z.place).a (x.place).a
      (z.place).p (x.place).p (z.place).got (x.place).got ((z.place).named ∙ sym (x.place).named) in
      let y = step n t i d x.place on_it b to in
      record {
        place = y.to;
        fact = wants_weakly (x.place).a (y.to).a i d g k x.fact (brings_here n x.place i d b) (lists_here n x.place g
            (weak_feature d.name k) l) (subst (λ a. IsBroughtFact (enabled a i)) same z.fact) y.target;
      }

  pub root_brings : IsBrought q content
  root_brings n lt =
      let (p, got) = package_at content n lt in
      let x = brought_back (here (name_of q p)) (package_here q state ok known content stands n p got) in
      subst (λ a. IsBroughtFact (here a)) (one_place q state ok known content stands (x.place).a n (x.place).p p
      (x.place).got got (x.place).named) x.fact
