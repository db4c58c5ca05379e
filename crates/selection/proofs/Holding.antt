-- The facts of the packages of a lock, by the list of what they bring, are the facts of its content.
use Rattle.std.proofs.Common.{◌≡◌, ℕ, ◌<◌, ◌↔◌, true, cond, List, length, get_or, Contains, Option, Some, None}
use Rattle.std.proofs.Common.{option_map, option_and_then, slice_get, refl, sym, ap, ◌∙◌, subst, true≢false}
use Rattle.std.proofs.lemmas.List.{length-map}
use Rattle.std.proofs.lemmas.List.Elements.{All-map}
use Rattle.std.proofs.lemmas.Option.{none-some, slice_get-map, slice_get_within}
use Rattle.model.specs.Summary.{Summary, Dependency, has_feature}
use Rattle.model.specs.Selection.{Fact, here, on, enabled, Brings, IsRootAt, IsPlace, HasTarget, IsFact}
use Rattle.model.specs.Content.{Package, Content, Problem, brings_of, candidate_of, summary_of, summary_if, summary_at}
use Rattle.model.specs.Content.{serves_if, last_serving, list_if, target_of}
use Rattle.model.proofs.Orders.{last_is}
use Rattle.model.proofs.Places.{some_at}
use Rattle.manifest.specs.Manifests.{root_asks}
use Rattle.facts.specs.inner.Graphs.{NodeView, brings_if, starts_if, target_if, brings_at, starts_at, target_at}
use Rattle.facts.specs.inner.Graphs.{IsFactOf}
use Rattle.facts.specs.inner.Graphs.{LacksFeature, IsGraph, AreWithin}
use Rattle.facts.proofs.Mapped.{HoldsFar, holds_far}
use Rattle.selection.specs.inner.Graphs.{node_of, graph_of, IsOnlyRoot}
use Rattle.selection.specs.inner.Places.{Lacks}

-- a target is a place of the content
target_within : (content : Content) (d : Dependency) (list : List ℕ) (t : ℕ)
    → last_serving content d list ≡ Some t → t < length content
target_within content d list t e = by (slice_get content t) refl (last_is content d list t e).serving
  where
    by : (o : Option Package) → slice_get content t ≡ o → serves_if d o ≡ true → t < length content
    by None e s = absurd (true≢false (sym s))
    by (Some p) e s = slice_get_within content t p e

-- each dependency leads to a package of the lock
pub graph_within : (q : Problem) (content : Content) → IsGraph (graph_of q content)
graph_within q content =
    All-map (λ (n : NodeView). AreWithin (length (graph_of q content)) n.targets) (node_of q content) content
    (λ k p lt. All-map (λ o. (t : ℕ) → o ≡ Some t → t < length (graph_of q content))
    (λ d. last_serving content d (get_or content k p).list) (summary_of q (get_or content k p)).dependencies
    (λ j d within t e. subst (λ n. t < n) (sym (length-map content (node_of q content))) (target_within content
    (get_or (summary_of q (get_or content k p)).dependencies j d) (get_or content k p).list t e)))

module _ (q : Problem) (content : Content) (root : ℕ) (only : IsOnlyRoot q content root)
    (asks_are : q.root_asks ≡ root_asks q.brings.features) where
  abbrev nodes : List NodeView
  nodes = graph_of q content

  node_at : (n : ℕ) → slice_get nodes n ≡ option_map (node_of q content) (slice_get content n)
  node_at n = slice_get-map (node_of q content) content n

  brings_are : (n : ℕ) → brings_at nodes n ≡ summary_at q content n
  brings_are n = ap brings_if (node_at n) ∙ by (slice_get content n)
    where
      by : (o : Option Package) → brings_if (option_map (node_of q content) o) ≡ summary_if q o
      by None = refl
      by (Some p) = refl

  begun_within : (n : ℕ) → starts_at nodes n ≡ true → n < length content
  begun_within n h = by (slice_get content n) refl (sym (ap starts_if (node_at n)) ∙ h)
    where
      by : (o : Option Package) → slice_get content n ≡ o
          → starts_if (option_map (node_of q content) o) ≡ true → n < length content
      by None e s = absurd (true≢false (sym s))
      by (Some p) e s = slice_get_within content n p e

  within_begun : (n : ℕ) → n < length content → starts_at nodes n ≡ true
  within_begun n lt = let p =
      some_at content n lt in ap starts_if (node_at n) ∙ ap (λ o. starts_if (option_map (node_of q content) o)) p.1

  target_is : (n i : ℕ) (d : Dependency) → Brings (summary_at q content) n i d
      → target_at nodes n i ≡ target_of content n d
  target_is n i d b = ap (target_if i) (node_at n) ∙ by (slice_get content n) b
    where
      by : (o : Option Package) → slice_get (summary_if q o).dependencies i ≡ Some d
          → target_if i (option_map (node_of q content) o) ≡ last_serving content d (list_if o)
      by None b = absurd (none-some d b)
      by (Some p) b =
          ap (option_and_then (λ o. o))
          (slice_get-map (λ e. last_serving content e p.list) (summary_of q p).dependencies i)
          ∙ ap (λ o. option_and_then (λ r. r) (option_map (λ e. last_serving content e p.list) o)) b

  root_is : summary_at q content root ≡ q.brings
  root_is = let r =
      (only root).1 refl in ap (summary_if q) r.1 ∙ ap (λ b. cond b q.brings (brings_of (candidate_of q r.0))) r.2

  asks_same : root_asks (brings_at nodes root).features ≡ q.root_asks
  asks_same = ap (λ (o : Summary). root_asks o.features) (brings_are root ∙ root_is) ∙ sym asks_are

  -- a dependency of the one list is one of the other
  brings_here : (n i : ℕ) (d : Dependency) → Brings (brings_at nodes) n i d → Brings (summary_at q content) n i d
  brings_here n i d b = subst (λ (o : Summary). slice_get o.dependencies i ≡ Some d) (brings_are n) b

  leads_here : (n t i : ℕ) (d : Dependency) (m : ℕ) → n ≡ m → Brings (brings_at nodes) n i d
      → target_at nodes n i ≡ Some t → HasTarget q content m d t
  leads_here n t i d m r b l =
      subst (λ k. HasTarget q content k d t) r (sym (target_is n i d (brings_here n i d b)) ∙ l)

  leads_there : (n t i : ℕ) (d : Dependency) (m : ℕ) → n ≡ m → Brings (summary_at q content) n i d
      → HasTarget q content n d t → target_at nodes m i ≡ Some t
  leads_there n t i d m r b l = subst (λ k. target_at nodes k i ≡ Some t) r (target_is n i d b ∙ l)

  far : (x : Fact ℕ) → IsFactOf nodes root x
      → HoldsFar (brings_at nodes) (λ n. n ≡ root) (λ n. starts_at nodes n ≡ true)
      (root_asks (brings_at nodes root).features) (λ n i d t. target_at nodes n i ≡ Some t)
      (summary_at q content) (IsRootAt q content) (IsPlace q content) q.root_asks
      (λ n i d t. HasTarget q content n d t) (λ n m. n ≡ m) x
  far x h =
      holds_far (brings_at nodes) (λ n. n ≡ root) (λ n. starts_at nodes n ≡ true)
      (root_asks (brings_at nodes root).features) (λ n i d t. target_at nodes n i ≡ Some t)
      (summary_at q content) (IsRootAt q content) (IsPlace q content) q.root_asks
      (λ n i d t. HasTarget q content n d t) (λ n m. n ≡ m)
      (record {
        one = λ n m l r s. sym r ∙ s;
        owners = λ n m r. brings_are n ∙ ap (summary_at q content) r;
        roots = λ n m r is. (only m).1 (sym r ∙ is);
        asked = λ n is a c. subst (λ pairs. Contains pairs a) asks_same c;
        begun = λ n s. (n, refl, begun_within n s);
        leads = λ n t i d m r b l. (t, refl, leads_here n t i d m r b l);
      }) x h

  near : (x : Fact ℕ) → IsFact q content x
      → HoldsFar (summary_at q content) (IsRootAt q content) (IsPlace q content) q.root_asks
      (λ n i d t. HasTarget q content n d t)
      (brings_at nodes) (λ n. n ≡ root) (λ n. starts_at nodes n ≡ true) (root_asks (brings_at nodes root).features)
      (λ n i d t. target_at nodes n i ≡ Some t) (λ n m. n ≡ m) x
  near x h =
      holds_far (summary_at q content) (IsRootAt q content) (IsPlace q content) q.root_asks
      (λ n i d t. HasTarget q content n d t)
      (brings_at nodes) (λ n. n ≡ root) (λ n. starts_at nodes n ≡ true) (root_asks (brings_at nodes root).features)
      (λ n i d t. target_at nodes n i ≡ Some t) (λ n m. n ≡ m)
      (record {
        one = λ n m l r s. sym r ∙ s;
        owners = λ n m r. sym (brings_are n) ∙ ap (brings_at nodes) r;
        roots = λ n m r is. sym r ∙ (only n).0 is;
        asked = λ n is a c. subst (λ pairs. Contains pairs a) (sym asks_same) c;
        begun = λ n s. (n, refl, within_begun n s);
        leads = λ n t i d m r b l. (t, refl, leads_there n t i d m r b l);
      }) x h

  to_content : (x : Fact ℕ) → IsFactOf nodes root x → IsFact q content x
  to_content (here n) h = let (m, r, p) = far (here n) h in subst (λ k. IsFact q content (here k)) (sym r) p
  to_content (on n f) h = let (m, r, p) = far (on n f) h in subst (λ k. IsFact q content (on k f)) (sym r) p
  to_content (enabled n i) h = let (m, r, p) =
      far (enabled n i) h in subst (λ k. IsFact q content (enabled k i)) (sym r) p

  from_content : (x : Fact ℕ) → IsFact q content x → IsFactOf nodes root x
  from_content (here n) h = let (m, r, p) = near (here n) h in subst (λ k. IsFactOf nodes root (here k)) (sym r) p
  from_content (on n f) h = let (m, r, p) = near (on n f) h in subst (λ k. IsFactOf nodes root (on k f)) (sym r) p
  from_content (enabled n i) h = let (m, r, p) =
      near (enabled n i) h in subst (λ k. IsFactOf nodes root (enabled k i)) (sym r) p

  -- the facts are the same
  pub facts_same : (x : Fact ℕ) → IsFactOf nodes root x ↔ IsFact q content x
  facts_same x = (to_content x, from_content x)

  pub lacks_same : (n : ℕ) → LacksFeature nodes root n ↔ Lacks q content n
  lacks_same n = (
    λ h. (h.0, to_content (on n h.0) h.1, ap (λ (o : Summary). has_feature o.features h.0) (sym (brings_are n)) ∙ h.2),
    λ h. (h.0, from_content (on n h.0) h.1, ap (λ (o : Summary). has_feature o.features h.0) (brings_are n) ∙ h.2),
  )
