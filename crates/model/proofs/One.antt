-- A vertex has at most one state in a valid selection.
use Rattle.std.proofs.Common.{◌≡◌, slice_get, sym, ap, ◌∙◌, inl, inr}
use Rattle.std.proofs.lemmas.Option.{same_Some}
use Rattle.model.specs.Content.{Problem, Content, Package, summary_at, target_of}
use Rattle.model.specs.Selection.{class_of, IsValidSelection}
use Rattle.model.specs.Vertices.{Vertex, root, pkg, dep, feat, ask, State, version, in_class}
use Rattle.model.specs.inner.Assignment.{Has, Assigns}
use Rattle.model.proofs.Owners.{same_package, same_owner_place}

module _ (q : Problem) (content : Content) (valid : IsValidSelection q content) where
  has_one : (v : Vertex) (s r : State) → Has q content v s → Has q content v r → s ≡ r
  has_one root s r a b = a ∙ sym b
  has_one (pkg name k) s r (n, p, l, e) (m, o, j, f) =
      e ∙ ap (λ (x : Package). version x.version) (same_package q content valid name k n m p o l j) ∙ sym f
  has_one (dep o i) s r (n, t, d, p, l, e) (m, u, g, w, j, f) =
      let places : n ≡ m = same_owner_place q content valid o n m l.owner j.owner in
      let deps : d ≡ g = same_Some d g
      (sym (l.enabled).0 ∙ ap (λ x. slice_get (summary_at q content x).dependencies i) places ∙ (j.enabled).0) in
      let targets : t ≡ u = same_Some t u (sym l.target ∙ (λ x. target_of content (places x) (deps x)) ∙ j.target) in
      let packages : p ≡ w = same_Some p w (sym l.served ∙ ap (slice_get content) targets ∙ j.served) in
      e ∙ ap (λ (x : Package). in_class (class_of x.version)) packages ∙ sym f
  has_one (feat name k g) s r (n, p, l, h, e) (m, o, j, x, f) = e ∙ sym f
  has_one (ask name v i g) s r (n, d, h, a, e) (m, o, j, b, f) = e ∙ sym f

  pub one_state : (v : Vertex) (s r : State) → Assigns q content v s → Assigns q content v r → s ≡ r
  one_state v s r (inl a) (inl b) = has_one v s r a b
  one_state v s r (inl a) (inr b) = absurd (b.1 s a)
  one_state v s r (inr a) (inl b) = absurd (a.1 r b)
  one_state v s r (inr a) (inr b) = a.0 ∙ sym b.0
