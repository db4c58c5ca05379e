-- The states that a vertex may have are valid, where the problem's parts are.
use Rattle.std.proofs.Common.{[], ◌∷◌, map, Contains, Option, Some, None, slice_get, subst, inl, inr}
use Rattle.model.specs.Summary.{Dependency}
use Rattle.model.specs.Content.{Problem, Candidate, candidates_of}
use Rattle.model.specs.Vertices.{Vertex, root, pkg, dep, feat, ask, State, absent, present, version, in_class}
use Rattle.model.specs.Vertices.{owner_brings, matching, dep_classes, in_that_class, class_candidates, dep_space, space}
use Rattle.semver.specs.EvalViews.{matches_views}
use Rattle.model.proofs.Lists.{in_none, in_cons, in_filter, in_map}
use Rattle.model.proofs.Vertices.{class_from}
use Rattle.vertices.specs.inner.Valid.{IsValidClass, IsValidState, HasValidParts}
use Rattle.vertices.proofs.InProblem.{found}
use Rattle.vertices.proofs.Numbers.{class-of-valid}

there-or-not : (v : Vertex) → IsValidState v present → (s : State)
    → Contains (absent ∷ present ∷ []) s → IsValidState v s
there-or-not v p s c = elim (in_cons absent s (present ∷ []) c) [
  | inl a ↦ subst (λ x. IsValidState v x) a tt
  | inr d ↦ elim (in_cons present s [] d) [ inl e ↦ subst (λ x. IsValidState v x) e p | inr n ↦ absurd (in_none s n) ]
]

module _ (q : Problem) (valid : HasValidParts q) where
  pub in-space : (v : Vertex) (s : State) → Contains (space q v) s → IsValidState v s
  in-space root s c = there-or-not root tt s c
  in-space (pkg n k) s c =
      elim (in_cons absent s (map (λ (x : Candidate). version x.version) (class_candidates q n k)) c) [
        | inl a ↦ subst (λ x. IsValidState (pkg n k) x) a tt
        | inr d ↦
            let r = in_map (λ (x : Candidate). version x.version) (class_candidates q n k) s d in
            let f = in_filter (in_that_class k) (candidates_of q.candidates n) r.0 r.1 in
            subst (λ x. IsValidState (pkg n k) x) r.2 (found q valid n r.0 f.0).1.version
      ]
  in-space (dep o i) s c = by (slice_get (owner_brings q o).dependencies i) c
    where
      by : (d : Option Dependency) → Contains (dep_space q d) s → IsValidState (dep o i) s
      by None c = elim
          (in_cons absent s [] c) [ inl a ↦ subst (λ x. IsValidState (dep o i) x) a tt | inr n ↦ absurd (in_none s n) ]
      by (Some d) c = elim (in_cons absent s (map in_class (dep_classes q d)) c) [
        | inl a ↦ subst (λ x. IsValidState (dep o i) x) a tt
        | inr e ↦
            let r = in_map in_class (dep_classes q d) s e in
            let k = class_from (matching q d) r.0 r.1 in
            let f = in_filter (λ (x : Candidate). matches_views d.requirement x.version)
            (candidates_of q.candidates d.real_name) k.0 k.1 in
            let is : IsValidClass r.0 = subst (λ x. IsValidClass x) k.2
            (class-of-valid (k.0).version ((found q valid d.real_name k.0 f.0).1.version)) in
            subst (λ x. IsValidState (dep o i) x) r.2 is
      ]
  in-space (feat n k f) s c = there-or-not (feat n k f) tt s c
  in-space (ask n w i g) s c = there-or-not (ask n w i g) tt s c
