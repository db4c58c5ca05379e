-- What is found of a lock, put together, and what follows for the verdict.
use Rattle.std.proofs.Common.{◌≡◌, ℕ, ◌↔◌, true, List, length, map, Result, IfOk, refl, sym, ap, ◌∙◌, subst}
use Rattle.std.proofs.lemmas.List.{length-map}
use Rattle.std.proofs.lemmas.Result.{IfOk-weaker}
use Rattle.semver.specs.Identifiers.{parts_of}
use Rattle.semver.specs.Parse.{Parts}
use Rattle.model.specs.Selection.{enabled, IsValidSelection, IsReached}
use Rattle.model.specs.Content.{Content, Problem}
use Rattle.model.specs.Verdict.{VerdictFault}
use Rattle.model.specs.Order.{IsContent}
use Rattle.model.proofs.Verdicts.{valid_iff}
use Rattle.lockfile.specs.inner.Views.{package_view}
use Rattle.manifest.specs.Manifests.{ManifestView}
use Rattle.catalogue.specs.Problems.{problem_in}
use Rattle.catalogue.specs.Stores.{CatalogueView}
use Rattle.facts.specs.inner.Graphs.{node_view, node_views, flag_at, flag_in, IsFactOf, LacksFeature}
use Rattle.facts.specs.declared.node.Node.{Node}
use Rattle.selection.specs.inner.Graphs.{node_of, graph_of, is_known, are_known, IsOnlyRoot, HasNoRoot}
use Rattle.selection.specs.inner.Places.{content_in, AreFindings}
use Rattle.selection.specs.Verdicts.{IsAt, IsInvalid, IsVerdictOn, IsFaultOf}
use Rattle.selection.specs.declared.findings.Findings.{Findings}
use Rattle.selection.specs.declared.verdict.VerdictFault as said
use Rattle.selection.specs.declared.verdict.VerdictFault.TheVariants as fault
use Rattle.selection.specs.declared.verdict.Verdict.{Verdict}
use Rattle.selection.specs.declared.verdict.Verdict.TheVariants.{Valid, Invalid}
use Rattle.selection.proofs.Holding.{facts_same, lacks_same}

both_ways : {A B C : Type 0} → A ↔ B → B ↔ C → A ↔ C
both_ways f g = (λ a. g.0 (f.0 a), λ c. f.1 (g.1 c))

pub findings_are : (m : ManifestView) (index : CatalogueView) (f : Findings) (nodes : List Node) → nodes ≡ f.nodes.items
    → IsOnlyRoot (problem_in m index) (content_in f) f.root
    → node_views f.nodes.items ≡ graph_of (problem_in m index) (content_in f)
    → are_known f.nodes.items ≡ map (is_known (problem_in m index)) (content_in f)
    → ((n i : ℕ) → (flag_in (map (λ v. v.items) f.facts.enabled.items) n i ≡ true)
    ↔ IsFactOf (node_views nodes) f.root (enabled n i))
    → ((n : ℕ) → (flag_at f.facts.lacks.items n ≡ true) ↔ LacksFeature (node_views nodes) f.root n)
    → ((n : ℕ) → (flag_at f.reached.items n ≡ true) ↔ IsReached (problem_in m index) (content_in f) n)
    → AreFindings (problem_in m index) f
findings_are m index f nodes same only graph known facts lacks reached =
    let q = problem_in m index in
    let seen : node_views nodes ≡ graph_of (problem_in m index) (content_in f) = ap node_views same ∙ graph in
    record {
      only_root = only;
      graph_is = graph;
      known_is = known;
      enabled_is = λ n i. both_ways (subst (λ g. (flag_in (map (λ v. v.items) f.facts.enabled.items) n i ≡ true)
          ↔ IsFactOf g f.root (enabled n i)) seen (facts n i))
          (facts_same q (content_in f) f.root only refl (enabled n i));
      lacks_is =
          λ n. both_ways (subst (λ g. (flag_at f.facts.lacks.items n ≡ true) ↔ LacksFeature g f.root n) seen (lacks n))
          (lacks_same q (content_in f) f.root only refl n);
      reached_is = reached;
    }

-- what packages bring stands beside them
pub beside : (q : Problem) (f : Findings) → AreFindings q f → length f.nodes.items ≡ length f.content.now
beside q f found =
    sym (length-map f.nodes.items node_view) ∙ ap length found.graph_is
    ∙ length-map (content_in f) (node_of q (content_in f)) ∙ length-map f.content.now package_view

pub said_of : {E : Type 0} (r : Result Verdict E) (q : Problem) (f : Findings) (content : Content)
    → content_in f ≡ content → AreFindings q f
    → IfOk r (λ v. (p : Problem) → AreFindings p f → IsVerdictOn p (content_in f) v)
    → IfOk r (λ v. IsVerdictOn q content v)
said_of r q f content same found h =
    IfOk-weaker r (λ v. (p : Problem) → AreFindings p f → IsVerdictOn p (content_in f) v) (λ v. IsVerdictOn q content v)
    (λ v says. subst (λ c. IsVerdictOn q c v) same (says q found)) h

module _ (q : Problem) (content : Content) where
  rootless : (name : List ℕ) (version : Parts) → name ≡ q.name → version ≡ q.version → HasNoRoot q content
      → (v : Verdict) → IsFaultOf fault.Root name version v → IsVerdictOn q content v
  rootless name version n w none Valid h = absurd h
  rootless name version n w none (Invalid f m u) h =
      subst (λ x. IsInvalid q content x m (parts_of u)) (sym h.0) (h.1 ∙ n, h.2 ∙ w, λ has. none has.0 has.1)

  -- no package is the root
  pub rootless_said : {E : Type 0} (r : Result Verdict E) (name : List ℕ) (version : Parts) → name ≡ q.name
      → version ≡ q.version → HasNoRoot q content
      → IfOk r (λ v. IsFaultOf fault.Root name version v) → IfOk r (λ v. IsVerdictOn q content v)
  rootless_said r name version n w none h = IfOk-weaker r (λ v. IsFaultOf fault.Root name version v)
      (λ v. IsVerdictOn q content v) (rootless name version n w none) h

  module _ (formed : IsContent content) where
    never_at : (v : VerdictFault) (name : List ℕ) (version : Parts) → IsAt q content v name version
        → IsValidSelection q content → ⊥
    never_at v name version h s = let clean =
        (valid_iff q content formed).1 s in (h.verdict.1).has_fault (clean.1 h.place (h.verdict.1).place v)

    never : (f : said.VerdictFault) (name : List ℕ) (version : Parts) → IsInvalid q content f name version
        → IsValidSelection q content → ⊥
    never fault.Root name version h s = h.2 s.root
    never fault.NotCandidate name version h s = never_at _ name version h s
    never fault.TwoInClass name version h s = never_at _ name version h s
    never fault.Unmet name version h s = never_at _ name version h s
    never fault.NoFeature name version h s = never_at _ name version h s
    never fault.List name version h s = never_at _ name version h s
    never fault.Unreached name version h s = never_at _ name version h s

    selects : (v : Verdict) → IsVerdictOn q content v → (v ≡ Valid) ↔ IsValidSelection q content
    selects Valid h = (λ e. (valid_iff q content formed).0 h, λ s. refl)
    selects (Invalid f n w) h =
        (λ e. absurd (let x : Invalid f n w ≡ Valid = e in cc), λ s. absurd (never f n (parts_of w) h s))

    pub selected : {E : Type 0} (r : Result Verdict E) → IfOk r (λ v. IsVerdictOn q content v)
        → IfOk r (λ v. (v ≡ Valid) ↔ IsValidSelection q content)
    selected r h =
        IfOk-weaker r (λ v. IsVerdictOn q content v) (λ v. (v ≡ Valid) ↔ IsValidSelection q content) selects h
