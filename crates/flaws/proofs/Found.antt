-- What is told of one package is what is wrong with it, by what is found of the lock.
use Rattle.std.proofs.Common.{◌≡◌, ◌↔◌, ◌<◌, ℕ, Bool, true, false, not, ◌&&◌, cond, nat_eq, List, [], length, get_or}
use Rattle.std.proofs.Common.{map, Option, Some, None, unwrap_or, slice_get, Contains, MatchOption, ◌⊎◌, refl, sym, ap}
use Rattle.std.proofs.Common.{◌∙◌, subst, true≢false}
use Rattle.std.specs.List.{filter, range_with_len}
use Rattle.std.proofs.lemmas.Bool.{eqb-true, eq-eqb}
use Rattle.std.proofs.lemmas.List.{length-map}
use Rattle.std.proofs.lemmas.Option.{same_Some}
use Rattle.model.specs.Selection.{enabled, IsFact, IsTarget}
use Rattle.model.specs.Content.{Package, Content, Problem, is_root, summary_of}
use Rattle.model.specs.Verdict.{IsFreeOf, two_in_class}
use Rattle.manifest.specs.Manifests.{ManifestView}
use Rattle.catalogue.specs.Problems.{problem_in}
use Rattle.catalogue.specs.Stores.{CatalogueView}
use Rattle.facts.specs.inner.Graphs.{flag_at}
use Rattle.facts.specs.declared.node.Node.{Node}
use Rattle.lockfile.specs.inner.Views.{package_view}
use Rattle.lockfile.specs.declared.package.Package as code
use Rattle.selection.specs.inner.Graphs.{IsOnlyRoot, targets_in}
use Rattle.selection.specs.inner.Places.{AreFindings, content_in, is_missing, IsLedTo, Lacks}
use Rattle.selection.specs.declared.findings.Findings.{Findings}
use Rattle.selection.proofs.Judging.{targets_are}
use Rattle.flaws.specs.inner.Reasons.{why_none}
use Rattle.flaws.specs.inner.Flaws.{AreFlaws, IsSurplus, IsTwin, IsUnmet, why_at}
use Rattle.flaws.specs.declared.flawed.Flawed.{Flawed}
use Rattle.flaws.proofs.Listed.{unmet_is, surplus_is, others_are}

-- the root is told from the others by its place
root_by_place : (q : Problem) (content : Content) (root : ℕ) → IsOnlyRoot q content root → (n : ℕ) (p : Package)
    → slice_get content n ≡ Some p → nat_eq n root ≡ is_root q p
root_by_place q content root only n p got = by (is_root q p) refl
  where
    by : (b : Bool) → is_root q p ≡ b → nat_eq n root ≡ b
    by true e = eq-eqb n root ((only n).0 (p, got, e))
    by false e = other (nat_eq n root) refl
      where
        other : (b : Bool) → nat_eq n root ≡ b → b ≡ false
        other false h = refl
        other true h =
            let there = (only n).1 (eqb-true n root h) in
            absurd (true≢false (sym there.2 ∙ ap (is_root q) (same_Some there.0 p (sym there.1 ∙ got)) ∙ e))

module _ (m : ManifestView) (index : CatalogueView) (f : Findings) (found : AreFindings (problem_in m index) f)
    (g : Flawed) (p : code.Package) (node : Node)
    (flags : List Bool) (targets : List (Option ℕ)) (list : List ℕ) where
  abbrev q : Problem
  q = problem_in m index

  pub flaws_are : g.place < length f.content.now → slice_get (content_in f) g.place ≡ Some (package_view p)
      → g.place < length f.nodes.items → get_or f.nodes.items g.place node ≡ node
      → flags ≡ unwrap_or (slice_get (map (λ v. v.items) f.facts.enabled.items) g.place) []
      → targets ≡ node.targets.items → list ≡ p.list.items
      → g.no_candidate ≡ cond (nat_eq g.place f.root) None (why_none index (package_view p))
      → MatchOption g.twin (IsFreeOf q (content_in f) two_in_class g.place) (λ t. IsTwin q (content_in f) g.place t)
      → g.unmet.items
      ≡ filter (λ i. is_missing (slice_get targets i) && flag_at flags i) (range_with_len 0 (length targets))
      → g.lacks_feature ≡ flag_at f.facts.lacks.items g.place
      → (led : ℕ → Bool) × ((t : ℕ) → (led t ≡ true) ↔ IsLedTo flags targets t)
      × (g.surplus.items ≡ filter (λ t. not (led t)) list)
      → g.unreached ≡ not (flag_at f.reached.items g.place)
      → AreFlaws m index (content_in f) g
  flaws_are lt got there node_is flags_is targets_is list_is reason twin unmet lacks surplus reached =
      let content = content_in f in
      let here = package_view p in
      let flags_are : (i : ℕ) → (flag_at flags i ≡ true) ↔ IsFact q (content_in f) (enabled g.place i) =
      λ i. subst (λ fs. (flag_at fs i ≡ true) ↔ IsFact q (content_in f) (enabled g.place i)) (sym flags_is)
      (found.enabled_is g.place i) in
      let targets_same : targets
      ≡ targets_in (content_in f) (package_view p).list (summary_of q (package_view p)).dependencies =
      targets_is ∙ targets_are q content g.place here got f.nodes.items node there node_is found.graph_is in
      let led = surplus.0 in
      let left = surplus.2 ∙ ap (λ l. filter (λ t. not (led t)) l) list_is in
      record {
        is_there = subst (λ k. g.place < k) (sym (length-map f.content.now package_view)) lt;
        no_candidate_is = λ r here_too. reason_of r (same_Some here r (sym got ∙ here_too)) reason;
        twin_is = twin;
        unmet_are = λ i. subst (λ xs. Contains xs i ↔ IsUnmet q (content_in f) g.place i) (sym unmet)
            (unmet_is q content g.place here got flags targets flags_are targets_same i);
        lacks_is = subst (λ b. (b ≡ true) ↔ Lacks q (content_in f) g.place) (sym lacks) (found.lacks_is g.place);
        surplus_are = λ t. subst (λ xs. Contains xs t ↔ IsSurplus q (content_in f) g.place t) (sym left)
            (surplus_is q content g.place here got flags targets flags_are targets_same led surplus.1 t);
        others_are = λ t c. subst (λ xs. Contains xs t ⊎ IsTarget q (content_in f) g.place t) (sym left)
            (others_are q content g.place here got flags targets flags_are targets_same led surplus.1 t c);
        reached_is = by_flag (flag_at f.reached.items g.place) g.unreached reached (found.reached_is g.place);
      }
    where
      reason_of : (r : Package) → package_view p ≡ r → g.no_candidate
          ≡ cond (nat_eq g.place f.root) None (why_none index (package_view p)) → g.no_candidate ≡ why_at m index r
      reason_of r e h =
          subst (λ x. g.no_candidate ≡ why_at m index x) e
          (h ∙ ap (λ b. cond b None (why_none index (package_view p)))
          (root_by_place q (content_in f) f.root found.only_root g.place (package_view p) got))

      by_flag : {P : Type 0} (b u : Bool) → u ≡ not b → (b ≡ true) ↔ P → (u ≡ false) ↔ P
      by_flag true u e h = (λ k. h.0 refl, λ x. e)
      by_flag false u e h = (λ k. absurd (true≢false (sym e ∙ k)), λ x. absurd (true≢false (sym (h.1 x))))
