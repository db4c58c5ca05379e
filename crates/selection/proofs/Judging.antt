-- What is tested at the place of a package is what the faults of the model speak of.
use Rattle.std.proofs.Common.{◌≡◌, ℕ, ◌<◌, ◌↔◌, Bool, true, false, not, ◌||◌, List, [], map, length, get_or, Contains}
use Rattle.std.proofs.Common.{Option, Some, None, option_map, unwrap_or, is_some, slice_get, refl, sym, ap, ◌∙◌, subst}
use Rattle.std.proofs.Common.{true≢false}
use Rattle.std.proofs.lemmas.Option.{none-some, same_Some, slice_get-map, slice_get-get_or}
use Rattle.std.proofs.lemmas.Bool.{not-true, not_from_false}
use Rattle.model.specs.Summary.{Summary, Dependency, has_feature}
use Rattle.model.specs.Selection.{enabled, IsFact, HasTarget, IsTarget}
use Rattle.model.specs.Content.{Package, Content, Problem, is_root, candidate_of, summary_of, summary_if, summary_at}
use Rattle.model.specs.Content.{last_serving, list_if, target_of}
use Rattle.model.specs.Verdict.{not_candidate, two_in_class, unmet, no_feature, wrong_list, unreached, IsFreeOf}
use Rattle.model.proofs.Orders.{last_is}
use Rattle.facts.specs.inner.Graphs.{NodeView, node_view, node_views, flag_at}
use Rattle.facts.specs.declared.node.Node.{Node}
use Rattle.selection.specs.inner.Graphs.{targets_in, node_of, graph_of, is_known, are_known}
use Rattle.selection.specs.inner.Places.{AreMet, IsLedTo, IsChecked, Lacks, content_in, AreFindings}
use Rattle.selection.specs.declared.findings.Findings.{Findings}
use Rattle.lockfile.specs.inner.Views.{package_view}
use Rattle.lockfile.specs.declared.package.Package as code
use Rattle.selection.specs.declared.checked.Checked.{Checked}

both_ways : {A B C : Type 0} → A ↔ B → B ↔ C → A ↔ C
both_ways f g = (λ a. g.0 (f.0 a), λ c. f.1 (g.1 c))

-- a test that is said by its failing
pub by_failing : (b : Bool) (P : Type 0) → (b ≡ false) ↔ P → (not b ≡ true) ↔ P
by_failing b P h = (λ e. h.0 (not-true b e), λ p. not_from_false b (h.1 p))

module _ (q : Problem) (content : Content) (n : ℕ) (p : Package) (got : slice_get content n ≡ Some p) where
  -- a candidate
  known_at : (nodes : List Node) (node : Node) → n < length nodes → get_or nodes n node ≡ node
      → are_known nodes ≡ map (is_known q) content → is_some node.brings ≡ is_known q p
  known_at nodes node lt e k =
      same_Some (is_some node.brings) (is_known q p)
      (sym (slice_get-map (λ (x : Node). is_some x.brings) nodes n
      ∙ ap (option_map (λ (x : Node). is_some x.brings)) (slice_get-get_or nodes n node lt ∙ ap Some e))
      ∙ ap (λ bs. slice_get bs n) k ∙ slice_get-map (is_known q) content n ∙ ap (option_map (is_known q)) got)

  pub candidate_is : (nodes : List Node) (node : Node) → n < length nodes → get_or nodes n node ≡ node
      → are_known nodes ≡ map (is_known q) content → (is_some node.brings ≡ true) ↔ IsFreeOf q content not_candidate n
  candidate_is nodes node lt e k =
      let here = known_at nodes node lt e k in (
        λ h r o. (let one : p ≡ r = same_Some p r (sym got ∙ o.0) in
            subst (λ x. is_some (candidate_of q x) ≡ true) one
            (sym (ap (λ b. b || is_some (candidate_of q p)) (ap (is_root q) one ∙ o.1)) ∙ sym here ∙ h)),
        λ free. here ∙ by (is_root q p) refl free,
      )
    where
      by : (b : Bool) → is_root q p ≡ b → IsFreeOf q content not_candidate n → (b || is_some (candidate_of q p)) ≡ true
      by true e free = refl
      by false e free = free p (got, e)

  -- where dependencies lead
  node_there : (nodes : List Node) (node : Node) → n < length nodes → get_or nodes n node ≡ node
      → node_views nodes ≡ graph_of q content → node_view node ≡ node_of q content p
  node_there nodes node lt e g =
      same_Some (node_view node) (node_of q content p)
      (sym (slice_get-map node_view nodes n ∙ ap (option_map node_view) (slice_get-get_or nodes n node lt ∙ ap Some e))
      ∙ ap (λ ns. slice_get ns n) g ∙ slice_get-map (node_of q content) content n
      ∙ ap (option_map (node_of q content)) got)

  pub targets_are : (nodes : List Node) (node : Node) → n < length nodes → get_or nodes n node ≡ node → node_views nodes
      ≡ graph_of q content → node.targets.items ≡ targets_in content p.list (summary_of q p).dependencies
  targets_are nodes node lt e g = ap (λ (v : NodeView). v.targets) (node_there nodes node lt e g)

  owner_here : summary_at q content n ≡ summary_of q p
  owner_here = ap (summary_if q) got

  pub target_here : (d : Dependency) → target_of content n d ≡ last_serving content d p.list
  target_here d = ap (λ o. last_serving content d (list_if o)) got

  module _ (flags : List Bool) (targets : List (Option ℕ))
      (flags_are : (i : ℕ) → (flag_at flags i ≡ true) ↔ IsFact q content (enabled n i))
      (targets_is : targets ≡ targets_in content p.list (summary_of q p).dependencies) where
    target_at_number : (i : ℕ) → slice_get targets i
        ≡ option_map (λ d. last_serving content d p.list) (slice_get (summary_of q p).dependencies i)
    target_at_number i = ap (λ ts. slice_get ts i) targets_is
        ∙ slice_get-map (λ d. last_serving content d p.list) (summary_of q p).dependencies i

    -- of a dependency that is there
    pub its_target : (i : ℕ) (d : Dependency) → slice_get (summary_at q content n).dependencies i ≡ Some d
        → slice_get targets i ≡ Some (last_serving content d p.list)
    its_target i d b =
        target_at_number i ∙ ap (option_map (λ e. last_serving content e p.list))
        (subst (λ (o : Summary). slice_get o.dependencies i ≡ Some d) owner_here b)

    -- a target is that of a dependency
    pub its_dependency : (i : ℕ) (o : Option ℕ) → slice_get targets i ≡ Some o → (d : Dependency)
        × (slice_get (summary_at q content n).dependencies i ≡ Some d) × (last_serving content d p.list ≡ o)
    its_dependency i o e = by (slice_get (summary_of q p).dependencies i) refl (sym (target_at_number i) ∙ e)
      where
        by : (s : Option Dependency) → slice_get (summary_of q p).dependencies i ≡ s
            → option_map (λ d. last_serving content d p.list) s ≡ Some o
            → (d : Dependency) × (slice_get (summary_at q content n).dependencies i ≡ Some d)
            × (last_serving content d p.list ≡ o)
        by None g h = absurd (none-some o h)
        by (Some d) g h = (
          d,
          subst (λ (w : Summary). slice_get w.dependencies i ≡ Some d) (sym owner_here) g,
          same_Some (last_serving content d p.list) o h,
        )

    pub met_is : AreMet flags targets ↔ IsFreeOf q content unmet n
    met_is = (to, from)
      where
        to : AreMet flags targets → IsFreeOf q content unmet n
        to met i d h = by (last_serving content d p.list) refl
          where
            by : (o : Option ℕ) → last_serving content d p.list ≡ o → (t : ℕ) × HasTarget q content n d t
            by (Some t) e = (t, target_here d ∙ e)
            by None e = absurd (met i ((flags_are i).1 h.1) (its_target i d h.0 ∙ ap Some e))

        from : IsFreeOf q content unmet n → AreMet flags targets
        from free i flag none =
            let d = its_dependency i None none in
            let t = free i d.0 (d.1, (flags_are i).0 flag) in
            none-some t.0 (sym (target_here d.0 ∙ d.2) ∙ t.1)

    pub led_to_target : (t : ℕ) → IsLedTo flags targets t → IsTarget q content n t
    led_to_target t l = let d =
        its_dependency l.0 (Some t) l.2 in (l.0, d.0, (d.1, (flags_are l.0).0 l.1), target_here d.0 ∙ d.2)

    pub target_led_to : (t : ℕ) → IsTarget q content n t → IsLedTo flags targets t
    target_led_to t h = (h.0, (flags_are h.0).1 h.2.1, its_target h.0 h.1 h.2.0 ∙ ap Some (sym (target_here h.1) ∙ h.3))

    target_listed : (t : ℕ) → IsTarget q content n t → Contains p.list t
    target_listed t h = (last_is content h.1 p.list t (sym (target_here h.1) ∙ h.3)).listed

    pub listed_is : ((t : ℕ) → Contains p.list t → IsLedTo flags targets t) ↔ IsFreeOf q content wrong_list n
    listed_is = (to, from)
      where
        to : ((t : ℕ) → Contains p.list t → IsLedTo flags targets t) → IsFreeOf q content wrong_list n
        to h t r here =
            let one : p ≡ r = same_Some p r (sym got ∙ here) in (
              λ c. led_to_target t (h t (subst (λ (x : Package). Contains x.list t) (sym one) c)),
              λ g. subst (λ (x : Package). Contains x.list t) one (target_listed t g),
            )

        from : IsFreeOf q content wrong_list n → (t : ℕ) → Contains p.list t → IsLedTo flags targets t
        from free t c = target_led_to t ((free t p got).0 c)

-- features
pub featured_is : (q : Problem) (content : Content) (n : ℕ) (b : Bool) → (b ≡ true) ↔ Lacks q content n
    → (not b ≡ true) ↔ IsFreeOf q content no_feature n
featured_is q content n b h = by_failing b (IsFreeOf q content no_feature n) (to, from b refl)
  where
    to : b ≡ false → IsFreeOf q content no_feature n
    to e f on_here = has (has_feature (summary_at q content n).features f) refl
      where
        has : (x : Bool) → has_feature (summary_at q content n).features f ≡ x → x ≡ true
        has true g = refl
        has false g = absurd (true≢false (sym (h.1 (f, on_here, g)) ∙ e))

    from : (x : Bool) → b ≡ x → IsFreeOf q content no_feature n → x ≡ false
    from false e free = refl
    from true e free = (let l = h.0 e in absurd (true≢false (sym (free l.0 l.1) ∙ l.2)))

-- all that is found of one package
pub checked_is : (q : Problem) (content : Content) (n : ℕ) (k : Checked)
    → (k.candidate ≡ true) ↔ IsFreeOf q content not_candidate n → (k.alone ≡ true) ↔ IsFreeOf q content two_in_class n
    → (k.met ≡ true) ↔ IsFreeOf q content unmet n → (k.featured ≡ true) ↔ IsFreeOf q content no_feature n
    → (k.listed ≡ true) ↔ IsFreeOf q content wrong_list n
    → (k.reached ≡ true) ↔ IsFreeOf q content unreached n → IsChecked q content n k
checked_is q content n k a b c d e f not_candidate = a
checked_is q content n k a b c d e f two_in_class = b
checked_is q content n k a b c d e f unmet = c
checked_is q content n k a b c d e f no_feature = d
checked_is q content n k a b c d e f wrong_list = e
checked_is q content n k a b c d e f unreached = f

-- all of it, by what is found of a lock
pub place_is : (q : Problem) (f : Findings) (n : ℕ) (p : code.Package) (node : Node) (flags : List Bool)
    (targets : List (Option ℕ)) (list : List ℕ) (second : Bool) (k : Checked)
    → AreFindings q f → slice_get (content_in f) n ≡ Some (package_view p) → n < length f.nodes.items
    → get_or f.nodes.items n node ≡ node
    → flags ≡ unwrap_or (slice_get (map (λ v. v.items) f.facts.enabled.items) n) []
    → targets ≡ node.targets.items → list ≡ p.list.items
    → k.candidate ≡ is_some node.brings → k.alone ≡ not second
    → (second ≡ false) ↔ IsFreeOf q (content_in f) two_in_class n
    → (k.met ≡ true) ↔ AreMet flags targets → k.featured ≡ not (flag_at f.facts.lacks.items n)
    → (k.listed ≡ true) ↔ ((t : ℕ) → Contains list t → IsLedTo flags targets t) → k.reached ≡ flag_at f.reached.items n
    → IsChecked q (content_in f) n k
place_is q f n p node flags targets list second k found got lt there flags_is targets_is list_is candidate alone free
    met featured listed reached =
    let content = content_in f in
    let here = package_view p in
    let flags_are : (i : ℕ) → (flag_at flags i ≡ true) ↔ IsFact q (content_in f) (enabled n i) =
    λ i. subst
    (λ fs. (flag_at fs i ≡ true) ↔ IsFact q (content_in f) (enabled n i)) (sym flags_is) (found.enabled_is n i) in
    let targets_same = targets_is ∙ targets_are q content n here got f.nodes.items node lt there found.graph_is in
    checked_is q content n k
    (subst (λ b. (b ≡ true) ↔ IsFreeOf q (content_in f) not_candidate n) (sym candidate)
    (candidate_is q content n here got f.nodes.items node lt there found.known_is))
    (subst (λ b. (b ≡ true) ↔ IsFreeOf q (content_in f) two_in_class n) (sym alone)
    (by_failing second (IsFreeOf q (content_in f) two_in_class n) free))
    (both_ways met (met_is q content n here got flags targets flags_are targets_same))
    (subst (λ b. (b ≡ true) ↔ IsFreeOf q (content_in f) no_feature n) (sym featured)
    (featured_is q content n (flag_at f.facts.lacks.items n) (found.lacks_is n)))
    (both_ways (subst (λ l. (k.listed ≡ true) ↔ ((t : ℕ) → Contains l t → IsLedTo flags targets t)) list_is listed)
    (listed_is q content n here got flags targets flags_are targets_same))
    (subst (λ b. (b ≡ true) ↔ IsFreeOf q (content_in f) unreached n) (sym reached) (found.reached_is n))
