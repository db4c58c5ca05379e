-- What the root reaches in an assignment that breaks no instance, and by the picks of dependencies, can be gathered.
use Rattle.std.proofs.Common.{◌≡◌, ◌↔◌, ℕ, List, [], ◌∷◌, Bool, true, false, cond, Contains, Option, Some, None}
use Rattle.std.proofs.Common.{option_map, refl, sym, ap, ◌∙◌, subst, inl, inr}
use Rattle.std.proofs.lemmas.Option.{none-some, same_Some}
use Rattle.semver.specs.Parse.{Parts}
use Rattle.semver.specs.EvalViews.{matches_views}
use Rattle.model.specs.Summary.{Dependency}
use Rattle.model.specs.Content.{Problem, Content, Candidate, candidates_of}
use Rattle.model.specs.Selection.{Class, IsValidSelection}
use Rattle.model.specs.Order.{IsCatalogue}
use Rattle.model.specs.Vertices.{Owner, version_of, Vertex, pkg, dep, State, absent, present, version, in_class}
use Rattle.model.specs.Axioms.{IsOwner}
use Rattle.model.specs.Walk.{first_match, pick, Picks, IsWalk}
use Rattle.model.specs.inner.ContentOf.{Kept, AreKept, content_of}
use Rattle.model.specs.inner.Search.{IsUnbroken, LeadsTo, AssignsReached}
use Rattle.model.specs.inner.Assignment.{Assigns}
use Rattle.model.proofs.Lists.{in_first, in_rest}
use Rattle.model.proofs.Reached.{chosen_version}
use Rattle.model.proofs.Cut.{stands_valid}
use Rattle.model.proofs.CutDown.{same_states}
use Rattle.model.proofs.Gathered.{gathered}
use Rattle.model.proofs.Closed.{Leads}
use Rattle.model.proofs.AllKept.{all_kept}

module _ (q : Problem) (state : Vertex → State) (ok : IsUnbroken q state) where
  pub arriving : (n t : Owner) (i : ℕ) (d : Dependency) → LeadsTo q state n i d t → IsOwner q t
  arriving n t i d l = let c =
      chosen_version q state ok d.real_name l.k l.v l.locked in subst (IsOwner q) (sym l.target) (c.0, c.1, c.2)

  lead : (n : Owner) (i : ℕ) (d : Dependency) → Leads q (LeadsTo q state) arriving n i d
  lead n i d = by (state (dep n i)) refl
    where
      no_class : (s : State) → state (dep n i) ≡ s → ((k : Class) → s ≡ in_class k → ⊥) → (u : Owner)
          → LeadsTo q state n i d u → ⊥
      no_class s e other u l = other l.k (sym e ∙ l.chosen)

      no_version : (k : Class) (s : State) → state (dep n i) ≡ in_class k → state (pkg d.real_name k) ≡ s
          → ((v : Parts) → s ≡ version v → ⊥)
          → (u : Owner) → LeadsTo q state n i d u → ⊥
      no_version k s e f other u l =
          let classes : in_class k ≡ in_class l.k = sym e ∙ l.chosen in
          let same : k ≡ l.k = cc in
          other l.v (sym f ∙ ap (λ c. state (pkg d.real_name c)) same ∙ l.locked)

      found : (k : Class) (v : Parts) → state (dep n i) ≡ in_class k → state (pkg d.real_name k) ≡ version v
          → (u : Owner) → LeadsTo q state n i d u → version_of d.real_name v ≡ u
      found k v e f u l =
          let classes : in_class k ≡ in_class l.k = sym e ∙ l.chosen in
          let same : k ≡ l.k = cc in
          let versions : version v ≡ version l.v = sym f ∙ ap (λ c. state (pkg d.real_name c)) same ∙ l.locked in
          let one : v ≡ l.v = cc in
          ap (version_of d.real_name) one ∙ sym l.target

      locked : (k : Class) (s : State) → state (dep n i) ≡ in_class k → state (pkg d.real_name k) ≡ s
          → Leads q (LeadsTo q state) arriving n i d
      locked k (version v) e f =
          inl (version_of d.real_name v, record { k = k; v = v; chosen = e; locked = f; target = refl }, found k v e f)
      locked k absent e f = inr (no_version k absent e f (λ v x. cc))
      locked k present e f = inr (no_version k present e f (λ v x. cc))
      locked k (in_class m) e f = inr (no_version k (in_class m) e f (λ v x. cc))

      by : (s : State) → state (dep n i) ≡ s → Leads q (LeadsTo q state) arriving n i d
      by (in_class k) e = locked k (state (pkg d.real_name k)) e refl
      by absent e = inr (no_class absent e (λ k x. cc))
      by present e = inr (no_class present e (λ k x. cc))
      by (version v) e = inr (no_class (version v) e (λ k x. cc))

  pub kept_owners : (kept : List Kept) × AreKept q (LeadsTo q state) kept
  kept_owners = all_kept q (LeadsTo q state) arriving lead

  -- what the root reaches is a valid selection, in which each vertex has the state that is left to it
  pub selects : IsCatalogue q
      → (c : Content) × IsValidSelection q c × ((v : Vertex) (s : State) → Assigns q c v s ↔ AssignsReached q state v s)
  selects known =
      let (kept, are) = kept_owners in
      let stands = gathered q (LeadsTo q state) known kept are in (
        content_of q kept,
        stands_valid q state ok known (content_of q kept) stands,
        same_states q state ok known (content_of q kept) stands,
      )

module _ (q : Problem) (preferred : List (List ℕ × List Candidate))
    (among : (name : List ℕ) (c : Candidate) → Contains (candidates_of preferred name) c
    → Contains (candidates_of q.candidates name) c) where
  match_in : (d : Dependency) (cs : List Candidate) (c : Candidate) → first_match d cs ≡ Some c → Contains cs c
  match_in d [] c e = absurd (none-some c e)
  match_in d (x ∷ cs) c e = by (λ e. match_in d cs c e) (matches_views d.requirement x.version) e
    where
      by : (first_match d cs ≡ Some c → Contains cs c) → (b : Bool)
          → cond b (Some x) (first_match d cs) ≡ Some c → Contains (x ∷ cs) c
      by rest true e = subst (Contains (x ∷ cs)) (same_Some x c e) (in_first x cs)
      by rest false e = in_rest x c cs (rest e)

  picked : (d : Dependency) (o : Option Candidate) (t : Owner)
      → option_map (λ c. version_of d.real_name c.version) o ≡ Some t
      → (c : Candidate) × (o ≡ Some c) × (version_of d.real_name c.version ≡ t)
  picked d None t e = absurd (none-some t e)
  picked d (Some c) t e = (c, refl, same_Some (version_of d.real_name c.version) t e)

  pick_arrives : (n t : Owner) (i : ℕ) (d : Dependency) → Picks q preferred n i d t → IsOwner q t
  pick_arrives n t i d e =
      let (c, got, is) = picked d (pick q preferred d) t e in
      subst (IsOwner q) is (c, among d.real_name c (match_in d (candidates_of preferred d.real_name) c got), refl)

  pick_leads : (n : Owner) (i : ℕ) (d : Dependency) → Leads q (Picks q preferred) pick_arrives n i d
  pick_leads n i d = by (option_map (λ c. version_of d.real_name c.version) (pick q preferred d)) refl
    where
      by : (o : Option Owner) → option_map (λ c. version_of d.real_name c.version) (pick q preferred d) ≡ o
          → Leads q (Picks q preferred) pick_arrives n i d
      by None e = inr (λ u l. none-some u (sym e ∙ l))
      by (Some t) e = inl (t, e, λ u l. same_Some t u (sym e ∙ l))

  pub walk_of : IsCatalogue q → (c : Content) × IsWalk q preferred c
  walk_of known =
      let (kept, are) = all_kept q (Picks q preferred) pick_arrives pick_leads in
      (content_of q kept, gathered q (Picks q preferred) known kept are)
