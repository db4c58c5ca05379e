-- The picks of dependencies, put one after another among the versions that were met; that is where they lead.
use Rattle.std.proofs.Common.{◌≡◌, ◌≢◌, ℕ, ◌+◌, Bool, true, false, ◌||◌, List, [], ◌∷◌, ◌++◌, length, nat_eq}
use Rattle.std.proofs.Common.{Option, Some, None, option_map, unwrap_or, slice_get, refl, sym, ap, ◌∙◌, subst, subst₂}
use Rattle.std.proofs.Common.{inl, inr, arith, true≢false}
use Rattle.std.specs.List.{AllPairs}
use Rattle.std.proofs.lemmas.Bool.{cases_order}
use Rattle.std.proofs.lemmas.List.{length-append}
use Rattle.std.proofs.lemmas.Option.{same_Some, none-some}
use Rattle.model.specs.Summary.{Dependency}
use Rattle.model.specs.Content.{Candidate, Problem}
use Rattle.model.specs.Vertices.{Owner, version_of}
use Rattle.model.proofs.Lists.{pairs_get}
use Rattle.model.proofs.Places.{get_push_cases}
use Rattle.catalogue.specs.Stores.{CatalogueView, IsStore}
use Rattle.facts.specs.inner.Graphs.{NodeView, flag_at, flag_in}
use Rattle.facts.specs.inner.Nodes.{AreLeads, IsLead}
use Rattle.selection.specs.inner.Contents.{AreMetVersions, Grows, candidate_owner, owner_if, owners_of}
use Rattle.selection.specs.declared.met.MetVersion.{MetVersion}
use Rattle.selection.proofs.MetVersions.{grows_on, owner_on, owners_once}
use Rattle.selection.proofs.MetNodes.{SoFar}
use Rattle.selection.specs.inner.Followed.{PicksFollowed, is_followed}
use Rattle.catalogue.specs.Problems.{preferred_in}
use Rattle.selection.specs.inner.Met.{ArePicks, IsPick, IsPickIf, place_picked}
use Rattle.selection.proofs.Picks.{one_picked}

-- ---- where a pick leads

module _ (all : Bool) (asked : List (List Bool)) (q : Problem) (preferred : List (List ℕ × List Candidate)) where
  abbrev Led : List Owner → Owner → ℕ → Dependency → Owner → Type 0
  Led owners = PicksFollowed all asked owners q preferred

  abbrev IsAsked : ℕ → ℕ → Dependency → Bool
  IsAsked n i d = is_followed (all || nat_eq n 0) (flag_in asked n i) d

  one_place : (owners : List Owner) → AllPairs (λ a b. a ≢ b) owners → (o : Owner) (n m : ℕ)
      → slice_get owners n ≡ Some o → slice_get owners m ≡ Some o → n ≡ m
  one_place owners once o n m at there = elim (cases_order n m) [
    | inl e ↦ e
    | inr h ↦ elim h [
      | inl lt ↦ absurd (pairs_get (λ a b. a ≢ b) owners n m o o once lt at there refl)
      | inr gt ↦ absurd (pairs_get (λ a b. a ≢ b) owners m n o o once gt there at refl)
    ]
  ]

  -- a dependency leads to its pick alone, whoever's it is, if it is followed
  lead_of : (owners : List Owner) → AllPairs (λ a b. a ≢ b) owners → (o : Owner) (n : ℕ) → slice_get owners n ≡ Some o
      → (i : ℕ) (d : Dependency) (target : Option ℕ) (b : Bool) → IsAsked n i d ≡ b
      → IsPickIf preferred owners b d target → IsLead q (Led owners) owners o i d target
  lead_of owners once o n at i d None true e none = λ t l.
      none-some t (sym (ap (option_map (λ (c : Candidate). version_of d.real_name c.version)) none) ∙ l.1)
  lead_of owners once o n at i d (Some m) true e (c, is, there) =
      let leads = ap (option_map (λ (c : Candidate). version_of d.real_name c.version)) is in (
        version_of d.real_name c.version,
        there,
        ((n, at, e), leads),
        λ u l. same_Some (version_of d.real_name c.version) u (sym leads ∙ l.1),
      )
  lead_of owners once o n at i d None false e none = λ t ((m, there, found), l).
      true≢false (sym found ∙ ap (λ k. IsAsked k i d) (one_place owners once o m n there at) ∙ e)
  lead_of owners once o n at i d (Some m) false e none = absurd (none-some m (sym none))

  pub leads_of : (owners : List Owner) → AllPairs (λ a b. a ≢ b) owners → (o : Owner) (n : ℕ)
      → slice_get owners n ≡ Some o → (ds : List Dependency) (targets : List (Option ℕ))
      → ArePicks preferred owners (all || nat_eq n 0) (unwrap_or (slice_get asked n) []) ds targets
      → AreLeads q (Led owners) owners o ds targets
  leads_of owners once o n at ds targets h = record {
    as_many = h.as_many;
    leads = λ i d target got there.
        lead_of owners once o n at i d target (IsAsked n i d) refl (h.picks i d target got there);
  }

  -- where more versions are met, those at their places are followed as before
  lead_on : (old new : List Owner) → AllPairs (λ a b. a ≢ b) new
      → ((n : ℕ) (o : Owner) → slice_get old n ≡ Some o → slice_get new n ≡ Some o)
      → (o : Owner) (n : ℕ) → slice_get old n ≡ Some o → (i : ℕ) (d : Dependency) (target : Option ℕ)
      → IsLead q (Led old) old o i d target → IsLead q (Led new) old o i d target
  lead_on old new once on o n at i d None h = λ t ((m, there, found), l).
      h t ((n, at, subst (λ k. IsAsked k i d ≡ true) (one_place new once o m n there (on n o at)) found), l)
  lead_on old new once on o n at i d (Some k) (t, there, ((m, at_m, found), l), only) =
      (t, there, ((m, on m o at_m, found), l), λ u x. same_Some t u (sym l ∙ x.1))

  pub so_far_on : (index : CatalogueView) → IsStore index → (old new : List MetVersion) → Grows index old new
      → (nodes : List NodeView) → SoFar q (Led (owners_of index old)) index old nodes
      → SoFar q (Led (owners_of index new)) index old nodes
  so_far_on index store old new g nodes h = record {
    are = h.are;
    few = h.few;
    each = λ n o v at got. let node = h.each n o v at got in record {
      brings = node.brings;
      starts = node.starts;
      leads = record {
        as_many = (node.leads).as_many;
        leads = λ i d target brought stands. lead_on (owners_of index old) (owners_of index new)
            (owners_once index store new (g.still h.are)) (owner_on index old new g) o n at i d target
            ((node.leads).leads i d target brought stands);
      };
    };
  }

  -- a round begins with the versions that were met before
  pub round_begun : (owners : List Owner) (index : CatalogueView) (versions : List MetVersion) (nodes : List NodeView)
      → AreMetVersions index versions → nodes ≡ [] → SoFar q (Led owners) index versions nodes
  round_begun owners index versions nodes are e = record {
    are = are;
    few = let none = ap length e in omega (arith, none);
    each = λ n o v at got. absurd (none-some v (sym (ap (λ ns. slice_get ns n) e) ∙ got));
  }

-- ---- one pick

module _ (index : CatalogueView) where
  pick_on : (old new : List MetVersion) → Grows index old new → (d : Dependency) (target : Option ℕ)
      → IsPick (preferred_in index) (owners_of index old) d target
      → IsPick (preferred_in index) (owners_of index new) d target
  pick_on old new g d None h = h
  pick_on old new g d (Some t) (c, e, at) = (c, e, owner_on index old new g t (version_of d.real_name c.version) at)

  pick_if_on : (old new : List MetVersion) → Grows index old new → (b : Bool) (d : Dependency) (target : Option ℕ)
      → IsPickIf (preferred_in index) (owners_of index old) b d target
      → IsPickIf (preferred_in index) (owners_of index new) b d target
  pick_if_on old new g true d target h = pick_on old new g d target h
  pick_if_on old new g false d target h = h

  pub pick_put : (versions : List MetVersion) (d : Dependency) (place n : ℕ) → place_picked index d ≡ Some place
      → slice_get (owners_of index versions) n ≡ Some (candidate_owner index d.real_name place)
      → IsPick (preferred_in index) (owners_of index versions) d (Some n)
  pick_put versions d place n p at =
      let (c, is, there) = one_picked index d place p in
      (c, is, at ∙ ap Some (ap (owner_if d.real_name) there))

  -- ---- the picks of dependencies, one after another

  -- the targets of the first n dependencies
  pub record TargetsTo (all : Bool) (asked : List Bool) (old new : List MetVersion) (ds : List Dependency) (n : ℕ)
      (targets : List (Option ℕ)) : Type 0 where
    pub grows : Grows index old new
    pub many : length targets ≡ n
    pub picks : (i : ℕ) (d : Dependency) (target : Option ℕ) → slice_get ds i ≡ Some d
        → slice_get targets i ≡ Some target
        → IsPickIf (preferred_in index) (owners_of index new) (is_followed all (flag_at asked i) d) d target

  pub more_targets : (all : Bool) (asked : List Bool) (old mid new : List MetVersion) (ds : List Dependency) (n : ℕ)
      (targets more : List (Option ℕ)) (d : Dependency) (target : Option ℕ)
      → TargetsTo all asked old mid ds n targets → Grows index mid new → slice_get ds n ≡ Some d
      → IsPickIf (preferred_in index) (owners_of index new) (is_followed all (flag_at asked n) d) d target
      → more ≡ targets ++ target ∷ [] → TargetsTo all asked old new ds (n + 1) more
  more_targets all asked old mid new ds n targets more d target h g there p e =
      let many = h.many in
      record {
        grows = grows_on index old mid new h.grows g;
        many = ap length e ∙ length-append targets (target ∷ []) ∙ omega (arith, many);
        picks = λ i d' t' got at. elim (get_push_cases targets target i t' (sym (ap (λ ts. slice_get ts i) e) ∙ at)) [
          | inl before ↦
              pick_if_on mid new g (is_followed all (flag_at asked i) d') d' t' (h.picks i d' t' got before)
          | inr last ↦ at_last i d' t' (last.0 ∙ many) got last.1
        ];
      }
    where
      at_last : (i : ℕ) (d' : Dependency) (t' : Option ℕ) → i ≡ n → slice_get ds i ≡ Some d' → target ≡ t'
          → IsPickIf (preferred_in index) (owners_of index new) (is_followed all (flag_at asked i) d') d' t'
      at_last i d' t' is got same =
          let dep : d ≡ d' = same_Some d d' (sym there ∙ sym (ap (slice_get ds) is) ∙ got) in
          subst (λ k. IsPickIf (preferred_in index) (owners_of index new) (is_followed all (flag_at asked k) d') d' t')
          (sym is) (subst₂ (λ x t. IsPickIf (preferred_in index) (owners_of index new)
          (is_followed all (flag_at asked n) x) x t) dep same p)
