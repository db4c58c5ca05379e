-- The candidates that dependencies lead to, put one after another among those that were met.
use Rattle.std.proofs.Common.{◌≡◌, ℕ, ◌+◌, List, [], ◌∷◌, ◌++◌, length, Option, Some, None, slice_get, is_some, sym, ap}
use Rattle.std.proofs.Common.{◌∙◌, subst, inl, inr, arith}
use Rattle.std.proofs.lemmas.List.{length-append}
use Rattle.std.proofs.lemmas.Option.{same_Some}
use Rattle.model.specs.Summary.{Dependency}
use Rattle.model.proofs.Places.{get_push_cases}
use Rattle.catalogue.specs.Stores.{CatalogueView}
use Rattle.selection.specs.inner.Contents.{Grows, IsCandidate, candidate_owner}
use Rattle.selection.specs.declared.met.MetVersion.{MetVersion}
use Rattle.selection.proofs.MetVersions.{grows_on, owner_on}
use Rattle.solver.specs.inner.Leads.{AreThere, IsPut}

module _ (index : CatalogueView) where
  -- a candidate that is there can be put
  pub there_put : (ds : List Dependency) (places : List (Option ℕ)) → AreThere index ds places
      → (i : ℕ) (d : Dependency) (o : Option ℕ) → slice_get ds i ≡ Some d → slice_get places i ≡ Some o
      → (p : ℕ) → o ≡ Some p → IsCandidate index d.real_name p
  there_put ds places h i d o got at p e = let (c, there) = h i d p got (at ∙ ap Some e) in ap is_some there

  put_on : (old new : List MetVersion) (name : List ℕ) (p target : Option ℕ) → Grows index old new
      → IsPut index old name p target → IsPut index new name p target
  put_on old new name None None g h = h
  put_on old new name None (Some n) g h = h
  put_on old new name (Some p) None g h = h
  put_on old new name (Some p) (Some n) g h = owner_on index old new g n (candidate_owner index name p) h

  -- the targets of the first n dependencies
  pub record PutTo (old new : List MetVersion) (ds : List Dependency) (places : List (Option ℕ)) (n : ℕ)
      (targets : List (Option ℕ)) : Type 0 where
    pub grows : Grows index old new
    pub many : length targets ≡ n
    pub put : (i : ℕ) (d : Dependency) (p target : Option ℕ) → slice_get ds i ≡ Some d → slice_get places i ≡ Some p
        → slice_get targets i ≡ Some target → IsPut index new d.real_name p target

  pub one_put : (old mid new : List MetVersion) (ds : List Dependency) (places : List (Option ℕ)) (n : ℕ)
      (targets more : List (Option ℕ)) (d : Dependency) (p target : Option ℕ)
      → PutTo old mid ds places n targets → Grows index mid new → slice_get ds n ≡ Some d → slice_get places n ≡ Some p
      → IsPut index new d.real_name p target → more ≡ targets ++ target ∷ []
      → PutTo old new ds places (n + 1) more
  one_put old mid new ds places n targets more d p target h g got there is e =
      let many = h.many in
      record {
        grows = grows_on index old mid new h.grows g;
        many = ap length e ∙ length-append targets (target ∷ []) ∙ omega (arith, many);
        put = λ i d' p' t' got' there' at. elim (get_push_cases targets target i t'
            (sym (ap (λ l. slice_get l i) e) ∙ at)) [
              | inl before ↦ put_on mid new d'.real_name p' t' g (h.put i d' p' t' got' there' before)
              | inr last ↦
                  let here : n ≡ i = sym (last.0 ∙ many) in
                  let same : d ≡ d' = same_Some d d' (sym got ∙ ap (slice_get ds) here ∙ got') in
                  let beside : p ≡ p' = same_Some p p' (sym there ∙ ap (slice_get places) here ∙ there') in
                  subst (λ (x : Dependency). IsPut index new x.real_name p' t') same (subst (λ x.
                  IsPut index new d.real_name x t') beside (subst (IsPut index new d.real_name p) last.1 is))
            ];
      }
