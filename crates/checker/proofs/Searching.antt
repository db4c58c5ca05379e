-- What a search by the ranks of their vertices says of terms.
use Rattle.std.proofs.Common.{◌≡◌, ℕ, ◌<◌, ◌≤◌, Bool, true, false, cond, List, [], ◌∷◌, length, get_or, Some, None, Ok}
use Rattle.std.proofs.Common.{Err, option_map, Ordering, refl, sym, ap, ◌∙◌, subst, arith}
use Rattle.std.specs.List.{All, find}
use Rattle.std.specs.List.Sorted.{IsBinarySearchResult, IsStrictlySortedBy}
use Rattle.std.specs.Ordering.{nat_cmp, ordering_index}
use Rattle.std.specs.declared.cmp.Ordering.TheVariants.{Equal}
use Rattle.std.proofs.lemmas.Cmp.{nat_list_cmp_total, tied_itself}
use Rattle.model.specs.Derivation.{states_at}
use Rattle.model.specs.Order.{text_cmp}
use Rattle.model.specs.Vertices.{Vertex, same_vertex}
use Rattle.model.proofs.Same.{vertex-same}
use Rattle.derivations.specs.inner.Derivations.{term_cmp}
use Rattle.derivations.specs.inner.Tables.{TablesView, term_at, terms_at, vertex_at}
use Rattle.derivations.specs.declared.step.Term.{Term}
use Rattle.vertices.specs.Texts.{vertex_text}
use Rattle.lookups.proofs.Searching.{search_ends, search_finds, sorted_map}
use Rattle.checker.specs.inner.Names.{AreVertexRanks, named_set, rank_at}

-- ---- a search by what says the same of each element

module _ {X : Type 0} (f g : X → Ordering) (xs : List X)
    (same : (k : ℕ) (d : X) → k < length xs → f (get_or xs k d) ≡ g (get_or xs k d)) where
  pub found_same : (i : ℕ) → i < length xs → IsBinarySearchResult f xs (Ok i) → IsBinarySearchResult g xs (Ok i)
  found_same i within h d = sym (same i d within) ∙ h d

  pub ended_same : (i : ℕ) → i ≤ length xs → IsBinarySearchResult f xs (Err i) → IsBinarySearchResult g xs (Err i)
  ended_same i within h rises =
      let parted = h (λ k j d le lt. subst
      (λ n. n ≤ ordering_index (f (get_or xs j d))) (ap ordering_index (sym (same k d (omega (arith, le, lt)))))
      (subst (λ n. ordering_index (g (get_or xs k d)) ≤ n) (ap ordering_index (sym (same j d lt))) (rises k j d le lt)))
      in (
        (λ k d low lt. sym (same k d (omega (arith, lt, within))) ∙ parted.0 k d low lt),
        (λ k d low lt. sym (same k d lt) ∙ parted.1 k d low lt),
      )

-- ---- terms by number

module _ (t : TablesView) where
  first_said : (terms : List Term) (v : Vertex) → states_at (terms_at t terms) v ≡ option_map (λ (x : Term).
      named_set t x.states) (find (λ (x : Term). same_vertex v (vertex_at t x.vertex)) terms)
  first_said [] v = refl
  first_said (x ∷ terms) v = by (first_said terms v) (same_vertex v (vertex_at t x.vertex))
    where
      by : states_at (terms_at t terms) v ≡ option_map (λ (x : Term). named_set t x.states)
          (find (λ (x : Term). same_vertex v (vertex_at t x.vertex)) terms) → (b : Bool)
          → cond b (Some (named_set t x.states)) (states_at (terms_at t terms) v) ≡ option_map (λ (x : Term).
          named_set t x.states) (cond b (Some x) (find (λ (x : Term). same_vertex v (vertex_at t x.vertex)) terms))
      by rest true = refl
      by rest false = rest

  module _ (ranks : List ℕ) (are : AreVertexRanks t ranks) (terms : List Term) (v : ℕ) (within : v < length ranks)
      (each : All (λ (x : Term). x.vertex < length ranks) terms)
      (sorted : IsStrictlySortedBy term_cmp (terms_at t terms)) where
    abbrev is_there : Term → Bool
    is_there x = same_vertex (vertex_at t v) (vertex_at t x.vertex)

    abbrev key : Term → List ℕ
    key x = vertex_text (vertex_at t x.vertex)

    abbrev by_rank : Term → Ordering
    by_rank x = nat_cmp (rank_at ranks x.vertex) (rank_at ranks v)

    abbrev by_text : Term → Ordering
    by_text x = text_cmp (key x) (vertex_text (vertex_at t v))

    alike_texts : (x : Term) → is_there x ≡ true → text_cmp (key x) (vertex_text (vertex_at t v)) ≡ Equal
    alike_texts x e = ap (λ w. text_cmp (vertex_text w) (vertex_text (vertex_at t v)))
        (sym (vertex-same (vertex_at t v) (vertex_at t x.vertex) e))
        ∙ tied_itself nat_list_cmp_total (vertex_text (vertex_at t v))

    as_texts : (k : ℕ) (d : Term) → k < length terms → nat_cmp (rank_at ranks (get_or terms k d).vertex)
        (rank_at ranks v) ≡ text_cmp (key (get_or terms k d)) (vertex_text (vertex_at t v))
    as_texts k d lt = are (get_or terms k d).vertex v (each k d lt) within

    pub number_finds : (i : ℕ)
        → IsBinarySearchResult (λ (x : Term). nat_cmp (rank_at ranks x.vertex) (rank_at ranks v)) terms (Ok i)
        → i < length terms → (y : Term) → get_or terms i y ≡ y
        → states_at (terms_at t (y ∷ [])) (vertex_at t v) ≡ states_at (terms_at t terms) (vertex_at t v)
    number_finds i found inside y is =
        first_said (y ∷ []) (vertex_at t v)
        ∙ sym (first_said terms (vertex_at t v) ∙ ap (option_map (λ (x : Term). named_set t x.states))
        (search_finds key nat_list_cmp_total terms (vertex_text (vertex_at t v)) is_there alike_texts
        (sorted_map (term_at t) term_cmp terms sorted) i
        (found_same by_rank by_text terms as_texts i inside found) inside y is))

    pub number_ends : (i : ℕ) → IsBinarySearchResult (λ (x : Term).
        nat_cmp (rank_at ranks x.vertex) (rank_at ranks v)) terms (Err i) → i ≤ length terms
        → None ≡ states_at (terms_at t terms) (vertex_at t v)
    number_ends i found inside =
        sym (first_said terms (vertex_at t v) ∙ ap (option_map (λ (x : Term). named_set t x.states))
        (search_ends key nat_list_cmp_total terms (vertex_text (vertex_at t v)) is_there alike_texts
        (sorted_map (term_at t) term_cmp terms sorted) i
        (ended_same by_rank by_text terms as_texts i inside found)))
