-- The owners that the root reaches, with their targets, are a finite list, if it can be told where each dependency
-- leads.
use Rattle.std.proofs.Common.{◌≡◌, ◌≢◌, ◌↔◌, ℕ, zero, suc, List, [], ◌∷◌, Bool, true, false, Contains, Some, slice_get}
use Rattle.std.proofs.Common.{refl, sym, ap, ◌∙◌, subst, inl, inr, ◌⊎◌, true≢false}
use Rattle.std.specs.List.{All, AllPairs, list_any}
use Rattle.std.proofs.lemmas.List.Kept.{AllPairs-cons}
use Rattle.std.proofs.lemmas.Option.{none-some, same_Some}
use Rattle.model.specs.Summary.{Dependency}
use Rattle.model.specs.Selection.{Fact, here, enabled}
use Rattle.model.specs.Content.{Problem}
use Rattle.model.specs.Vertices.{Owner, same_owner, owner_brings}
use Rattle.model.specs.Axioms.{IsOwner}
use Rattle.model.specs.Walk.{IsReachedFact}
use Rattle.model.specs.inner.ContentOf.{Kept, IsTargetOf, AreKept}
use Rattle.model.proofs.Same.{owner-same, owner-refl}
use Rattle.model.proofs.Lists.{in_none, in_cons, in_first, in_rest, any_of, to_any, all_none, all_cons, pairs_none}
use Rattle.model.proofs.Closed.{owners, owner_there, Leads, AllFacts, all_facts, is_among, owner_of_fact}

-- the owners that stand somewhere in a list of others, if each place says of at most one whether it does
module _ {X : Type 0} where
  abbrev Standing : List X → (ℕ → X → Owner → Type 0) → Owner → Type 0
  Standing xs P t = (i : ℕ) × (x : X) × (slice_get xs i ≡ Some x) × P i x t

  abbrev Says : (ℕ → X → Owner → Type 0) → ℕ → X → Type 0
  Says P i x = ((t : Owner) × P i x t × ((u : Owner) → P i x u → t ≡ u)) ⊎ ((u : Owner) → P i x u → ⊥)

  abbrev Collected : List X → (ℕ → X → Owner → Type 0) → Type 0
  Collected xs P = (ts : List Owner) × ((t : Owner) → Contains ts t ↔ Standing xs P t)

  first_or : (y : X) (xs : List X) (P : ℕ → X → Owner → Type 0) (t : Owner) (B : Type 0) → (P 0 y t → B)
      → (Standing xs (λ i x t. P (suc i) x t) t → B) → Standing (y ∷ xs) P t → B
  first_or y xs P t B f g (zero, x, e, p) = f (subst (λ z. P 0 z t) (sym (same_Some y x e)) p)
  first_or y xs P t B f g (suc i, x, e, p) = g (i, x, e, p)

  later : (y : X) (xs : List X) (P : ℕ → X → Owner → Type 0) (t : Owner)
      → Standing xs (λ i x t. P (suc i) x t) t → Standing (y ∷ xs) P t
  later y xs P t (i, x, e, p) = (suc i, x, e, p)

  one_more : (y : X) (xs : List X) (P : ℕ → X → Owner → Type 0) → Says P 0 y
      → Collected xs (λ i x t. P (suc i) x t) → Collected (y ∷ xs) P
  one_more y xs P (inl (o, p, only)) (ts, is) = (
    o ∷ ts,
    λ t. (
      λ c. elim (in_cons o t ts c) [ inl e ↦ (zero, y, refl, subst (P 0 y) e p) | inr r ↦ later y xs P t ((is t).0 r) ],
      λ s. first_or y xs P t (Contains (o ∷ ts) t) (λ h. subst (Contains (o ∷ ts)) (only t h) (in_first o ts))
          (λ l. in_rest o t ts ((is t).1 l)) s,
    ),
  )
  one_more y xs P (inr never) (ts, is) = (
    ts,
    λ t. (
      λ c. later y xs P t ((is t).0 c),
      λ s. first_or y xs P t (Contains ts t) (λ h. absurd (never t h)) (λ l. (is t).1 l) s,
    ),
  )

  collect : (xs : List X) (P : ℕ → X → Owner → Type 0) → ((i : ℕ) (x : X) → Says P i x) → Collected xs P
  collect [] P say = ([], λ t. (λ c. absurd (in_none t c), λ (i, x, e, p). absurd (none-some x e)))
  collect (y ∷ xs) P say = one_more y xs P (say 0 y) (collect xs (λ i x t. P (suc i) x t) (λ i x. say (suc i) x))

module _ (q : Problem) (LeadsTo : Owner → ℕ → Dependency → Owner → Type 0)
    (arriving : (n t : Owner) (i : ℕ) (d : Dependency) → LeadsTo n i d t → IsOwner q t)
    (lead : (n : Owner) (i : ℕ) (d : Dependency) → Leads q LeadsTo arriving n i d) where
  abbrev Reached : Fact Owner → Type 0
  Reached = IsReachedFact q LeadsTo

  all : AllFacts q LeadsTo arriving lead
  all = all_facts q LeadsTo arriving lead

  is_reached : (f : Fact Owner) → Reached f ⊎ (Reached f → ⊥)
  is_reached f = elim (is_among all.facts f) [ inl c ↦ inl (all.sound f c) | inr n ↦ inr (λ h. n (all.complete f h)) ]

  -- where enabled dependencies of an owner lead
  abbrev Targets : Owner → Type 0
  Targets n = (ts : List Owner) × ((t : Owner) → Contains ts t ↔ IsTargetOf q LeadsTo n t)

  targets_of : (n : Owner) → Targets n
  targets_of n =
      let r = collect (owner_brings q n).dependencies (λ i d t. Reached (enabled n i) × LeadsTo n i d t) say in (
        r.0,
        λ t. (
          λ c. let (i, d, b, p) = (r.1 t).0 c in (i, d, b, p.0, p.1),
          λ (i, d, b, h, l). (r.1 t).1 (i, d, b, (h, l)),
        ),
      )
    where
      say : (i : ℕ) (d : Dependency) → ((t : Owner) × (Reached (enabled n i) × LeadsTo n i d t)
          × ((u : Owner) → Reached (enabled n i) × LeadsTo n i d u → t ≡ u))
          ⊎ ((u : Owner) → Reached (enabled n i) × LeadsTo n i d u → ⊥)
      say i d = elim (is_reached (enabled n i)) [
        | inr never ↦ inr (λ u p. never p.0)
        | inl h ↦ elim (lead n i d) [
          | inl r ↦ inl (r.0, (h, r.1), λ u p. r.2 u p.1)
          | inr none ↦ inr (λ u p. none u p.1)
        ]
      ]

  abbrev IsOf : List Kept → Owner → Type 0
  IsOf ks t = (k : Kept) × Contains ks k × (k.owner ≡ t)

  -- those of some owners that are reached
  record KeptOf (os : List Owner) : Type 0 where
    ks : List Kept
    distinct : AllPairs (λ a b. a.owner ≢ b.owner) ks
    members : (t : Owner) → (Reached (here t) × Contains os t) ↔ IsOf ks t
    targets : All (λ k. (t : Owner) → Contains k.targets t ↔ IsTargetOf q LeadsTo k.owner t) ks

  is_of : (ks : List Kept) (t : Owner) → IsOf ks t ⊎ (IsOf ks t → ⊥)
  is_of ks t = by (list_any (λ k. same_owner t k.owner) ks) refl
    where
      by : (b : Bool) → list_any (λ k. same_owner t k.owner) ks ≡ b → IsOf ks t ⊎ (IsOf ks t → ⊥)
      by true e = let r =
          any_of (λ (k : Kept). same_owner t k.owner) ks e in inl (r.0, r.1, sym (owner-same t (r.0).owner r.2))
      by false e = inr (λ (k, c, is). true≢false (sym (to_any (λ (k : Kept). same_owner t k.owner) ks k c
          (subst (λ o. same_owner t o ≡ true) (sym is) (owner-refl t))) ∙ e))

  keep : (o : Owner) (os : List Owner) → KeptOf os → KeptOf (o ∷ os)
  keep o os rest = elim (is_of rest.ks o) [
    | inl old ↦ as_before (λ t h e. subst (IsOf rest.ks) e old)
    | inr new ↦ elim (is_reached (here o)) [
      | inl h ↦ with_one h new
      | inr never ↦ as_before (λ t h e. absurd (never (subst (λ x. Reached (here x)) (sym e) h)))
    ]
  ]
    where
      as_before : ((t : Owner) → Reached (here t) → o ≡ t → IsOf rest.ks t) → KeptOf (o ∷ os)
      as_before has = record {
        ks = rest.ks;
        distinct = rest.distinct;
        members = λ t. (
          λ (h, c). elim (in_cons o t os c) [ inl e ↦ has t h e | inr r ↦ (rest.members t).0 (h, r) ],
          λ x. let r = (rest.members t).1 x in (r.0, in_rest o t os r.1),
        );
        targets = rest.targets;
      }

      with_one : Reached (here o) → (IsOf rest.ks o → ⊥) → KeptOf (o ∷ os)
      with_one h new =
          let ts = targets_of o in
          let k : Kept = record { owner = o; targets = ts.0 } in record {
            ks = k ∷ rest.ks;
            distinct = AllPairs-cons
                (λ a b. a.owner ≢ b.owner) k rest.ks (apart rest.ks (λ m c e. new (m, c, sym e))) rest.distinct;
            members = λ t. (
              λ (r, c). elim (in_cons o t os c) [
                | inl e ↦ (k, in_first k rest.ks, e)
                | inr l ↦ let x = (rest.members t).0 (r, l) in (x.0, in_rest k x.0 rest.ks x.1, x.2)
              ],
              λ (m, c, e). elim (in_cons k m rest.ks c) [
                | inl is ↦ let same : o ≡ t = ap (λ (x : Kept). x.owner) is ∙ e in
                    (subst (λ x. Reached (here x)) same h, subst (Contains (o ∷ os)) same (in_first o os))
                | inr l ↦ let r = (rest.members t).1 (m, l, e) in (r.0, in_rest o t os r.1)
              ],
            );
            targets = all_cons
                (λ k. (t : Owner) → Contains k.targets t ↔ IsTargetOf q LeadsTo k.owner t) k rest.ks ts.1 rest.targets;
          }
        where
          apart : (ms : List Kept) → ((m : Kept) → Contains ms m → o ≡ m.owner → ⊥) → All (λ m. o ≢ m.owner) ms
          apart [] h = all_none (λ (m : Kept). o ≢ m.owner)
          apart (m ∷ ms) h =
              all_cons (λ (m : Kept). o ≢ m.owner) m ms (h m (in_first m ms)) (apart ms (λ n c. h n (in_rest m n ms c)))

  kept_of : (os : List Owner) → KeptOf os
  kept_of [] = record {
    ks = [];
    distinct = pairs_none (λ (a b : Kept). a.owner ≢ b.owner);
    members = λ t. (λ (h, c). absurd (in_none t c), λ (k, c, e). absurd (in_none k c));
    targets = all_none (λ (k : Kept). (t : Owner) → Contains k.targets t ↔ IsTargetOf q LeadsTo k.owner t);
  }
  kept_of (o ∷ os) = keep o os (kept_of os)

  pub all_kept : (kept : List Kept) × AreKept q LeadsTo kept
  all_kept =
      let r = kept_of (owners q) in (
        r.ks,
        record {
          distinct = r.distinct;
          owners =
              of_each r.ks (λ k c. owner_of_fact q LeadsTo arriving k.owner ((r.members k.owner).1 (k, c, refl)).0);
          reached = λ t. (
            λ h. (r.members t).0 (h, owner_there q t (owner_of_fact q LeadsTo arriving t h)),
            λ x. ((r.members t).1 x).0,
          );
          targets = r.targets;
        },
      )
    where
      of_each : (ks : List Kept) → ((k : Kept) → Contains ks k → IsOwner q k.owner) → All (λ k. IsOwner q k.owner) ks
      of_each [] h = all_none (λ (k : Kept). IsOwner q k.owner)
      of_each (k ∷ ks) h = all_cons
          (λ (k : Kept). IsOwner q k.owner) k ks (h k (in_first k ks)) (of_each ks (λ m c. h m (in_rest k m ks c)))
