-- The versions met, one after another, until each has its node; wherever it is that dependencies lead.
use Rattle.std.proofs.Common.{◌≡◌, ◌≢◌, ℕ, suc, ◌<◌, ◌≤◌, List, [], ◌∷◌, ◌++◌, length, nat_eq, Option, Some, None}
use Rattle.std.proofs.Common.{slice_get, refl, sym, ap, ◌∙◌, subst, inl, inr, arith}
use Rattle.std.proofs.lemmas.List.{length-append}
use Rattle.std.proofs.lemmas.Option.{slice_get_within, none-some}
use Rattle.model.specs.Summary.{Dependency}
use Rattle.model.specs.Content.{Problem}
use Rattle.model.specs.Vertices.{Owner, owner_brings}
use Rattle.model.proofs.Lists.{all_none, pairs_none}
use Rattle.model.proofs.Places.{some_at, get_push_cases}
use Rattle.facts.specs.inner.Graphs.{NodeView}
use Rattle.catalogue.specs.Stores.{CatalogueView, IsStore}
use Rattle.facts.specs.inner.Nodes.{AreLeads, AreMet, IsLead, IsNode}
use Rattle.selection.specs.inner.Contents.{AreMetVersions, Grows, IsThere, owners_of}
use Rattle.selection.specs.declared.met.MetVersion.{MetVersion}
use Rattle.selection.proofs.MetVersions.{many_owners, owner_on, owners_once}

-- an owner stands where the next node goes
pub owner_next : (index : CatalogueView) (versions : List MetVersion) (n : ℕ) → n ≤ length versions
    → (o : Owner) × (slice_get (owners_of index versions) n ≡ Some o)
owner_next index versions n le = let wide =
    many_owners index versions in some_at (owners_of index versions) n (omega (arith, le, wide))

module _ (q : Problem) (LeadsTo : Owner → ℕ → Dependency → Owner → Type 0) (index : CatalogueView) where
  lead_on : (old new : List MetVersion) → Grows index old new → (o : Owner) (i : ℕ) (d : Dependency) (target : Option ℕ)
      → IsLead q LeadsTo (owners_of index old) o i d target
      → IsLead q LeadsTo (owners_of index new) o i d target
  lead_on old new g o i d None h = h
  lead_on old new g o i d (Some n) (t, at, leads, once) = (t, owner_on index old new g n t at, leads, once)

  leads_on : (old new : List MetVersion) → Grows index old new → (o : Owner) (ds : List Dependency)
      (targets : List (Option ℕ)) → AreLeads q LeadsTo (owners_of index old) o ds targets
      → AreLeads q LeadsTo (owners_of index new) o ds targets
  leads_on old new g o ds targets h = record {
    as_many = h.as_many;
    leads =
        λ i d target got at. lead_on old new g o i d target (h.leads i d target got at);
  }

  -- those met so far, with a node for each of the first
  pub record SoFar (versions : List MetVersion) (nodes : List NodeView) : Type 0 where
    pub are : AreMetVersions index versions
    pub few : length nodes ≤ suc (length versions)
    pub each : (n : ℕ) (o : Owner) (v : NodeView) → slice_get (owners_of index versions) n ≡ Some o
        → slice_get nodes n ≡ Some v → IsNode q LeadsTo (owners_of index versions) n o v

  pub begun : (versions : List MetVersion) (nodes : List NodeView) → versions ≡ [] → nodes ≡ [] → SoFar versions nodes
  begun versions nodes e f = record {
    are = subst (AreMetVersions index) (sym e)
        (record { distinct = pairs_none (λ s t. s ≢ t); there = all_none (IsThere index) });
    few = let none = ap length f in omega (arith, none);
    each = λ n o v at got. absurd (none-some v (sym (ap (λ ns. slice_get ns n) f) ∙ got));
  }

  pub one_more : (old new : List MetVersion) (nodes more : List NodeView) (v : NodeView) → SoFar old nodes
      → length nodes ≤ length old → Grows index old new
      → ((o : Owner) → slice_get (owners_of index old) (length nodes) ≡ Some o → v.brings ≡ owner_brings q o)
      → v.starts ≡ nat_eq (length nodes) 0
      → ((o : Owner) → slice_get (owners_of index old) (length nodes) ≡ Some o
      → AreLeads q LeadsTo (owners_of index new) o (v.brings).dependencies v.targets)
      → more ≡ nodes ++ v ∷ [] → SoFar new more
  one_more old new nodes more v h lt g brings starts leads e = record {
    are = g.still h.are;
    few =
        let count = ap length e ∙ length-append nodes (v ∷ []) in
        let longer = ap length g.is ∙ length-append old g.more in
        omega (arith, count, longer, lt);
    each = λ n o w at got. elim (get_push_cases nodes v n w (sym (ap (λ ns. slice_get ns n) e) ∙ got)) [
      | inl before ↦ earlier n o w at before
      | inr last ↦ later n o w at last.0 last.1
    ];
  }
    where
      owner_before : (n : ℕ) (o : Owner) → n ≤ length nodes → slice_get (owners_of index new) n ≡ Some o
          → slice_get (owners_of index old) n ≡ Some o
      owner_before n o le at =
          let wide = many_owners index old in
          let (u, there) = some_at (owners_of index old) n (omega (arith, le, lt, wide)) in
          there ∙ (sym (owner_on index old new g n u there) ∙ at)

      earlier : (n : ℕ) (o : Owner) (w : NodeView) → slice_get (owners_of index new) n ≡ Some o
          → slice_get nodes n ≡ Some w → IsNode q LeadsTo (owners_of index new) n o w
      earlier n o w at before =
          let below = slice_get_within nodes n w before in
          let node = h.each n o w (owner_before n o (omega (arith, below)) at) before in
          record {
            brings = node.brings;
            starts = node.starts;
            leads =
                leads_on old new g o (w.brings).dependencies w.targets node.leads;
          }

      later : (n : ℕ) (o : Owner) (w : NodeView) → slice_get (owners_of index new) n ≡ Some o → n ≡ length nodes → v ≡ w
          → IsNode q LeadsTo (owners_of index new) n o w
      later n o w at last is =
          let here : slice_get (owners_of index old) (length nodes) ≡ Some o =
          ap (slice_get (owners_of index old)) (sym last) ∙ owner_before n o (omega (arith, last)) at in
          subst (IsNode q LeadsTo (owners_of index new) n o) is (record {
            brings = brings o here;
            starts = starts ∙ ap (λ k. nat_eq k 0) (sym last);
            leads = leads o here;
          })

  pub all_met : (versions : List MetVersion) (nodes : List NodeView) → IsStore index → SoFar versions nodes
      → length versions < length nodes → AreMet q LeadsTo (owners_of index versions) nodes
  all_met versions nodes store h lt = record {
    as_many = let few = h.few in let wide = many_owners index versions in omega (arith, few, lt, wide);
    distinct = owners_once index store versions h.are;
    root = refl;
    each = h.each;
  }
