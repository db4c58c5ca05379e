-- What the test of completeness says: that the walk is complete.
use Rattle.std.proofs.Common.{◌≡◌, ℕ, zero, suc, Bool, true, false, not, ◌||◌, List, [], ◌∷◌, map, Option, Some, None}
use Rattle.std.proofs.Common.{Vec, slice_get, is_some, refl, sym, subst, arith, true≢false}
use Rattle.std.specs.declared.alloc.Global.{Global}
use Rattle.std.proofs.lemmas.Bool.{and_from}
use Rattle.std.proofs.lemmas.Option.{slice_get_within, same_Some, none-some}
use Rattle.model.proofs.Same.{both}
use Rattle.model.proofs.Places.{some_at}
use Rattle.model.specs.Summary.{Summary, Dependency}
use Rattle.model.specs.Selection.{enabled, Brings}
use Rattle.model.specs.Content.{Candidate, Problem}
use Rattle.model.specs.Vertices.{Owner, owner_brings}
use Rattle.model.specs.Walk.{IsReachedFact, IsComplete, Picks}
use Rattle.manifest.specs.Manifests.{root_asks}
use Rattle.facts.specs.inner.Graphs.{NodeView, node_view, node_views, flag_at, flag_in}
use Rattle.facts.specs.declared.node.Node.{Node}
use Rattle.facts.specs.inner.Nodes.{AreFlags, AreMet, IsLead}
use Rattle.facts.proofs.Found.{enabled_far, near_of, node_at, owner_there, stands}
use Rattle.selection.specs.inner.Followed.{AreFollowed, PicksFollowed}
use Rattle.selection.specs.inner.Met.{are_met, all_met}
use Rattle.selection.specs.inner.Rounds.{AreEnough}
use Rattle.selection.proofs.Followed.{already, stands_still, still}

is_met : (t : Option ℕ) (b : Bool) → (is_some t || not b) ≡ true → b ≡ true → is_some t ≡ true
is_met (Some x) b h e = refl
is_met None true h e = h
is_met None false h e = absurd (true≢false (sym e))

met_if : (t : Option ℕ) (b : Bool) → (b ≡ true → is_some t ≡ true) → (is_some t || not b) ≡ true
met_if (Some x) b h = refl
met_if None true h = h refl
met_if None false h = refl

each_met : (ts : List (Option ℕ)) (bs : List Bool) → are_met bs ts ≡ true → (i : ℕ) (t : Option ℕ)
    → slice_get ts i ≡ Some t → flag_at bs i ≡ true → is_some t ≡ true
each_met [] bs h i t got flag = absurd (none-some t got)
each_met (u ∷ ts) [] h i t got flag = absurd (true≢false (sym flag))
each_met (u ∷ ts) (b ∷ bs) h zero t got flag =
    subst (λ o. is_some o ≡ true) (same_Some u t got) (is_met u b (both (is_some u || not b) (are_met bs ts) h).0 flag)
each_met (u ∷ ts) (b ∷ bs) h (suc i) t got flag =
    each_met ts bs (both (is_some u || not b) (are_met bs ts) h).1 i t got flag

if_each_met : (ts : List (Option ℕ)) (bs : List Bool)
    → ((i : ℕ) (t : Option ℕ) → slice_get ts i ≡ Some t → flag_at bs i ≡ true → is_some t ≡ true) → are_met bs ts ≡ true
if_each_met [] bs h = refl
if_each_met (u ∷ ts) [] h = refl
if_each_met (u ∷ ts) (b ∷ bs) h = and_from (is_some u || not b) (are_met bs ts) (met_if u b (h 0 u refl))
    (if_each_met ts bs (λ i t got flag. h (suc i) t got flag))

abbrev lists_of : List (Vec Bool Global) → List (List Bool)
lists_of vs = map (λ v. v.items) vs

-- each enabled dependency has a target
abbrev pub AllMet : List NodeView → List (List Bool) → Type 0
AllMet nodes lists = (n i : ℕ) (v : NodeView) (target : Option ℕ) → slice_get nodes n ≡ Some v
    → slice_get v.targets i ≡ Some target → flag_in lists n i ≡ true → is_some target ≡ true

pub all_met_says : (nodes : List Node) (vs : List (Vec Bool Global)) → all_met nodes vs ≡ true
    → AllMet (node_views nodes) (lists_of vs)
all_met_says [] vs h n i v target got at flag = absurd (none-some v got)
all_met_says (m ∷ nodes) [] h n i v target got at flag = absurd (true≢false (sym flag))
all_met_says (m ∷ nodes) (w ∷ vs) h zero i v target got at flag =
    each_met m.targets.items w.items (both (are_met w.items m.targets.items) (all_met nodes vs) h).0 i target
    (subst (λ (x : NodeView). slice_get x.targets i ≡ Some target) (sym (same_Some (node_view m) v got)) at) flag
all_met_says (m ∷ nodes) (w ∷ vs) h (suc n) i v target got at flag =
    all_met_says nodes vs (both (are_met w.items m.targets.items) (all_met nodes vs) h).1 n i v target got at flag

pub if_all_met : (nodes : List Node) (vs : List (Vec Bool Global)) → AllMet (node_views nodes) (lists_of vs)
    → all_met nodes vs ≡ true
if_all_met [] vs h = refl
if_all_met (m ∷ nodes) [] h = refl
if_all_met (m ∷ nodes) (w ∷ vs) h = and_from (are_met w.items m.targets.items) (all_met nodes vs)
    (if_each_met m.targets.items w.items (λ i t got flag. h 0 i (node_view m) t refl got flag))
    (if_all_met nodes vs (λ n i v target got at flag. h (suc n) i v target got at flag))

-- ---- the walk

module _ (q : Problem) (preferred : List (List ℕ × List Candidate)) (asked : List (List Bool)) (owners : List Owner)
    (nodes : List NodeView) (asks : q.root_asks ≡ root_asks q.brings.features) (flags : List Bool)
    (lists : List (List Bool)) (are : AreFlags nodes flags lists) where
  abbrev Led : Bool → Owner → ℕ → Dependency → Owner → Type 0
  Led all = PicksFollowed all asked owners q preferred

  module _ (all : Bool) (met : AreMet q (Led all) owners nodes) (have : AllMet nodes lists) where
    -- where each enabled dependency has a target, each leads there
    led : (o : Owner) (i : ℕ) (d : Dependency) → IsReachedFact q (Led all) (enabled o i)
        → Brings (owner_brings q) o i d → (t : Owner) × Led all o i d t
    led o i d on_it b =
        let (n, at, p) = near_of q (Led all) owners nodes met asks (enabled o i) on_it in
        let (v, got, is) = node_at q (Led all) owners nodes met asks n o at in
        let brought : slice_get (v.brings).dependencies i ≡ Some d =
        subst (λ (o : Summary). slice_get o.dependencies i ≡ Some d) (sym is.brings) b in
        let lt = slice_get_within (v.brings).dependencies i d brought in
        let many = (is.leads).as_many in
        let (target, stands) = some_at v.targets i (omega (arith, lt, many)) in
        by target (have n i v target got stands ((are.each_enabled n i).1 p))
        ((is.leads).leads i d target brought stands)
      where
        by : (target : Option ℕ) → is_some target ≡ true → IsLead q (Led all) owners o i d target
            → (t : Owner) × Led all o i d t
        by None e l = absurd (true≢false (sym e))
        by (Some n) e (t, at, l, only) = (t, l)

    -- so each is followed, and the walk is complete
    are_followed : AreFollowed all asked owners q preferred
    are_followed o i d h b = let (t, l) = led o i d h b in l.0

    complete : IsComplete q preferred
    complete = record {
      picks = λ o i d h b. let (t, l) = led o i d (already q (Picks q preferred) (Led all) (λ o t i d l. l.1)
          (λ o t i d h b l. (are_followed o i d h b, l)) (enabled o i) h) b in (t, l.1);
    }

    pub are_enough : AreEnough q preferred owners nodes flags lists
    are_enough = record {
      as_many = met.as_many;
      walk = λ content built. stands_still q (Picks q preferred) (Led all) (λ o t i d l. l.1)
          (λ o t i d h b l. (are_followed o i d h b, l)) content
          (stands q (Led all) owners nodes met asks flags lists are content built);
      complete = complete;
    }

  -- where all are followed and the walk is complete, each enabled dependency has a target
  pub met_if_complete : AreMet q (Led true) owners nodes → IsComplete q preferred → AllMet nodes lists
  met_if_complete met each n i v target got there flag =
      let (o, at) = owner_there q (Led true) owners nodes met asks n v got in
      let is = met.each n o v at got in
      let lt = slice_get_within v.targets i target there in
      let many = (is.leads).as_many in
      let (d, brought) = some_at (v.brings).dependencies i (omega (arith, lt, many)) in
      let near = enabled_far q (Led true) owners nodes met asks n i o at ((are.each_enabled n i).0 flag) in
      let far = still q (Picks q preferred) (Led true) (λ o t i d l. l.1) (enabled o i) near in
      let (t, l) =
      each.picks o i d far (subst (λ (o : Summary). slice_get o.dependencies i ≡ Some d) is.brings brought) in
      by o d t target ((n, at, refl), l) ((is.leads).leads i d target brought there)
    where
      by : (o : Owner) (d : Dependency) (t : Owner) (target : Option ℕ) → Led true o i d t
          → IsLead q (Led true) owners o i d target → is_some target ≡ true
      by o d t None l none = absurd (none t l)
      by o d t (Some s) l p = refl
