-- Two versions of one class are never in one valid selection.
use Rattle.std.proofs.Common.{◌≡◌, ◌≢◌, ◌⊎◌, ℕ, ◌≤◌, ◌+◌, ◌-◌, Bool, true, false, not, List, [], ◌∷◌, ◌++◌, map, Contains, Some}
use Rattle.std.proofs.Common.{◌&&◌, ◌||◌, cond, slice_get, refl, sym, ap, ap₂, ◌∙◌, subst, inl, inr, arith, true≢false}
use Rattle.std.specs.List.{list_any}
use Rattle.std.proofs.lemmas.Option.{same_Some}
use Rattle.indexmap.specs.IndexSet.{insert_key}
use Rattle.semver.specs.Parse.{Parts}
use Rattle.classes.proofs.SameClass.{class_same}
use Rattle.classes.specs.Classes.{class_view}
use Rattle.classes.specs.contracts.class.ClassPartialEq.TheImpl as class_eq
use Rattle.model.specs.Content.{Candidate, Content, Package, Problem, is_root}
use Rattle.model.specs.Selected.{IsPreferred}
use Rattle.model.specs.Selection.{class_of, here}
use Rattle.model.specs.Summary.{Dependency, same_text}
use Rattle.model.specs.Vertices.{Owner, the_root, version_of}
use Rattle.model.specs.Walk.{IsReachedFact, Picks, name_of}
use Rattle.model.proofs.Inner.{name_in, version_in}
use Rattle.model.proofs.Lists.{in_cons, in_first, in_none, in_rest, pairs_get}
use Rattle.model.proofs.Same.{both, class-same, text-same}
use Rattle.manifest.specs.Manifests.{root_asks}
use Rattle.facts.specs.inner.Graphs.{NodeView, flag_at}
use Rattle.facts.specs.inner.Nodes.{AreFlags, AreMet}
use Rattle.facts.proofs.Found.{here_far}
use Rattle.selection.specs.declared.taking.TakenClass.{TakenClass}
use Rattle.catalogue.specs.Stores.{CatalogueView}
use Rattle.selection.specs.declared.met.MetVersion.{MetVersion}
use Rattle.selection.specs.inner.Contents.{met_owner, owners_of}
use Rattle.selection.specs.inner.Followed.{PicksFollowed}
use Rattle.selection.specs.inner.Taking.{IsOfClass, IsTakenAt, Taken, Takes, TakesTwice, taken_view}
use Rattle.selection.proofs.Followed.{still}
use Rattle.selection.proofs.MetVersions.{owner_at_met}

-- ---- one class more

abbrev pub same_taken : TakenClass → TakenClass → Bool
same_taken s t = same_text s.name t.name && (class_eq.eq-value).it s.class t.class

root_apart : (n : List ℕ) (v : Parts) → the_root ≡ version_of n v → ⊥
root_apart n v e = cc

taken_same : (s t : TakenClass) → same_taken s t ≡ true → taken_view t ≡ taken_view s
taken_same s t h =
    let e = both (same_text s.name t.name) ((class_eq.eq-value).it s.class t.class) h in
    ap₂ (λ n c. (n, c)) (sym (text-same s.name t.name e.0))
    (sym (class-same (class_view s.class) (class_view t.class) (sym (class_same s.class t.class) ∙ e.1)))

was_in : (s : TakenClass) (ts : List TakenClass) → list_any (same_taken s) ts ≡ true
    → Contains (map taken_view ts) (taken_view s)
was_in s [] h = absurd (true≢false (sym h))
was_in s (t ∷ ts) h = by (same_taken s t) refl (λ later. was_in s ts later) h
  where
    by : (b : Bool) → same_taken s t ≡ b
        → (list_any (same_taken s) ts ≡ true → Contains (map taken_view ts) (taken_view s))
        → (b || list_any (same_taken s) ts) ≡ true → Contains (map taken_view (t ∷ ts)) (taken_view s)
    by true is rest h = subst (Contains (map taken_view (t ∷ ts))) (taken_same s t is) (in_first (taken_view t) (map taken_view ts))
    by false is rest h = in_rest (taken_view t) (taken_view s) (map taken_view ts) (rest h)

one_more : (ts : List TakenClass) (t : TakenClass) (x : Taken) → Contains (map taken_view (ts ++ t ∷ [])) x
    → Contains (map taken_view ts) x ⊎ (x ≡ taken_view t)
one_more [] t x h = elim (in_cons (taken_view t) x [] h) [ inl e ↦ inr (sym e) | inr r ↦ absurd (in_none x r) ]
one_more (y ∷ ts) t x h = elim (in_cons (taken_view y) x (map taken_view (ts ++ t ∷ [])) h) [
  | inl e ↦ inl (subst (Contains (map taken_view (y ∷ ts))) e (in_first (taken_view y) (map taken_view ts)))
  | inr r ↦ elim (one_more ts t x r) [
    | inl l ↦ inl (in_rest (taken_view y) x (map taken_view ts) l)
    | inr e ↦ inr e
  ]
]

pub takes : (old new : List TakenClass) (t : TakenClass) (added b : Bool) → added ≡ not (list_any (same_taken t) old)
    → b ≡ not added → new ≡ insert_key same_taken old t → Takes old new (taken_view t) b
takes old new t added b is not_added e = by (list_any (same_taken t) old) refl
  where
    by : (a : Bool) → list_any (same_taken t) old ≡ a → Takes old new (taken_view t) b
    by true h = record {
      was = λ it. was_in t old h;
      more = λ x c. inl (subst (λ (ts : List TakenClass). Contains (map taken_view ts) x)
          (e ∙ ap (λ b. cond b old (old ++ t ∷ [])) h) c);
    }
    by false h = record {
      was = λ it. absurd (true≢false (sym it ∙ not_added ∙ ap not (is ∙ ap not h)));
      more = λ x c. one_more old t x (subst (λ (ts : List TakenClass). Contains (map taken_view ts) x)
          (e ∙ ap (λ b. cond b old (old ++ t ∷ [])) h) c);
    }

-- a version that is looked at
pub taken_at : (index : CatalogueView) (versions : List MetVersion) (is_here : List Bool) (n : ℕ) (s : MetVersion)
    (k : Taken) → slice_get versions n ≡ Some s → IsOfClass (met_owner index s) k → flag_at is_here (n + 1) ≡ true
    → IsTakenAt (owners_of index versions) is_here k (n + 1)
taken_at index versions is_here n s k got of flag =
    let is : n + 1 - 1 ≡ n = omega arith in
    record {
      owner = met_owner index s;
      at = owner_at_met index versions (n + 1) s (λ (e : n + 1 ≡ 0). omega (arith, e)) (ap (slice_get versions) is ∙ got);
      is = of;
      here = flag;
    }

abbrev pub AreTaken : CatalogueView → List MetVersion → List Bool → ℕ → List TakenClass → Type 0
AreTaken index versions is_here at ts = (k : Taken) → Contains (map taken_view ts) k
    → (n : ℕ) × (n ≤ at) × IsTakenAt (owners_of index versions) is_here k n

pub taken_on : (index : CatalogueView) (versions : List MetVersion) (is_here : List Bool) (at : ℕ)
    (old new : List TakenClass) (k : Taken) (b : Bool) → AreTaken index versions is_here at old → Takes old new k b
    → IsTakenAt (owners_of index versions) is_here k (at + 1) → AreTaken index versions is_here (at + 1) new
taken_on index versions is_here at old new k b before t now = λ x h. elim (t.more x h) [
  | inl l ↦ let (n, le, there) = before x l in (n, omega (arith, le), there)
  | inr e ↦ (at + 1, omega arith, subst (λ k. IsTakenAt (owners_of index versions) is_here k (at + 1)) (sym e) now)
]

-- ---- what is here twice

module _ (q : Problem) (preferred : List (List ℕ × List Candidate)) (asked : List (List Bool)) (all : Bool)
    (owners : List Owner) (nodes : List NodeView) (asks : q.root_asks ≡ root_asks q.brings.features)
    (met : AreMet q (PicksFollowed all asked owners q preferred) owners nodes) (flags : List Bool)
    (lists : List (List Bool)) (are : AreFlags nodes flags lists) where
  abbrev Led : Owner → ℕ → Dependency → Owner → Type 0
  Led = PicksFollowed all asked owners q preferred

  far : (n : ℕ) (o : Owner) → slice_get owners n ≡ Some o → flag_at flags n ≡ true
      → IsReachedFact q (Picks q preferred) (here o)
  far n o at flag = still q (Picks q preferred) Led (λ o t i d l. l.1) (here o)
      (here_far q Led owners nodes met asks n o at ((are.each_here n).0 flag))

  module _ (content : Content) (it : IsPreferred q preferred content) where
    record IsAt (o : Owner) : Type 0 where
      pub place : ℕ
      pub found : Package
      pub got : slice_get content place ≡ Some found
      pub name : name_of q found ≡ o

    at : (n : ℕ) (o : Owner) → slice_get owners n ≡ Some o → flag_at flags n ≡ true → IsAt o
    at n o there flag = let (k, p, got, is) = (it.walk.packages o).0 (far n o there flag) in
        record { place = k; found = p; got = got; name = is }

    other : (p : Package) (n : List ℕ) (v : Parts) → name_of q p ≡ version_of n v
        → (is_root q p ≡ false) × (p.name ≡ n) × (p.version ≡ v)
    other p n v e = by (is_root q p) refl
      where
        by : (b : Bool) → is_root q p ≡ b → (is_root q p ≡ false) × (p.name ≡ n) × (p.version ≡ v)
        by true h = absurd (root_apart n v (sym (ap (λ b. cond b the_root (version_of p.name p.version)) h) ∙ e))
        by false h =
            let is : version_of p.name p.version ≡ version_of n v =
            sym (ap (λ b. cond b the_root (version_of p.name p.version)) h) ∙ e in
            (h, name_in p.name n p.version v is, version_in p.name n p.version v is)

    pub none_twice : TakesTwice owners flags → ⊥
    none_twice t =
        let a = t.at_first in
        let b = t.at_second in
        let x = at t.first a.owner a.at a.here in
        let y = at t.second b.owner b.at b.here in
        let (apart_x, name_x, version_x) = other x.found (t.taken).0 a.is.version (x.name ∙ a.is.is) in
        let (apart_y, name_y, version_y) = other y.found (t.taken).0 b.is.version (y.name ∙ b.is.is) in
        let same : x.place ≡ y.place = it.valid.one_in_class x.place y.place x.found y.found
        (x.got, apart_x) (y.got, apart_y) (name_x ∙ sym name_y)
        (ap class_of version_x ∙ a.is.class ∙ sym (ap class_of version_y ∙ b.is.class)) in
        let packages : x.found ≡ y.found =
        same_Some x.found y.found (sym x.got ∙ ap (slice_get content) same ∙ y.got) in
        pairs_get (λ a b. a ≢ b) owners t.first t.second a.owner b.owner met.distinct t.lower a.at b.at
        (sym x.name ∙ ap (name_of q) packages ∙ y.name)
