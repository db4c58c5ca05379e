-- What is put for an owner, a package and a class is noted there, and what was noted is so still.
use Rattle.std.proofs.Common.{◌≡◌, ◌⊎◌, ℕ, zero, suc, List, [], ◌∷◌, ◌++◌, ◌&&◌, ◌||◌, Bool, true, false, not, cond}
use Rattle.std.proofs.Common.{Contains}
use Rattle.std.proofs.Common.{Option, Some, nat_eq, slice_get, arith}
use Rattle.std.proofs.Common.{Vec, map, refl, sym, ap, ap₂, ◌∙◌, subst, unwrap_or, inl, inr, ◌+◌, ◌<◌, length, drop}
use Rattle.std.proofs.Common.{get_or}
use Rattle.std.specs.HashMap.{HashMap, get}
use Rattle.std.specs.List.{flat_map, list_any}
use Rattle.std.specs.Map.{lookup}
use Rattle.std.specs.declared.alloc.Global.{Global}
use Rattle.std.proofs.lemmas.Bool.{and_from}
use Rattle.std.proofs.lemmas.List.{drop_more, map-append}
use Rattle.std.proofs.lemmas.Option.{none-some, same_Some}
use Rattle.std.proofs.lemmas.List.Elements.{Contains-append_left, Contains-append_right}
use Rattle.classes.specs.Classes.{class_view}
use Rattle.classes.specs.contracts.class.ClassPartialEq.TheImpl as class_eq
use Rattle.classes.specs.declared.class.Class as code
use Rattle.model.specs.Axioms.{is_lower}
use Rattle.model.specs.Content.{Problem}
use Rattle.model.specs.Selection.{Class}
use Rattle.model.specs.Summary.{Dependency, same_text}
use Rattle.model.specs.Vertices.{Owner, dep, dep_classes, in_class, same_class, same_owner}
use Rattle.model.proofs.Flat.{to_flat}
use Rattle.model.proofs.Lists.{in_cons, in_first, in_none, in_rest, to_filter}
use Rattle.model.proofs.Same.{both, class-refl, class-same, owner-refl, owner-same, text-refl, text-same}
use Rattle.model.specs.Causes.{dependency_at}
use Rattle.vertices.specs.inner.RefViews.{owner_ref_view}
use Rattle.numbering.specs.inner.AskedFor.{AreBeside, HasBeside, HasOther, IsNoted, IsNotedFor, KeepsListed, KeepsNoted}
use Rattle.numbering.specs.inner.AskedFor.{NotedKey, is_key, listed_at, listed_if, noted_beside, noted_views}
use Rattle.numbering.specs.inner.AskedFor.{same_noted_key}
use Rattle.numbering.specs.inner.Indexed.{same_owner_key, same_ref}
use Rattle.numbering.specs.inner.Called.{numbered_from, numbered_view, numbered_views}
use Rattle.numbering.specs.inner.Lists.{if_some}
use Rattle.numbering.specs.inner.OnPackage.{is_other, on_package}
use Rattle.numbering.specs.Pairs.{Pair}
use Rattle.numbering.specs.declared.called.Numbered.{Numbered}
use Rattle.numbering.specs.declared.noted.Listed.{Listed}
use Rattle.numbering.specs.declared.noted.Noted.{Noted}
use Rattle.numbering.proofs.ListLaws.{pushed, some_or}
use Rattle.classes.proofs.SameClass.{class_same}

abbrev Those : Type 0
Those = Vec (ℕ × code.Class) Global

-- ---- keys, and what they stand for

abbrev of_key : NotedKey → NotedKey → Bool
of_key k = is_key (owner_ref_view (k.0).0) (k.0).1.now (class_view k.1)

lookup_same : (f g : NotedKey → Bool) (es : List (NotedKey × Those)) → ((k : NotedKey) → f k ≡ g k)
    → lookup f es ≡ lookup g es
lookup_same f g [] e = refl
lookup_same f g (x ∷ es) e = ap₂ (λ b o. cond b (Some x.1) o) (e x.0) (lookup_same f g es e)

key_is : (k x : NotedKey) → same_noted_key k x ≡ of_key k x
key_is k x = ap (λ b. same_owner_key k.0 x.0 && b) (class_same k.1 x.1)

-- what is noted for what a key stands for is what stands at it
pub those_at : (l : Listed) (k : NotedKey) → noted_views (if_some (get same_noted_key l.on k))
    ≡ listed_at l (owner_ref_view (k.0).0) (k.0).1.now (class_view k.1)
those_at l k =
    ap (λ (o : Option Those). noted_views (if_some o))
    (lookup_same (same_noted_key k) (of_key k) l.on.entries (key_is k))

-- the key at which something stands
key_of : (test : NotedKey → Bool) (es : List (NotedKey × Those)) (p : ℕ × Class)
    → Contains (noted_views (if_some (lookup test es))) p → (k : NotedKey) × (test k ≡ true)
key_of test [] p h = absurd (in_none p h)
key_of test (e ∷ es) p h = by (test e.0) refl (key_of test es p) h
  where
    by : (b : Bool) → test e.0 ≡ b
        → (Contains (noted_views (if_some (lookup test es))) p → (k : NotedKey) × (test k ≡ true))
        → Contains (noted_views (if_some (cond b (Some e.1) (lookup test es)))) p → (k : NotedKey) × (test k ≡ true)
    by true is later h = (e.0, is)
    by false is later h = later h

at_key : (l : Listed) (o : Owner) (x : List ℕ) (m : Class) (k : NotedKey) → is_key o x m k ≡ true
    → listed_at l o x m ≡ listed_at l (owner_ref_view (k.0).0) (k.0).1.now (class_view k.1)
at_key l o x m k h =
    let p = owner_ref_view (k.0).0 in
    let y = (k.0).1.now in
    let e = both (same_owner o p && same_text x y) (same_class m (class_view k.1)) h in
    let f = both (same_owner o p) (same_text x y) e.0 in
    ap₂ (λ o x. listed_at l o x m) (owner-same o p f.0) (text-same x y f.1)
    ∙ ap (listed_at l p y) (class-same m (class_view k.1) e.1)

key_alike : {S : Type 0} (m : HashMap NotedKey Those S) (k x : NotedKey) → same_noted_key k x ≡ true
    → get same_noted_key m k ≡ get same_noted_key m x
key_alike m k x h =
    let e = both (same_owner_key k.0 x.0) ((class_eq.eq-value).it k.1 x.1) h in
    let f = both (same_ref (k.0).0 (x.0).0) (same_text (k.0).1.now (x.0).1.now) e.0 in
    let class : class_view k.1 ≡ class_view x.1 =
    class-same (class_view k.1) (class_view x.1) (sym (class_same k.1 x.1) ∙ e.1) in
    let owner = owner-same (owner_ref_view (k.0).0) (owner_ref_view (x.0).0) f.0 in
    let text = text-same (k.0).1.now (x.0).1.now f.1 in
    lookup_same (same_noted_key k) (same_noted_key x) m.entries
    (λ y. ap₂ (λ a b. a && b)
    (ap₂ (λ o n. same_owner o (owner_ref_view (y.0).0) && same_text n (y.0).1.now) owner text)
    (class_same k.1 y.1 ∙ ap (λ c. same_class c (class_view y.1)) class ∙ sym (class_same x.1 y.1)))

key_itself : (k : NotedKey) → same_noted_key k k ≡ true
key_itself k = and_from (same_owner_key k.0 k.0) ((class_eq.eq-value).it k.1 k.1)
    (and_from (same_ref (k.0).0 (k.0).0) (same_text (k.0).1.now (k.0).1.now) (owner-refl (owner_ref_view (k.0).0))
    (text-refl (k.0).1.now)) (class_same k.1 k.1 ∙ class-refl (class_view k.1))

-- ---- what is put

-- where each key has what it had, and maybe more
kept_by : (old new : Listed) → ((k : NotedKey) (p : ℕ × Class)
    → Contains (noted_views (if_some (get same_noted_key old.on k))) p
    → Contains (noted_views (if_some (get same_noted_key new.on k))) p) → KeepsListed old new
kept_by old new each o x m p h =
    let r = key_of (is_key o x m) old.on.entries p h in
    let k = r.0 in
    subst (λ ps. Contains ps p) (sym (at_key new o x m k r.1)) (subst (λ ps. Contains ps p) (those_at new k)
    (each k p (subst (λ ps. Contains ps p) (sym (those_at old k))
    (subst (λ ps. Contains ps p) (at_key old o x m k r.1) h))))

-- where a key has the same list again, or an empty one
module _ (old new : Listed) (k : NotedKey) (w : Those)
    (is : (x : NotedKey)
    → get same_noted_key new.on x ≡ cond (same_noted_key k x) (Some w) (get same_noted_key old.on x))
    {found : Option Those} (before none : Those) (had : found ≡ get same_noted_key old.on k)
    (or : before ≡ unwrap_or found none) (empty : none.items ≡ []) (same : w.items ≡ before.items) where
  same_list : (x : NotedKey) → if_some (get same_noted_key new.on x) ≡ if_some (get same_noted_key old.on x)
  same_list x = ap if_some (is x) ∙ by (same_noted_key k x) refl
    where
      by : (b : Bool) → same_noted_key k x ≡ b
          → if_some (cond b (Some w) (get same_noted_key old.on x)) ≡ if_some (get same_noted_key old.on x)
      by true e = same ∙ ap (λ v. v.items) (or ∙ ap (λ o. unwrap_or o none) had)
          ∙ sym (some_or (get same_noted_key old.on k) none empty) ∙ ap if_some (key_alike old.on k x e)
      by false e = refl

  pub same_kept : KeepsListed old new
  same_kept = kept_by old new (λ x p h. subst (λ ps. Contains (noted_views ps) p) (sym (same_list x)) h)

-- one that is put behind those of its key
module _ (old new : Listed) (k : NotedKey) (value : ℕ × code.Class) (w : Those)
    (is : (x : NotedKey)
    → get same_noted_key new.on x ≡ cond (same_noted_key k x) (Some w) (get same_noted_key old.on x))
    {found : Option Those} (before none : Those) (had : found ≡ get same_noted_key old.on k)
    (or : before ≡ unwrap_or found none) (empty : none.items ≡ []) (more : w.items ≡ before.items ++ value ∷ []) where
  pushed_views : (x : NotedKey) → noted_views (if_some (get same_noted_key new.on x))
      ≡ noted_views (if_some (get same_noted_key old.on x)) ++ noted_views (cond (same_noted_key k x) (value ∷ []) [])
  pushed_views x =
      ap noted_views
      (pushed same_noted_key old.on new.on k value w (key_alike old.on k) is before none had or empty more x)
      ∙ map-append (λ (p : ℕ × code.Class). (p.0, class_view p.1)) (if_some (get same_noted_key old.on x))
      (cond (same_noted_key k x) (value ∷ []) [])

  pub pushed_kept : KeepsListed old new
  pushed_kept = kept_by old new (λ x p h. subst (λ ps. Contains ps p) (sym (pushed_views x))
      (Contains-append_left (noted_views (if_some (get same_noted_key old.on x))) _ p h))

  pub pushed_there : Contains (listed_at new (owner_ref_view (k.0).0) (k.0).1.now (class_view k.1))
      (value.0, class_view value.1)
  pushed_there =
      let p : ℕ × Class = (value.0, class_view value.1) in
      subst (λ ps. Contains ps p) (those_at new k) (subst (λ ps. Contains ps p) (sym (pushed_views k))
      (Contains-append_right (noted_views (if_some (get same_noted_key old.on k))) _ p
      (subst (λ b. Contains (noted_views (cond b (value ∷ []) [])) p) (sym (key_itself k)) (in_first p []))))

-- after one class as many less are left
pub above_step : (old new : Listed) (o : Owner) (x : List ℕ) (p : ℕ × Class) (ks : List code.Class) (n : ℕ)
    (e : code.Class) → n < length ks → KeepsListed old new
    → (is_lower p.1 (class_view (get_or ks n e)) ≡ true → Contains (listed_at new o x (class_view (get_or ks n e))) p)
    → (m : Class) → is_lower p.1 m ≡ true
    → Contains (listed_at old o x m) p ⊎ Contains (map class_view (drop n ks)) m
    → Contains (listed_at new o x m) p ⊎ Contains (map class_view (drop (n + 1) ks)) m
above_step old new o x p ks n e within keeps put m lower (inl h) = inl (keeps o x m p h)
above_step old new o x p ks n e within keeps put m lower (inr h) =
    elim (in_cons (class_view (get_or ks n e)) m (map class_view (drop (n + 1) ks))
    (subst (λ l. Contains (map class_view l) m) (drop_more ks n e within) h)) [
      | inl same ↦ inl (subst (λ c. Contains (listed_at new o x c) p) same
          (put (subst (λ c. is_lower p.1 c ≡ true) (sym same) lower)))
      | inr later ↦ inr later
    ]

-- ---- pairs

pair_in : (o p : Owner) (i j : ℕ) (k l : Class) → ◌≡◌ {A = Pair} (dep o i, in_class k) (dep p j, in_class l)
    → (o ≡ p) × (i ≡ j) × (k ≡ l)
pair_in o p i j k l e = (
  owner_in o p i j (ap (λ (r : Pair). r.0) e),
  number_in o p i j (ap (λ (r : Pair). r.0) e),
  class_in k l (ap (λ (r : Pair). r.1) e),
)
  where
    owner_in : (o p : Owner) (i j : ℕ) → dep o i ≡ dep p j → o ≡ p
    owner_in o p i j e = cc

    number_in : (o p : Owner) (i j : ℕ) → dep o i ≡ dep p j → i ≡ j
    number_in o p i j e = cc

    class_in : (k l : Class) → in_class k ≡ in_class l → k ≡ l
    class_in k l e = cc

-- what was noted is so afterwards
pub noted_still : (q : Problem) (old new : Noted) (p : Pair) → KeepsNoted old new → IsNoted q old p → IsNoted q new p
noted_still q old new p keeps was o i d k is at other =
    let w = was o i d k is at other in
    record {
      here = keeps.here o d.real_name k (i, k) w.here;
      lower = λ m there lower. keeps.lower o d.real_name m (i, k) (w.lower m there lower);
    }

-- an owner, a dependency with its number, and a class
abbrev Led : Type 0
Led = Owner × ℕ × Dependency × Class

module _ (q : Problem) (ns : Noted) (o : Owner) (i : ℕ) (d : Dependency) (k : Class)
    (at : dependency_at q o i ≡ Some d) where
  same_led : (p : Owner) (j : ℕ) (e : Dependency) (l : Class)
      → ◌≡◌ {A = Pair} (dep o i, in_class k) (dep p j, in_class l)
      → dependency_at q p j ≡ Some e → ◌≡◌ {A = Led} (o, i, d, k) (p, j, e, l)
  same_led p j e l is at_j =
      let r = pair_in o p i j k l is in
      let same_d : d ≡ e = same_Some d e (sym at ∙ ap₂ (dependency_at q) r.0 r.1 ∙ at_j) in
      λ t. (r.0 t, r.1 t, same_d t, r.2 t)

  -- that of a dependency and a class is noted, where it is for its class and for each higher one
  pub noted_as : (HasOther q o i d → IsNotedFor q ns o i d k) → IsNoted q ns (dep o i, in_class k)
  noted_as there p j e l is at_j =
      subst (λ (x : Led). HasOther q x.0 x.1 x.2 → IsNotedFor q ns x.0 x.1 x.2 x.3) (same_led p j e l is at_j) there

  -- all that is noted for its classes is beside it
  pub beside_as : (ps : List (ℕ × Class)) → (HasOther q o i d → ps ≡ noted_beside q ns o d k)
      → AreBeside q ns (dep o i, in_class k) ps
  beside_as ps all p j e l is at_j =
      subst (λ (x : Led). HasOther q x.0 x.1 x.2 → HasBeside q ns x.0 x.2 x.3 ps) (same_led p j e l is at_j)
      (λ other. subst (HasBeside q ns o d k) (sym (all other)) (record {
        lower = λ r h. Contains-append_left (listed_at ns.lower o d.real_name k)
            (flat_map (listed_if ns.here o d.real_name k) (dep_classes q d)) r h;
        higher = λ m there lower r h. Contains-append_right (listed_at ns.lower o d.real_name k)
            (flat_map (listed_if ns.here o d.real_name k) (dep_classes q d)) r
            (to_flat (listed_if ns.here o d.real_name k) (dep_classes q d) m r there
            (subst (λ b. Contains (cond b (listed_at ns.here o d.real_name m) []) r) (sym lower) h));
      }))

-- ---- others on the package

numbered_there : (n : ℕ) (ds : List Dependency) (i : ℕ) (d : Dependency) → slice_get ds i ≡ Some d
    → Contains (numbered_from n ds) (n + i, d)
numbered_there n [] i d e = absurd (none-some d e)
numbered_there n (x ∷ ds) zero d e =
    let z : n ≡ n + 0 = omega arith in
    in_head (n, x) (n + 0, d) (numbered_from (n + 1) ds) (λ t. (z t, same_Some x d e t))
  where
    in_head : (a b : ℕ × Dependency) (l : List (ℕ × Dependency)) → a ≡ b → Contains (a ∷ l) b
    in_head a b l e = subst (Contains (a ∷ l)) e (in_first a l)
numbered_there n (x ∷ ds) (suc i) d e =
    let z : (n + 1) + i ≡ n + suc i = omega arith in
    in_rest (n, x) (n + suc i, d) (numbered_from (n + 1) ds)
    (subst (λ m. Contains (numbered_from (n + 1) ds) (m, d)) z (numbered_there (n + 1) ds i d e))

-- one that has another number and is on the package is found among those on it
pub another : (ds : List Dependency) (number j : ℕ) (x : List ℕ) (e : Dependency) (ns : List Numbered)
    → numbered_views ns ≡ on_package x (numbered_from 0 ds) → slice_get ds j ≡ Some e → is_other number x j e ≡ true
    → list_any (λ n. not (nat_eq number n.number)) ns ≡ true
another ds number j x e ns are at is =
    let r = both (not (nat_eq number j)) (same_text x e.real_name) is in
    let z : 0 + j ≡ j = omega arith in
    let there : Contains (numbered_from 0 ds) (j, e) =
    subst (λ m. Contains (numbered_from 0 ds) (m, e)) z (numbered_there 0 ds j e at) in
    let on : same_text e.real_name x ≡ true =
    subst (λ t. same_text e.real_name t ≡ true) (sym (text-same x e.real_name r.1)) (text-refl e.real_name) in
    found ns r.0 (subst (λ l. Contains l (j, e)) (sym are)
    (to_filter (λ (p : ℕ × Dependency). same_text p.1.real_name x) (numbered_from 0 ds) (j, e) there on))
  where
    or_true : (a b : Bool) → b ≡ true → (a || b) ≡ true
    or_true true b e = refl
    or_true false b e = e

    found : (ns : List Numbered) → not (nat_eq number j) ≡ true → Contains (numbered_views ns) (j, e)
        → list_any (λ n. not (nat_eq number n.number)) ns ≡ true
    found [] ne h = absurd (in_none (j, e) h)
    found (n ∷ ns) ne h = elim (in_cons (numbered_view n) (j, e) (numbered_views ns) h) [
      | inl same ↦
          let here : not (nat_eq number n.number) ≡ true =
          subst (λ m. not (nat_eq number m) ≡ true) (sym (ap (λ (p : ℕ × Dependency). p.0) same)) ne in
          ap (λ b. b || list_any (λ n. not (nat_eq number n.number)) ns) here
      | inr later ↦ or_true (not (nat_eq number n.number)) (list_any (λ n. not (nat_eq number n.number)) ns)
          (found ns ne later)
    ]
