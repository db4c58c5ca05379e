-- What is kept stays right, where one more is kept.
use Rattle.std.proofs.Common.{◌≡◌, true, List, Some, Result, OnOk, OnErr, Vec, map}
use Rattle.std.proofs.Common.{sym, ap, ap₂, ◌∙◌, subst, ℕ, Option, None, IfSome, drop, take, ◌-◌}
use Rattle.std.specs.Borrow.{Bor}
use Rattle.std.specs.Option.{ForSome}
use Rattle.std.specs.Slice.{IsGetRangeResult}
use Rattle.std.proofs.lemmas.List.{drop-map, take-map}
use Rattle.std.specs.HashMap.{HashMap, IsUnchanged, Updates}
use Rattle.std.specs.declared.alloc.Global.{Global}
use Rattle.std.proofs.lemmas.Option.{same_Some}
use Rattle.classes.specs.Classes.{class_view}
use Rattle.classes.specs.declared.class.Class as code
use Rattle.features.specs.Views.{requirement_view}
use Rattle.model.specs.Content.{Problem}
use Rattle.model.specs.Selection.{Class}
use Rattle.model.specs.Summary.{Dependency, same_text}
use Rattle.model.specs.Vertices.{owner_brings}
use Rattle.model.proofs.Same.{both, owner-same, text-same}
use Rattle.vertices.specs.inner.RefViews.{owner_ref_view}
use Rattle.vertices.specs.declared.vertex.OwnerRef.{OwnerRef}
use Rattle.numbering.specs.inner.Indexed.{AreBrought, IsBrought, same_ref}
use Rattle.numbering.specs.declared.matched.Kept.{Kept}
use Rattle.numbering.specs.inner.Matched.{AreMatched, AreNamed, Ask, IsMatched, IsNamed, IsOfReleases, classes_asked}
use Rattle.numbering.specs.inner.Matched.{kept_classes, name_classes, same_ask, same_name}
use Rattle.features.proofs.Requirements.{requirement-same}
use Rattle.lookups.proofs.Kept.{kept_after}

-- ---- of classes

asked-alike : (q : Problem) (k l : Ask) → same_ask k l ≡ true
    → classes_asked q k.0.now (requirement_view k.1.now) ≡ classes_asked q l.0.now (requirement_view l.1.now)
asked-alike q k l e =
    let b = both (same_text k.0.now l.0.now) _ e in
    ap₂ (classes_asked q) (text-same k.0.now l.0.now b.0) (requirement-same k.1.now l.1.now b.1)

pub put_kept : (q : Problem) {S X E : Type 0} (m after : HashMap Ask Kept S) (k : Ask) (kept : Kept) (r : Result X E)
    → OnOk r (Updates same_ask m after k (Some kept)) → OnErr r (IsUnchanged m after) → AreMatched q m
    → IsMatched q k kept → AreMatched q after
put_kept q m after k kept r u e are one =
    kept_after same_ask (IsMatched q)
    (λ k l kept same is. ap (λ name. kept_classes (name_classes q name) kept) (sym (name-alike k l same)) ∙ is
    ∙ asked-alike q k l same) m after k kept r u e are one
  where
    name-alike : (k l : Ask) → same_ask k l ≡ true → k.0.now ≡ l.0.now
    name-alike k l e = text-same k.0.now l.0.now (both (same_text k.0.now l.0.now) _ e).0

-- ---- of names

pub for_some : {T : Type 0} (P : T → Type 0) (o : Option T) → IfSome o P → ForSome o P
for_some P (Some x) h y e = subst P (same_Some x y e) h
for_some P None h y e = absurd (none_is y e)
  where
    none_is : {T : Type 0} (y : T) → ◌≡◌ {A = Option T} None (Some y) → ⊥
    none_is y e = cc

-- a range of classes, as the model tells them
pub range_view : (ks : List code.Class) (all : List Class) (from n : ℕ) → map class_view ks ≡ all
    → map class_view (take n (drop from ks)) ≡ take n (drop from all)
range_view ks all from n is =
    sym (take-map class_view n (drop from ks)) ∙ ap (take n) (sym (drop-map class_view from ks))
    ∙ ap (λ l. take n (drop from l)) is

pub range_told : (ks : List code.Class) (all : List Class) (from to : ℕ) (r : Option (Bor (List code.Class)))
    → map class_view ks ≡ all → IsGetRangeResult ks from to r
    → IfSome r (λ those. map class_view those.now ≡ take (to - from) (drop from all))
range_told ks all from to None is told = tt
range_told ks all from to (Some those) is told =
    ap (map class_view) told.0.2 ∙ range_view ks all from (to - from) is

pub put_named : (q : Problem) {S X E : Type 0} (m after : HashMap (Bor (List ℕ)) (Option (Vec code.Class Global)) S)
    (name : Bor (List ℕ)) (kept : Option (Vec code.Class Global)) (r : Result X E)
    → OnOk r (Updates same_name m after name (Some kept)) → OnErr r (IsUnchanged m after) → AreNamed q m
    → IsNamed q name kept → AreNamed q after
put_named q m after name kept r u e are one =
    kept_after same_name (IsNamed q)
    (λ x y kept same is. subst (λ n. ForSome kept (λ ks. IsOfReleases q n ks.items)) (text-same x.now y.now same) is)
    m after name kept r u e are one

-- ---- of dependencies

pub put_brought : (q : Problem) {S X E : Type 0} (m after : HashMap OwnerRef (List Dependency) S) (o : OwnerRef)
    (ds : List Dependency) (r : Result X E)
    → OnOk r (Updates same_ref m after o (Some ds)) → OnErr r (IsUnchanged m after) → AreBrought q m
    → IsBrought q o ds → AreBrought q after
put_brought q m after o ds r u e are one =
    kept_after same_ref (IsBrought q) (λ o p ds same is. is ∙ ap (λ w. (owner_brings q w).dependencies)
    (owner-same (owner_ref_view o) (owner_ref_view p) same)) m after o ds r u e are one
