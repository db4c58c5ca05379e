-- What is kept stays right, where one more is kept.
use Rattle.std.proofs.Common.{◌≡◌, ℕ, List, Bool, true, false, cond, Some, Result, Ok, Err, OnOk, OnErr}
use Rattle.std.proofs.Common.{refl, sym, ap, ◌∙◌, subst}
use Rattle.std.specs.HashMap.{HashMap, IsUnchanged, Updates, get}
use Rattle.std.specs.Map.{lookup}
use Rattle.std.proofs.lemmas.Option.{same_Some}
use Rattle.model.specs.Vertices.{Owner}
use Rattle.model.proofs.Same.{both, owner-same, text-same}
use Rattle.vertices.specs.inner.RefViews.{owner_ref_view}
use Rattle.vertices.specs.declared.vertex.OwnerRef.{OwnerRef}
use Rattle.lookups.specs.inner.Numbers.{AreRight, IsOf, IsOfRow, Row, same_ref, same_row}

module _ {K V S : Type 0} (same : K → K → Bool) (Is : K → V → Type 0) where
  same_kept : (m after : HashMap K V S) → IsUnchanged m after → AreRight same Is m → AreRight same Is after
  same_kept m after e are k v got = are k v (sym (ap (lookup (same k)) e) ∙ got)

  module _ (alike : (k l : K) (v : V) → same k l ≡ true → Is k v → Is l v) where
    more_kept : (m after : HashMap K V S) (k : K) (v : V) → AreRight same Is m → Is k v
        → Updates same m after k (Some v) → AreRight same Is after
    more_kept m after k v are one u l w got = by (same k l) refl (sym (u.0 l) ∙ got)
      where
        by : (b : Bool) → same k l ≡ b → cond b (Some v) (get same m l) ≡ Some w → Is l w
        by true e f = alike k l w e (subst (Is k) (same_Some v w f) one)
        by false e f = are l w f

    -- after one is put there, or isn't for want of memory
    pub kept_after : {X E : Type 0} (m after : HashMap K V S) (k : K) (v : V) (r : Result X E)
        → OnOk r (Updates same m after k (Some v)) → OnErr r (IsUnchanged m after) → AreRight same Is m → Is k v
        → AreRight same Is after
    kept_after m after k v (Ok x) u e are one = more_kept m after k v are one u
    kept_after m after k v (Err x) u e are one = same_kept m after e are

module _ {V S X E : Type 0} where
  pub put_of : (Is : Owner → V → Type 0) (m after : HashMap OwnerRef V S) (o : OwnerRef) (v : V) (r : Result X E)
      → OnOk r (Updates same_ref m after o (Some v)) → OnErr r (IsUnchanged m after) → AreRight same_ref (IsOf Is) m
      → Is (owner_ref_view o) v → AreRight same_ref (IsOf Is) after
  put_of Is m after o v r u e are one = kept_after same_ref (IsOf Is)
      (λ p q w f is. subst (λ x. Is x w) (owner-same (owner_ref_view p) (owner_ref_view q) f) is)
      m after o v r u e are one

  pub put_of_row : (Is : Owner → List ℕ → V → Type 0) (m after : HashMap Row V S) (x : Row) (v : V) (r : Result X E)
      → OnOk r (Updates same_row m after x (Some v)) → OnErr r (IsUnchanged m after)
      → AreRight same_row (IsOfRow Is) m → Is (owner_ref_view x.0) x.1.now v → AreRight same_row (IsOfRow Is) after
  put_of_row Is m after x v r u e are one = kept_after same_row (IsOfRow Is) alike m after x v r u e are one
    where
      alike : (y z : Row) (w : V) → same_row y z ≡ true → IsOfRow Is y w → IsOfRow Is z w
      alike y z w f is =
          let b = both (same_ref y.0 z.0) _ f in
          subst (λ g. Is (owner_ref_view z.0) g w) (text-same y.1.now z.1.now b.1)
          (subst (λ o. Is o y.1.now w) (owner-same (owner_ref_view y.0) (owner_ref_view z.0) b.0) is)
