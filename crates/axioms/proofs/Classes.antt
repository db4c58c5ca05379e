-- Of the classes of the versions that are matched each counts once: all have what these versions' classes have.
use Rattle.std.proofs.Common.{◌≡◌, Bool, true, false, not, cond, ◌&&◌, ◌||◌, List, [], ◌∷◌, map, filter}
use Rattle.std.proofs.Common.{refl, sym, ap, ◌∙◌}
use Rattle.std.specs.List.{list_all}
use Rattle.semver.specs.EvalViews.{matches_views}
use Rattle.semver.specs.Identifiers.{parts_of}
use Rattle.semver.specs.Parse.{Held, Parts}
use Rattle.semver.specs.declared.Version.{Version}
use Rattle.model.specs.Selection.{Class, class_of}
use Rattle.model.specs.Vertices.{State, has_state, in_class, same_class}
use Rattle.model.proofs.Same.{class-same}
use Rattle.classes.specs.Classes.{class_view}
use Rattle.classes.specs.Groups.{classes_matched, each_once}
use Rattle.classes.specs.declared.class.Class as code
use Rattle.lookups.proofs.Versions.{all-map}
use Rattle.axioms.specs.inner.FullTerms.{has_if_matched}
use Rattle.axioms.specs.inner.Keeping.{all_classes}

module _ (f : Class → Bool) where
  -- a class that passes may be left out
  left_out : (k : Class) (ks : List Class) → f k ≡ true
      → list_all f (filter (λ c. not (same_class k c)) ks) ≡ list_all f ks
  left_out k [] passes = refl
  left_out k (m ∷ ks) passes = by (same_class k m) refl (left_out k ks passes)
    where
      by : (b : Bool) → same_class k m ≡ b → list_all f (filter (λ c. not (same_class k c)) ks) ≡ list_all f ks
          → list_all f (cond (not b) (m ∷ filter (λ c. not (same_class k c)) ks)
          (filter (λ c. not (same_class k c)) ks)) ≡ (f m && list_all f ks)
      by true e rest = rest ∙ ap (λ b. b && list_all f ks) (sym (ap f (sym (class-same k m e)) ∙ passes))
      by false e rest = ap (λ b. f m && b) rest

  each_counts_once : (ks : List Class) → list_all f (each_once ks) ≡ list_all f ks
  each_counts_once [] = refl
  each_counts_once (k ∷ ks) = by (f k) refl ∙ ap (λ b. f k && b) (each_counts_once ks)
    where
      by : (b : Bool) → f k ≡ b → (b && list_all f (filter (λ c. not (same_class k c)) (each_once ks)))
          ≡ (b && list_all f (each_once ks))
      by true e = left_out k (each_once ks) e
      by false e = refl

module _ (ss : List State) (cs : List Held) where
  abbrev has_it : Parts → Bool
  has_it v = has_state ss (in_class (class_of v))

  all_matched : (vs : List Version) → list_all (λ v. has_if_matched ss cs (parts_of v)) vs
      ≡ list_all has_it (filter (matches_views cs) (map parts_of vs))
  unfolding has_if_matched
  all_matched [] = refl
  all_matched (v ∷ vs) = by (matches_views cs (parts_of v)) (has_it (parts_of v)) (all_matched vs)
    where
      by : (a b : Bool) → list_all (λ v. has_if_matched ss cs (parts_of v)) vs
          ≡ list_all has_it (filter (matches_views cs) (map parts_of vs))
          → ((not a || has_it (parts_of v)) && list_all (λ v. has_if_matched ss cs (parts_of v)) vs)
          ≡ list_all has_it (cond a (parts_of v ∷ filter (matches_views cs) (map parts_of vs))
          (filter (matches_views cs) (map parts_of vs)))
      by true b e = ap (λ r. has_it (parts_of v) && r) e
      by false b e = e

  pub classes_all_matched : (vs : List Version) (ks : List code.Class)
      → map class_view ks ≡ classes_matched cs (map parts_of vs)
      → all_classes ss ks ≡ list_all (λ v. has_if_matched ss cs (parts_of v)) vs
  classes_all_matched vs ks e =
      let f : Class → Bool = λ k. has_state ss (in_class k) in
      let ms = filter (matches_views cs) (map parts_of vs) in
      sym (all-map f class_view ks) ∙ ap (list_all f) e ∙ each_counts_once f (map class_of ms)
      ∙ all-map f class_of ms ∙ sym (all_matched vs)
