-- What is put at names, of which the first stays, and the least of what is found there.
use Rattle.std.proofs.Common.{◌≡◌, ℕ, suc, ◌&&◌, ◌||◌, Bool, true, false, cond, List, [], ◌∷◌, Option, Some, None, min}
use Rattle.std.proofs.Common.{option_map, is_some, refl, sym, ap, ap₂, ◌∙◌, arith}
use Rattle.std.specs.Borrow.{Bor}
use Rattle.std.specs.HashMap.{Updates}
use Rattle.std.specs.List.{list_any}
use Rattle.std.specs.Option.{option_or}
use Rattle.std.proofs.Math.Bool.{and-false, and-or_distrib_right, and-true}
use Rattle.semver.specs.Parse.{Parts}
use Rattle.model.specs.Content.{Problem}
use Rattle.model.specs.Summary.{Dependency, Entry, feature, dependency, dependency_feature, weak_feature, same_text}
use Rattle.model.proofs.Same.{text-same}
use Rattle.model.specs.Vertices.{owner_brings, version_of}
use Rattle.model.specs.Causes.{enables, entries_of, is_unmatched}
use Rattle.model.specs.inner.Instances.{enabled_unmatched, first_place}
use Rattle.lookups.specs.inner.ByName.{AreGone, Names, PutsGone, PutsNew, is_gone}
use Rattle.lookups.specs.inner.ByName.{least_enabled, lesser, named, number_enabled}
use Rattle.lookups.proofs.Places.{from_start}

-- ---- a value that is put where there was none

module _ {V S : Type 0} (old : Names V S) (d : List ℕ) (v : V) where
  named_alike : (e : List ℕ) → same_text d e ≡ true → named old d ≡ named old e
  named_alike e f = ap (named old) (text-same d e f)

  pub new_put : (x : Bor (List ℕ)) (new : Names V S) → x.now ≡ d → is_some (named old d) ≡ false
      → Updates (λ (a b : Bor (List ℕ)). same_text a.now b.now) old new x (Some v) → PutsNew old d v new
  new_put x new is none u e = u.0 (record { ref_ptr = x.ref_ptr; now = e })
      ∙ ap (λ k. cond (same_text k e) (Some v) (named old e)) is ∙ by (same_text d e) refl
    where
      empty : (o : Option V) → is_some o ≡ false → o ≡ None
      empty None f = refl
      empty (Some w) f = let no : true ≡ false = f in cc

      or_none : (o : Option V) → o ≡ option_or o None
      or_none None = refl
      or_none (Some w) = refl

      by : (b : Bool) → same_text d e ≡ b
          → cond b (Some v) (named old e) ≡ option_or (named old e) (cond b (Some v) None)
      by true f = sym (ap (λ o. option_or o (Some v)) (sym (named_alike e f) ∙ empty (named old d) none))
      by false f = or_none (named old e)

-- ---- numbers

pub gone_put : {S : Type 0} (q : Problem) (old new : Names ℕ S) (n : ℕ) (x : Dependency) (called : List ℕ)
    → called ≡ x.name → is_unmatched q x ≡ true → PutsNew old called n new → PutsGone q old n x new
unfolding is_gone
gone_put q old new n x called is un put d rest =
    ap (λ o. option_or o rest) (put d) ∙ by (named old d) (same_text called d)
    ∙ ap (λ c. option_or (named old d) (cond (same_text c d) (Some n) rest)) is
    ∙ ap (λ b. option_or (named old d) (cond b (Some n) rest)) (sym (and-true (same_text x.name d))
    ∙ ap (λ b. same_text x.name d && b) (sym un))
  where
    by : (o : Option ℕ) (b : Bool)
        → option_or (option_or o (cond b (Some n) None)) rest ≡ option_or o (cond b (Some n) rest)
    by (Some m) b = refl
    by None true = refl
    by None false = refl

pub gone_kept : {S : Type 0} (q : Problem) (old : Names ℕ S) (n : ℕ) (x : Dependency) → is_unmatched q x ≡ false
    → PutsGone q old n x old
unfolding is_gone
gone_kept q old n x un d rest =
    ap (λ b. option_or (named old d) (cond b (Some n) rest)) (sym (and-false (same_text x.name d))
    ∙ ap (λ b. same_text x.name d && b) (sym un))

-- ---- the least number

zero_left : (o : Option ℕ) → lesser (Some 0) o ≡ Some 0
zero_left None = refl
zero_left (Some n) = ap Some (least n)
  where
    least : (n : ℕ) → min 0 n ≡ 0
    least n = omega arith

zero_right : (o : Option ℕ) → lesser (option_map suc o) (Some 0) ≡ Some 0
zero_right None = refl
zero_right (Some n) = ap Some (least n)
  where
    least : (n : ℕ) → min (suc n) 0 ≡ 0
    least n = omega arith

lesser_suc : (a b : Option ℕ) → option_map suc (lesser a b) ≡ lesser (option_map suc a) (option_map suc b)
lesser_suc None b = refl
lesser_suc (Some n) None = refl
lesser_suc (Some n) (Some m) = ap Some (least n m)
  where
    least : (n m : ℕ) → suc (min n m) ≡ min (suc n) (suc m)
    least n m = omega arith

module _ {A : Type 0} where
  -- the first that passes one test or another
  first_or : (s t u : A → Bool) → ((x : A) → u x ≡ (s x || t x))
      → (xs : List A) → first_place u xs ≡ lesser (first_place s xs) (first_place t xs)
  first_or s t u is [] = refl
  first_or s t u is (x ∷ xs) =
      ap (λ b. cond b (Some 0) (option_map suc (first_place u xs))) (is x)
      ∙ by (s x) (t x) (first_or s t u is xs)
    where
      by : (a b : Bool) → first_place u xs ≡ lesser (first_place s xs) (first_place t xs)
          → cond (a || b) (Some 0) (option_map suc (first_place u xs))
          ≡ lesser (cond a (Some 0) (option_map suc (first_place s xs)))
          (cond b (Some 0) (option_map suc (first_place t xs)))
      by true b e = sym (zero_left (cond b (Some 0) (option_map suc (first_place t xs))))
      by false true e = sym (zero_right (first_place s xs))
      by false false e = ap (option_map suc) e ∙ lesser_suc (first_place s xs) (first_place t xs)

  none_first : (u : A → Bool) → ((x : A) → u x ≡ false) → (xs : List A) → first_place u xs ≡ None
  none_first u is [] = refl
  none_first u is (x ∷ xs) = ap₂ (λ b o. cond b (Some 0) (option_map suc o)) (is x) (none_first u is xs)

module _ {S : Type 0} (q : Problem) (ds : List Dependency) (m : Names ℕ S) (are : AreGone q ds m) where
  one_is : (e : Entry) → number_enabled (named m) e ≡ first_place (λ d. enables d.name e && is_unmatched q d) ds
  unfolding is_gone
  one_is (feature g) = sym (none_first _ (λ d. refl) ds)
  one_is (dependency d) = are d ∙ from_start (is_gone q d) ds
  one_is (dependency_feature d g) = are d ∙ from_start (is_gone q d) ds
  one_is (weak_feature d g) = sym (none_first _ (λ d. refl) ds)

  -- the least of the numbers is the first place
  least_is : (es : List Entry) → least_enabled (named m) es
      ≡ first_place (λ d. list_any (enables d.name) es && is_unmatched q d) ds
  least_is [] = sym (none_first _ (λ d. refl) ds)
  least_is (e ∷ es) = ap₂ lesser (one_is e) (least_is es)
      ∙ sym (first_or (λ d. enables d.name e && is_unmatched q d)
      (λ d. list_any (enables d.name) es && is_unmatched q d)
      (λ d. list_any (enables d.name) (e ∷ es) && is_unmatched q d)
      (λ d. and-or_distrib_right (enables d.name e) (list_any (enables d.name) es) (is_unmatched q d)) ds)

  pub enabled_is : (name : List ℕ) (v : Parts) (f : List ℕ) (es : List Entry) → es ≡ entries_of q name v f
      → ds ≡ (owner_brings q (version_of name v)).dependencies
      → least_enabled (named m) es ≡ enabled_unmatched q name v f
  enabled_is name v f es e h = least_is es
      ∙ ap₂ (λ xs ys. first_place (λ d. list_any (enables d.name) xs && is_unmatched q d) ys) e h
