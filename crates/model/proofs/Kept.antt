-- A valid selection stays one where other candidates come or go, if its own packages are the same candidates.
use Rattle.std.proofs.Common.{◌≡◌, ℕ, List, Bool, true, false, cond, Option, Some, None, slice_get, Contains, ◌↔◌}
use Rattle.std.proofs.Common.{IsSome, refl, ap, subst}
use Rattle.model.specs.Summary.{Summary, Dependency, has_feature}
use Rattle.model.specs.Selection.{Fact, Holds, on, enabled, IsValidSelection, IsOther, IsPlace, IsReached, IsRootAt}
use Rattle.model.specs.Selection.{HasTarget}
use Rattle.model.specs.Content.{Problem, with_candidates, Content, Package, Candidate, candidate_of, is_root, brings_of}
use Rattle.model.specs.Content.{summary_if, summary_at}
use Rattle.model.specs.Selection.IsReached.{root, listed}

module _ (q : Problem) (cs : List (List ℕ × List Candidate)) (content : Content)
    (same : (n : ℕ) (p : Package) → IsOther q content n p
    → candidate_of q p ≡ candidate_of (with_candidates q cs) p) where
  owners : (n : ℕ) → summary_at q content n ≡ summary_at (with_candidates q cs) content n
  owners n = by (slice_get content n) refl
    where
      of_package : (p : Package) → slice_get content n ≡ Some p → (b : Bool) → is_root q p ≡ b
          → cond b q.brings (brings_of (candidate_of q p))
          ≡ cond b q.brings (brings_of (candidate_of (with_candidates q cs) p))
      of_package p got true e = refl
      of_package p got false e = ap brings_of (same n p (got, e))

      by : (o : Option Package) → slice_get content n ≡ o → summary_if q o ≡ summary_if (with_candidates q cs) o
      by None e = refl
      by (Some p) e = of_package p e (is_root q p) refl

  reached_still : (n : ℕ) → IsReached q content n → IsReached (with_candidates q cs) content n
  reached_still n (root m r) = root n r
  reached_still n (listed m t p r got c) = listed m n p (reached_still m r) got c

  all_owners : summary_at q content ≡ summary_at (with_candidates q cs) content
  all_owners = λ i n. owners n i

  -- the facts, and what rests on them, by what each package brings
  abbrev Facts : (ℕ → Summary) → Fact ℕ → Type 0
  Facts o = Holds o (IsRootAt q content) (IsPlace q content) q.root_asks (λ n i d t. HasTarget q content n d t)

  abbrev Enabled : (ℕ → Summary) → ℕ → ℕ → Dependency → Type 0
  Enabled o n i d = (slice_get (o n).dependencies i ≡ Some d) × Facts o (enabled n i)

  abbrev Met : (ℕ → Summary) → Type 0
  Met o = (n i : ℕ) (d : Dependency) → Enabled o n i d → (t : ℕ) × HasTarget q content n d t

  abbrev Exist : (ℕ → Summary) → Type 0
  Exist o = (n : ℕ) (f : List ℕ) → Facts o (on n f) → has_feature (o n).features f ≡ true

  abbrev Listed : (ℕ → Summary) → Type 0
  Listed o = (n t : ℕ) (p : Package) → slice_get content n ≡ Some p
      → Contains p.list t ↔ ((i : ℕ) × (d : Dependency) × Enabled o n i d × HasTarget q content n d t)

  pub kept : IsValidSelection q content → IsValidSelection (with_candidates q cs) content
  kept v = record {
    is_content = v.is_content;
    root = v.root;
    candidates = λ n p o. subst IsSome (same n p o) (v.candidates n p o);
    one_in_class = v.one_in_class;
    met = subst Met all_owners v.met;
    features_exist = subst Exist all_owners v.features_exist;
    lists = subst Listed all_owners v.lists;
    reached = λ n lt. reached_still n (v.reached n lt);
  }
