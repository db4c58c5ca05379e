-- A content is a valid selection exactly where that is its verdict, and it has at most one verdict.
use Rattle.std.proofs.Common.{◌≡◌, ℕ, ◌<◌, ◌↔◌, length, true, cond, nat_eq, Option, Some, None, slice_get}
use Rattle.std.proofs.Common.{refl, sym, ap, ap₂, ◌∙◌, subst, inl, inr, arith, true≢false}
use Rattle.std.proofs.lemmas.Bool.{cases_order}
use Rattle.std.proofs.lemmas.Option.{none-some, slice_get_within}
use Rattle.model.specs.Summary.{Dependency}
use Rattle.model.specs.Selection.{Fact, here, on, enabled, Brings, class_of, IsValidSelection, IsFact, IsPlace, IsOther}
use Rattle.model.specs.Selection.{HasTarget}
use Rattle.model.specs.Selection.Holds.{starts, arrives, root_needs, needs, asks, root_wants, turns_on, enables}
use Rattle.model.specs.Selection.Holds.{enables_for, wants, wants_weakly}
use Rattle.model.specs.Content.{Problem, Content, Package, summary_if, summary_at, serves_if, list_if}
use Rattle.model.specs.Order.{IsContent}
use Rattle.model.specs.Verdict.{VerdictFault, not_candidate, two_in_class, unmet, no_feature, wrong_list, unreached}
use Rattle.model.specs.Verdict.{number_of, Verdict, valid, no_root, at_package, IsFaultless, IsFirstFault}
use Rattle.model.specs.Verdict.{IsVerdict}
use Rattle.model.proofs.Orders.{last_is}

-- the fault with this number
with_number : ℕ → VerdictFault
with_number n = cond (nat_eq n 2) not_candidate (cond (nat_eq n 3) two_in_class
    (cond (nat_eq n 4) unmet (cond (nat_eq n 5) no_feature (cond (nat_eq n 6) wrong_list unreached))))

its_number : (f : VerdictFault) → with_number (number_of f) ≡ f
unfolding with_number
its_number not_candidate = refl
its_number two_in_class = refl
its_number unmet = refl
its_number no_feature = refl
its_number wrong_list = refl
its_number unreached = refl

module _ (q : Problem) (content : Content) where
  -- the place of a target is one of the content
  target_within : (n t : ℕ) (d : Dependency) → HasTarget q content n d t → t < length content
  target_within n t d h = by (slice_get content t) refl (last_is content d (list_if (slice_get content n)) t h).serving
    where
      by : (o : Option Package) → slice_get content t ≡ o → serves_if d o ≡ true → t < length content
      by None e s = absurd (true≢false (sym s))
      by (Some p) e s = slice_get_within content t p e

  -- what brings a dependency is in the content
  owner_within : (n i : ℕ) (d : Dependency) → Brings (summary_at q content) n i d → n < length content
  owner_within n i d b = by (slice_get content n) refl b
    where
      by : (o : Option Package) → slice_get content n ≡ o
          → slice_get (summary_if q o).dependencies i ≡ Some d → n < length content
      by None e b = absurd (none-some d b)
      by (Some p) e b = slice_get_within content n p e

  -- a feature is on at a package of the content
  abbrev Within : Fact ℕ → Type 0
  Within (here n) = Unit {0}
  Within (on n f) = n < length content
  Within (enabled n i) = Unit {0}

  within : (f : Fact ℕ) → IsFact q content f → Within f
  within f (starts n lt) = tt
  within f (arrives n t i d h b l) = tt
  within f (root_needs n i d h e b) = tt
  within f (needs n i d h b o) = tt
  within f (asks n t i d g h b l a) = target_within n t d l
  within f (root_wants n t i d g h e b l a) = target_within n t d l
  within f (turns_on n g k h l) = within (on n g) h
  within f (enables n i d g h b l) = tt
  within f (enables_for n i d g k h b l) = tt
  within f (wants n t i d g k h b l to) = target_within n t d to
  within f (wants_weakly n t i d g k h b l e to) = target_within n t d to

  -- a valid selection has no fault
  faultless : IsValidSelection q content → (n : ℕ) → IsPlace q content n → IsFaultless q content n
  faultless v n lt not_candidate = λ p o. v.candidates n p o
  faultless v n lt two_in_class =
      λ m p r before o u name class. (let same : m ≡ n = v.one_in_class m n r p u o name class in omega arith)
  faultless v n lt unmet = λ i d e. v.met n i d e
  faultless v n lt no_feature = λ f h. v.features_exist n f h
  faultless v n lt wrong_list = λ t p got. v.lists n t p got
  faultless v n lt unreached = v.reached n lt

  one_place : ((n : ℕ) → IsPlace q content n → IsFaultless q content n) → (n m : ℕ) (p r : Package)
      → IsOther q content n p → IsOther q content m r
      → p.name ≡ r.name → class_of p.version ≡ class_of r.version → n ≡ m
  one_place free n m p r o u name class = elim (cases_order n m) [
    | inl same ↦ same
    | inr h ↦ elim h [
      | inl lt ↦ absurd (free m (slice_get_within content m r u.0) two_in_class n r p lt u o name class)
      | inr lt ↦ absurd (free n (slice_get_within content n p o.0) two_in_class m p r lt o u (sym name) (sym class))
    ]
  ]

  -- a content without a fault, which has a root, is a valid selection
  selects : IsContent content → IsVerdict q content valid → IsValidSelection q content
  selects formed (root, free) = record {
    is_content = formed;
    root = root;
    candidates = λ n p o. free n (slice_get_within content n p o.0) not_candidate p o;
    one_in_class = one_place free;
    met = λ n i d e. free n (owner_within n i d e.0) unmet i d e;
    features_exist = λ n f h. free n (within (on n f) h) no_feature f h;
    lists = λ n t p got. free n (slice_get_within content n p got) wrong_list t p got;
    reached = λ n lt. free n lt unreached;
  }

  pub valid_iff : IsContent content → IsVerdict q content valid ↔ IsValidSelection q content
  valid_iff formed = (selects formed, λ v. (v.root, faultless v))

  -- of two first faults at different packages the earlier one forbids the other
  same_place : (n m : ℕ) (f g : VerdictFault) → IsFirstFault q content n f → IsFirstFault q content m g → n ≡ m
  same_place n m f g a b = elim (cases_order n m) [
    | inl same ↦ same
    | inr h ↦ elim h [ inl lt ↦ absurd (a.has_fault (b.first n lt f)) | inr lt ↦ absurd (b.has_fault (a.first m lt g)) ]
  ]

  same_fault : (n : ℕ) (f g : VerdictFault) → IsFirstFault q content n f → IsFirstFault q content n g → f ≡ g
  same_fault n f g a b = elim (cases_order (number_of f) (number_of g)) [
    | inl same ↦ sym (its_number f) ∙ ap with_number same ∙ its_number g
    | inr h ↦ elim h [ inl lt ↦ absurd (a.has_fault (b.lowest f lt)) | inr lt ↦ absurd (b.has_fault (a.lowest g lt)) ]
  ]

  pub one_verdict : (v w : Verdict) → IsVerdict q content v → IsVerdict q content w → v ≡ w
  one_verdict valid valid a b = refl
  one_verdict valid no_root a b = absurd (b a.0)
  one_verdict valid (at_package n f) a b = absurd ((b.1).has_fault (a.1 n (b.1).place f))
  one_verdict no_root valid a b = absurd (a b.0)
  one_verdict no_root no_root a b = refl
  one_verdict no_root (at_package n f) a b = absurd (a b.0)
  one_verdict (at_package n f) valid a b = absurd ((a.1).has_fault (b.1 n (a.1).place f))
  one_verdict (at_package n f) no_root a b = absurd (b a.0)
  one_verdict (at_package n f) (at_package m g) a b =
      let place : n ≡ m = same_place n m f g a.1 b.1 in
      let there : IsFirstFault q content m f = subst (λ k. IsFirstFault q content k f) place a.1 in
      ap₂ at_package place (same_fault m f g there b.1)
