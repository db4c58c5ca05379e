-- The lowest fault of a package, and what is said of the first package that has one.
use Rattle.std.proofs.Common.{◌≡◌, ℕ, ◌<◌, Bool, true, false, List, Option, Some, None, option_map, Result, Ok, Err}
use Rattle.std.proofs.Common.{slice_get, length, refl, sym, ◌∙◌, subst, arith, true≢false, IfOk}
use Rattle.std.proofs.lemmas.Option.{none-some, same_Some}
use Rattle.semver.specs.Identifiers.{parts_of}
use Rattle.semver.specs.Parse.{Parts}
use Rattle.model.specs.Content.{Package, Content, Problem}
use Rattle.model.specs.Selection.{IsPlace}
use Rattle.model.specs.Verdict.{VerdictFault, not_candidate, two_in_class, unmet, no_feature, wrong_list, unreached}
use Rattle.model.specs.Verdict.{number_of, HasRoot, IsFaultless, IsFirstFault}
use Rattle.selection.specs.inner.Places.{is_free, lowest_of, lowest, fault_of, IsChecked, content_in, AreFindings}
use Rattle.selection.specs.declared.findings.Findings.{Findings}
use Rattle.selection.specs.Verdicts.{IsAt, IsInvalid, IsVerdictOn, IsFaultOf}
use Rattle.selection.specs.declared.checked.Checked.{Checked}
use Rattle.selection.specs.declared.verdict.VerdictFault as said
use Rattle.selection.specs.declared.verdict.Verdict.{Verdict}
use Rattle.selection.specs.declared.verdict.Verdict.TheVariants.{Valid, Invalid}

-- the tests before that of the fault passed, and that one failed
abbrev FailsFirst : Bool → Bool → Bool → Bool → Bool → Bool → VerdictFault → Type 0
FailsFirst a b c d e f not_candidate = a ≡ false
FailsFirst a b c d e f two_in_class = (a ≡ true) × (b ≡ false)
FailsFirst a b c d e f unmet = (a ≡ true) × (b ≡ true) × (c ≡ false)
FailsFirst a b c d e f no_feature = (a ≡ true) × (b ≡ true) × (c ≡ true) × (d ≡ false)
FailsFirst a b c d e f wrong_list = (a ≡ true) × (b ≡ true) × (c ≡ true) × (d ≡ true) × (e ≡ false)
FailsFirst a b c d e f unreached = (a ≡ true) × (b ≡ true) × (c ≡ true) × (d ≡ true) × (e ≡ true) × (f ≡ false)

fails_first : (a b c d e f : Bool) (v : VerdictFault) → lowest_of a b c d e f ≡ Some v → FailsFirst a b c d e f v
fails_first false b c d e f v h = subst (λ w. FailsFirst false b c d e f w) (same_Some not_candidate v h) refl
fails_first true false c d e f v h =
    subst (λ w. FailsFirst true false c d e f w) (same_Some two_in_class v h) (refl, refl)
fails_first true true false d e f v h =
    subst (λ w. FailsFirst true true false d e f w) (same_Some unmet v h) (refl, refl, refl)
fails_first true true true false e f v h =
    subst (λ w. FailsFirst true true true false e f w) (same_Some no_feature v h) (refl, refl, refl, refl)
fails_first true true true true false f v h =
    subst (λ w. FailsFirst true true true true false f w) (same_Some wrong_list v h) (refl, refl, refl, refl, refl)
fails_first true true true true true false v h = subst
    (λ w. FailsFirst true true true true true false w) (same_Some unreached v h) (refl, refl, refl, refl, refl, refl)
fails_first true true true true true true v h = absurd (none-some v h)

-- nothing failed
all_pass : (a b c d e f : Bool) → lowest_of a b c d e f ≡ None
    → (a ≡ true) × (b ≡ true) × (c ≡ true) × (d ≡ true) × (e ≡ true) × (f ≡ true)
all_pass false b c d e f h = absurd (none-some not_candidate (sym h))
all_pass true false c d e f h = absurd (none-some two_in_class (sym h))
all_pass true true false d e f h = absurd (none-some unmet (sym h))
all_pass true true true false e f h = absurd (none-some no_feature (sym h))
all_pass true true true true false f h = absurd (none-some wrong_list (sym h))
all_pass true true true true true false h = absurd (none-some unreached (sym h))
all_pass true true true true true true h = (refl, refl, refl, refl, refl, refl)

module _ (k : Checked) where
  abbrev Failing : VerdictFault → Type 0
  Failing v = FailsFirst k.candidate k.alone k.met k.featured k.listed k.reached v

  pub all_free : lowest k ≡ None → (v : VerdictFault) → is_free k v ≡ true
  all_free h not_candidate = (all_pass k.candidate k.alone k.met k.featured k.listed k.reached h).0
  all_free h two_in_class = (all_pass k.candidate k.alone k.met k.featured k.listed k.reached h).1
  all_free h unmet = (all_pass k.candidate k.alone k.met k.featured k.listed k.reached h).2
  all_free h no_feature = (all_pass k.candidate k.alone k.met k.featured k.listed k.reached h).3
  all_free h wrong_list = (all_pass k.candidate k.alone k.met k.featured k.listed k.reached h).4
  all_free h unreached = (all_pass k.candidate k.alone k.met k.featured k.listed k.reached h).5

  not_free : (v : VerdictFault) → Failing v → is_free k v ≡ false
  not_free not_candidate h = h
  not_free two_in_class h = h.1
  not_free unmet h = h.2
  not_free no_feature h = h.3
  not_free wrong_list h = h.4
  not_free unreached h = h.5

  free_before : (v : VerdictFault) → Failing v → (w : VerdictFault) → number_of w < number_of v → is_free k w ≡ true
  free_before not_candidate h not_candidate lt = absurd (omega arith)
  free_before not_candidate h two_in_class lt = absurd (omega arith)
  free_before not_candidate h unmet lt = absurd (omega arith)
  free_before not_candidate h no_feature lt = absurd (omega arith)
  free_before not_candidate h wrong_list lt = absurd (omega arith)
  free_before not_candidate h unreached lt = absurd (omega arith)
  free_before two_in_class h not_candidate lt = h.0
  free_before two_in_class h two_in_class lt = absurd (omega arith)
  free_before two_in_class h unmet lt = absurd (omega arith)
  free_before two_in_class h no_feature lt = absurd (omega arith)
  free_before two_in_class h wrong_list lt = absurd (omega arith)
  free_before two_in_class h unreached lt = absurd (omega arith)
  free_before unmet h not_candidate lt = h.0
  free_before unmet h two_in_class lt = h.1
  free_before unmet h unmet lt = absurd (omega arith)
  free_before unmet h no_feature lt = absurd (omega arith)
  free_before unmet h wrong_list lt = absurd (omega arith)
  free_before unmet h unreached lt = absurd (omega arith)
  free_before no_feature h not_candidate lt = h.0
  free_before no_feature h two_in_class lt = h.1
  free_before no_feature h unmet lt = h.2
  free_before no_feature h no_feature lt = absurd (omega arith)
  free_before no_feature h wrong_list lt = absurd (omega arith)
  free_before no_feature h unreached lt = absurd (omega arith)
  free_before wrong_list h not_candidate lt = h.0
  free_before wrong_list h two_in_class lt = h.1
  free_before wrong_list h unmet lt = h.2
  free_before wrong_list h no_feature lt = h.3
  free_before wrong_list h wrong_list lt = absurd (omega arith)
  free_before wrong_list h unreached lt = absurd (omega arith)
  free_before unreached h not_candidate lt = h.0
  free_before unreached h two_in_class lt = h.1
  free_before unreached h unmet lt = h.2
  free_before unreached h no_feature lt = h.3
  free_before unreached h wrong_list lt = h.4
  free_before unreached h unreached lt = absurd (omega arith)

  -- where nothing failed the package is faultless
  pub faultless : (q : Problem) (content : Content) (n : ℕ) → IsChecked q content n k → lowest k ≡ None
      → IsFaultless q content n
  faultless q content n h e = λ v. (h v).0 (all_free e v)

  -- the first package with a fault
  pub first_fault : (q : Problem) (content : Content) (n : ℕ) (v : VerdictFault) → IsChecked q content n k → lowest k
      ≡ Some v → IsPlace q content n → ((m : ℕ) → m < n → IsFaultless q content m) → IsFirstFault q content n v
  first_fault q content n v h e lt before =
      let first = fails_first k.candidate k.alone k.met k.featured k.listed k.reached v e in
      record {
        place = lt;
        has_fault = λ free. true≢false (sym ((h v).1 free) ∙ not_free v first);
        lowest = λ w less. (h w).0 (free_before v first w less);
        first = before;
      }

-- the fault that the program names
pub named : (o : Option VerdictFault) (f : said.VerdictFault) → option_map fault_of o ≡ Some f
    → (v : VerdictFault) × (o ≡ Some v) × (fault_of v ≡ f)
named None f e = absurd (none-some f e)
named (Some v) f e = (v, refl, same_Some (fault_of v) f e)

pub none_named : (o : Option VerdictFault) → option_map fault_of o ≡ None → o ≡ None
none_named None e = refl
none_named (Some v) e = absurd (none-some (fault_of v) (sym e))

module _ (q : Problem) (content : Content) where
  invalid_at : (v : VerdictFault) (name : List ℕ) (version : Parts) → IsAt q content v name version
      → IsInvalid q content (fault_of v) name version
  invalid_at not_candidate name version h = h
  invalid_at two_in_class name version h = h
  invalid_at unmet name version h = h
  invalid_at no_feature name version h = h
  invalid_at wrong_list name version h = h
  invalid_at unreached name version h = h

  said_first : (n : ℕ) (p : Package) (v : VerdictFault) (f : said.VerdictFault) → fault_of v ≡ f
      → slice_get content n ≡ Some p → HasRoot q content → IsFirstFault q content n v
      → (w : Verdict) → IsFaultOf f p.name p.version w → IsVerdictOn q content w
  said_first n p v f e got root first Valid h = absurd h
  said_first n p v f e got root first (Invalid g name version) h =
      subst (λ x. IsInvalid q content x name (parts_of version)) (e ∙ sym h.0)
      (invalid_at v name (parts_of version) (record {
        place = n;
        there = p;
        stands = got;
        name_is =
            sym h.1;
        version_is = sym h.2;
        verdict = (root, first);
      }))

-- what is said of the first package with a fault
pub first_said : {E : Type 0} (r : Result Verdict E) (f : Findings) (n : ℕ) (p : Package) (k : Checked)
    (x : said.VerdictFault) → option_map fault_of (lowest k) ≡ Some x → slice_get (content_in f) n ≡ Some p
    → ((q : Problem) → AreFindings q f → IsChecked q (content_in f) n k) → n < length (content_in f)
    → ((q : Problem) → AreFindings q f → (m : ℕ) → m < n → IsFaultless q (content_in f) m)
    → IfOk r (λ w. IsFaultOf x p.name p.version w)
    → IfOk r (λ w. (q : Problem) → AreFindings q f → IsVerdictOn q (content_in f) w)
first_said (Err e) f n p k x named_as got h lt before said = tt
first_said (Ok w) f n p k x named_as got h lt before said =
    let v = named (lowest k) x named_as in
    λ q found. said_first q (content_in f) n p v.0 x v.2 got (f.root, (found.only_root f.root).1 refl)
    (first_fault k q (content_in f) n v.0 (h q found) v.1 lt (before q found)) w said
