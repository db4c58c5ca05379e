-- Which packages a dependency text is a form of, and which it means.
use Rattle.std.proofs.Common.{◌≡◌, ℕ, ◌+◌, Bool, true, false, not, nat_eq, List, [], ◌∷◌, ◌++◌, Option, Some}
use Rattle.std.proofs.Common.{None, is_some, Ok, Err, Ordering, ◌⊎◌, inl, inr, refl, sym, ◌∙◌, ap}
use Rattle.std.specs.Cmp.Lexicographic.{pointwise}
use Rattle.std.specs.List.{AllByRecursion}
use Rattle.std.specs.Option.{option_map_or, option_or}
use Rattle.std.specs.Ordering.{is_eq, ordering_then}
use Rattle.std.proofs.lemmas.Cmp.{nat_list_eq_equiv, tied_itself}
use Rattle.std.proofs.lemmas.List.{append_cancel_right}
use Rattle.std.proofs.lemmas.Bool.{and_parts, or_right, or_left, false_from_ne_true, or_cases, and_from}
use Rattle.semver.specs.Grammar.{IsValid}
use Rattle.semver.specs.Identifiers.{parts_text}
use Rattle.semver.specs.OrderLaws.{same_text}
use Rattle.semver.specs.Parse.{Parts, version_parts}
use Rattle.semver.specs.declared.error.Error.{Error}
use Rattle.semver.proofs.Grammar.{version_parts-sound, version_parts-complete}
use Rattle.model.specs.Content.{Package, Content, same_option}
use Rattle.model.specs.Order.{text_cmp, version_cmp, source_cmp}
use Rattle.lockfile.specs.Locks.{version_form, source_form, is_form, is_form_without_source}
use Rattle.lockfile.specs.Locks.{places_from, places, only, place_meant}
use Rattle.lockfile.specs.inner.Search.{IsRead, is_named, is_versioned, is_sourced}
use Rattle.model.proofs.PackageOrder.{version_total}
use Rattle.lockfile.proofs.PackageOrder.{then-eq, text-eq, source-eq, version-tie}
use Rattle.model.proofs.Sorting.{each-weaker}
use Rattle.model.proofs.Tests.{one_test}
use Rattle.lockfile.proofs.Spaces.{Free, free-name, free-version, one-split, no-split}

-- ---- the forms as facts

abbrev Form : List ℕ → Package → Type 0
Form text p = (text ≡ p.name)
    ⊎ ((text ≡ version_form p) ⊎ ((source : List ℕ) × (p.source ≡ Some source) × (text ≡ source_form p source)))

text-same : (a b : List ℕ) → a ≡ b → pointwise nat_eq a b ≡ true
text-same a b e = rw e (nat_list_eq_equiv.refl b)

source-means : (text : List ℕ) (p : Package) (o : Option (List ℕ))
    → option_map_or (λ source. pointwise nat_eq text (source_form p source)) o false ≡ true
    → (source : List ℕ) × (o ≡ Some source) × (text ≡ source_form p source)
source-means text p None h = cc
source-means text p (Some source) h = (source, refl, same_text text (source_form p source) h)

form-from : (text : List ℕ) (p : Package) → is_form text p ≡ true → Form text p
form-from text p h = elim (or_cases _ _ h) [
  | inl name ↦ inl (same_text text p.name name)
  | inr more ↦ elim (or_cases _ _ more) [
    | inl version ↦ inr (inl (same_text text (version_form p) version))
    | inr source ↦ inr (inr (source-means text p p.source source))
  ]
]

form-by_name : (text : List ℕ) (p : Package) → text ≡ p.name → is_form text p ≡ true
form-by_name text p e = or_left _ _ (text-same text p.name e)

form-by_version : (text : List ℕ) (p : Package) → text ≡ version_form p → is_form text p ≡ true
form-by_version text p e = or_right _ _ (or_left _ _ (text-same text (version_form p) e))

form-by_source : (text : List ℕ) (p : Package) (source : List ℕ) → p.source ≡ Some source
    → text ≡ source_form p source → is_form text p ≡ true
form-by_source text p source s e =
    let third : option_map_or (λ source. pointwise nat_eq text (source_form p source)) p.source false ≡ true =
    rw s (text-same text (source_form p source) e) in
    or_right _ _ (or_right _ _ third)

without-from : (text : List ℕ) (p : Package) → is_form_without_source text p ≡ true
    → (p.source ≡ None) × (text ≡ version_form p)
without-from text p h = let both = and_parts _ _ h in (none p.source both.0, same_text text (version_form p) both.1)
  where
    none : (o : Option (List ℕ)) → not (is_some o) ≡ true → o ≡ None
    none None n = refl
    none (Some x) n = cc

without-by : (text : List ℕ) (p : Package) → p.source ≡ None → text ≡ version_form p
    → is_form_without_source text p ≡ true
without-by text p s e =
    let first : not (is_some p.source) ≡ true = rw s refl in
    and_from _ _ first (text-same text (version_form p) e)

-- ---- the wanted as facts

text-tie : (a b : List ℕ) → is_eq (text_cmp a b) ≡ true → a ≡ b
text-tie a b h = same_text a b (sym (text-eq a b) ∙ h)

text-ties : (a b : List ℕ) → a ≡ b → is_eq (text_cmp a b) ≡ true
text-ties a b e = text-eq a b ∙ text-same a b e

option-same : (a b : Option (List ℕ)) → same_option a b ≡ true → a ≡ b
option-same None None h = refl
option-same None (Some b) h = cc
option-same (Some a) None h = cc
option-same (Some a) (Some b) h = ap Some (same_text a b h)

option-itself : (a : Option (List ℕ)) → same_option a a ≡ true
option-itself None = refl
option-itself (Some a) = nat_list_eq_equiv.refl a

source-tie : (a b : Option (List ℕ)) → is_eq (source_cmp a b) ≡ true → a ≡ b
source-tie a b h = option-same a b (sym (source-eq a b) ∙ h)

source-ties : (a b : Option (List ℕ)) → a ≡ b → is_eq (source_cmp a b) ≡ true
source-ties a b e = source-eq a b ∙ rw e (option-itself b)

then-ties : (r s : Ordering) → is_eq r ≡ true → is_eq s ≡ true → is_eq (ordering_then r s) ≡ true
then-ties r s h k = then-eq r s ∙ and_from _ _ h k

then-tie : (r s : Ordering) → is_eq (ordering_then r s) ≡ true → (is_eq r ≡ true) × (is_eq s ≡ true)
then-tie r s h = and_parts _ _ (sym (then-eq r s) ∙ h)

version-ties : (v w : Parts) → v ≡ w → is_eq (version_cmp v w) ≡ true
version-ties v w e = rw (e, tied_itself version_total) refl

-- ---- a text of one word

name-form : (n : List ℕ) (p : Package) → IsRead p → Free n → is_form n p ≡ is_named n p
name-form n p r f = one_test _ _
    (λ h. elim (form-from n p h) [
      | inl e ↦ text-ties p.name n (sym e)
      | inr more ↦ elim more [ inl e ↦ absurd (no-split n p.name _ f e) | inr s ↦ absurd (no-split n p.name _ f s.2) ]
    ])
    (λ h. form-by_name n p (sym (text-tie p.name n h)))

name-without : (text : List ℕ) (p : Package) → Free text → is_form_without_source text p ≡ false
name-without text p f = false_from_ne_true _ (λ h. no-split text p.name _ f (without-from text p h).1)

-- ---- a text of two words

read-as : (text : List ℕ) (w v : Parts) → IsValid w → text ≡ parts_text w → version_parts text ≡ Ok v → w ≡ v
read-as text w v valid e is =
    let complete = version_parts-complete w valid in
    let same : version_parts text ≡ version_parts (parts_text w) = ap version_parts e in
    cc

unread : (text : List ℕ) (w : Parts) (f : Error) → IsValid w → text ≡ parts_text w → version_parts text ≡ Err f → ⊥
unread text w f valid e is =
    let complete = version_parts-complete w valid in
    let same : version_parts text ≡ version_parts (parts_text w) = ap version_parts e in
    cc

two-words : (a b x y : List ℕ) → b ≡ a → x ≡ y → a ++ (32 ∷ x) ≡ b ++ (32 ∷ y)
two-words a b x y e h = rw (e, h) refl

-- a text of two words is a form of a package only as its name and version
two-forms : (name text : List ℕ) (p : Package) → IsRead p → Free name → Free text
    → is_form (name ++ (32 ∷ text)) p ≡ true → (name ≡ p.name) × (text ≡ parts_text p.version)
two-forms name text p r f g h = elim (form-from (name ++ (32 ∷ text)) p h) [
  | inl e ↦ absurd (no-split p.name name text (free-name p.name r.0) (sym e))
  | inr more ↦ elim more [
    | inl e ↦ one-split name p.name text (parts_text p.version) f (free-name p.name r.0) e
    | inr s ↦ absurd
        (no-split text (parts_text p.version) _ g (one-split name p.name text _ f (free-name p.name r.0) s.2).1)
  ]
]

-- a package of this name and version has these words
words-of : (name text : List ℕ) (v : Parts) (p : Package) → version_parts text ≡ Ok v → IsValid p.version
    → p.name ≡ name → p.version ≡ v → name ++ (32 ∷ text) ≡ version_form p
words-of name text v p is valid e h =
    two-words name p.name text (parts_text p.version) e (sym (version_parts-sound text v is).0 ∙ ap parts_text (sym h))

version-form : (n : List ℕ) (v : Parts) (text : List ℕ) (p : Package) → IsRead p → Free n → Free text
    → version_parts text ≡ Ok v → is_form (n ++ (32 ∷ text)) p ≡ is_versioned n v p
version-form n v text p r f g is = one_test _ _
    (λ h. let split = two-forms n text p r f g h in
    then-ties _ _ (text-ties p.name n (sym split.0))
    (version-ties p.version v (read-as text p.version v r.1 split.1 is)))
    (λ h. let both = then-tie _ _ h in
    let valid = (version_parts-sound text v is).1 in
    form-by_version (n ++ (32 ∷ text)) p
    (words-of n text v p is r.1 (text-tie p.name n both.0) (version-tie p.version v r.1 valid both.1)))

version-without : (n : List ℕ) (v : Parts) (text : List ℕ) (p : Package) → IsRead p → Free n → version_parts text ≡ Ok v
    → is_form_without_source (n ++ (32 ∷ text)) p ≡ is_sourced n v None p
version-without n v text p r f is = one_test _ _
    (λ h. let both = without-from (n ++ (32 ∷ text)) p h in
    let split = one-split n p.name text (parts_text p.version) f (free-name p.name r.0) both.1 in
    then-ties _ _ (text-ties p.name n (sym split.0)) (then-ties _ _
    (version-ties p.version v (read-as text p.version v r.1 split.1 is)) (source-ties p.source None both.0)))
    (λ h. let name = then-tie _ _ h in
    let rest = then-tie _ _ name.1 in
    let valid = (version_parts-sound text v is).1 in
    without-by (n ++ (32 ∷ text)) p (source-tie p.source None rest.1)
    (words-of n text v p is r.1 (text-tie p.name n name.0) (version-tie p.version v r.1 valid rest.0)))

-- where the second word is no version
no-version-form : (name text : List ℕ) (e : Error) (p : Package) → IsRead p → Free name → Free text
    → version_parts text ≡ Err e → is_form (name ++ (32 ∷ text)) p ≡ false
no-version-form name text e p r f g is =
    false_from_ne_true _ (λ h. unread text p.version e r.1 (two-forms name text p r f g h).1 is)

no-version-without : (name text : List ℕ) (e : Error) (p : Package) → IsRead p → Free name → version_parts text ≡ Err e
    → is_form_without_source (name ++ (32 ∷ text)) p ≡ false
no-version-without name text e p r f is = false_from_ne_true _ (λ h.
    unread text p.version e r.1 (one-split name p.name text (parts_text p.version) f (free-name p.name r.0)
    (without-from (name ++ (32 ∷ text)) p h).1).1 is)

-- ---- a text of three words or more

abbrev long : List ℕ → List ℕ → List ℕ → List ℕ
long name text end = name ++ (32 ∷ (text ++ (32 ∷ end)))

-- such a text is a form of a package only with its source
long-forms : (name text end : List ℕ) (p : Package) → IsRead p → Free name → Free text
    → is_form (long name text end) p ≡ true
    → (source : List ℕ) × (p.source ≡ Some source) × (name ≡ p.name) × (text ≡ parts_text p.version)
    × (end ≡ 40 ∷ (source ++ (41 ∷ [])))
long-forms name text end p r f g h = elim (form-from (long name text end) p h) [
  | inl e ↦ absurd (no-split p.name name _ (free-name p.name r.0) (sym e))
  | inr more ↦ elim more [
    | inl e ↦ absurd (no-split (parts_text p.version) text end (free-version p.version r.1)
        (sym (one-split name p.name _ (parts_text p.version) f (free-name p.name r.0) e).1))
    | inr s ↦
        let first = one-split name p.name _ _ f (free-name p.name r.0) s.2 in
        let second = one-split text (parts_text p.version) end _ g (free-version p.version r.1) first.1 in
        (s.0, s.1, first.0, second.0, second.1)
  ]
]

long-without : (name text end : List ℕ) (p : Package) → IsRead p → Free name
    → is_form_without_source (long name text end) p ≡ false
long-without name text end p r f = false_from_ne_true _ (λ h.
    no-split (parts_text p.version) text end (free-version p.version r.1) (sym (one-split name p.name _
    (parts_text p.version) f (free-name p.name r.0) (without-from (long name text end) p h).1).1))

long-words : (a b x y s : List ℕ) → b ≡ a → x ≡ y → (end : List ℕ) → end ≡ 40 ∷ (s ++ (41 ∷ []))
    → long a x end ≡ long b y (40 ∷ (s ++ (41 ∷ [])))
long-words a b x y s e h end k = rw (e, h, k) refl

source-form : (n : List ℕ) (v : Parts) (s : List ℕ) (text end : List ℕ) (p : Package) → IsRead p → Free n → Free text
    → version_parts text ≡ Ok v → end ≡ 40 ∷ (s ++ (41 ∷ []))
    → is_form (long n text end) p ≡ is_sourced n v (Some s) p
source-form n v s text end p r f g is e = one_test _ _
    (λ h. let parts = long-forms n text end p r f g h in
    let inner : parts.0 ++ (41 ∷ []) ≡ s ++ (41 ∷ []) = same-tail _ _ (sym parts.4 ∙ e) in
    let source : parts.0 ≡ s = append_cancel_right parts.0 s (41 ∷ []) inner in
    then-ties _ _ (text-ties p.name n (sym parts.2)) (then-ties _ _ (version-ties p.version v
    (read-as text p.version v r.1 parts.3 is)) (source-ties p.source (Some s) (parts.1 ∙ ap Some source))))
    (λ h. let name = then-tie _ _ h in
    let rest = then-tie _ _ name.1 in
    let sound = version_parts-sound text v is in
    let same = version-tie p.version v r.1 sound.1 rest.0 in
    form-by_source (long n text end) p s (source-tie p.source (Some s) rest.1)
    (long-words n p.name text (parts_text p.version) s (text-tie p.name n name.0)
    (sym sound.0 ∙ ap parts_text (sym same)) end e))
  where
    same-tail : (x y : List ℕ) → 40 ∷ x ≡ 40 ∷ y → x ≡ y
    same-tail x y q = cc

-- where the second word is no version, or the rest stands in no parentheses
no-source-form : (name text end : List ℕ) (e : Error) (p : Package) → IsRead p → Free name → Free text
    → version_parts text ≡ Err e → is_form (long name text end) p ≡ false
no-source-form name text end e p r f g is =
    false_from_ne_true _ (λ h. unread text p.version e r.1 (long-forms name text end p r f g h).3 is)

bare-form : (name text end : List ℕ) (p : Package) → IsRead p → Free name → Free text
    → ((s : List ℕ) → end ≡ 40 ∷ (s ++ (41 ∷ [])) → ⊥) → is_form (long name text end) p ≡ false
bare-form name text end p r f g never =
    false_from_ne_true _ (λ h. let parts = long-forms name text end p r f g h in never parts.0 parts.4)

-- ---- what a text means

agree : (s t : Package → Bool) (n : ℕ) (ps : Content) → AllByRecursion (λ p. s p ≡ t p) ps
    → places_from n s ps ≡ places_from n t ps
agree s t n [] h = refl
agree s t n (p ∷ ps) h = rw (h.0, agree s t (n + 1) ps h.1) refl

pub none : (s : Package → Bool) (n : ℕ) (ps : Content) → AllByRecursion (λ p. s p ≡ false) ps → places_from n s ps ≡ []
none s n [] h = refl
none s n (p ∷ ps) h = rw h.0 (none s (n + 1) ps h.1)

or-none : (o : Option ℕ) → option_or o None ≡ o
or-none None = refl
or-none (Some n) = refl

-- each package is read
abbrev AreRead : Content → Type 0
AreRead = AllByRecursion IsRead

-- both tests are others, or fail
meant-by : (text : List ℕ) (s t : Package → Bool) (ps : Content) → AreRead ps
    → ((p : Package) → IsRead p → is_form text p ≡ s p)
    → ((p : Package) → IsRead p → is_form_without_source text p ≡ t p)
    → place_meant ps text ≡ option_or (only (places s ps)) (only (places t ps))
meant-by text s t ps r f g =
    rw (
      agree (is_form text) s 0 ps (each-weaker IsRead (λ p. is_form text p ≡ s p) f ps r),
      agree (is_form_without_source text) t 0 ps
          (each-weaker IsRead (λ p. is_form_without_source text p ≡ t p) g ps r),
    ) refl

fails : (ps : Content) → only (places (λ p. false) ps) ≡ None
fails ps = ap only (none (λ p. false) 0 ps (all ps))
  where
    all : (ps : Content) → AllByRecursion (λ p. false ≡ false) ps
    all [] = tt
    all (p ∷ ps) = (refl, all ps)

meant-only : (text : List ℕ) (s : Package → Bool) (ps : Content) → AreRead ps
    → ((p : Package) → IsRead p → is_form text p ≡ s p)
    → ((p : Package) → IsRead p → is_form_without_source text p ≡ false) → place_meant ps text ≡ only (places s ps)
meant-only text s ps r f g =
    meant-by text s (λ p. false) ps r f g ∙ ap (option_or (only (places s ps))) (fails ps)
    ∙ or-none (only (places s ps))

meant-none : (text : List ℕ) (ps : Content) → AreRead ps → ((p : Package) → IsRead p → is_form text p ≡ false)
    → ((p : Package) → IsRead p → is_form_without_source text p ≡ false) → place_meant ps text ≡ None
meant-none text ps r f g = meant-only text (λ p. false) ps r f g ∙ fails ps

pub meant-name : (n : List ℕ) (ps : Content) → AreRead ps → Free n → place_meant ps n ≡ only (places (is_named n) ps)
meant-name n ps r f = meant-only n (is_named n) ps r (λ p q. name-form n p q f) (λ p q. name-without n p f)

pub meant-version : (n : List ℕ) (v : Parts) (text : List ℕ) (ps : Content) → AreRead ps → Free n → Free text
    → version_parts text ≡ Ok v
    → place_meant ps (n ++ (32 ∷ text))
    ≡ option_or (only (places (is_versioned n v) ps)) (only (places (is_sourced n v None) ps))
meant-version n v text ps r f g is = meant-by (n ++ (32 ∷ text)) (is_versioned n v) (is_sourced n v None) ps r
    (λ p q. version-form n v text p q f g is) (λ p q. version-without n v text p q f is)

pub meant-no_version : (name text : List ℕ) (e : Error) (ps : Content) → AreRead ps → Free name → Free text
    → version_parts text ≡ Err e → place_meant ps (name ++ (32 ∷ text)) ≡ None
meant-no_version name text e ps r f g is = meant-none (name ++ (32 ∷ text)) ps r
    (λ p q. no-version-form name text e p q f g is) (λ p q. no-version-without name text e p q f is)

pub meant-source : (n : List ℕ) (v : Parts) (s : List ℕ) (text end : List ℕ) (ps : Content) → AreRead ps → Free n
    → Free text → version_parts text ≡ Ok v → end ≡ 40 ∷ (s ++ (41 ∷ []))
    → place_meant ps (n ++ (32 ∷ (text ++ (32 ∷ end)))) ≡ only (places (is_sourced n v (Some s)) ps)
meant-source n v s text end ps r f g is e = meant-only (long n text end) (is_sourced n v (Some s)) ps r
    (λ p q. source-form n v s text end p q f g is e) (λ p q. long-without n text end p q f)

pub meant-no_source : (name text end : List ℕ) (e : Error) (ps : Content) → AreRead ps → Free name → Free text
    → version_parts text ≡ Err e → place_meant ps (name ++ (32 ∷ (text ++ (32 ∷ end)))) ≡ None
meant-no_source name text end e ps r f g is = meant-none (long name text end) ps r
    (λ p q. no-source-form name text end e p q f g is) (λ p q. long-without name text end p q f)

pub meant-bare : (name text end : List ℕ) (ps : Content) → AreRead ps → Free name → Free text
    → ((s : List ℕ) → end ≡ 40 ∷ (s ++ (41 ∷ [])) → ⊥) → place_meant ps (name ++ (32 ∷ (text ++ (32 ∷ end)))) ≡ None
meant-bare name text end ps r f g never = meant-none (long name text end) ps r
    (λ p q. bare-form name text end p q f g never) (λ p q. long-without name text end p q f)
