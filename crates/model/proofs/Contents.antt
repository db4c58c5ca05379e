-- What follows from package order, and from the order of a catalogue's versions.
use Rattle.std.proofs.Common.{◌≡◌, ℕ, ◌<◌, length, List, [], ◌∷◌, true, false, cond, Contains, Option, Some, None}
use Rattle.std.proofs.Common.{slice_get, refl, sym, ap, ◌∙◌, subst, inl, inr, arith, nat_cmp, is_gt, Ordering, Less}
use Rattle.std.proofs.Common.{Equal, Greater}
use Rattle.std.specs.List.{All, AllPairs}
use Rattle.std.specs.Ordering.{ordering_then, ordering_reverse}
use Rattle.std.specs.Cmp.Lexicographic.{nat_list_cmp_total}
use Rattle.std.proofs.lemmas.Bool.{cases_order}
use Rattle.std.proofs.lemmas.Cmp.{nat_cmp_total}
use Rattle.semver.specs.Identifiers.{parts_text}
use Rattle.semver.specs.Order.{pre_cmp}
use Rattle.semver.specs.OrderLaws.{pre_total}
use Rattle.semver.specs.Parse.{Parts}
use Rattle.model.specs.Summary.{KnowsFeatures, same_text}
use Rattle.model.specs.Content.{Package, Content, Candidate, Problem, candidates_of}
use Rattle.model.specs.Order.{text_cmp, precedence, version_cmp, source_cmp, package_cmp, IsContent, IsCatalogue}
use Rattle.std.proofs.lemmas.List.Elements.{All-contains}
use Rattle.model.proofs.Candidates.{precedence_total}
use Rattle.model.proofs.Lists.{in_none, in_cons, all_get, all_first, all_rest, pairs_get, pairs_first, pairs_rest}

-- a comparison of a thing with itself
of_itself : (o : Ordering) → o ≡ ordering_reverse o → o ≡ Equal
of_itself Less e = cc
of_itself Equal e = refl
of_itself Greater e = cc

pub text-equal : (a b : List ℕ) → a ≡ b → text_cmp a b ≡ Equal
text-equal a b e = subst (λ x. text_cmp a x ≡ Equal) e (of_itself (text_cmp a a) (nat_list_cmp_total.antisymm a a))

nat-equal : (a : ℕ) → nat_cmp a a ≡ Equal
nat-equal a = of_itself (nat_cmp a a) (nat_cmp_total.antisymm a a)

pub precedence-equal : (v w : Parts) → v ≡ w → precedence v w ≡ Equal
precedence-equal v w e = subst (λ (x : Parts). precedence v x ≡ Equal) e
    (rw (nat-equal v.0, nat-equal v.1, nat-equal v.2) (of_itself (pre_cmp v.3 v.3) (pre_total.antisymm v.3 v.3)))

source-equal : (a b : Option (List ℕ)) → a ≡ b → source_cmp a b ≡ Equal
source-equal a b e = subst (λ x. source_cmp a x ≡ Equal) e (same a)
  where
    same : (a : Option (List ℕ)) → source_cmp a a ≡ Equal
    same None = refl
    same (Some x) = text-equal x x refl

-- two packages alike in name, version and source tie
alike : (p r : Package) → p.name ≡ r.name → p.version ≡ r.version → p.source ≡ r.source → package_cmp p r ≡ Equal
alike p r e f g =
    rw (
      text-equal p.name r.name e,
      precedence-equal p.version r.version f,
      text-equal (parts_text p.version) (parts_text r.version) (ap parts_text f),
    ) (source-equal p.source r.source g)

pub less_equal : (o : Ordering) → o ≡ Less → o ≡ Equal → ⊥
less_equal o e f = let x : Less ≡ Equal = sym e ∙ f in cc

-- of two packages in order that have one name, the first isn't the newer
ordered-older : (p r : Package) → package_cmp p r ≡ Less → p.name ≡ r.name
    → is_gt (precedence p.version r.version) ≡ false
ordered-older p r o same =
    let now : ordering_then (version_cmp p.version r.version) (source_cmp p.source r.source) ≡ Less =
    ap (λ t. ordering_then t (ordering_then (version_cmp p.version r.version) (source_cmp p.source r.source)))
    (sym (text-equal p.name r.name same)) ∙ o in
    by (precedence p.version r.version) (text_cmp (parts_text p.version) (parts_text r.version))
    (source_cmp p.source r.source) now
  where
    by : (a b c : Ordering) → ordering_then (ordering_then a b) c ≡ Less → is_gt a ≡ false
    by Less b c e = refl
    by Equal b c e = refl
    by Greater b c e = let x : Greater ≡ Less = e in cc

module _ (content : Content) (formed : IsContent content) where
  -- a package that stands before another differs from it
  differs : (n m : ℕ) (p r : Package) → slice_get content n ≡ Some p → slice_get content m ≡ Some r → n < m
      → p.name ≡ r.name → p.version ≡ r.version → p.source ≡ r.source → ⊥
  differs n m p r got had lt e f g = less_equal (package_cmp p r)
      (pairs_get (λ p r. package_cmp p r ≡ Less) content n m p r formed.in_order lt got had) (alike p r e f g)

  -- no two packages are alike in name, version and source
  pub no_two_alike : (n m : ℕ) (p r : Package) → slice_get content n ≡ Some p → slice_get content m ≡ Some r
      → p.name ≡ r.name → p.version ≡ r.version → p.source ≡ r.source → n ≡ m
  no_two_alike n m p r got had e f g = elim (cases_order n m) [
    | inl same ↦ same
    | inr h ↦ elim h [
      | inl lt ↦ absurd (differs n m p r got had lt e f g)
      | inr lt ↦ absurd
          (differs m n r p had got lt (sym e) (sym f) (sym g))
    ]
  ]

  -- of one name the older versions come first
  pub older_first : (n m : ℕ) (p r : Package) → slice_get content n ≡ Some p → slice_get content m ≡ Some r
      → n < m → p.name ≡ r.name → is_gt (precedence p.version r.version) ≡ false
  older_first n m p r got had lt same =
      ordered-older p r (pairs_get (λ p r. package_cmp p r ≡ Less) content n m p r formed.in_order lt got had) same

  -- a list is a set of places of the content
  pub rising_at : (n : ℕ) (p : Package) → slice_get content n ≡ Some p → AllPairs (λ i j. i < j) p.list
  rising_at n p got = all_get (λ (p : Package). AllPairs (λ i j. i < j) p.list) content n p formed.rising got

  pub within_at : (n : ℕ) (p : Package) → slice_get content n ≡ Some p → All (λ t. t < length content) p.list
  within_at n p got = all_get (λ (p : Package). All (λ t. t < length content) p.list) content n p formed.within got

-- what holds of each row's list holds of the candidates of a name
of_name : (P : List Candidate → Type 0) → P [] → (rows : List (List ℕ × List Candidate)) (name : List ℕ)
    → All (λ row. P row.1) rows → P (candidates_of rows name)
of_name P none [] name h = none
of_name P none (row ∷ rows) name h = elim (same_text name row.0) as (λ b. P (cond b row.1 (candidates_of rows name))) [
  | true ↦ all_first (λ (r : List ℕ × List Candidate). P r.1) row rows h
  | false ↦ of_name P none rows name (all_rest (λ (r : List ℕ × List Candidate). P r.1) row rows h)
]

-- of versions that rise each is there once
rising_once : (cs : List Candidate) (c e : Candidate) → AllPairs (λ c e. precedence c.version e.version ≡ Less) cs
    → Contains cs c → Contains cs e → c.version ≡ e.version → c ≡ e
rising_once [] c e h i j same = absurd (in_none c i)
rising_once (x ∷ cs) c e h i j same = elim (in_cons x c cs i) [
  | inl a ↦ elim (in_cons x e cs j) [ inl b ↦ sym a ∙ b | inr j ↦ absurd (apart c e (sym a) j same) ]
  | inr i ↦ elim (in_cons x e cs j) [
    | inl b ↦ absurd (apart e c (sym b) i (sym same))
    | inr j ↦ rising_once cs c e
        (pairs_rest (λ c e. precedence c.version e.version ≡ Less) x cs h) i j same
  ]
]
  where
    apart : (c e : Candidate) → c ≡ x → Contains cs e → c.version ≡ e.version → ⊥
    apart c e a j same = less_equal (precedence x.version e.version)
        (pairs_first (λ c e. precedence c.version e.version ≡ Less) x e cs h j)
        (precedence-equal x.version e.version (ap (λ (x : Candidate). x.version) (sym a) ∙ same))

-- of versions that rise no two tie
rising_tied : (cs : List Candidate) (c e : Candidate) → AllPairs (λ c e. precedence c.version e.version ≡ Less) cs
    → Contains cs c → Contains cs e → precedence c.version e.version ≡ Equal → c ≡ e
rising_tied [] c e h i j tie = absurd (in_none c i)
rising_tied (x ∷ cs) c e h i j tie = elim (in_cons x c cs i) [
  | inl a ↦ elim (in_cons x e cs j) [
    | inl b ↦ sym a ∙ b
    | inr j ↦ absurd (less_equal (precedence x.version e.version)
        (first e j) (subst (λ (y : Candidate). precedence y.version e.version ≡ Equal) (sym a) tie))
  ]
  | inr i ↦ elim (in_cons x e cs j) [
    | inl b ↦ absurd (less_equal (precedence x.version c.version) (first c i)
        (precedence_total.antisymm x.version c.version
        ∙ ap ordering_reverse (subst (λ (y : Candidate). precedence c.version y.version ≡ Equal) (sym b) tie)))
    | inr j ↦ rising_tied cs c e (pairs_rest (λ c e. precedence c.version e.version ≡ Less) x cs h) i j tie
  ]
]
  where
    first : (y : Candidate) → Contains cs y → precedence x.version y.version ≡ Less
    first y c = pairs_first (λ c e. precedence c.version e.version ≡ Less) x y cs h c

module _ (q : Problem) (catalogue : IsCatalogue q) where
  -- of the candidates of a name no two tie
  pub each_version_tied : (name : List ℕ) (c e : Candidate) → Contains (candidates_of q.candidates name) c
      → Contains (candidates_of q.candidates name) e
      → precedence c.version e.version ≡ Equal → c ≡ e
  each_version_tied name c e i j tie = rising_tied (candidates_of q.candidates name) c e
      (of_name (λ cs. AllPairs (λ c e. precedence c.version e.version ≡ Less) cs)
      (λ i j d lt within. absurd (omega arith)) q.candidates name catalogue.versions_rise) i j tie

  -- of the candidates of a name each version is there once
  pub each_version_once : (name : List ℕ) (c e : Candidate) → Contains (candidates_of q.candidates name) c
      → Contains (candidates_of q.candidates name) e
      → c.version ≡ e.version → c ≡ e
  each_version_once name c e i j same = rising_once (candidates_of q.candidates name) c e
      (of_name (λ cs. AllPairs (λ c e. precedence c.version e.version ≡ Less) cs)
      (λ i j d lt within. absurd (omega arith)) q.candidates name catalogue.versions_rise) i j same

  -- the feature of an entry `g` is there
  pub feature_known : (name : List ℕ) (c : Candidate) → Contains (candidates_of q.candidates name) c
      → KnowsFeatures c.brings.features
  feature_known name c i =
      All-contains (λ (c : Candidate). KnowsFeatures c.brings.features) (candidates_of q.candidates name) c
      (of_name (λ cs. All (λ c. KnowsFeatures c.brings.features) cs)
      (λ k d lt. absurd (omega arith)) q.candidates name catalogue.features_known) i
