-- The content is built of those that are here.
use Rattle.std.proofs.Common.{◌≡◌, ◌≢◌, ◌↔◌, ℕ, zero, suc, ◌+◌, ◌<◌, Bool, true, false, List, [], ◌∷◌, ◌++◌, length}
use Rattle.std.proofs.Common.{get_or, Contains, Option, Some, None, option_map, slice_get, refl, sym, ap, ap₂, ◌∙◌}
use Rattle.std.proofs.Common.{subst, subst₂, inl, inr, arith, true≢false, Ordering}
use Rattle.std.specs.List.{All, AllPairs}
use Rattle.std.specs.List.Sorted.{IsPermutation}
use Rattle.std.specs.Ordering.{is_eq, ordering_reverse, ordering_then}
use Rattle.std.specs.declared.cmp.Ordering.TheVariants.{Less, Equal, Greater}
use Rattle.std.proofs.lemmas.Bool.{cases_order}
use Rattle.std.proofs.lemmas.List.{length-map, map-append}
use Rattle.std.proofs.lemmas.List.Elements.{Contains-push, All-push}
use Rattle.std.proofs.lemmas.List.Sorted.{All-permutation, Contains-permutation, IsPermutation-map, IsPermutation-sym}
use Rattle.std.proofs.lemmas.Option.{slice_get_within, slice_get-map, slice_get-get_or, same_Some, none-some}
use Rattle.std.proofs.lemmas.List.Quantifiers.{all_pairs_push}
use Rattle.semver.specs.Parse.{Parts}
use Rattle.semver.specs.Identifiers.{parts_text}
use Rattle.model.specs.Content.{Candidate, Package, Content, Problem, candidates_of}
use Rattle.model.specs.Order.{IsContent, package_cmp, precedence, text_cmp, version_cmp, source_cmp}
use Rattle.model.specs.Vertices.{Owner, the_root, version_of}
use Rattle.model.proofs.Lists.{all_get, pairs_get}
use Rattle.model.proofs.Permuted.{pairs-permutation}
use Rattle.model.proofs.Candidates.{precedence_total}
use Rattle.lockfile.proofs.PackageOrder.{text-eq}
use Rattle.model.proofs.Same.{text-same}
use Rattle.model.proofs.Places.{some_at, place_of, got_in, get_more, get_push_cases, map_at}
use Rattle.model.proofs.Mapped.{pairs_map}
use Rattle.manifest.specs.Manifests.{ManifestView}
use Rattle.catalogue.specs.Problems.{problem_in}
use Rattle.catalogue.specs.Stores.{CatalogueView, IsStore, rows_by_name}
use Rattle.selection.specs.declared.met.MetVersion.{MetVersion}
use Rattle.facts.specs.inner.Graphs.{NodeView, flag_at}
use Rattle.selection.specs.inner.Contents.{AreInOrder, AreKept, AreListed, IsPackage, IsPlace, LeadsFrom}
use Rattle.selection.specs.inner.Contents.{AreMetVersions}
use Rattle.selection.specs.inner.Contents.{IsThere, owner_if, owners_of, met_owner, Placed, kept_with, package_if}
use Rattle.selection.specs.inner.Contents.{places_in}
use Rattle.model.specs.inner.ContentOf.{package_of}
use Rattle.facts.specs.inner.Built.{IsBuilt}
use Rattle.selection.proofs.MetVersions.{once_at, rising_of, owners_once, some_is}
use Rattle.model.proofs.Inner.{name_in, version_in}

-- ---- one place more

of_itself : (q : Problem) (o : Owner) → package_of q o [] ≡ package_of q o (package_of q o []).list
of_itself q the_root = refl
of_itself q (version_of n v) = refl

module _ (q : Problem) (owners : List Owner) (here : List Bool) where
  same_kept : (n : ℕ) (ks : List Placed) → AreKept q owners here n ks
      → ((flag_at here n ≡ true) × IsPlace q owners n → ⊥) → AreKept q owners here (n + 1) ks
  same_kept n ks h not_this = record {
    members = λ m. (
      (λ c. let (lt, flag, at) = (h.members m).0 c in (omega (arith, lt), flag, at)),
      (λ (lt, flag, at). elim (cases_order m n) [
        | inl e ↦ absurd (not_this (subst (λ k. flag_at here k ≡ true) e flag, subst (IsPlace q owners) e at))
        | inr o ↦ elim o
            [ inl below ↦ (h.members m).1 (below, flag, at) | inr above ↦ absurd (omega (arith, lt, above)) ]
      ]),
    );
    packages = h.packages;
    distinct = h.distinct;
  }

  one_kept : (n : ℕ) (ks : List Placed) (o : Owner) → AreKept q owners here n ks → flag_at here n ≡ true
      → slice_get owners n ≡ Some o
      → AreKept q owners here (n + 1) (ks ++ (package_of q o [], n) ∷ [])
  one_kept n ks o h flag at = record {
    members = λ m. (to m, from m);
    packages = All-push (IsPackage q owners) ks (package_of q o [], n) h.packages (o, at, of_itself q o);
    distinct = all_pairs_push (λ k m. k.1 ≢ m.1) ks (package_of q o [], n) h.distinct (λ k d lt e.
        let c = got_in (places_in ks) k (get_or ks k d).1
        (map_at (λ (k : Placed). k.1) ks k (get_or ks k d) (slice_get-get_or ks k d lt)) in
        let below = ((h.members (get_or ks k d).1).0 c).0 in
        omega (arith, below, e));
  }
    where
      is : places_in (ks ++ (package_of q o [], n) ∷ []) ≡ places_in ks ++ n ∷ []
      is = map-append (λ (k : Placed). k.1) ks ((package_of q o [], n) ∷ [])

      to : (m : ℕ) → Contains (places_in (ks ++ (package_of q o [], n) ∷ [])) m
          → (m < n + 1) × (flag_at here m ≡ true) × IsPlace q owners m
      to m c =
          let (k, got) = place_of (places_in (ks ++ (package_of q o [], n) ∷ [])) m c in
          elim (get_push_cases (places_in ks) n k m (ap (λ l. slice_get l k) (sym is) ∙ got)) [
            | inl e ↦ let (lt, f, p) = (h.members m).0 (got_in (places_in ks) k m e) in (omega (arith, lt), f, p)
            | inr e ↦ let last = e.1 in (
              omega (arith, last),
              subst (λ k. flag_at here k ≡ true) last flag,
              subst (IsPlace q owners) last (o, at),
            )
          ]

      from : (m : ℕ) → (m < n + 1) × (flag_at here m ≡ true) × IsPlace q owners m
          → Contains (places_in (ks ++ (package_of q o [], n) ∷ [])) m
      from m (lt, f, p) = subst (λ l. Contains l m) (sym is) (elim (cases_order m n) [
        | inl e ↦ subst (λ k. Contains (places_in ks ++ n ∷ []) k) (sym e) (last_in (places_in ks))
        | inr r ↦ elim r [
          | inl below ↦ early_in (places_in ks) ((h.members m).1 (below, f, p))
          | inr above ↦ absurd
              (omega (arith, lt, above))
        ]
      ])
        where
          last_in : (xs : List ℕ) → Contains (xs ++ n ∷ []) n
          last_in xs = Contains-push xs n

          early_in : (xs : List ℕ) → Contains xs m → Contains (xs ++ n ∷ []) m
          early_in xs c = let (k, got) = place_of xs m c in got_in (xs ++ n ∷ []) k m (get_more xs (n ∷ []) k m got)

  pub more_kept : (n : ℕ) (ks more : List Placed) (b : Bool) (found : Option Package) → AreKept q owners here n ks
      → flag_at here n ≡ b → found ≡ package_if q b (slice_get owners n) → more ≡ kept_with ks found n
      → AreKept q owners here (n + 1) more
  more_kept n ks more b found h flag e f = subst (AreKept q owners here (n + 1))
      (sym (f ∙ ap (λ o. kept_with ks o n) e)) (by b (slice_get owners n) flag refl)
    where
      by : (b : Bool) (o : Option Owner) → flag_at here n ≡ b → slice_get owners n ≡ o
          → AreKept q owners here (n + 1) (kept_with ks (package_if q b o) n)
      by false o flag at = same_kept n ks h (λ (on, p). true≢false (sym on ∙ flag))
      by true None flag at = same_kept n ks h (λ (on, p). none-some p.0 (sym at ∙ p.1))
      by true (Some o) flag at = one_kept n ks o h flag at

-- ---- no two tie

then_equal : (r s : Ordering) → ordering_then r s ≡ Equal → (r ≡ Equal) × (s ≡ Equal)
then_equal Less s h = let x : Less ≡ Equal = h in cc
then_equal Equal s h = (refl, h)
then_equal Greater s h = let x : Greater ≡ Equal = h in cc

ties : (p r : Package) → package_cmp p r ≡ Equal
    → (p.name ≡ r.name) × (precedence p.version r.version ≡ Equal) × (source_cmp p.source r.source ≡ Equal)
ties p r h =
    let a = then_equal (text_cmp p.name r.name)
    (ordering_then (version_cmp p.version r.version) (source_cmp p.source r.source)) h in
    let b = then_equal (version_cmp p.version r.version) (source_cmp p.source r.source) a.1 in
    let c = then_equal (precedence p.version r.version) (text_cmp (parts_text p.version) (parts_text r.version)) b.0 in
    (text-same p.name r.name (sym (text-eq p.name r.name) ∙ ap is_eq a.0), c.0, b.1)

module _ (manifest : ManifestView) (index : CatalogueView) (store : IsStore index) (versions : List MetVersion)
    (are : AreMetVersions index versions) where
  abbrev Q : Problem
  Q = problem_in manifest index

  -- a version that stands there is a candidate of its name
  stands : (t : ℕ) (n : List ℕ) (v : Parts) → slice_get (owners_of index versions) t ≡ Some (version_of n v)
      → (p : ℕ) × (c : Candidate) × (slice_get (candidates_of (rows_by_name index) n) p ≡ Some c) × (c.version ≡ v)
  stands zero n v at = let x : the_root ≡ version_of n v = same_Some the_root (version_of n v) at in cc
  stands (suc t) n v at = by (slice_get versions t) refl (sym (slice_get-map (met_owner index) versions t) ∙ at)
    where
      by : (o : Option MetVersion) → slice_get versions t ≡ o
          → option_map (met_owner index) (slice_get versions t) ≡ Some (version_of n v)
          → (p : ℕ) × (c : Candidate) × (slice_get (candidates_of (rows_by_name index) n) p ≡ Some c) × (c.version ≡ v)
      by None e h = absurd (none-some (version_of n v) (sym (ap (option_map (met_owner index)) e) ∙ h))
      by (Some s) e h =
          let (c, got) = some_is (slice_get (candidates_of (rows_by_name index) s.name) s.place)
          (all_get (IsThere index) versions t s are.there e) in
          let is : version_of s.name c.version ≡ version_of n v
          = sym (ap (owner_if s.name) got)
          ∙ same_Some (met_owner index s) (version_of n v) (sym (ap (option_map (met_owner index)) e) ∙ h) in (
            s.place,
            c,
            ap (λ k. slice_get (candidates_of (rows_by_name index) k) s.place)
                (sym (name_in s.name n c.version v is)) ∙ got,
            version_in s.name n c.version v is,
          )

  tie_is_same : (t r : ℕ) (o u : Owner) (l m : List ℕ) → slice_get (owners_of index versions) t ≡ Some o
      → slice_get (owners_of index versions) r ≡ Some u
      → package_cmp (package_of Q o l) (package_of Q u m) ≡ Equal → o ≡ u
  tie_is_same t r the_root the_root l m at there h = refl
  tie_is_same t r the_root (version_of n v) l m at there h = let x : Greater ≡ Equal =
      (ties (package_of Q the_root l) (package_of Q (version_of n v) m) h).2 in cc
  tie_is_same t r (version_of n v) the_root l m at there h = let x : Less ≡ Equal =
      (ties (package_of Q (version_of n v) l) (package_of Q the_root m) h).2 in cc
  tie_is_same t r (version_of n v) (version_of k w) l m at there h =
      let (names, same, sources) = ties (package_of Q (version_of n v) l) (package_of Q (version_of k w) m) h in
      let (p, c, got, is) = stands t n v at in
      let (z, e, had, has_it) = stands r k w there in
      let beside : slice_get (candidates_of (rows_by_name index) n) z ≡ Some e =
      ap (λ x. slice_get (candidates_of (rows_by_name index) x) z) names ∙ had in
      let alike : precedence c.version e.version ≡ Equal =
      subst₂ (λ a b. precedence a b ≡ Equal) (sym is) (sym has_it) same in
      let places = once_at (candidates_of (rows_by_name index) n) (rising_of index n store) p z c e got beside alike
      (precedence_total.antisymm e.version c.version ∙ ap ordering_reverse alike) in
      let one : c ≡ e =
      same_Some c e (sym got ∙ ap (slice_get (candidates_of (rows_by_name index) n)) places ∙ beside) in
      ap₂ (λ a b. version_of a b) names (sym is ∙ ap (λ (c : Candidate). c.version) one ∙ has_it)

  pub no_ties : (here : List Bool) (n : ℕ) (ks : List Placed) → AreKept Q (owners_of index versions) here n ks
      → AllPairs (λ k m. package_cmp k.0 m.0 ≢ Equal) ks
  no_ties here n ks h i j d lt within e =
      let k = get_or ks i d in
      let m = get_or ks j d in
      let (o, at, is) = h.packages i d (omega (arith, lt, within)) in
      let (u, there, has_it) = h.packages j d within in
      let same : o ≡ u = tie_is_same k.1 m.1 o u (k.0).list (m.0).list at there
      (subst₂ (λ p r. package_cmp p r ≡ Equal) is has_it e) in
      h.distinct i j d lt within (place_is k.1 m.1 o at (there ∙ ap Some (sym same)))
    where
      place_is : (a b : ℕ) (o : Owner) → slice_get (owners_of index versions) a ≡ Some o
          → slice_get (owners_of index versions) b ≡ Some o → a ≡ b
      place_is a b o at there = elim (cases_order a b) [
        | inl e ↦ e
        | inr r ↦ elim r [
          | inl below ↦ absurd (pairs_get (λ a b. a ≢ b) (owners_of index versions) a b o o
              (owners_once index store versions are) below at there refl)
          | inr above ↦ absurd (pairs_get (λ a b. a ≢ b) (owners_of index versions) b a o o
              (owners_once index store versions are) above there at refl)
        ]
      ]

-- ---- the content

with_other : (q : Problem) (o : Owner) (l m : List ℕ) → record (package_of q o l) { list = m } ≡ package_of q o m
with_other q the_root l m = refl
with_other q (version_of n v) l m = refl

flag_within : (here : List Bool) (n : ℕ) → flag_at here n ≡ true → n < length here
flag_within [] n h = absurd (true≢false (sym h))
flag_within (b ∷ bs) zero h = omega arith
flag_within (b ∷ bs) (suc n) h = let lt = flag_within bs n h in omega (arith, lt)

module _ (q : Problem) (owners : List Owner) (here : List Bool) (first ks : List Placed)
    (kept : AreKept q owners here (length here) first) (moved : IsPermutation first ks) where
  pub places_apart : AllPairs (λ m n. m ≢ n) (places_in ks)
  places_apart = pairs_map (λ (k : Placed). k.1) (λ m n. m ≢ n) ks
      (pairs-permutation (λ (k m : Placed). k.1 ≢ m.1) (λ k m n e. n (sym e)) first ks moved kept.distinct)

  pub places_within : (count : ℕ) → count ≡ length owners → All (λ n. n < count) (places_in ks)
  places_within count e = λ k d lt.
      let c = got_in (places_in ks) k (get_or (places_in ks) k d) (slice_get-get_or (places_in ks) k d lt) in
      let (below, f, (o, at)) = (kept.members (get_or (places_in ks) k d)).0 (Contains-permutation (places_in ks)
      (places_in first) (get_or (places_in ks) k d) (IsPermutation-sym (places_in first) (places_in ks)
      (IsPermutation-map (λ (k : Placed). k.1) first ks moved)) c) in
      let inside = slice_get_within owners (get_or (places_in ks) k d) o at in
      omega (arith, inside, e)

module _ (q : Problem) (owners : List Owner) (nodes : List NodeView) (enabled : List (List Bool)) (here : List Bool)
    (first ks : List Placed) (ps : Content)
    (kept : AreKept q owners here (length here) first) (moved : IsPermutation first ks) (order : AreInOrder ks)
    (listed : AreListed nodes enabled ks ps) where
  package_at : (n : ℕ) (p : Package) → slice_get ps n ≡ Some p → (k : Placed) × (slice_get ks n ≡ Some k)
  package_at n p got = let lt = slice_get_within ps n p got in let many =
      listed.as_many in some_at ks n (omega (arith, lt, many))

  rises : AllPairs (λ p r. package_cmp p r ≡ Less) ps
  rises i j d lt within =
      let p = get_or ps i d in
      let r = get_or ps j d in
      let got = slice_get-get_or ps i d (omega (arith, lt, within)) in
      let had = slice_get-get_or ps j d within in
      let (k, at) = package_at i p got in
      let (m, there) = package_at j r had in
      subst₂
      (λ p r. package_cmp p r ≡ Less) (sym (listed.each i k p at got).head) (sym (listed.each j m r there had).head)
      (pairs_get (λ k m. package_cmp k.0 m.0 ≡ Less) ks i j k m order lt at there)

  pub is_content : IsContent ps
  is_content = record {
    in_order = rises;
    within = λ i d lt. (
        let got = slice_get-get_or ps i d lt in
        let (k, at) = package_at i (get_or ps i d) got in
        within_list (get_or ps i d) k ((listed.each i k (get_or ps i d) at got).members));
    rising = λ i d lt. (
        let got = slice_get-get_or ps i d lt in
        let (k, at) = package_at i (get_or ps i d) got in
        (listed.each i k (get_or ps i d) at got).rising);
  }
    where
      within_list : (p : Package) (k : Placed) → ((r : ℕ)
          → Contains p.list r ↔ ((s : ℕ) × LeadsFrom nodes enabled k.1 s × (slice_get (places_in ks) r ≡ Some s)))
          → All (λ t. t < length ps) p.list
      within_list p k h n e lt =
          let c = got_in p.list n (get_or p.list n e) (slice_get-get_or p.list n e lt) in
          let (s, leads, place) = (h (get_or p.list n e)).0 c in
          let below = slice_get_within (places_in ks) (get_or p.list n e) s place in
          let many = listed.as_many in
          let wide : length (places_in ks) ≡ length ks = rw length-map refl in
          omega (arith, below, many, wide)

  placed_at : (k n : ℕ) → slice_get (places_in ks) k ≡ Some n → (x : Placed) × (slice_get ks k ≡ Some x) × (x.1 ≡ n)
  placed_at k n at =
      let below = slice_get_within (places_in ks) k n at in
      let wide : length (places_in ks) ≡ length ks = rw length-map refl in
      let (x, got) = some_at ks k (omega (arith, below, wide)) in
      (x, got, same_Some x.1 n (sym (map_at (λ (k : Placed). k.1) ks k x got) ∙ at))

  pub is_built : IsBuilt owners nodes enabled q here ps
  is_built = record {
    is_content = is_content;
    places = places_in ks;
    as_many = let many = listed.as_many in rw length-map many;
    members = λ n. (
      (λ c. let (lt, f, at) = (kept.members n).0 (Contains-permutation (places_in ks) (places_in first) n
          (IsPermutation-sym (places_in first) (places_in ks) places_moved) c) in (f, at.0, at.1)),
      (λ (f, o, at). Contains-permutation (places_in first) (places_in ks) n places_moved
          ((kept.members n).1 (flag_within here n f, f, (o, at)))),
    );
    packages = λ k n p got at. (
        let (x, there, place) = placed_at k n at in
        let (o, stood, is) = all_get (IsPackage q owners) ks k x
        (All-permutation (IsPackage q owners) first ks moved kept.packages) there in (
          o,
          ap (slice_get owners) (sym place) ∙ stood,
          (listed.each k x p there got).head
              ∙ ap (λ (y : Package). record y { list = p.list }) is ∙ with_other q o (x.0).list p.list,
        ));
    lists = λ k n t p got at. (
        let (x, there, place) = placed_at k n at in
        subst (λ m. Contains p.list t ↔ ((s : ℕ) × LeadsFrom nodes enabled m s × (slice_get (places_in ks) t ≡ Some s)))
        place ((listed.each k x p there got).members t));
  }
    where
      places_moved : IsPermutation (places_in first) (places_in ks)
      places_moved = IsPermutation-map (λ (k : Placed). k.1) first ks moved
