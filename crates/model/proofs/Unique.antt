-- A choice of targets stands for one content at most.
use Rattle.std.proofs.Common.{◌≡◌, ℕ, suc, ◌<◌, List, [], ◌∷◌, map, Bool, true, false, cond, Contains, Option, Some}
use Rattle.std.proofs.Common.{None, option_map, slice_get, refl, sym, ap, ap₂, ◌∙◌, subst, arith}
use Rattle.std.specs.Ordering.{ordering_reverse}
use Rattle.std.specs.declared.cmp.Ordering.TheVariants.{Less, Greater}
use Rattle.std.proofs.lemmas.Option.{slice_get-map, same_Some, none-some}
use Rattle.semver.specs.Parse.{Parts}
use Rattle.model.specs.Summary.{Dependency}
use Rattle.model.specs.Selection.{enabled, Brings}
use Rattle.model.specs.Content.{Package, Content, Problem, is_root, candidates_of, candidate_at}
use Rattle.model.specs.Order.{package_cmp}
use Rattle.model.specs.Vertices.{Owner, the_root, version_of, owner_brings}
use Rattle.model.specs.Walk.{IsReachedFact, StandsFor, name_of}
use Rattle.model.proofs.Contents.{rising_at}
use Rattle.model.proofs.Inner.{name_in, version_in}
use Rattle.model.proofs.Lists.{in_map, to_map}
use Rattle.model.proofs.Owners.{root_parts}
use Rattle.model.proofs.Permuted.{rising-same}
use Rattle.model.proofs.PackageOrder.{package_total}
use Rattle.model.proofs.Places.{place_of, got_in}
use Rattle.model.proofs.Gathered.{pairs_map}

-- a package without its list
abbrev head : Package → Package
head p = record p { list = [] }

abbrev with_list : Package → List ℕ → Package
with_list p l = record p { list = l }

never : (p r : Package) → package_cmp p r ≡ Less → package_cmp r p ≡ Less → ⊥
never p r h k = let x : Less ≡ Greater = sym h ∙ package_total.antisymm p r ∙ ap ordering_reverse k in cc

abbrev of_parts : List ℕ → Parts → Option (List ℕ) → Option (List ℕ) → Package
of_parts name version source checksum =
    record { name = name; version = version; source = source; checksum = checksum; list = [] }

same_parts : (p r : Package) → p.name ≡ r.name → p.version ≡ r.version → p.source ≡ r.source
    → p.checksum ≡ r.checksum → head p ≡ head r
same_parts p r e f g h =
    ap₂ (λ n v. of_parts n v p.source p.checksum) e f ∙ ap₂ (λ s c. of_parts r.name r.version s c) g h

-- lists of packages that differ in nothing
same_packages : (xs ys : Content) → map head xs ≡ map head ys
    → ((n : ℕ) (p r : Package) → slice_get xs n ≡ Some p → slice_get ys n ≡ Some r → p.list ≡ r.list) → xs ≡ ys
same_packages [] [] e h = refl
same_packages [] (y ∷ ys) e h = cc
same_packages (x ∷ xs) [] e h = cc
same_packages (x ∷ xs) (y ∷ ys) e h =
    let first : head x ≡ head y = cc in
    let rest : map head xs ≡ map head ys = cc in
    ap₂ (λ p ps. p ∷ ps) (ap₂ (λ p l. with_list p l) first (h 0 x y refl refl))
    (same_packages xs ys rest (λ n p r got had. h (suc n) p r got had))

module _ (q : Problem) (LeadsTo : Owner → ℕ → Dependency → Owner → Type 0) where
  -- packages of one owner
  alike : (a b : Content) → StandsFor q LeadsTo a → StandsFor q LeadsTo b → (n m : ℕ) (p r : Package)
      → slice_get a n ≡ Some p → slice_get b m ≡ Some r
      → name_of q p ≡ name_of q r → head p ≡ head r
  alike a b s t n m p r got had same = by (is_root q p) (is_root q r) refl refl same
    where
      by : (x y : Bool) → is_root q p ≡ x → is_root q r ≡ y → cond x the_root (version_of p.name p.version)
          ≡ cond y the_root (version_of r.name r.version) → head p ≡ head r
      by true true e f same =
          let i = root_parts q p e in
          let j = root_parts q r f in
          same_parts p r (sym i.1 ∙ j.1) (sym i.2 ∙ j.2) (i.0 ∙ sym j.0)
          (s.root_checksum n p got e ∙ sym (t.root_checksum m r had f))
      by true false e f same = cc
      by false true e f same = cc
      by false false e f same =
          let names = name_in p.name r.name p.version r.version same in
          let versions = version_in p.name r.name p.version r.version same in
          same_parts p r names versions (s.sources n p got e ∙ sym (t.sources m r had f))
          (s.checksums n p got e ∙ ap₂ (λ k v. option_map (λ c. c.checksum)
          (candidate_at (candidates_of q.candidates k) v)) names versions ∙ sym (t.checksums m r had f))

  -- what the one content has the other has too
  heads_in : (a b : Content) → StandsFor q LeadsTo a → StandsFor q LeadsTo b → (h : Package) → Contains (map head a) h
      → Contains (map head b) h
  heads_in a b s t h c =
      let (p, cp, e) = in_map head a h c in
      let (n, got) = place_of a p cp in
      let (m, r, had, same) = (t.packages (name_of q p)).0 ((s.packages (name_of q p)).1 (n, p, got, refl)) in
      subst (λ x. Contains (map head b) x) (sym (alike a b s t n m p r got had (sym same)) ∙ e)
      (to_map head b r (got_in b m r had))

  module _ (a b : Content) (s : StandsFor q LeadsTo a) (t : StandsFor q LeadsTo b) where
    heads_same : map head a ≡ map head b
    heads_same = rising-same (λ p r. package_cmp p r ≡ Less) never (map head a) (map head b)
        (pairs_map head (λ p r. package_cmp p r ≡ Less) (λ p r. package_cmp p r ≡ Less)
        (λ p r h. h) a s.is_content.in_order)
        (pairs_map head (λ p r. package_cmp p r ≡ Less) (λ p r. package_cmp p r ≡ Less)
        (λ p r h. h) b t.is_content.in_order)
        (heads_in a b s t) (heads_in b a t s)

  -- at one place
  head_at : (a b : Content) → map head a ≡ map head b → (n : ℕ) (p : Package) → slice_get a n ≡ Some p
      → (r : Package) × (slice_get b n ≡ Some r) × (head p ≡ head r)
  head_at a b e n p got = by (slice_get b n) refl (sym (slice_get-map head b n) ∙ ap (λ ps. slice_get ps n) (sym e)
      ∙ slice_get-map head a n ∙ ap (option_map head) got)
    where
      by : (o : Option Package) → slice_get b n ≡ o → option_map head (slice_get b n) ≡ Some (head p)
          → (r : Package) × (slice_get b n ≡ Some r) × (head p ≡ head r)
      by None f g = absurd (none-some (head p) (ap (option_map head) (sym f) ∙ g))
      by (Some r) f g = (r, f, same_Some (head p) (head r) (sym g ∙ ap (option_map head) f))

  -- a list of the one has what the list of the other has
  listed_in : (a b : Content) → StandsFor q LeadsTo a → StandsFor q LeadsTo b → map head a ≡ map head b
      → (n : ℕ) (p r : Package)
      → slice_get a n ≡ Some p → slice_get b n ≡ Some r → head p ≡ head r → (t : ℕ)
      → Contains p.list t → Contains r.list t
  listed_in a b s z e n p r got had same t c =
      let (x, i, d, there, link) = (s.lists n t p got).0 c in
      let (y, here_too, alike_too) = head_at a b e t x there in
      let names : name_of q p ≡ name_of q r = ap (name_of q) same in
      let others : name_of q x ≡ name_of q y = ap (name_of q) alike_too in
      (z.lists n t r had).1 (
        y,
        i,
        d,
        here_too,
        record {
          brings = subst (λ o. Brings (owner_brings q) o i d) names link.brings;
          is_enabled = subst (λ o. IsReachedFact q LeadsTo (enabled o i)) names link.is_enabled;
          leads = subst (λ o. LeadsTo (name_of q r) i d o) others
              (subst (λ o. LeadsTo o i d (name_of q x)) names link.leads);
        },
      )

  pub one_content : (a b : Content) → StandsFor q LeadsTo a → StandsFor q LeadsTo b → a ≡ b
  one_content a b s t =
      let e = heads_same a b s t in
      same_packages a b e (λ n p r got had. lists_same n p r got had e)
    where
      lists_same : (n : ℕ) (p r : Package) → slice_get a n ≡ Some p → slice_get b n ≡ Some r
          → map head a ≡ map head b → p.list ≡ r.list
      lists_same n p r got had e =
          let (y, had_y, same) = head_at a b e n p got in
          let is : y ≡ r = same_Some y r (sym had_y ∙ had) in
          let same_r : head p ≡ head r = same ∙ ap head is in
          rising-same (λ i j. i < j) (λ i j lt gt. omega (arith, lt, gt)) p.list r.list
          (rising_at a s.is_content n p got) (rising_at b t.is_content n r had)
          (λ k c. listed_in a b s t e n p r got had same_r k c)
          (λ k c. listed_in b a t s (sym e) n r p had got (sym same_r) k c)
