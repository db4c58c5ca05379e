-- What a loaded index selects can be written: its texts are ones that a lock may have.
use Rattle.std.proofs.Common.{◌≡◌, ℕ, ◌≤◌, nat_le, ◌==◌, ◌||◌, ◌&&◌, not, List, [], ◌∷◌, ◌++◌, length, map, slice_get}
use Rattle.std.proofs.Common.{Bool, true, false, cond, Contains, Option, Some, None, option_and_then, refl, sym, ap}
use Rattle.std.proofs.Common.{ap₂, ◌∙◌, subst, inl, inr, true≢false, arith}
use Rattle.std.proofs.lemmas.Bool.{le-leb, leb-true, eqb-true}
use Rattle.std.proofs.lemmas.Option.{none-some}
use Rattle.std.specs.List.{All, AllByRecursion, list_all}
use Rattle.semver.specs.Grammar.{IsValid}
use Rattle.model.specs.Content.{Candidate, Content, Package, Problem, candidates_of, candidate_at, if_checksum, is_root}
use Rattle.model.specs.Content.{same_option}
use Rattle.model.specs.Candidates.{Record, as_candidate}
use Rattle.model.specs.Selection.{IsValidSelection, IsOther}
use Rattle.model.specs.Summary.{Dependency, same_text}
use Rattle.model.proofs.Lists.{in_none, in_cons, in_first, in_rest, in_map}
use Rattle.model.proofs.Same.{both, text-same}
use Rattle.model.proofs.Owners.{candidate_at-is, is_candidate, root_parts}
use Rattle.model.proofs.Places.{place_of}
use Rattle.model.proofs.Members.{all_in, each_at}
use Rattle.model.proofs.Flat.{in_flat}
use Rattle.manifest.specs.Manifests.{ManifestView}
use Rattle.features.specs.Names.{is_between}
use Rattle.index_reader.specs.Files.{records_of_file}
use Rattle.index_lines.specs.Records.{is_checksum, is_hexadecimal}
use Rattle.catalogue.specs.Problems.{candidates_by_name, names_in, problem_of}
use Rattle.catalogue.specs.Runs.{Asked, AreNext, as_record, candidates_in, meant_by, needed_by, records_of}
use Rattle.catalogue.specs.Sources.{is_source, is_source_byte}
use Rattle.catalogue.proofs.LawsCandidates.{in_candidates}
use Rattle.catalogue.proofs.LawsNames.{needed-cases, next-needed}
use Rattle.catalogue.proofs.LawsPackages.{text_option}
use Rattle.lockfile.specs.Locks.{is_plain_byte}
use Rattle.lockfile.specs.Spelling.{IsPlain, IsWritable}
use Rattle.model.specs.Selected.{HasBareRoot}
use Rattle.resolver.proofs.IndexTexts.{IsName, MeansName, IsRecord, file-texts}
use Rattle.resolver.proofs.ManifestTexts.{HasTexts}

-- ---- lists

-- ---- bytes

-- a text all of whose bytes are of one kind has bytes of a wider kind alone
wider : (narrow wide : ℕ → Bool) → ((b : ℕ) → narrow b ≡ true → wide b ≡ true) → (text : List ℕ)
    → list_all narrow text ≡ true → list_all wide text ≡ true
wider narrow wide h [] all = refl
wider narrow wide h (b ∷ text) all =
    let p = both (narrow b) (list_all narrow text) all in
    ap₂ (λ x y. x && y) (h b p.0) (wider narrow wide h text p.1)

isnt : (b n : ℕ) → (b ≡ n → ⊥) → not (b == n) ≡ true
isnt b n h = by (b == n) refl
  where
    by : (x : Bool) → (b == n) ≡ x → not x ≡ true
    by true e = absurd (h (eqb-true b n e))
    by false e = refl

plain : (b : ℕ) → 32 ≤ b → b ≤ 126 → (b ≡ 34 → ⊥) → (b ≡ 92 → ⊥) → is_plain_byte b ≡ true
plain b low high quote slash =
    ap₂ (λ x y. x && y) (le-leb 32 b low)
    (ap₂ (λ x y. x && y) (le-leb b 126 high) (ap₂ (λ x y. x && y) (isnt b 34 quote) (isnt b 92 slash)))

hexadecimal-plain : (b : ℕ) → is_hexadecimal b ≡ true → is_plain_byte b ≡ true
hexadecimal-plain b h = by (is_between 48 57 b) refl h
  where
    by : (x : Bool) → is_between 48 57 b ≡ x → (x || is_between 97 102 b) ≡ true → is_plain_byte b ≡ true
    by true e k =
        let p = both (nat_le 48 b) (nat_le b 57) e in
        let low = leb-true 48 b p.0 in
        let high = leb-true b 57 p.1 in
        plain b (omega (arith, low)) (omega (arith, high)) (λ q. omega (arith, low, q)) (λ q. omega (arith, high, q))
    by false e k =
        let p = both (nat_le 97 b) (nat_le b 102) k in
        let low = leb-true 97 b p.0 in
        let high = leb-true b 102 p.1 in
        plain b (omega (arith, low)) (omega (arith, high)) (λ q. omega (arith, low, q)) (λ q. omega (arith, low, q))

source-plain : (b : ℕ) → is_source_byte b ≡ true → is_plain_byte b ≡ true
source-plain b h =
    let p = both (nat_le 33 b && nat_le b 126) (not (b == 34 || (b == 92 || (b == 40 || b == 41)))) h in
    let q = both (nat_le 33 b) (nat_le b 126) p.0 in
    let low = leb-true 33 b q.0 in
    let other = neither (b == 34) (b == 92) (b == 40 || b == 41) p.1 in
    ap₂ (λ x y. x && y) (le-leb 32 b (omega (arith, low)))
    (ap₂ (λ x y. x && y) q.1 (ap₂ (λ x y. x && y) other.0 other.1))
  where
    neither : (x y z : Bool) → not (x || (y || z)) ≡ true → (not x ≡ true) × (not y ≡ true)
    neither true y z h = absurd (true≢false (sym h))
    neither false true z h = absurd (true≢false (sym h))
    neither false false z h = (refl, refl)

source-text : (source : List ℕ) → is_source source ≡ true → list_all is_plain_byte source ≡ true
source-text source h =
    let p = both (nat_le 1 (length source)) (nat_le (length source) 512 && list_all is_source_byte source) h in
    let q = both (nat_le (length source) 512) (list_all is_source_byte source) p.1 in
    wider is_source_byte is_plain_byte source-plain source q.1

checksum-text : (checksum : List ℕ) → is_checksum checksum ≡ true → list_all is_plain_byte checksum ≡ true
checksum-text checksum h = wider is_hexadecimal is_plain_byte hexadecimal-plain checksum
    (both (length checksum == 64) (list_all is_hexadecimal checksum) h).1

-- ---- the records of a name

abbrev IsRead : Record → Type 0
IsRead r = (IsValid r.version × AllByRecursion MeansName (r.brings).dependencies) × (is_checksum r.checksum ≡ true)

records-read : (a : Asked) (r : Record) → Contains (records_of a) r → IsRead r
records-read (name, None) r c = absurd (in_none r c)
records-read (name, Some bytes) r c =
    let i = in_map as_record (records_of_file name bytes).records r c in
    subst IsRead i.2 (each_at IsRecord (records_of_file name bytes).records i.0 (file-texts name bytes) i.1)

means : (ds : List Dependency) (name : List ℕ) → AllByRecursion MeansName ds → Contains (meant_by ds) name → IsName name
means ds name h c = let i =
    in_map (λ (d : Dependency). d.real_name) ds name c in subst IsName i.2 (each_at MeansName ds i.0 h i.1)

module _ (old : Content) (source : List ℕ) where
  candidate-read : (a : Asked) (r : Record) → Contains (candidates_in old source a) r → IsRead r
  candidate-read a r c = records-read a r (in_candidates old source a r c).0

  needed-name : (a : Asked) (name : List ℕ) → Contains (needed_by old source a) name → IsName name
  needed-name a name c =
      let i = in_flat (λ (r : Record). meant_by (r.brings).dependencies) (candidates_in old source a) name c in
      means ((i.0).brings).dependencies name (candidate-read a i.0 i.1).0.1 i.2

  -- what is asked for is a name
  asked-names : (root : List Dependency) → AllByRecursion MeansName root → (before later : List Asked)
      → AreNext old source root before later → (name : List ℕ) → Contains (names_in later) name → IsName name
  asked-names root h before [] turn name c = absurd (in_none name c)
  asked-names root h before (a ∷ later) turn name c = elim (in_cons a.0 name (names_in later) c) [
    | inl s ↦ subst IsName s
        (elim (needed-cases old source root before a.0 (next-needed old source root before a.0 turn.0)) [
          | inl i ↦ means root a.0 h i
          | inr (b, i, n) ↦ needed-name b a.0 n
        ])
    | inr i ↦ asked-names root h (before ++ a ∷ []) later turn.1 name i
  ]

  -- a candidate of a name is one of the records that were asked for
  abbrev IsAskedIn : List Asked → List ℕ → Candidate → Type 0
  IsAskedIn asked name c = (a : Asked) × (r : Record) × Contains (names_in asked) name
      × Contains (candidates_in old source a) r × (as_candidate r ≡ c)

  asked-candidate : (asked : List Asked) (name : List ℕ) (c : Candidate)
      → Contains (candidates_of (candidates_by_name old source asked) name) c → IsAskedIn asked name c
  asked-candidate [] name c i = absurd (in_none c i)
  asked-candidate (a ∷ asked) name c i = by (asked-candidate asked name c) (same_text name a.0) refl i
    where
      by : (Contains (candidates_of (candidates_by_name old source asked) name) c → IsAskedIn asked name c)
          → (b : Bool) → same_text name a.0 ≡ b
          → Contains (cond b (map as_candidate (candidates_in old source a))
          (candidates_of (candidates_by_name old source asked) name)) c → IsAskedIn (a ∷ asked) name c
      by rest true e i =
          let r = in_map as_candidate (candidates_in old source a) c i in (
            a,
            r.0,
            subst (λ x. Contains (names_in (a ∷ asked)) x) (sym (text-same name a.0 e))
                (in_first a.0 (names_in asked)),
            r.1,
            r.2,
          )
      by rest false e i =
          let r = rest i in
          (r.0, r.1, in_rest a.0 name (names_in asked) r.2, r.3, r.4)

-- ---- a selection

module _ (m : ManifestView) (old : Content) (source : List ℕ) (asked : List Asked) (texts : HasTexts m)
    (address : is_source source ≡ true)
    (in_turn : AreNext old source m.brings.dependencies [] asked) (content : Content) where
  abbrev q : Problem
  q = problem_of m old source asked

  root-writable : (n : ℕ) (p : Package) → HasBareRoot q content → slice_get content n ≡ Some p
      → is_root q p ≡ true → IsWritable p
  root-writable n p bare there is =
      let parts = root_parts q p is in
      record {
        named = subst IsName parts.1 texts.named;
        reads = subst IsValid parts.2 texts.version;
        source = subst IsPlain (sym parts.0) tt;
        checksum = subst IsPlain (sym (bare n p there is)) tt;
      }

  -- the source and the checksum of a package that is a candidate
  of-candidate : (p : Package) (o : Option Candidate) (c : Candidate)
      → cond (same_option p.source (Some source)) (option_and_then (if_checksum p.checksum) o) None ≡ Some c
      → o ≡ Some c → (p.source ≡ Some source) × (p.checksum ≡ Some c.checksum)
  of-candidate p o c h is = by (same_option p.source (Some source)) refl (ap (λ x.
      cond (same_option p.source (Some source)) (option_and_then (if_checksum p.checksum) x) None) (sym is) ∙ h)
    where
      summed : (b : Bool) → same_option p.checksum (Some c.checksum) ≡ b → cond b (Some c) None ≡ Some c
          → p.checksum ≡ Some c.checksum
      summed true e k = text_option p.checksum c.checksum e
      summed false e k = absurd (none-some c k)

      by : (b : Bool) → same_option p.source (Some source) ≡ b
          → cond b (option_and_then (if_checksum p.checksum) (Some c)) None ≡ Some c
          → (p.source ≡ Some source) × (p.checksum ≡ Some c.checksum)
      by true e k = (text_option p.source source e, summed (same_option p.checksum (Some c.checksum)) refl k)
      by false e k = absurd (none-some c k)

  other-writable : (n : ℕ) (p : Package) → IsValidSelection q content → IsOther q content n p → IsWritable p
  other-writable n p valid other =
      let k = is_candidate q content valid n p other in
      let found = candidate_at-is (candidates_of q.candidates p.name) p.version k.0 k.2 in
      let a = asked-candidate old source asked p.name k.0 found.0 in
      let read = candidate-read old source a.0 a.1 a.3 in
      let parts = of-candidate p (candidate_at (candidates_of q.candidates p.name) p.version) k.0 k.1 k.2 in
      let version : (a.1).version ≡ p.version = ap (λ (c : Candidate). c.version) a.4 ∙ sym found.1 in
      let checksum : (a.1).checksum ≡ (k.0).checksum = ap (λ (c : Candidate). c.checksum) a.4 in
      record {
        named = asked-names old source m.brings.dependencies texts.dependencies [] asked in_turn p.name a.2;
        reads = subst IsValid version read.0.0;
        source = subst IsPlain (sym parts.0) (source-text source address);
        checksum = subst IsPlain (sym parts.1)
            (subst (λ t. list_all is_plain_byte t ≡ true) checksum (checksum-text (a.1).checksum read.1));
      }

  package-writable : (n : ℕ) (p : Package) → IsValidSelection q content → HasBareRoot q content
      → slice_get content n ≡ Some p → IsWritable p
  package-writable n p valid bare there = by (is_root q p) refl
    where
      by : (b : Bool) → is_root q p ≡ b → IsWritable p
      by true is = root-writable n p bare there is
      by false is = other-writable n p valid (there, is)

  pub all-writable : IsValidSelection q content → HasBareRoot q content → All IsWritable content
  all-writable valid bare =
      all_in IsWritable content (λ p c. let at = place_of content p c in package-writable at.0 p valid bare at.1)
