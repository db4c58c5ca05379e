-- A run over the same map of files with a valid selection as its old lock ends without a fault, and asks for no more
-- names.
use Rattle.std.proofs.Common.{◌≡◌, ℕ, ◌<◌, Bool, true, false, not, cond, ◌&&◌, List, [], ◌∷◌, ◌++◌, length, map}
use Rattle.std.proofs.Common.{Contains, Option, Some, None, is_some, option_and_then, option_map, Err, refl, sym, ap}
use Rattle.std.proofs.Common.{◌∙◌, subst, arith, inl, inr}
use Rattle.std.specs.List.{All}
use Rattle.std.proofs.lemmas.List.{length-append, length-map}
use Rattle.std.proofs.lemmas.List.Elements.{Contains-append_cases, All-contains}
use Rattle.std.proofs.lemmas.Option.{none-some}
use Rattle.model.specs.Content.{Candidate, Content, Package, candidate_at, candidates_of, if_checksum, is_root}
use Rattle.model.specs.Content.{same_option}
use Rattle.model.specs.Candidates.{RustVersion}
use Rattle.model.specs.Selection.{IsValidSelection}
use Rattle.model.proofs.Lists.{in_none, in_cons, in_first, in_rest, in_map, to_map}
use Rattle.model.proofs.Owners.{is_candidate, not_root}
use Rattle.model.proofs.Same.{text-refl}
use Rattle.model.proofs.Places.{place_of}
use Rattle.manifest.specs.Manifests.{ManifestView}
use Rattle.index_reader.specs.Folders.{Files, MemoryCalls, file_at, path_of}
use Rattle.catalogue.specs.Runs.{Asked, next_name}
use Rattle.catalogue.specs.Loads.{IsWithin, IsSoFar, IsLoaded, Loads, store_of, differs, has_changed, first_changed}
use Rattle.catalogue.specs.Problems.{IsRunOver, names_in, problem_in, problem_of}
use Rattle.catalogue.specs.Stores.{CatalogueView, rows_by_name}
use Rattle.catalogue.specs.declared.fault.LoadFault.{LoadFault}
use Rattle.catalogue.proofs.LawsCandidates.{file_of, with_file}
use Rattle.catalogue.proofs.LawsCatalogues.{problem-asked}
use Rattle.catalogue.proofs.LawsFewer.{next_asked, asked_before, no_more}
use Rattle.catalogue.proofs.LawsIndexes.{chain-answers, run-over}
use Rattle.catalogue.proofs.LawsLists.{distinct-within}
use Rattle.catalogue.proofs.LawsNames.{asked-distinct, turn-more}
use Rattle.catalogue.proofs.LawsPackages.{text_option}
use Rattle.catalogue.proofs.LawsSelections.{holds_again}
use Rattle.resolver.specs.Inputs.{input_wants_memory, of_load}
use Rattle.resolver.proofs.Unstopped.{no_fault}

-- a loaded index is what a selection of its run is held against
pub problem-is : (old : Content) (source : List ℕ) (rust : Option RustVersion) (m : ManifestView) (folder : Files)
    (index : CatalogueView) (after : Files)
    (loaded : IsLoaded old source rust m.brings.dependencies MemoryCalls folder index after)
    → problem_in m index ≡ problem_of m old source loaded.asked
problem-is old source rust m folder index after loaded =
    ap (problem_in m) loaded.is ∙ problem-asked old source rust m loaded.asked

pub rows-names : (old : Content) (source : List ℕ) (rust : Option RustVersion) (m : ManifestView) (folder : Files)
    (index : CatalogueView) (after : Files)
    (loaded : IsLoaded old source rust m.brings.dependencies MemoryCalls folder index after)
    → map (λ row. row.0) index.rows ≡ names_in loaded.asked
rows-names old source rust m folder index after loaded =
    ap (λ (c : CatalogueView). map (λ row. row.0) c.rows) loaded.is ∙ by loaded.asked
  where
    by : (asked : List Asked)
        → map (λ row. row.0) (store_of old source rust m.brings.dependencies asked).rows ≡ names_in asked
    by [] = refl
    by (a ∷ asked) = ap (λ ns. a.0 ∷ ns) (by asked)

-- ---- checksums

-- a package whose candidate has its checksum hasn't another one
same-checksum : (sum : Option (List ℕ)) (o : Option Candidate) (c : Candidate)
    → option_and_then (if_checksum sum) o ≡ Some c → differs sum (option_map (λ c. c.checksum) o) ≡ false
same-checksum sum None c e = absurd (none-some c e)
same-checksum sum (Some r) c e = by (same_option sum (Some r.checksum)) refl e
  where
    by : (b : Bool) → same_option sum (Some r.checksum) ≡ b → cond b (Some r) None ≡ Some c
        → differs sum (Some r.checksum) ≡ false
    by true s e = ap (λ o. differs o (Some r.checksum)) (text_option sum r.checksum s) ∙ ap not (text-refl r.checksum)
    by false s e = absurd (none-some c e)

none-changed : (index : CatalogueView) (content : Content)
    → ((n : ℕ) (p : Package) → Contains content p → has_changed index p ≡ false) → first_changed index content ≡ None
unfolding first_changed
none-changed index [] h = refl
none-changed index (p ∷ ps) h = rw (h 0 p (in_first p ps)) (none-changed index ps (λ n r c. h n r (in_rest p r ps c)))

module _ (m : ManifestView) (index : CatalogueView) (content : Content)
    (valid : IsValidSelection (problem_in m index) content) where
  unchanged : (p : Package) → Contains content p → has_changed index p ≡ false
  unchanged p c = by (same_option p.source (Some index.source)) refl
    where
      found : Option Candidate
      found = candidate_at (candidates_of (rows_by_name index) p.name) p.version

      by : (b : Bool) → same_option p.source (Some index.source) ≡ b
          → (b && differs p.checksum (option_map (λ c. c.checksum) found)) ≡ false
      by false s = refl
      by true s =
          let at = place_of content p c in
          let other : is_root (problem_in m index) p ≡ false =
          not_root (problem_in m index) p (ap is_some (text_option p.source index.source s)) in
          let k = is_candidate (problem_in m index) content valid at.0 p (at.1, other) in
          same-checksum p.checksum found k.0
          (sym (ap (λ b. cond b (option_and_then (if_checksum p.checksum) found) None) s) ∙ k.1)

  pub checksums-hold : first_changed index content ≡ None
  checksums-hold = none-changed index content (λ n p c. unchanged p c)

-- ---- the second run

module _ (folder : Files) (failed : Files → ℕ) (m : ManifestView) (source : List ℕ) (rust : Option RustVersion)
    (old content : Content) (index : CatalogueView) (after : Files)
    (first : IsLoaded old source rust m.brings.dependencies MemoryCalls folder index after)
    (valid : IsValidSelection (problem_in m index) content) where
  abbrev files : List ℕ → Option (List ℕ)
  files name = file_at folder (path_of name)

  run : IsRunOver files m old source first.asked
  run = run-over folder m old source first.asked after
      (record { chain = first.so_far.chain; in_turn = first.so_far.in_turn; ended = first.ended })

  was_valid : IsValidSelection (problem_of m old source first.asked) content
  was_valid = subst (λ q. IsValidSelection q content) (problem-is old source rust m folder index after first) valid

  -- the names of the first run are those of its index
  as-row : (name : List ℕ) → Contains (names_in first.asked) name → Contains (map (λ row. row.0) index.rows) name
  as-row name c = subst (λ ns. Contains ns name) (sym (rows-names old source rust m folder index after first)) c

  -- where it was asked for these names so far
  module _ (rust' : Option RustVersion) (asked : List Asked) (mid : Files)
      (so_far : IsSoFar content source rust' m.brings.dependencies MemoryCalls folder asked mid) where
    answers : All (λ a. a.1 ≡ files a.0) asked
    answers = chain-answers folder asked folder mid refl so_far.chain

    known : (a : Asked) → Contains asked a → Contains first.asked a
    known a c =
        let named = asked_before files m old source first.asked content run was_valid [] asked
        (λ b i. absurd (in_none b i)) answers so_far.in_turn a.0 (to_map (λ (a : Asked). a.0) asked a c) in
        let file = All-contains (λ (a : Asked). a.1 ≡ files a.0) asked a answers c in
        let is : file_of files a.0 ≡ a = λ k. (a.0, sym file k) in
        subst (λ x. Contains first.asked x) is (with_file files first.asked a.0 run.answers named)

    next-there : (name : List ℕ) → next_name content source m.brings.dependencies asked ≡ Some name
        → Contains (names_in first.asked) name
    next-there name next = next_asked files m old source first.asked content run was_valid asked name known next

    -- the file of the next name is within the limits
    next-within : (name : List ℕ)
        → next_name content source m.brings.dependencies asked ≡ Some name → IsWithin (files name)
    next-within name next =
        All-contains (λ (a : Asked). IsWithin a.1) first.asked (file_of files name) first.so_far.within
        (with_file files first.asked name run.answers (next-there name next))

    -- fewer names than the first asked for
    next-fewer : (name : List ℕ) → next_name content source m.brings.dependencies asked ≡ Some name
        → length asked < length first.asked
    next-fewer name next =
        let more = asked ++ file_of files name ∷ [] in
        let in_turn =
        turn-more content source m.brings.dependencies [] asked (file_of files name) so_far.in_turn next in
        let within = distinct-within (names_in more) (names_in first.asked)
        (asked-distinct content source m.brings.dependencies more in_turn) names in
        let long = length-append asked (file_of files name ∷ []) in
        let wide = length-map more (λ (a : Asked). a.0) in
        let most = length-map first.asked (λ (a : Asked). a.0) in
        omega (arith, within, long, wide, most)
      where
        names : (x : List ℕ) → Contains (names_in (asked ++ file_of files name ∷ [])) x
            → Contains (names_in first.asked) x
        names x c =
            let i = in_map (λ (a : Asked). a.0) (asked ++ file_of files name ∷ []) x c in
            subst (λ y. Contains (names_in first.asked) y) i.2
            (elim (Contains-append_cases asked (file_of files name ∷ []) i.0 i.1) [
              | inl j ↦ to_map (λ (a : Asked). a.0) first.asked i.0 (known i.0 j)
              | inr j ↦ elim (in_cons (file_of files name) i.0 [] j) [
                | inl s ↦ subst (λ (a : Asked). Contains (names_in first.asked) a.0) s (next-there name next)
                | inr k ↦ absurd (in_none i.0 k)
              ]
            ])

    -- each name so far was asked for in the first
    pub so-far-asked : (name : List ℕ) → Contains (names_in asked) name → Contains (map (λ row. row.0) index.rows) name
    so-far-asked name c =
        let i = in_map (λ (a : Asked). a.0) asked name c in
        as-row name (subst (λ x. Contains (names_in first.asked) x) i.2
        (to_map (λ (a : Asked). a.0) first.asked i.0 (known i.0 i.1)))

    pub next-asked : (name : List ℕ) → next_name content source m.brings.dependencies asked ≡ Some name
        → Contains (map (λ row. row.0) index.rows) name
    next-asked name next = as-row name (next-there name next)

  module _ (rust' : Option RustVersion) (index' : CatalogueView) (later : Files)
      (again : IsLoaded content source rust' m.brings.dependencies MemoryCalls folder index' later) where
    rerun : IsRunOver files m content source again.asked
    rerun = run-over folder m content source again.asked later
        (record { chain = again.so_far.chain; in_turn = again.so_far.in_turn; ended = again.ended })

    -- the old lock is valid there
    pub still-valid : IsValidSelection (problem_in m index') content
    still-valid =
        subst (λ q. IsValidSelection q content) (sym (problem-is content source rust' m folder index' later again))
        (holds_again files m old source first.asked content again.asked run rerun was_valid)

    pub unasked-more : (name : List ℕ) → Contains (map (λ row. row.0) index'.rows) name
        → Contains (map (λ row. row.0) index.rows) name
    unasked-more name c =
        as-row name (no_more files m old source first.asked content run was_valid again.asked rerun name
        (subst (λ ns. Contains ns name) (rows-names content source rust' m folder index' later again) c))

  -- the second run ends without a fault, but for want of memory
  pub no_other_fault : (rust' : Option RustVersion) (e : LoadFault) (later : Files)
      → Loads content source rust' m.brings.dependencies MemoryCalls failed folder (Err e) later
      → input_wants_memory (of_load e) ≡ true
  no_other_fault rust' = no_fault folder failed content source rust' m.brings.dependencies first.asked first.so_far.few
      (λ asked mid name so_far next.
      (next-fewer rust' asked mid so_far name next, next-within rust' asked mid so_far name next))
      (λ index' later again. checksums-hold m index' content (still-valid rust' index' later again))
