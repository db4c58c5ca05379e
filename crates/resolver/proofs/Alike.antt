-- Two runs over the same map of files, with the same old lock and source, ask for the same names and load the same,
-- whatever is preferred.
use Rattle.std.proofs.Common.{◌≡◌, ℕ, ◌<◌, Bool, true, cond, ◌&&◌, List, [], ◌∷◌, ◌++◌, map, length, Contains, Option}
use Rattle.std.proofs.Common.{Some, None, option_map, Err, refl, sym, ap, ap₂, ◌∙◌, subst, arith}
use Rattle.std.specs.List.{All}
use Rattle.std.proofs.lemmas.List.{append-nil, append_assoc, length-append}
use Rattle.std.proofs.lemmas.List.Elements.{All-append, Contains-append_left, Contains-append_right, All-contains}
use Rattle.std.proofs.lemmas.Option.{none-some}
use Rattle.model.specs.Content.{Content, candidate_at, candidates_of, same_option}
use Rattle.model.specs.Candidates.{RustVersion, as_candidate, is_locked}
use Rattle.model.specs.Summary.{Dependency}
use Rattle.model.proofs.Lists.{in_first, all_none, all_cons, all_first, all_rest}
use Rattle.manifest.specs.Manifests.{ManifestView}
use Rattle.index_reader.specs.Folders.{Files, MemoryCalls, file_at, path_of}
use Rattle.vertices.proofs.Bound.{same-Some}
use Rattle.catalogue.specs.Runs.{Asked, candidates_in, next_name, AreNext}
use Rattle.catalogue.specs.Loads.{IsWithin, IsSoFar, IsLoaded, Loads, store_of, ranked_in, differs, first_changed}
use Rattle.catalogue.specs.Problems.{problem_in, problem_of}
use Rattle.catalogue.specs.Stores.{records, CatalogueView, rows_by_name}
use Rattle.catalogue.specs.declared.fault.LoadFault.{LoadFault}
use Rattle.catalogue.proofs.Chosen.{records-ranked}
use Rattle.catalogue.proofs.LawsCandidates.{file_of}
use Rattle.catalogue.proofs.LawsIndexes.{chain-answers}
use Rattle.catalogue.proofs.LawsNames.{turn-more}
use Rattle.resolver.specs.Inputs.{input_wants_memory, of_load}
use Rattle.resolver.proofs.Again.{problem-is}
use Rattle.resolver.proofs.Unstopped.{no_fault}

-- ---- the names

module _ (files : List ℕ → Option (List ℕ)) (old : Content) (source : List ℕ) (root : List Dependency) where
  abbrev AreAnswers : List Asked → Type 0
  AreAnswers asked = All (λ a. a.1 ≡ files a.0) asked

  -- no name comes next where a run has ended
  ended-next : (before : List Asked) (a : Asked) → next_name old source root (before ++ []) ≡ None
      → next_name old source root before ≡ Some a.0 → ⊥
  ended-next before a ended next = none-some a.0 (sym ended ∙ ap (next_name old source root) (append-nil before) ∙ next)

  -- the name that comes next is one, and so is its file
  same-next : (before : List Asked) (a b : Asked) → next_name old source root before ≡ Some a.0
      → next_name old source root before ≡ Some b.0 → a.1 ≡ files a.0 → b.1 ≡ files b.0 → a ≡ b
  same-next before a b next next' file file' =
      let name : a.0 ≡ b.0 = same-Some (sym next ∙ next') in
      let answer : a.1 ≡ b.1 = file ∙ ap files name ∙ sym file' in
      λ k. (name k, answer k)

  -- a run so far is the beginning of a whole one
  begins : (before whole so_far : List Asked) → AreAnswers whole → AreAnswers so_far
      → AreNext old source root before whole → AreNext old source root before so_far
      → next_name old source root (before ++ whole) ≡ None → (rest : List Asked) × (whole ≡ so_far ++ rest)
  begins before whole [] h k turn turn' ended = (whole, refl)
  begins before [] (b ∷ so_far) h k turn turn' ended = absurd (ended-next before b ended turn'.0)
  begins before (a ∷ whole) (b ∷ so_far) h k turn turn' ended =
      let is : a ≡ b = same-next before a b turn.0 turn'.0 (all_first (λ (a : Asked). a.1 ≡ files a.0) a whole h)
      (all_first (λ (a : Asked). a.1 ≡ files a.0) b so_far k) in
      let more = begins (before ++ a ∷ []) whole so_far (all_rest (λ (a : Asked). a.1 ≡ files a.0) a whole h)
      (all_rest (λ (a : Asked). a.1 ≡ files a.0) b so_far k) turn.1
      (subst (λ x. AreNext old source root (before ++ x ∷ []) so_far) (sym is) turn'.1)
      (ap (next_name old source root) (append_assoc before (a ∷ []) whole) ∙ ended) in
      (more.0, ap₂ (λ x l. x ∷ l) is more.1)

  -- two whole runs are one
  same-run : (before one other : List Asked) → AreAnswers one → AreAnswers other → AreNext old source root before one
      → AreNext old source root before other
      → next_name old source root (before ++ one) ≡ None
      → next_name old source root (before ++ other) ≡ None → one ≡ other
  same-run before [] [] h k turn turn' ended ended' = refl
  same-run before [] (b ∷ other) h k turn turn' ended ended' = absurd (ended-next before b ended turn'.0)
  same-run before (a ∷ one) [] h k turn turn' ended ended' = absurd (ended-next before a ended' turn.0)
  same-run before (a ∷ one) (b ∷ other) h k turn turn' ended ended' =
      let is : a ≡ b = same-next before a b turn.0 turn'.0 (all_first (λ (a : Asked). a.1 ≡ files a.0) a one h)
      (all_first (λ (a : Asked). a.1 ≡ files a.0) b other k) in
      ap₂ (λ x l. x ∷ l) is
      (same-run (before ++ a ∷ []) one other (all_rest (λ (a : Asked). a.1 ≡ files a.0) a one h)
      (all_rest (λ (a : Asked). a.1 ≡ files a.0) b other k) turn.1
      (subst (λ x. AreNext old source root (before ++ x ∷ []) other) (sym is) turn'.1)
      (ap (next_name old source root) (append_assoc before (a ∷ []) one) ∙ ended)
      (ap (next_name old source root)
      (ap (λ x. (before ++ x ∷ []) ++ other) is ∙ append_assoc before (b ∷ []) other) ∙ ended'))

-- ---- the checksums

module _ (old : Content) (source : List ℕ) (rust rust' : Option RustVersion) (root : List Dependency) where
  records-same : (a : Asked) → records (ranked_in old source rust a) ≡ records (ranked_in old source rust' a)
  records-same a = records-ranked (is_locked old source a.0) rust (candidates_in old source a)
      ∙ sym (records-ranked (is_locked old source a.0) rust' (candidates_in old source a))

  -- the candidates by name are the same, whatever their ranks
  rows-same : (asked : List Asked)
      → rows_by_name (store_of old source rust root asked) ≡ rows_by_name (store_of old source rust' root asked)
  rows-same [] = refl
  rows-same (a ∷ asked) =
      ap₂ (λ rs rows. (a.0, map as_candidate rs) ∷ rows) (records-same a) (rows-same asked)

  changed-same : (asked : List Asked) (content : Content) → first_changed (store_of old source rust root asked) content
      ≡ first_changed (store_of old source rust' root asked) content
  unfolding first_changed
  changed-same asked [] = refl
  changed-same asked (p ∷ ps) = ap₂ (λ (b : Bool) o. cond b (Some p) o)
      (ap (λ rows. same_option p.source (Some source) && differs p.checksum
      (option_map (λ c. c.checksum) (candidate_at (candidates_of rows p.name) p.version)))
      (rows-same asked)) (changed-same asked ps)

-- ---- the second run

module _ (folder : Files) (m : ManifestView) (old : Content) (source : List ℕ) (rust rust' : Option RustVersion)
    (index : CatalogueView) (after : Files)
    (first : IsLoaded old source rust m.brings.dependencies MemoryCalls folder index after) where
  abbrev files : List ℕ → Option (List ℕ)
  files name = file_at folder (path_of name)

  abbrev root : List Dependency
  root = m.brings.dependencies

  answers : All (λ a. a.1 ≡ files a.0) first.asked
  answers = chain-answers folder first.asked folder after refl first.so_far.chain

  -- a name that comes next was asked for in the first
  fits : (asked : List Asked) (mid : Files) (name : List ℕ) → IsSoFar old source rust' root MemoryCalls folder asked mid
      → next_name old source root asked ≡ Some name
      → (length asked < length first.asked) × IsWithin (files name)
  fits asked mid name so_far next = (
    (let long = ap length whole.1 in
        let parts = length-append more whole.0 in
        let one = length-append asked (file_of files name ∷ []) in
        omega (arith, long, parts, one)),
    All-contains (λ (a : Asked). IsWithin a.1) first.asked (file_of files name) first.so_far.within there,
  )
    where
      more : List Asked
      more = asked ++ file_of files name ∷ []

      answered : All (λ a. a.1 ≡ files a.0) more
      answered = All-append (λ a. a.1 ≡ files a.0) asked (file_of files name ∷ [])
          (chain-answers folder asked folder mid refl so_far.chain)
          (all_cons (λ (a : Asked). a.1 ≡ files a.0) (file_of files name) [] refl
          (all_none (λ (a : Asked). a.1 ≡ files a.0)))

      whole : (rest : List Asked) × (first.asked ≡ more ++ rest)
      whole = begins files old source root [] first.asked more answers answered first.so_far.in_turn
          (turn-more old source root [] asked (file_of files name) so_far.in_turn next) first.ended

      there : Contains first.asked (file_of files name)
      there = subst (λ l. Contains l (file_of files name)) (sym whole.1)
          (Contains-append_left more whole.0 (file_of files name) (Contains-append_right asked (file_of files name ∷ [])
          (file_of files name) (in_first (file_of files name) [])))

  module _ (index' : CatalogueView) (later : Files)
      (second : IsLoaded old source rust' m.brings.dependencies MemoryCalls folder index' later) where
    pub asked-same : second.asked ≡ first.asked
    asked-same = same-run files old source root [] second.asked first.asked
        (chain-answers folder second.asked folder later refl second.so_far.chain) answers
        second.so_far.in_turn first.so_far.in_turn second.ended first.ended

    -- it is held against the same
    pub same-problem : problem_in m index' ≡ problem_in m index
    same-problem = problem-is old source rust' m folder index' later second ∙ ap (problem_of m old source) asked-same
        ∙ sym (problem-is old source rust m folder index after first)

    same-changed : first_changed index' old ≡ first_changed index old
    same-changed = ap (λ i. first_changed i old) second.is
        ∙ ap (λ l. first_changed (store_of old source rust' root l) old) asked-same
        ∙ changed-same old source rust' rust root first.asked old ∙ sym (ap (λ i. first_changed i old) first.is)

  -- it ends without a fault but for want of memory
  pub no_other_fault : (failed : Files → ℕ) → first_changed index old ≡ None → (e : LoadFault) (later : Files)
      → Loads old source rust' m.brings.dependencies MemoryCalls failed folder (Err e) later
      → input_wants_memory (of_load e) ≡ true
  no_other_fault failed none e later l =
      no_fault folder failed old source rust' root first.asked first.so_far.few fits
      (λ index' end second. same-changed index' end second ∙ none) e later l
