-- The names that a run asks for are those that are needed, each once.
use Rattle.std.proofs.Common.{◌≡◌, ◌≢◌, ℕ, List, [], ◌∷◌, ◌++◌, flat_map, length, Contains, Some, None, slice_get, refl}
use Rattle.std.proofs.Common.{sym, ap, ◌∙◌, subst, inl, inr, ◌⊎◌}
use Rattle.std.specs.List.{AllPairs}
use Rattle.std.proofs.lemmas.Grind.{flat_map-append}
use Rattle.std.proofs.lemmas.List.{append-nil, append_assoc, map-append}
use Rattle.std.proofs.lemmas.List.Elements.{Contains-append_cases, Contains-append_left, Contains-append_right}
use Rattle.model.specs.Summary.{Dependency}
use Rattle.model.specs.Content.{Content}
use Rattle.model.proofs.Places.{got_in}
use Rattle.model.proofs.Flat.{in_flat, to_flat}
use Rattle.catalogue.specs.Runs.{Asked, once, meant_by, needed_by, names_after, next_name, AreNext}
use Rattle.catalogue.specs.Problems.{names_in}
use Rattle.catalogue.proofs.LawsLists.{pairs_front}
use Rattle.catalogue.proofs.LawsOnce.{to_once, in_once, once-more, once-distinct}

-- each of the names so far stands at the front
next-at : (asked : List Asked) (rest : List (List ℕ))
    → slice_get (names_in asked ++ rest) (length asked) ≡ slice_get rest 0
next-at [] rest = refl
next-at (a ∷ asked) rest = next-at asked rest

module _ (old : Content) (source : List ℕ) (root : List Dependency) where
  -- what is needed where these names were asked for, by the root or by a candidate
  abbrev pub needed : List Asked → List (List ℕ)
  needed asked = meant_by root ++ flat_map (needed_by old source) asked

  pub needed-root : (asked : List Asked) (name : List ℕ) → Contains (meant_by root) name → Contains (needed asked) name
  needed-root asked name c = Contains-append_left (meant_by root) (flat_map (needed_by old source) asked) name c

  pub needed-asked : (asked : List Asked) (a : Asked) (name : List ℕ) → Contains asked a
      → Contains (needed_by old source a) name → Contains (needed asked) name
  needed-asked asked a name i c = Contains-append_right (meant_by root) (flat_map (needed_by old source) asked) name
      (to_flat (needed_by old source) asked a name i c)

  pub needed-cases : (asked : List Asked) (name : List ℕ) → Contains (needed asked) name
      → Contains (meant_by root) name ⊎ ((a : Asked) × Contains asked a × Contains (needed_by old source a) name)
  needed-cases asked name c =
      elim (Contains-append_cases (meant_by root) (flat_map (needed_by old source) asked) name c) [
        | inl i ↦ inl i
        | inr i ↦ inr (in_flat (needed_by old source) asked name i)
      ]

  -- the next name is needed
  pub next-needed : (asked : List Asked) (name : List ℕ) → next_name old source root asked ≡ Some name
      → Contains (needed asked) name
  next-needed asked name e =
      in_once (needed asked) name (got_in (names_after old source root asked) (length asked) name e)

  -- a name more that is the next one
  pub turn-more : (before asked : List Asked) (a : Asked) → AreNext old source root before asked
      → next_name old source root (before ++ asked) ≡ Some a.0
      → AreNext old source root before (asked ++ a ∷ [])
  turn-more before [] a turn next = (ap (next_name old source root) (sym (append-nil before)) ∙ next, tt)
  turn-more before (b ∷ asked) a turn next = (
    turn.0,
    turn-more (before ++ b ∷ []) asked a turn.1
        (ap (next_name old source root) (append_assoc before (b ∷ []) asked) ∙ next),
  )

  -- the names so far are the first ones that are needed
  abbrev IsFront : List Asked → Type 0
  IsFront asked = (rest : List (List ℕ)) × (names_after old source root asked ≡ names_in asked ++ rest)

  front-more : (asked : List Asked) (a : Asked) → IsFront asked → next_name old source root asked ≡ Some a.0
      → IsFront (asked ++ a ∷ [])
  front-more asked a (rest, e) next =
      by rest e (sym (next-at asked rest) ∙ ap (λ l. slice_get l (length asked)) (sym e) ∙ next)
    where
      more : (zs : List (List ℕ))
          × (names_after old source root (asked ++ a ∷ []) ≡ names_after old source root asked ++ zs)
      more =
          let r = once-more (needed asked) (flat_map (needed_by old source) (a ∷ [])) in (
            r.0,
            ap once (ap (λ l. meant_by root ++ l) (flat_map-append (needed_by old source) asked (a ∷ []))
                ∙ sym (append_assoc (meant_by root) (flat_map (needed_by old source) asked)
                (flat_map (needed_by old source) (a ∷ [])))) ∙ r.1,
          )

      by : (rest : List (List ℕ)) → names_after old source root asked ≡ names_in asked ++ rest
          → slice_get rest 0 ≡ Some a.0 → IsFront (asked ++ a ∷ [])
      by [] e first = absurd (let x : None ≡ Some a.0 = first in cc)
      by (x ∷ rest) e first =
          let is : x ≡ a.0 = cc in (
            rest ++ more.0,
            more.1 ∙ ap (λ l. l ++ more.0) (e ∙ ap (λ z. names_in asked ++ z ∷ rest) is)
                ∙ append_assoc (names_in asked) (a.0 ∷ rest) more.0
                ∙ sym (append_assoc (names_in asked) (a.0 ∷ []) (rest ++ more.0))
                ∙ ap (λ l. l ++ (rest ++ more.0)) (sym (map-append (λ (x : Asked). x.0) asked (a ∷ []))),
          )

  front-all : (asked later : List Asked) → IsFront asked → AreNext old source root asked later
      → IsFront (asked ++ later)
  front-all asked [] f h = subst IsFront (sym (append-nil asked)) f
  front-all asked (a ∷ later) f h = subst IsFront (append_assoc asked (a ∷ []) later)
      (front-all (asked ++ a ∷ []) later (front-more asked a f h.0) h.1)

  -- a run that has ended has asked for each name that is needed
  pub all_asked : (asked : List Asked) → AreNext old source root [] asked → next_name old source root asked ≡ None
      → (name : List ℕ) → Contains (needed asked) name → Contains (names_in asked) name
  all_asked asked in_turn ended name c =
      let f = front-all [] asked (names_after old source root [], refl) in_turn in
      let is = by f.0 f.1 (sym (next-at asked f.0) ∙ ap (λ l. slice_get l (length asked)) (sym f.1) ∙ ended) in
      subst (λ l. Contains l name) is (to_once (needed asked) name c)
    where
      by : (rest : List (List ℕ)) → names_after old source root asked ≡ names_in asked ++ rest
          → slice_get rest 0 ≡ None → names_after old source root asked ≡ names_in asked
      by [] e none = e ∙ append-nil (names_in asked)
      by (x ∷ rest) e none = absurd (let x : Some x ≡ None = none in cc)

  -- no name is asked for twice
  pub asked-distinct : (asked : List Asked) → AreNext old source root [] asked
      → AllPairs (λ x y. x ≢ y) (names_in asked)
  asked-distinct asked in_turn =
      let f = front-all [] asked (names_after old source root [], refl) in_turn in
      pairs_front (λ x y. x ≢ y) (names_in asked) f.0 (subst (AllPairs (λ x y. x ≢ y)) f.1
      (once-distinct (needed asked)))
