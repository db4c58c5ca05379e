-- What was asked for is noted, as vertices come and one more is marked.
use Rattle.std.proofs.Common.{◌≡◌, ℕ, zero, suc, ◌<◌, ◌≤◌, true, List, [], ◌∷◌, length, map, take, Result, Ok, Err}
use Rattle.std.proofs.Common.{Some}
use Rattle.std.proofs.Common.{slice_get, sym, ap, ap₂, ◌∙◌, arith}
use Rattle.std.proofs.Common.{subst, inl, inr}
use Rattle.std.specs.Prelude.{OnErr, OnOk}
use Rattle.std.proofs.lemmas.Bool.{false≢true}
use Rattle.std.proofs.lemmas.List.{append-nil, length-map, take-append-le}
use Rattle.std.proofs.lemmas.Option.{same_Some}
use Rattle.version_sets.specs.Sets.{Members, has}
use Rattle.model.specs.Content.{Problem}
use Rattle.model.specs.Vertices.{Vertex, space}
use Rattle.propagation.specs.Trails.{set_of}
use Rattle.numbering.specs.inner.AskedFor.{IsGivenNext, IsNoted, KeepsNoted}
use Rattle.numbering.specs.inner.Assignments.{state_at}
use Rattle.numbering.specs.inner.KnownProblem.{problem}
use Rattle.numbering.specs.Numberings.{IsGrown, IsNumbering, Numbering}
use Rattle.numbering.specs.Pairs.{Given, Pair}
use Rattle.numbering.specs.declared.known_problem.KnownProblem.{KnownProblem}
use Rattle.numbering.specs.declared.noted.Noted.{Noted}
use Rattle.numbering.proofs.Needing.{still_at}
use Rattle.numbering.proofs.NotedLaws.{noted_still}
use Rattle.guiding.specs.inner.Guides.{AreNoted, IsEncoding, IsMore, marked, on_trail}
use Rattle.guiding.specs.inner.Remaining.{spaces_of}
use Rattle.guiding.proofs.Marks.{marked_either, past_none, wide_either}
use Rattle.guiding.proofs.OnTrail.{on_trail_at}

-- no vertex came
pub no_more : (asked : List Members) → IsMore asked asked
no_more asked = ([], sym (append-nil asked))

-- nothing more was noted
pub noted_same : (ns : Noted) → KeepsNoted ns ns
noted_same ns = record { here = λ o x m p h. h; lower = λ o x m p h. h }

-- vertices got numbers that aren't on the trail yet
pub encoding_grown : (i : KnownProblem) (vs new : Numbering) (asked : List Members) → IsEncoding i vs asked
    → IsGrown vs new → IsNumbering (problem i) new → IsEncoding i new asked
encoding_grown i vs new asked was grown now = record {
  default = was.default;
  catalogue = was.catalogue;
  numbering = now;
  spaces = was.spaces ∙ ap (spaces_of (problem i)) (sym (ap (take (length asked)) grown.1
      ∙ take-append-le (length asked) vs grown.0 (omega (arith, fewer, short (length asked) vs))));
}
  where
    fewer : length asked ≡ length (take (length asked) vs)
    fewer = sym (length-map asked length) ∙ ap length was.spaces
        ∙ length-map (take (length asked) vs) (λ v. length (space (problem i) v))

    short : (k : ℕ) (xs : Numbering) → length (take k xs) ≤ length xs
    short zero xs = omega arith
    short (suc k) [] = omega arith
    short (suc k) (x ∷ xs) = let e = short k xs in omega (arith, e)

-- what is given with all others is given with some of them
pub given_less : (q : Problem) (vs : Numbering) (IsBefore IsThen : Pair → Type 0) (p : Pair) (xs : List Given)
    → ((r : Pair) → IsThen r → IsBefore r) → IsGivenNext q vs IsBefore p xs → IsGivenNext q vs IsThen p xs
given_less q vs IsBefore IsThen p xs are given = record {
  causes = given.causes;
  there = given.there;
  all = λ c t here rest. given.all c t here
      (λ r h. elim (rest r h) [ inl e ↦ inl e | inr then ↦ inr (are r then) ]);
  once = given.once;
  given = given.given;
}

module _ (q : Problem) (vs new : Numbering) (asked more : List Members) (old ns : Noted)
    (spaces : map length asked ≡ spaces_of q (on_trail vs asked)) (grown : IsGrown vs new) (wider : IsMore asked more)
    (keeps : KeepsNoted old ns) (was : AreNoted q vs asked old) where
  -- one that was asked for before
  still : (p : Pair) (n j : ℕ) → n < length asked → has (set_of asked n) j ≡ true → slice_get new n ≡ Some p.0
      → state_at q p.0 j ≡ p.1 → IsNoted q ns p
  still p n j low h at is =
      let o = on_trail_at q vs asked n spaces low in
      let same : o.0 ≡ p.0 = same_Some o.0 p.0 (sym (still_at vs new n o.0 grown o.1) ∙ at) in
      noted_still q old ns p keeps (was p (n, j, o.1 ∙ ap Some same, h, is))

  -- vertices came
  pub noted_more : AreNoted q new more ns
  noted_more p (n, j, at, h, is) =
      let r = wide_either asked wider.0 n j (subst (λ (l : List Members). has (set_of l n) j ≡ true) wider.1 h) in
      still p n j r.0 r.1 at is

  -- and one is marked, which was noted, unless memory is wanting
  pub noted_marked : {A E : Type 0} (r : Result A E) (last : List Members) (v i : ℕ) → v < length asked
      → i < length (set_of asked v) → OnOk r (last ≡ marked more v i) → OnErr r (last ≡ more)
      → ((w : Vertex) → slice_get vs v ≡ Some w → IsNoted q ns (w, state_at q w i)) → AreNoted q new last ns
  noted_marked (Err x) last v i low lt marks same now = subst (λ l. AreNoted q new l ns) (sym same) noted_more
  noted_marked (Ok x) last v i low lt marks same now = λ p (n, j, at, h, is).
      elim (marked_either asked wider.0 v i low lt n j (subst (λ (l : List Members). has (set_of l n) j ≡ true)
      (marks ∙ ap (λ l. marked l v i) wider.1) h)) [
        | inl e ↦
            let w = on_trail_at q vs asked v spaces low in
            let same : w.0 ≡ p.0 = same_Some w.0 p.0
            (sym (still_at vs new v w.0 grown w.1) ∙ ap (slice_get new) (sym e.0) ∙ at) in
            let state : state_at q w.0 i ≡ p.1 = ap₂ (state_at q) same (sym e.1) ∙ is in
            subst (IsNoted q ns) (λ i. (same i, state i)) (now w.0 w.1)
        | inr r ↦ still p n j r.0 r.1 at is
      ]

-- where none was asked for
pub none_noted : (q : Problem) (vs : Numbering) (asked : List Members) (ns : Noted) → IsMore [] asked
    → AreNoted q vs asked ns
none_noted q vs asked ns (came, e) p (n, j, at, h, is) =
    absurd (false≢true (sym (past_none came n j) ∙ subst (λ (l : List Members). has (set_of l n) j ≡ true) e h))
