use Rattle.std.proofs.Common.{◌≡◌, ◌≢◌, ℕ, List, [], ◌∷◌, ◌++◌, sym, ap, ◌∙◌, arith, Option, Some, None}
use Rattle.std.specs.Borrow.{Bor}
use Rattle.std.specs.Option.{MatchOption}
use Rattle.std.proofs.lemmas.Str.Pattern.{strip_prefix_char, strip_suffix_char}
use Rattle.lockfile.proofs.meaning.in_parentheses.Goals as goal

pub returns-in_default : goal.returns-in_default
returns-in_default c =
    let whole = strip_prefix_char 40 c.args.text.now c.strip_prefix.result c.strip_prefix.ensures.cases (omega arith) in
    let none = rw c.in_default.is at whole in
    λ inner e. none (inner ++ 41 ∷ []) e

same-tail : (x y : List ℕ) → 40 ∷ x ≡ 40 ∷ y → x ≡ y
same-tail x y e = cc

closes : (text rest : List ℕ) (r : Option (Bor (List ℕ))) → text ≡ 40 ∷ rest
    → MatchOption r ((front : List ℕ) → rest ≢ front ++ (41 ∷ [])) (λ x. rest ≡ x.now ++ (41 ∷ []))
    → MatchOption r ((inner : List ℕ) → text ≢ 40 ∷ (inner ++ (41 ∷ [])))
    (λ inner. text ≡ 40 ∷ (inner.now ++ (41 ∷ [])))
closes text rest None e h = λ inner f. h inner (same-tail rest (inner ++ (41 ∷ [])) (sym e ∙ f))
closes text rest (Some inner) e h = e ∙ ap (λ l. 40 ∷ l) h

pub returns : goal.returns
returns c =
    let first = strip_prefix_char 40 c.args.text.now c.strip_prefix.result c.strip_prefix.ensures.cases (omega arith) in
    closes c.args.text.now c.in-Some.inner.now c.strip_suffix.result (rw c.in-Some.is at first)
    (strip_suffix_char 41 c.in-Some.inner.now c.strip_suffix.result c.strip_suffix.ensures.cases (omega arith))
