-- Ways back through visits, and that a search in its end knows whether there is a way.
use Rattle.std.proofs.Common.{◌≡◌, ◌<◌, ◌≤◌, ◌+◌, ◌&&◌, ℕ, zero, suc, Bool, true, false, List, [], ◌∷◌, ◌++◌}
use Rattle.std.proofs.Common.{Some}
use Rattle.std.proofs.Common.{length, reverse, sym, ap, subst, ◌∙◌, arith, true≢false}
use Rattle.std.specs.List.{slice_get}
use Rattle.std.proofs.lemmas.Bool.{and_from, and_parts}
use Rattle.std.proofs.lemmas.List.{reverse-append}
use Rattle.std.proofs.lemmas.Option.{same_Some, slice_get_within}
use Rattle.model.specs.Content.{Content, Package, passes}
use Rattle.changes.specs.inner.Searches.{AreLed, IsBehind, IsLed, IsSearched, IsVisited, is_end}
use Rattle.changes.specs.inner.Ways.{is_way, leads, lists}
use Rattle.changes.specs.declared.searching.Visit.{Visit}

-- ---- back from a visit

-- the visit before one that isn't at the beginning
pub before_within : (visits : List Visit) (before depth : ℕ) → 0 < depth → IsBehind visits before depth
    → before < length visits
before_within visits before zero deep behind = absurd (omega (arith, deep))
before_within visits before (suc depth) deep (v, at, is) = slice_get_within visits before v at

pub before_nearer : (visits : List Visit) (before depth : ℕ) → 0 < depth → IsBehind visits before depth
    → (v : Visit) → slice_get visits before ≡ Some v → v.depth + 1 ≡ depth
before_nearer visits before zero deep behind v at = absurd (omega (arith, deep))
before_nearer visits before (suc depth) deep (u, there, is) v at =
    let same = ap (λ (v : Visit). v.depth) (same_Some v u (sym at ∙ there)) in omega (arith, same, is)

before_lists : (content : Content) (begins : Package → Bool) (visits : List Visit) (place before depth : ℕ)
    → 0 < depth → IsLed content begins visits place before depth
    → (v : Visit) → slice_get visits before ≡ Some v → lists content v.place place ≡ true
before_lists content begins visits place before zero deep led v at = absurd (omega (arith, deep))
before_lists content begins visits place before (suc depth) deep (u, there, is, listed) v at =
    subst (λ (v : Visit). lists content v.place place ≡ true) (sym (same_Some v u (sym at ∙ there))) listed

begins_there : (content : Content) (begins : Package → Bool) (visits : List Visit) (place before depth : ℕ)
    → depth ≤ 0 → IsLed content begins visits place before depth → passes begins (slice_get content place) ≡ true
begins_there content begins visits place before zero none led = led
begins_there content begins visits place before (suc depth) none led = absurd (omega (arith, none))

pub behind_from_led : (content : Content) (begins : Package → Bool) (visits : List Visit) (place before depth : ℕ)
    → IsLed content begins visits place before depth → IsBehind visits before depth
behind_from_led content begins visits place before zero led = tt
behind_from_led content begins visits place before (suc depth) (v, at, is, listed) = (v, at, is)

-- one step back
pub back : (content : Content) (begins ends : Package → Bool) (visits : List Visit) (u v : Visit) (places : List ℕ)
    → AreLed content begins visits → 0 < u.depth → IsLed content begins visits u.place u.before u.depth
    → slice_get visits u.before ≡ Some v → leads content ends u.place (reverse places) ≡ true
    → IsLed content begins visits v.place v.before v.depth
    × (leads content ends v.place (reverse (places ++ u.place ∷ [])) ≡ true)
unfolding leads
back content begins ends visits u v places led deep here at on = (
  led u.before v at,
  ap (leads content ends v.place) (reverse-append places (u.place ∷ []))
      ∙ and_from (lists content v.place u.place) (leads content ends u.place (reverse places))
      (before_lists content begins visits u.place u.before u.depth deep here v at) on,
)

-- the way from the beginning
pub way_back : (content : Content) (begins ends : Package → Bool) (visits : List Visit) (u : Visit) (places : List ℕ)
    → u.depth ≤ 0 → IsLed content begins visits u.place u.before u.depth
    → leads content ends u.place (reverse places) ≡ true
    → is_way content begins ends (reverse (places ++ u.place ∷ [])) ≡ true
way_back content begins ends visits u places none here on =
    ap (is_way content begins ends) (reverse-append places (u.place ∷ []))
    ∙ and_from (passes begins (slice_get content u.place)) (leads content ends u.place (reverse places))
    (begins_there content begins visits u.place u.before u.depth none here) on

-- ---- what a search has in the end

-- a visit at this depth at most to a package that passes
abbrev pub IsEnded : Content → (Package → Bool) → List Visit → ℕ → Type 0
IsEnded content ends visits depth =
    (k : ℕ) × (v : Visit) × (slice_get visits k ≡ Some v) × (is_end content ends v ≡ true) × (v.depth ≤ depth)

module _ (content : Content) (begins ends : Package → Bool) (visits : List Visit)
    (s : IsSearched content begins visits) where
  -- what leads on from a visit comes to another one
  led_on : (i : ℕ) (js : List ℕ) (depth : ℕ) → IsVisited visits i depth → leads content ends i js ≡ true
      → IsEnded content ends visits (depth + length js)
  unfolding leads
  led_on i [] depth (k, v, at, is, near) e =
      (k, v, at, ap (λ i. passes ends (slice_get content i)) is ∙ e, omega (arith, near))
  led_on i (j ∷ js) depth (k, v, at, is, near) e =
      let parts = and_parts (lists content i j) (leads content ends j js) e in
      let next = s.closed k v at j (ap (λ i. lists content i j) is ∙ parts.0) in
      let end = led_on j js (suc depth) (next.0, next.1, next.2, next.3, (let le = next.4 in omega (arith, le, near)))
      parts.1 in
      (end.0, end.1, end.2, end.3, (let le = end.4 in omega (arith, le)))

  -- so a way comes to one that is no farther than the way is long
  pub way_ends : (places : List ℕ) → is_way content begins ends places ≡ true
      → (depth : ℕ) × (depth + 1 ≡ length places) × IsEnded content ends visits depth
  way_ends [] e = absurd (true≢false (sym e))
  way_ends (i ∷ is) e =
      let parts = and_parts (passes begins (slice_get content i)) (leads content ends i is) e in (
        length is,
        omega arith,
        subst (IsEnded content ends visits) (omega arith) (led_on i is 0 (s.begun i parts.0) parts.1),
      )
