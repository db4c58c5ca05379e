-- The combination of two rising lists of terms, taken from both in rising order (the merge of merge sort).
use Rattle.std.specs.Prelude.{◌≡◌, ℕ, nat_lt, ◌==◌, List, [], ◌∷◌, ◌++◌, length, flat_map, if◌then◌else◌}
use Rattle.version_sets.specs.Sets.{is_full, join, meet}
use Rattle.terms.specs.Terms.{TermView}

-- a term, unless it is full
abbrev pub kept : TermView → List TermView
kept t = if is_full t.states then [] else t ∷ []

-- a term whose vertex has none in the other list
abbrev pub lone : ℕ → TermView → List TermView
lone v t = if t.vertex == v then [] else t ∷ []

-- two terms of one vertex
abbrev pub both : ℕ → TermView → TermView → List TermView
both v t u = kept
    (record { vertex = t.vertex; states = if t.vertex == v then join t.states u.states else meet t.states u.states })

-- up to a term of the first list: what comes of it and of the second list's terms up to its vertex, and the second's
-- terms past it
abbrev pub up_to : ℕ → TermView → List TermView → List TermView
up_to v t [] = lone v t
up_to v t (u ∷ us) =
    if nat_lt u.vertex t.vertex then lone v u ++ up_to v t us else if u.vertex == t.vertex then both v t u else lone v t

abbrev pub past : TermView → List TermView → List TermView
past t [] = []
past t (u ∷ us) = if nat_lt u.vertex t.vertex then past t us else if u.vertex == t.vertex then us else u ∷ us

abbrev pub merged : ℕ → List TermView → List TermView → List TermView
merged v [] us = flat_map (lone v) us
merged v (t ∷ ts) us = up_to v t us ++ merged v ts (past t us)

-- a term's set is of one universe with that of each term on its vertex
abbrev pub FitsIn : TermView → List TermView → Type 0
FitsIn t [] = Unit {0}
FitsIn t (u ∷ us) = (u.vertex ≡ t.vertex → length t.states ≡ length u.states) × FitsIn t us

abbrev pub FitAll : List TermView → List TermView → Type 0
FitAll [] us = Unit {0}
FitAll (t ∷ ts) us = FitsIn t us × FitAll ts us
