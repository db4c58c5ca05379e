-- Which texts a set of texts has.
use Rattle.std.specs.Prelude.{◌≡◌, ℕ, List, ◌++◌, Bool}
use Rattle.std.specs.Borrow.{Bor}
use Rattle.std.specs.List.{list_any}
use Rattle.std.specs.declared.cmp.Ordering.{Ordering}
use Rattle.std.specs.Ordering.{nat_cmp}
use Rattle.std.specs.Cmp.Lexicographic.{slice_cmp}
use Rattle.model.specs.Summary.{same_text}
use Rattle.features.specs.declared.texts.Texts.{Texts}

-- whether a set of texts has one with these bytes
abbrev pub has_text : List (Bor (List ℕ)) → List ℕ → Bool
has_text names d = list_any (λ k. same_text d k.now) names

-- texts by their bytes, wherever they lie
abbrev pub borrowed_cmp : Bor (List ℕ) → Bor (List ℕ) → Ordering
borrowed_cmp x y = slice_cmp nat_cmp x.now y.now

-- a set of texts has just those that pass the test
abbrev pub HasThose : List (Bor (List ℕ)) → (List ℕ → Bool) → Type 0
HasThose names test = (d : List ℕ) → has_text names d ≡ test d

-- those in the row, and the others
abbrev pub texts_in : Texts → List (Bor (List ℕ))
texts_in t = t.few.items ++ t.more.keys
