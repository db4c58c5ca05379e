-- Which texts are names of packages and of features, and which are entries (Cargo book, "The Manifest Format", `name`
-- and `[features]`; ASCII alone here).
use Rattle.std.specs.Prelude.{ℕ, Bool, ◌&&◌, ◌||◌, ◌==◌, nat_le, List, length, if◌then◌else◌, drop, take, ◌-◌, Option}
use Rattle.std.specs.Prelude.{Some, None, nat_eq, codes}
use Rattle.std.specs.List.{list_all, before_first, after_first, list_any, starts_with, ends_with}
use Rattle.model.specs.Summary.{Entry, feature, dependency, dependency_feature, weak_feature}

abbrev pub is_between : ℕ → ℕ → ℕ → Bool
is_between low high byte = nat_le low byte && nat_le byte high

-- an ASCII letter, a digit, `-` or `_`
abbrev pub is_package_byte : ℕ → Bool
is_package_byte b = is_between 97 122 b || (is_between 65 90 b || (is_between 48 57 b || (b == 45 || b == 95)))

-- the text is a package name: 1 to 64 such bytes
abbrev pub is_package_name : List ℕ → Bool
is_package_name text = nat_le 1 (length text) && (nat_le (length text) 64 && list_all is_package_byte text)

-- an ASCII letter, a digit, `-`, `_`, `+` or `.`
abbrev pub is_feature_byte : ℕ → Bool
is_feature_byte b = is_package_byte b || (b == 43 || b == 46)

-- the text is a feature name: 1 to 255 such bytes
abbrev pub is_feature_name : List ℕ → Bool
is_feature_name text = nat_le 1 (length text) && (nat_le (length text) 255 && list_all is_feature_byte text)

-- ---- Which texts are entries of features, and which entries they are (Cargo book, "Features").

-- what stands behind a front, in a text that begins with it
abbrev pub after_text : List ℕ → List ℕ → Option (List ℕ)
after_text front text = if starts_with nat_eq text front then Some (drop (length front) text) else None

-- what stands before an end, in a text that ends with it
abbrev pub before_text : List ℕ → List ℕ → Option (List ℕ)
before_text end text = if ends_with nat_eq text end then Some (take (length text - length end) text) else None

-- what stands before and after the first such byte
abbrev pub around : ℕ → List ℕ → Option (List ℕ × List ℕ)
around byte text = if list_any (λ b. b == byte) text then
    Some (before_first (λ b. b == byte) text, after_first (λ b. b == byte) text) else None

-- the feature of that name
abbrev pub feature_of : List ℕ → Option Entry
feature_of g = if is_feature_name g then Some (feature g) else None

-- the dependency of that name
abbrev pub dependency_of : List ℕ → Option Entry
dependency_of d = if is_package_name d then Some (dependency d) else None

-- a feature of the dependency of that name
abbrev pub asked_of : (List ℕ → List ℕ → Entry) → List ℕ → List ℕ → Option Entry
asked_of form d g = if is_package_name d && is_feature_name g then Some (form d g) else None

abbrev pub weak_or : Option (List ℕ) → List ℕ → List ℕ → Option Entry
weak_or (Some d) left g = asked_of weak_feature d g
weak_or None left g = asked_of dependency_feature left g

-- `left/g`: a `?` at the end of the left is the weak form
abbrev pub asking_of : List ℕ → List ℕ → Option Entry
asking_of left g = weak_or (before_text (codes "?") left) left g

abbrev pub asking_or : Option (List ℕ × List ℕ) → List ℕ → Option Entry
asking_or (Some (left, g)) text = asking_of left g
asking_or None text = feature_of text

abbrev pub dependency_or : Option (List ℕ) → List ℕ → Option Entry
dependency_or (Some d) text = dependency_of d
dependency_or None text = asking_or (around 47 text) text

-- after `dep:` a package name; else, with a `/`, a package name before the first one and a feature name after it; else
-- a feature name
abbrev pub entry_of : List ℕ → Option Entry
entry_of text = dependency_or (after_text (codes "dep:") text) text
