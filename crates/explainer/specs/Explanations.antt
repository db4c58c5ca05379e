-- What a person reads of a derivation: the steps that its end stands on, each as a line (the format is this project's).
use Rattle.std.specs.Prelude.{ℕ, zero, suc, ◌+◌, ◌==◌, ◌||◌, nat_lt, Bool, false, if◌then◌else◌, List, [], ◌∷◌, ◌++◌}
use Rattle.std.specs.Prelude.{length, map, filter, Option, Some, None, slice_get, codes, decimal}
use Rattle.std.specs.List.{flat_map, list_any}
use Rattle.model.specs.Axioms.{Kind, Root, Needed, Target, HasFeature, WantsFeature, FeatureOnFeature}
use Rattle.model.specs.Axioms.{FeatureOnDependency, FeatureAsks, NewestListed, WeakFeature, Term}
use Rattle.model.specs.Derivation.{Step, given, combine, terms_of}
use Rattle.vertices.specs.Texts.{kind_text, vertex_text, state_text}

-- ---- which steps are needed

-- the step combines the step of this number
abbrev pub refers_to : Step → ℕ → Bool
refers_to (given k ts) m = false
refers_to (combine a b v ts) m = (a == m) || (b == m)

abbrev pub refers_at : Option Step → ℕ → Bool
refers_at None m = false
refers_at (Some s) m = refers_to s m

-- the number before those after it, where a step of one of these combines it
abbrev pub with_later : List Step → ℕ → List ℕ → List ℕ
with_later steps n later = if list_any (λ m. refers_at (slice_get steps m) n) later then n ∷ later else later

-- of so many numbers from this one to that of the last step those of needed steps: the last one, and each that a needed
-- one combines
unfoldable pub needed_from : List Step → ℕ → ℕ → List ℕ
needed_from steps n zero = []
needed_from steps n (suc zero) = n ∷ []
needed_from steps n (suc (suc k)) = with_later steps n (needed_from steps (n + 1) (suc k))

-- the numbers of the needed steps
abbrev pub needed : List Step → List ℕ
needed steps = needed_from steps 0 (length steps)

-- ---- their lines

-- the number of a needed step among the needed ones, from 1
abbrev pub new_number : List ℕ → ℕ → ℕ
new_number all m = length (filter (λ n. nat_lt n m) all) + 1

-- with a text between each two
abbrev pub with_between : List ℕ → List (List ℕ) → List ℕ
with_between between [] = []
with_between between (x ∷ []) = x
with_between between (x ∷ (y ∷ xs)) = x ++ (between ++ with_between between (y ∷ xs))

-- a text before each but the first
abbrev pub text_if : Bool → List ℕ → List ℕ
text_if later text = if later then text else []

-- `VERTEX in {STATE, STATE}`
abbrev pub term_words : Term → List ℕ
term_words t =
    vertex_text t.vertex ++ (codes " in {" ++ (with_between (codes ", ") (map state_text t.states) ++ codes "}"))

-- what can't all hold
abbrev pub claim : List Term → List ℕ
claim [] = codes "no selection is left"
claim (t ∷ ts) = codes "never " ++ with_between (codes " and ") (map term_words (t ∷ ts))

abbrev pub kind_name : Kind → List ℕ
kind_name Root = codes "root"
kind_name Needed = codes "needed"
kind_name Target = codes "target"
kind_name HasFeature = codes "has feature"
kind_name WantsFeature = codes "wants feature"
kind_name FeatureOnFeature = codes "feature on feature"
kind_name FeatureOnDependency = codes "feature on dependency"
kind_name FeatureAsks = codes "feature asks"
kind_name NewestListed = codes "newest listed"
kind_name WeakFeature = codes "weak feature"

-- `as X1 needed` or `from A and B`, with the new numbers
abbrev pub origin_words : List ℕ → Step → List ℕ
origin_words all (given k ts) = codes "as " ++ (kind_text k ++ (codes " " ++ kind_name k))
origin_words all (combine a b v ts) =
    codes "from " ++ (decimal (new_number all a) ++ (codes " and " ++ decimal (new_number all b)))

-- the line of the needed step of this number
abbrev pub line : List ℕ → ℕ → Step → List ℕ
line all n s = decimal (new_number all n)
    ++ (codes ": " ++ (claim (terms_of s) ++ (codes ", " ++ (origin_words all s ++ codes "\n"))))

abbrev pub line_if : List ℕ → ℕ → Option Step → List ℕ
line_if all n None = []
line_if all n (Some s) = line all n s

abbrev pub line_at : List ℕ → List Step → ℕ → List ℕ
line_at all steps n = line_if all n (slice_get steps n)

-- the text of a derivation; an empty one has the empty text
abbrev pub explanation_of : List Step → List ℕ
explanation_of steps = flat_map (line_at (needed steps) steps) (needed steps)
