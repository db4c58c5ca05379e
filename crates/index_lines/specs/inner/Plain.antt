-- How a registry spells the dependencies of a line, and a list of texts: with these keys in this order, no blanks and
-- no text that is escaped.
use Rattle.std.specs.Prelude.{ℕ, ◌≡◌, Bool, true, false, List, [], ◌∷◌, ◌++◌, map, Option, Some, None, option_map}
use Rattle.std.specs.Prelude.{codes}
use Rattle.std.specs.List.{list_all}
use Rattle.std.specs.Option.{ok_or}
use Rattle.model.specs.Outcome.{◌>>=◌}
use Rattle.trees.specs.inner.Parts.{data_within, is_plain, list_of, object_text}
use Rattle.index_lines.specs.inner.ByParts.{item_depth}
use Rattle.index_lines.specs.Shapes.{DependencyView, Line, dependency_of, texts_of}
use Rattle.index_lines.specs.declared.fault.LineFault.TheVariants.{Skipped}
use Rattle.index_lines.specs.declared.fault.SkipReason.TheVariants as reason
use Rattle.index_lines.specs.declared.shortcuts.plain.PlainItem.{PlainItem}

-- a text between quotes (34)
abbrev pub quoted : List ℕ → List ℕ
quoted text = 34 ∷ (text ++ (34 ∷ []))

abbrev pub flag_text : Bool → List ℕ
flag_text true = codes "true"
flag_text false = codes "false"

-- a text, or null
abbrev pub text_or_null : Option (List ℕ) → List ℕ
text_or_null None = codes "null"
text_or_null (Some text) = quoted text

abbrev pub is_plain_or_null : Option (List ℕ) → Bool
is_plain_or_null None = true
is_plain_or_null (Some text) = is_plain text

-- a list of texts
abbrev pub quoted_list : List (List ℕ) → List ℕ
quoted_list texts = list_of (map quoted texts)

abbrev pub are_plain : List (List ℕ) → Bool
are_plain texts = list_all is_plain texts

-- the last member of an item, which only a renamed dependency has
abbrev pub real_name_members : Option (List ℕ) → List (List ℕ × List ℕ)
real_name_members None = []
real_name_members (Some name) = (codes "package", quoted name) ∷ []

-- what stands behind its kind
abbrev pub item_end : Option (List ℕ) → List ℕ
item_end None = codes "}"
item_end (Some name) = codes ",\"package\":" ++ (quoted name ++ codes "}")

-- the members of an item
abbrev pub item_members : PlainItem → List (List ℕ × List ℕ)
item_members p = (codes "name", quoted p.name.now) ∷ (codes "req", quoted p.requirement.now)
    ∷ (codes "features", p.features.now) ∷ (codes "optional", flag_text p.optional)
    ∷ (codes "default_features", flag_text p.default_features)
    ∷ (codes "target", text_or_null (option_map (λ t. t.now) p.target))
    ∷ (codes "kind", quoted p.kind.now) ∷ real_name_members (option_map (λ t. t.now) p.real_name)

-- an item's bytes are cut into these members
pub record IsPlainItem (p : PlainItem) (bytes : List ℕ) : Type 0 where
  pub whole : bytes ≡ object_text (item_members p)
  pub name : is_plain p.name.now ≡ true
  pub requirement : is_plain p.requirement.now ≡ true
  pub target : is_plain_or_null (option_map (λ t. t.now) p.target) ≡ true
  pub kind : is_plain p.kind.now ≡ true
  pub real_name : is_plain_or_null (option_map (λ t. t.now) p.real_name) ≡ true

-- the shape of a dependency whose bytes are read on their own
abbrev pub shape_of_item : List ℕ → Line DependencyView
shape_of_item bytes = ok_or (data_within item_depth bytes) (Skipped reason.NotJson) >>= dependency_of

-- the texts of a list whose bytes are
abbrev pub texts_of_item : List ℕ → Line (List (List ℕ))
texts_of_item bytes = ok_or (data_within item_depth bytes) (Skipped reason.NotJson) >>= texts_of
