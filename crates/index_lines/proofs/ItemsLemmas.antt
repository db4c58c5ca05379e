-- A list of dependencies is what its items are.
use Rattle.std.proofs.Common.{◌≡◌, ℕ, ◌<◌, List, [], ◌∷◌, ◌++◌, length, map, true, ◌&&◌, Option, Some, None, Ok}
use Rattle.std.proofs.Common.{refl, sym, ap, ap₂, ◌∙◌, arith, append_assoc}
use Rattle.std.specs.List.{list_all}
use Rattle.std.specs.Option.{ok_or, option_map}
use Rattle.semver.specs.Parse.{Held}
use Rattle.serde_json.specs.Data.{Data, array}
use Rattle.model.specs.Summary as model
use Rattle.model.specs.Tables.{DepName}
use Rattle.features.specs.inner.Tables.{dep_name_view}
use Rattle.features.specs.Views.{dependency_view}
use Rattle.trees.specs.inner.Parts.{between_commas, data_within, items_of_data, list_of}
use Rattle.trees.proofs.ListLemmas.{list-by_items}
use Rattle.index_lines.specs.inner.ByParts.{dependencies_of_bytes, dependencies_of_shapes, item_depth, item_of_bytes}
use Rattle.index_lines.specs.inner.ByParts.{part_of_bytes, taking_part}
use Rattle.index_lines.specs.inner.Items.{item_names, item_texts, those_taking_part, with_any}
use Rattle.index_lines.specs.Records.{dependencies_read, dependency_read, is_of_index, required, required_part, unless}
use Rattle.index_lines.specs.Records.{dep_name_of, dep_names_of}
use Rattle.index_lines.specs.Shapes.{DependencyView, PartView, dependencies_in, dependency_of, dev, part}
use Rattle.index_lines.specs.Shapes.{needed_dependencies, unless_null}
use Rattle.index_lines.specs.declared.fault.LineFault.TheVariants.{Skipped}
use Rattle.index_lines.specs.declared.fault.SkipReason.TheVariants.{NotJson, OtherRegistry}
use Rattle.index_lines.specs.declared.shortcuts.item.ItemRead.{ItemRead}
use Rattle.index_lines.proofs.ByPartsLemmas.{goes, passed, steps, there}

-- ---- the texts so far, and one more

one-more : (texts : List (List ℕ)) (text : List ℕ) → 0 < length texts
    → between_commas (texts ++ text ∷ []) ≡ between_commas texts ++ (44 ∷ text)
one-more [] text some = absurd (omega (arith, some))
one-more (t ∷ []) text some = refl
one-more (t ∷ u ∷ texts) text some =
    ap (λ x. t ++ (44 ∷ x)) (one-more (u ∷ texts) text (omega arith))
    ∙ sym (append_assoc t (44 ∷ between_commas (u ∷ texts)) (44 ∷ text))

some-more : (texts : List (List ℕ)) (text : List ℕ) → 0 < length (texts ++ text ∷ [])
some-more [] text = omega arith
some-more (t ∷ texts) text = omega arith

pub with-next : (all : List ℕ) (texts : List (List ℕ)) (text left items behind : List ℕ) → 0 < length texts
    → all ≡ between_commas texts ++ left → left ≡ 44 ∷ items → items ≡ text ++ behind
    → (0 < length (texts ++ text ∷ [])) × (all ≡ between_commas (texts ++ text ∷ []) ++ behind)
with-next all texts text left items behind some told comma next = (
  some-more texts text,
  told ∙ ap (λ x. between_commas texts ++ x) (comma ∙ ap (λ x. 44 ∷ x) next)
      ∙ sym (ap (λ x. x ++ behind) (one-more texts text some)
      ∙ append_assoc (between_commas texts) (44 ∷ text) behind),
)

-- ---- what the items are

-- what the bytes of an item are
record IsItem (bytes : List ℕ) (name : DepName) (dependency : Option model.Dependency) : Type 0 where
  value : Data
  read : data_within item_depth bytes ≡ Some value
  shape : DependencyView
  shaped : dependency_of value ≡ Ok shape
  own : is_of_index shape ≡ true
  named : dep_name_of shape ≡ name
  said : taking_part shape ≡ Ok dependency

is-item : (bytes : List ℕ) (d : DepName × Option model.Dependency) → item_of_bytes bytes ≡ Ok d → IsItem bytes d.0 d.1
unfolding item_of_bytes
is-item bytes d is =
    let value = steps (ok_or (data_within item_depth bytes) (Skipped NotJson)) _ d is in
    let shape = steps (dependency_of value.0) _ d value.2 in
    let own = steps (unless (is_of_index shape.0) OtherRegistry) _ d shape.2 in
    let said = steps (taking_part shape.0) _ d own.2 in
    record {
      value = value.0;
      read = there (data_within item_depth bytes) value.0 value.1;
      shape = shape.0;
      shaped = shape.1;
      own = passed (is_of_index shape.0) OtherRegistry own.0 own.1;
      named = cc;
      said = said.1 ∙ cc;
    }

-- what the bytes of items are
record AreItems (texts : List (List ℕ)) (names : List DepName) (ds : List model.Dependency) : Type 0 where
  values : List Data
  read : map (data_within item_depth) texts ≡ map Some values
  shapes : List DependencyView
  shaped : dependencies_in (items_of_data values) ≡ Ok shapes
  own : list_all is_of_index shapes ≡ true
  named : dep_names_of shapes ≡ names
  parts : List (PartView × List Held)
  needed : required shapes ≡ Ok parts
  said : dependencies_read parts ≡ Ok ds

record AreParts (shapes : List DependencyView) (ds : List model.Dependency) : Type 0 where
  parts : List (PartView × List Held)
  needed : required shapes ≡ Ok parts
  said : dependencies_read parts ≡ Ok ds

with-part : (shape : DependencyView) (o : Option model.Dependency) (shapes : List DependencyView)
    (parts : List (PartView × List Held)) (ds : List model.Dependency) → taking_part shape ≡ Ok o
    → required shapes ≡ Ok parts → dependencies_read parts ≡ Ok ds → AreParts (shape ∷ shapes) (with_any o ds)
unfolding required dependencies_read
with-part (dev name) o shapes parts ds taken needed said =
    let none : None ≡ o = cc in
    record { parts = parts; needed = needed; said = said ∙ ap (λ x. Ok (with_any x ds)) none }
with-part (part p) o shapes parts ds taken needed said =
    let first = steps (required_part p) _ o taken in
    let read = steps (dependency_read first.0) _ o first.2 in
    let some : Some read.0 ≡ o = cc in
    record {
      parts = first.0 ∷ parts;
      needed = goes (required_part p) _ first.0 _ first.1 (goes (required shapes) _ parts _ needed refl);
      said = goes (dependency_read first.0) _ read.0 _ read.1
          (goes (dependencies_read parts) _ ds _ said (ap (λ x. Ok (with_any x ds)) some));
    }

with-item : (bytes : List ℕ) (name : DepName) (o : Option model.Dependency) (texts : List (List ℕ))
    (names : List DepName) (ds : List model.Dependency) → IsItem bytes name o → AreItems texts names ds
    → AreItems (bytes ∷ texts) (name ∷ names) (with_any o ds)
unfolding dependencies_in
with-item bytes name o texts names ds i all =
    let parts = with-part i.shape o all.shapes all.parts ds i.said all.needed all.said in
    record {
      values = i.value ∷ all.values;
      read = ap₂ (λ x xs. x ∷ xs) i.read all.read;
      shapes = i.shape ∷ all.shapes;
      shaped = goes (dependency_of i.value) _ i.shape _ i.shaped
          (goes (dependencies_in (items_of_data all.values)) _ all.shapes _ all.shaped refl);
      own = ap₂ (λ x y. x && y) i.own all.own;
      named = ap₂ (λ x xs. x ∷ xs) i.named all.named;
      parts = parts.parts;
      needed = parts.needed;
      said = parts.said;
    }

are-items : (items : List ItemRead) → AreItems (item_texts items) (item_names items) (those_taking_part items)
unfolding dependencies_in required dependencies_read
are-items [] = record {
  values = [];
  read = refl;
  shapes = [];
  shaped = refl;
  own = refl;
  named = refl;
  parts = [];
  needed = refl;
  said = refl;
}
are-items (i ∷ items) =
    with-item i.bytes.now (dep_name_view i.name) (option_map dependency_view i.dependency) (item_texts items)
    (item_names items) (those_taking_part items)
    (is-item i.bytes.now (dep_name_view i.name, option_map dependency_view i.dependency) i.read) (are-items items)

-- ---- the list of the items

pub list-of_items : (items : List ItemRead)
    → dependencies_of_bytes (list_of (item_texts items)) ≡ Ok (item_names items, those_taking_part items)
unfolding dependencies_of_bytes
list-of_items items =
    let all = are-items items in
    let value = array (items_of_data all.values) in
    let ds = those_taking_part items in
    goes (part_of_bytes (list_of (item_texts items))) _ value _
    (ap (λ o. ok_or o (Skipped NotJson)) (list-by_items item_depth (item_texts items) all.values all.read))
    (goes (needed_dependencies (unless_null (Some value))) _ all.shapes _ all.shaped
    (goes (unless (list_all is_of_index all.shapes) OtherRegistry) _ tt _
    (ap (λ b. unless b OtherRegistry) all.own)
    (goes (dependencies_of_shapes all.shapes) _ ds _
    (goes (required all.shapes) dependencies_read all.parts _ all.needed all.said)
    (ap (λ names. Ok (names, ds)) all.named))))
