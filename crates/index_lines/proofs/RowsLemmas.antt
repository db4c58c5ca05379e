-- An object of features is what its members are.
use Rattle.std.proofs.Common.{◌≡◌, ℕ, suc, List, [], ◌∷◌, map, true, ◌&&◌, Some, Ok, Vec, codes}
use Rattle.std.proofs.Common.{◌++◌, drop, refl, sym, ap, ap₂, ◌∙◌, subst}
use Rattle.std.specs.List.{list_all, zip}
use Rattle.std.proofs.Math.Seq.{drop-append_seam}
use Rattle.std.proofs.lemmas.Bool.{and_parts}
use Rattle.std.specs.Option.{ok_or}
use Rattle.std.specs.Ordering.{is_lt}
use Rattle.std.specs.declared.alloc.Global.{Global}
use Rattle.serde_json.specs.Data.{Data, object}
use Rattle.model.specs.Order.{text_cmp}
use Rattle.model.specs.Summary as model
use Rattle.model.specs.Tables.{DepName, Written, table_of}
use Rattle.features.specs.EntryViews.{entry_views}
use Rattle.features.specs.inner.Tables.{AreRising, rows_of}
use Rattle.features.specs.declared.entry.Entry.{Entry}
use Rattle.trees.specs.inner.Parts.{data_within, is_plain, keys_rise, member_text, members_in_order}
use Rattle.trees.proofs.ObjectLemmas.{object-by_members}
use Rattle.trees.proofs.RisingLemmas.{members-stay}
use Rattle.index_lines.specs.inner.ByParts.{IsRow, item_depth, part_of_bytes, row_of_member, table_of_bytes}
use Rattle.index_lines.specs.inner.ByParts.{value_behind}
use Rattle.index_lines.specs.inner.Rows.{braced, row_texts, row_views}
use Rattle.index_lines.specs.Shapes.{FeatureView, features_in, features_or_none, texts_of, unless_null}
use Rattle.index_lines.specs.Records.{feature_read, features_read, names_rise, unless_faulty, with_features}
use Rattle.index_lines.specs.declared.fault.LineFault.TheVariants.{Skipped}
use Rattle.index_lines.specs.declared.fault.SkipReason.TheVariants.{NotJson}
use Rattle.index_lines.specs.declared.shortcuts.row.RowRead.{RowRead}
use Rattle.index_lines.proofs.ByPartsLemmas.{goes, steps, there}
use Rattle.index_lines.proofs.RisingLemmas.{all-rising, named, rows-rise}

-- ---- a member

-- what a key and the bytes behind it are
record IsMember (key value : List ℕ) (row : List ℕ × List model.Entry) : Type 0 where
  found : Data
  read : data_within item_depth value ≡ Some found
  texts : List (List ℕ)
  shaped : texts_of found ≡ Ok texts
  said : feature_read (record { name = key; entries = texts }) ≡ Ok row
  same : key ≡ row.0

is-member : (key value : List ℕ) (row : List ℕ × List model.Entry) → row_of_member key value ≡ Ok row
    → IsMember key value row
unfolding row_of_member
is-member key value row is =
    let d = steps (ok_or (data_within item_depth value) (Skipped NotJson)) _ row is in
    let texts = steps (texts_of d.0) _ row d.2 in
    record {
      found = d.0;
      read = there (data_within item_depth value) d.0 d.1;
      texts = texts.0;
      shaped = texts.1;
      said = texts.2;
      same = named (record { name = key; entries = texts.0 }) row texts.2;
    }

value-behind : (key value : List ℕ) → value_behind key (member_text (key, value)) ≡ value
value-behind key value = ap (drop 2) (drop-append_seam key (codes "\":" ++ value))

pub is-row : (bytes key value name : List ℕ) (entries : List model.Entry) → bytes ≡ member_text (key, value)
    → is_plain key ≡ true → row_of_member key value ≡ Ok (name, entries) → IsRow bytes name entries
is-row bytes key value name entries spelt plain is =
    let same : key ≡ name = (is-member key value (name, entries) is).same in
    let behind : value_behind key bytes ≡ value = ap (value_behind key) spelt ∙ value-behind key value in
    let row : IsRow bytes key entries = (
      plain,
      spelt ∙ ap (λ v. member_text (key, v)) (sym behind),
      ap (row_of_member key) behind ∙ is ∙ ap (λ n. Ok (n, entries)) (sym same),
    ) in
    subst (λ n. IsRow bytes n entries) same row

-- ---- what the members are

-- what the bytes of members are
record AreMembers (texts : List (List ℕ)) (rows : Written) : Type 0 where
  members : List (List ℕ × List ℕ)
  values : List Data
  features : List FeatureView
  spelt : texts ≡ map member_text members
  plain : list_all (λ m. is_plain m.0) members ≡ true
  read : map (λ m. data_within item_depth m.1) members ≡ map Some values
  shaped : features_in (members_in_order (zip (map (λ m. m.0) members) values)) ≡ Ok features
  said : features_read features ≡ Ok rows
  rise : (name : List ℕ) → keys_rise name rows ≡ true
      → (keys_rise name (zip (map (λ m. m.0) members) values) ≡ true) × (names_rise name features ≡ true)

with-member : (bytes key value : List ℕ) (row : List ℕ × List model.Entry) (texts : List (List ℕ)) (rows : Written)
    → is_plain key ≡ true → bytes ≡ member_text (key, value) → IsMember key value row → AreMembers texts rows
    → AreMembers (bytes ∷ texts) (row ∷ rows)
unfolding features_in features_read
with-member bytes key value row texts rows plain spelt m all =
    let f : FeatureView = record { name = key; entries = m.texts } in
    let keys = map (λ m. m.0) all.members in
    record {
      members = (key, value) ∷ all.members;
      values = m.found ∷ all.values;
      features = f ∷ all.features;
      spelt = ap₂ (λ x xs. x ∷ xs) spelt all.spelt;
      plain = ap₂ (λ x y. x && y) plain all.plain;
      read = ap₂ (λ x xs. x ∷ xs) m.read all.read;
      shaped = goes (texts_of m.found) _ m.texts _ m.shaped
          (goes (features_in (members_in_order (zip keys all.values))) _ all.features _ all.shaped refl);
      said = goes (feature_read f) _ row _ m.said
          (goes (features_read all.features) _ rows _ all.said refl);
      rise = λ name rise.
          let both = and_parts (is_lt (text_cmp name row.0)) (keys_rise row.0 rows) rise in
          let here : is_lt (text_cmp name key) ≡ true = ap (λ k. is_lt (text_cmp name k)) m.same ∙ both.0 in
          let later = all.rise key (ap (λ k. keys_rise k rows) m.same ∙ both.1) in
          (ap₂ (λ x y. x && y) here later.0, ap₂ (λ x y. x && y) here later.1);
    }

are-members : (rows : List RowRead) → AreMembers (row_texts rows) (row_views rows)
unfolding features_in features_read
are-members [] = record {
  members = [];
  values = [];
  features = [];
  spelt = refl;
  plain = refl;
  read = refl;
  shaped = refl;
  said = refl;
  rise = λ name rise. (refl, refl);
}
are-members (r ∷ rows) =
    let bytes = r.bytes.now in
    let value = value_behind r.row.0 bytes in
    let row : List ℕ × List model.Entry = (r.row.0, entry_views r.row.1.items) in
    with-member bytes r.row.0 value row (row_texts rows) (row_views rows) r.read.0 r.read.1
    (is-member r.row.0 value row r.read.2) (are-members rows)

-- ---- the object of the members

-- the table of the object of these features, whose names rise
pub table-of_rows : (names : List DepName) (bytes : List ℕ) (rows : List RowRead)
    → bytes ≡ braced (row_texts rows) → keys_rise [] (row_views rows) ≡ true
    → table_of_bytes names bytes ≡ unless_faulty (table_of names (row_views rows))
unfolding table_of_bytes
table-of_rows names bytes rows told rise =
    let all = are-members rows in
    let ms = zip (map (λ m. m.0) all.members) all.values in
    let rises = all.rise [] rise in
    let value = object (members_in_order ms) in
    let read : data_within (suc item_depth) bytes ≡ Some value =
    ap (data_within (suc item_depth)) (told ∙ ap braced all.spelt)
    ∙ object-by_members item_depth all.members all.values all.plain all.read
    ∙ ap (λ ms. Some (object ms)) (members-stay ms rises.0) in
    goes (part_of_bytes bytes) _ value _ (ap (λ o. ok_or o (Skipped NotJson)) read)
    (goes (features_or_none (unless_null (Some value))) _ all.features _ all.shaped
    (goes (with_features [] all.features) _ (row_views rows) _ (all-rising all.features rises.1 ∙ all.said) refl))

-- copies of features whose names rise do too
pub copies-rise : (rows : List RowRead) (es : List (List ℕ × Vec Entry Global)) → rows_of es ≡ row_views rows
    → keys_rise [] (row_views rows) ≡ true → AreRising es
copies-rise rows es same rise =
    let all = are-members rows in
    rows-rise all.features es (all.rise [] rise).1 (all.said ∙ ap Ok (sym same))
