-- What is spelt as a registry spells it is read as what it says.
use Rattle.std.proofs.Common.{◌≡◌, ℕ, suc, ◌<◌, List, [], ◌∷◌, ◌++◌, length, map, Bool, true, false, ◌&&◌, Option}
use Rattle.std.proofs.Common.{Some, None, option_and_then, option_map, Ok, codes, refl, sym, ap, ap₂, ◌∙◌, subst}
use Rattle.std.proofs.Common.{append_assoc, arith, Bor}
use Rattle.std.specs.List.{list_all, zip}
use Rattle.std.specs.Option.{ok_or}
use Rattle.std.proofs.lemmas.Bool.{and_parts}
use Rattle.std.proofs.lemmas.List.{map-append}
use Rattle.serde_json.specs.Data.{Data, array, boolean, no_members, null, object, string}
use Rattle.serde_json.specs.Find.{as_bool, as_str}
use Rattle.features.specs.declared.dependency.DependencyKind.{DependencyKind}
use Rattle.features.specs.declared.dependency.DependencyKind.TheVariants.{Normal, Dev}
use Rattle.trees.specs.inner.Parts.{between_commas, data_within, is_plain, items_of_data, member_text, members_put}
use Rattle.trees.specs.inner.Parts.{members_text, object_text}
use Rattle.trees.proofs.ListLemmas.{list-by_items}
use Rattle.trees.proofs.ObjectLemmas.{object-by_members}
use Rattle.trees.proofs.ScalarLemmas.{plain-false, plain-null, plain-text, plain-true}
use Rattle.index_lines.specs.inner.ByParts.{item_depth}
use Rattle.index_lines.specs.inner.Plain.{IsPlainItem, are_plain, flag_text, is_plain_or_null, item_end, item_members}
use Rattle.index_lines.specs.inner.Plain.{quoted, quoted_list, real_name_members, shape_of_item, text_or_null}
use Rattle.index_lines.specs.inner.Plain.{texts_of_item}
use Rattle.index_lines.specs.Shapes.{DependencyView, PartView, by_kind, dependency_of, dev, is_dev, kind_at, kind_of}
use Rattle.index_lines.specs.Shapes.{kind_of_text, needed, needed_name, optional, package_name_at, package_name_of}
use Rattle.index_lines.specs.Shapes.{package_name_or_none, part, part_with, text_of, texts_in, texts_of, texts_or_none}
use Rattle.index_lines.specs.Shapes.{value_at, values_of}
use Rattle.index_lines.specs.declared.fault.LineFault.TheVariants.{Skipped}
use Rattle.index_lines.specs.declared.fault.SkipReason.TheVariants.{NotJson}
use Rattle.index_lines.specs.declared.shortcuts.plain.PlainItem.{PlainItem}
use Rattle.index_lines.proofs.ByPartsLemmas.{goes}
use Rattle.index_lines.proofs.ItemsLemmas.{with-next}

-- ---- the texts of a list so far, and one more

pub record TextsSoFar (bytes : List ℕ) (texts : List (List ℕ)) (left : List ℕ) : Type 0 where
  some : 0 < length (map quoted texts)
  told : bytes ≡ codes "[" ++ (between_commas (map quoted texts) ++ left)
  plain : are_plain texts ≡ true

plain-more : (texts : List (List ℕ)) (text : List ℕ) → are_plain texts ≡ true → is_plain text ≡ true
    → are_plain (texts ++ text ∷ []) ≡ true
plain-more [] text plain last = ap (λ b. b && true) last
plain-more (t ∷ texts) text plain last =
    let both = and_parts (is_plain t) (are_plain texts) plain in
    ap₂ (λ x y. x && y) both.0 (plain-more texts text both.1 last)

pub with-text : (bytes : List ℕ) (texts : List (List ℕ)) (text left rest : List ℕ) → TextsSoFar bytes texts left
    → left ≡ codes "," ++ (quoted text ++ rest) → is_plain text ≡ true → TextsSoFar bytes (texts ++ text ∷ []) rest
with-text bytes texts text left rest far next plain =
    let before = map quoted texts in
    let one = with-next (between_commas before ++ left) before (quoted text) left (quoted text ++ rest) rest far.some
    refl next refl in
    let all : map quoted texts ++ quoted text ∷ [] ≡ map quoted (texts ++ text ∷ []) =
    sym (map-append quoted texts (text ∷ [])) in
    record {
      some = subst (λ ts. 0 < length ts) all one.0;
      told = far.told ∙ ap (λ l. codes "[" ++ l) (one.1 ∙ ap (λ ts. between_commas ts ++ rest) all);
      plain = plain-more texts text far.plain plain;
    }

pub first-text : (bytes text left : List ℕ) → bytes ≡ codes "[" ++ (quoted text ++ left) → is_plain text ≡ true
    → TextsSoFar bytes (text ∷ []) left
first-text bytes text left told plain = record {
  some = omega arith;
  told = told;
  plain = ap (λ b. b && true) plain;
}

pub all-texts : (bytes : List ℕ) (texts : List (List ℕ)) (left : List ℕ) → TextsSoFar bytes texts left
    → left ≡ codes "]" → (bytes ≡ quoted_list texts) × (are_plain texts ≡ true)
all-texts bytes texts left far ended = (
  far.told ∙ ap (λ l. codes "[" ++ (between_commas (map quoted texts) ++ l)) ended,
  far.plain,
)

-- ---- a list of texts

texts-data : (deep : ℕ) (texts : List (List ℕ)) → are_plain texts ≡ true
    → map (data_within deep) (map quoted texts) ≡ map Some (map string texts)
texts-data deep [] plain = refl
texts-data deep (text ∷ texts) plain =
    let both = and_parts (is_plain text) (are_plain texts) plain in
    ap₂ (λ x xs. x ∷ xs) (plain-text deep text both.0) (texts-data deep texts both.1)

abbrev list_data : List (List ℕ) → Data
list_data texts = array (items_of_data (map string texts))

list-data : (deep : ℕ) (texts : List (List ℕ)) → are_plain texts ≡ true
    → data_within (suc deep) (quoted_list texts) ≡ Some (list_data texts)
list-data deep texts plain = list-by_items deep (map quoted texts) (map string texts) (texts-data deep texts plain)

texts-in : (texts : List (List ℕ)) → texts_in (items_of_data (map string texts)) ≡ Ok texts
unfolding texts_in
texts-in [] = refl
texts-in (text ∷ texts) =
    goes (texts_in (items_of_data (map string texts))) (λ others. Ok (text ∷ others)) texts _ (texts-in texts) refl

texts-of : (texts : List (List ℕ)) → texts_of (list_data texts) ≡ Ok texts
unfolding texts_of
texts-of texts = texts-in texts

pub texts-read : (bytes : List ℕ) (texts : List (List ℕ)) → bytes ≡ quoted_list texts → are_plain texts ≡ true
    → texts_of_item bytes ≡ Ok texts
texts-read bytes texts spelt plain =
    goes (ok_or (data_within item_depth bytes) (Skipped NotJson)) texts_of (list_data texts) _
    (ap (λ o. ok_or o (Skipped NotJson)) (ap (data_within item_depth) spelt ∙ list-data 124 texts plain))
    (texts-of texts)

-- ---- the bytes of an item

-- the others behind a member, each with a comma before it, and the end
behind_member : List (List ℕ × List ℕ) → List ℕ
behind_member [] = codes "}"
behind_member (m ∷ ms) = 44 ∷ (member_text m ++ behind_member ms)

members-end : (m : List ℕ × List ℕ) (ms : List (List ℕ × List ℕ))
    → members_text (m ∷ ms) ++ codes "}" ≡ member_text m ++ behind_member ms
unfolding behind_member
members-end m [] = refl
members-end m (next ∷ ms) = append_assoc (member_text m) (44 ∷ members_text (next ∷ ms)) (codes "}")
    ∙ ap (λ l. member_text m ++ (44 ∷ l)) (members-end next ms)

end-is : (o : Option (List ℕ)) → item_end o ≡ behind_member (real_name_members o)
unfolding behind_member
end-is None = refl
end-is (Some name) = refl

pub item-whole : (p : PlainItem) (bytes a b c d e f g : List ℕ)
    → bytes ≡ codes "{\"name\":" ++ (quoted p.name.now ++ a)
    → a ≡ codes ",\"req\":" ++ (quoted p.requirement.now ++ b)
    → b ≡ codes ",\"features\":" ++ (p.features.now ++ c)
    → c ≡ codes ",\"optional\":" ++ (flag_text p.optional ++ d)
    → d ≡ codes ",\"default_features\":" ++ (flag_text p.default_features ++ e)
    → e ≡ codes ",\"target\":" ++ (text_or_null (option_map (λ t. t.now) p.target) ++ f)
    → f ≡ codes ",\"kind\":" ++ (quoted p.kind.now ++ g)
    → g ≡ item_end (option_map (λ t. t.now) p.real_name)
    → bytes ≡ object_text (item_members p)
unfolding behind_member
item-whole p bytes a b c d e f g first second third fourth fifth sixth seventh last =
    let target = text_or_null (option_map (λ t. t.now) p.target) in
    let names = real_name_members (option_map (λ t. t.now) p.real_name) in
    let others = (codes "req", quoted p.requirement.now) ∷ (codes "features", p.features.now)
    ∷ (codes "optional", flag_text p.optional) ∷ (codes "default_features", flag_text p.default_features)
    ∷ (codes "target", target) ∷ (codes "kind", quoted p.kind.now) ∷ names in
    let on = λ (front value left rest : List ℕ) (same : left ≡ rest). ap (λ l. front ++ (value ++ l)) same in
    let told : bytes ≡ 123 ∷ (member_text (codes "name", quoted p.name.now) ++ behind_member others) =
    first ∙ on (codes "{\"name\":") (quoted p.name.now) a _
    (second ∙ on (codes ",\"req\":") (quoted p.requirement.now) b _
    (third ∙ on (codes ",\"features\":") p.features.now c _
    (fourth ∙ on (codes ",\"optional\":") (flag_text p.optional) d _
    (fifth ∙ on (codes ",\"default_features\":") (flag_text p.default_features) e _
    (sixth ∙ on (codes ",\"target\":") target f _
    (seventh ∙ on (codes ",\"kind\":") (quoted p.kind.now) g (behind_member names)
    (last ∙ end-is (option_map (λ t. t.now) p.real_name)))))))) in
    told ∙ ap (λ l. 123 ∷ l) (sym (members-end (codes "name", quoted p.name.now) others))

-- ---- what an item is read as

flag-data : (deep : ℕ) (b : Bool) → data_within deep (flag_text b) ≡ Some (boolean b)
flag-data deep true = plain-true deep
flag-data deep false = plain-false deep

abbrev string_or_null : Option (List ℕ) → Data
string_or_null None = null
string_or_null (Some text) = string text

text_or_null-data : (deep : ℕ) (o : Option (List ℕ)) → is_plain_or_null o ≡ true
    → data_within deep (text_or_null o) ≡ Some (string_or_null o)
text_or_null-data deep None plain = plain-null deep
text_or_null-data deep (Some text) plain = plain-text deep text plain

abbrev real_name_values : Option (List ℕ) → List Data
real_name_values None = []
real_name_values (Some name) = string name ∷ []

real_name-keys : (o : Option (List ℕ)) → list_all (λ m. is_plain m.0) (real_name_members o) ≡ true
real_name-keys None = refl
real_name-keys (Some name) = refl

real_name-data : (deep : ℕ) (o : Option (List ℕ)) → is_plain_or_null o ≡ true
    → map (λ m. data_within deep m.1) (real_name_members o) ≡ map Some (real_name_values o)
real_name-data deep None plain = refl
real_name-data deep (Some name) plain = ap (λ x. x ∷ []) (plain-text deep name plain)

abbrev item_values : PlainItem → List (List ℕ) → List Data
item_values p texts = string p.name.now ∷ string p.requirement.now ∷ list_data texts ∷ boolean p.optional
    ∷ boolean p.default_features ∷ string_or_null (option_map (λ t. t.now) p.target) ∷ string p.kind.now
    ∷ real_name_values (option_map (λ t. t.now) p.real_name)

abbrev item_data : PlainItem → List (List ℕ) → Data
item_data p texts = object (members_put (zip (map (λ m. m.0) (item_members p)) (item_values p texts)) no_members)

item-read : (p : PlainItem) (bytes : List ℕ) (texts : List (List ℕ)) → IsPlainItem p bytes
    → p.features.now ≡ quoted_list texts → are_plain texts ≡ true
    → data_within item_depth bytes ≡ Some (item_data p texts)
item-read p bytes texts is spelt plain =
    let on = λ (x y : Option Data) (xs ys : List (Option Data)) (a : x ≡ y) (b : xs ≡ ys). ap₂ (λ z zs. z ∷ zs) a b in
    let values : map (λ m. data_within 124 m.1) (item_members p) ≡ map Some (item_values p texts) =
    on _ _ _ _ (plain-text 124 p.name.now is.name) (on _ _ _ _ (plain-text 124 p.requirement.now is.requirement)
    (on _ _ _ _ (ap (data_within 124) spelt ∙ list-data 123 texts plain) (on _ _ _ _ (flag-data 124 p.optional)
    (on _ _ _ _ (flag-data 124 p.default_features)
    (on _ _ _ _ (text_or_null-data 124 (option_map (λ t. t.now) p.target) is.target)
    (on _ _ _ _ (plain-text 124 p.kind.now is.kind)
    (real_name-data 124 (option_map (λ t. t.now) p.real_name) is.real_name))))))) in
    ap (data_within item_depth) is.whole
    ∙ object-by_members 124 (item_members p) (item_values p texts)
    (real_name-keys (option_map (λ t. t.now) p.real_name)) values

-- ---- what an item has at its keys

record HasItem (d : Data) (p : PlainItem) (texts : List (List ℕ)) (real_name : Option (List ℕ)) : Type 0 where
  name_is : value_at (codes "name") d ≡ Some (string p.name.now)
  requirement_is : value_at (codes "req") d ≡ Some (string p.requirement.now)
  features_are : value_at (codes "features") d ≡ Some (list_data texts)
  optional_is : value_at (codes "optional") d ≡ Some (boolean p.optional)
  default_is : value_at (codes "default_features") d ≡ Some (boolean p.default_features)
  kind_is : value_at (codes "kind") d ≡ Some (string p.kind.now)
  real_name_is : value_at (codes "package") d ≡ option_map string real_name
  registry_is : value_at (codes "registry") d ≡ None

has-item : (p : PlainItem) (texts : List (List ℕ)) (o : Option (List ℕ)) → option_map (λ t. t.now) p.real_name ≡ o
    → HasItem (item_data p texts) p texts o
has-item p texts None same = rw same (record {
  name_is = refl;
  requirement_is = refl;
  features_are = refl;
  optional_is = refl;
  default_is = refl;
  kind_is = refl;
  real_name_is = refl;
  registry_is = refl;
})
has-item p texts (Some name) same = rw same (record {
  name_is = refl;
  requirement_is = refl;
  features_are = refl;
  optional_is = refl;
  default_is = refl;
  kind_is = refl;
  real_name_is = refl;
  registry_is = refl;
})

-- ---- the dependency that it is

shape-by : (bytes : List ℕ) (p : PlainItem) (texts : List (List ℕ)) (name : List ℕ) (kind : DependencyKind)
    (d : DependencyView) → IsPlainItem p bytes → p.features.now ≡ quoted_list texts → are_plain texts ≡ true
    → package_name_of (string p.name.now) ≡ Ok name → kind_of_text p.kind.now ≡ Some kind
    → by_kind name kind (values_of (item_data p texts)) ≡ Ok d → shape_of_item bytes ≡ Ok d
unfolding dependency_of
shape-by bytes p texts name kind d is spelt plain named kind_is made =
    let value = item_data p texts in
    let has = has-item p texts (option_map (λ t. t.now) p.real_name) refl in
    goes (ok_or (data_within item_depth bytes) (Skipped NotJson)) dependency_of value _
    (ap (λ o. ok_or o (Skipped NotJson)) (item-read p bytes texts is spelt plain))
    (goes (package_name_at (codes "name") value) _ name _ (ap needed_name has.name_is ∙ named)
    (goes (kind_at value) _ kind _ (ap (optional Normal kind_of) has.kind_is ∙ ap needed kind_is) made))

pub dev-shape : (bytes : List ℕ) (p : PlainItem) (texts : List (List ℕ)) (name : List ℕ) → IsPlainItem p bytes
    → p.features.now ≡ quoted_list texts → are_plain texts ≡ true → package_name_of (string p.name.now) ≡ Ok name
    → kind_of_text p.kind.now ≡ Some Dev → shape_of_item bytes ≡ Ok (dev name)
dev-shape bytes p texts name is spelt plain named kind_is =
    shape-by bytes p texts name Dev (dev name) is spelt plain named kind_is refl

abbrev part_of : PlainItem → List (List ℕ) → List ℕ → Option (List ℕ) → PartView
part_of p texts name real_name = record {
  name = name;
  real_name = real_name;
  requirement = p.requirement.now;
  optional = p.optional;
  default_features = p.default_features;
  features = texts;
  registry = None;
}

part-is : (p : PlainItem) (texts : List (List ℕ)) (name : List ℕ) (real_name : Option (List ℕ))
    → package_name_or_none (option_map (λ t. string t.now) p.real_name) ≡ Ok real_name
    → part_with name (values_of (item_data p texts)) ≡ Ok (part_of p texts name real_name)
unfolding part_with
part-is p texts name real_name renamed =
    let value = item_data p texts in
    let o = option_map (λ t. t.now) p.real_name in
    let has = has-item p texts o refl in
    let values = values_of value in
    let text_is = λ (q : Option Data). needed (option_and_then as_str q) in
    goes (package_name_or_none values.package_value) _ real_name _
    (ap package_name_or_none (has.real_name_is ∙ twice p.real_name) ∙ renamed)
    (goes (text_is values.requirement_value) _ p.requirement.now _ (ap text_is has.requirement_is)
    (goes (optional false as_bool values.optional_value) _ p.optional _ (ap (optional false as_bool) has.optional_is)
    (goes (optional true as_bool values.default_features_value) _ p.default_features _
    (ap (optional true as_bool) has.default_is)
    (goes (texts_or_none values.features_value) _ texts _ (ap texts_or_none has.features_are ∙ texts-of texts)
    (goes (optional None text_of values.registry_value) _ None _ (ap (optional None text_of) has.registry_is) refl)))))
  where
    twice : (q : Option (Bor (List ℕ))) → option_map string (option_map (λ t. t.now) q)
        ≡ option_map (λ t. string t.now) q
    twice None = refl
    twice (Some t) = refl

pub part-shape : (bytes : List ℕ) (p : PlainItem) (texts : List (List ℕ)) (name : List ℕ) (kind : DependencyKind)
    (real_name : Option (List ℕ)) → IsPlainItem p bytes
    → p.features.now ≡ quoted_list texts → are_plain texts ≡ true → package_name_of (string p.name.now) ≡ Ok name
    → kind_of_text p.kind.now ≡ Some kind → is_dev kind ≡ false
    → package_name_or_none (option_map (λ t. string t.now) p.real_name) ≡ Ok real_name
    → shape_of_item bytes ≡ Ok (part (part_of p texts name real_name))
part-shape bytes p texts name kind real_name is spelt plain named kind_is takes_part renamed =
    shape-by bytes p texts name kind (part (part_of p texts name real_name)) is spelt plain named kind_is
    (rw takes_part (goes (part_with name (values_of (item_data p texts))) _ (part_of p texts name real_name) _
    (part-is p texts name real_name renamed) refl))
