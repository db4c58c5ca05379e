use Rattle.std.proofs.Common.{rules, ◌≡◌, true, false, Ok, Some, option_map}
use Rattle.serde_json.specs.Data.{string}
use Rattle.features.specs.Views.{text_views}
use Rattle.features.specs.declared.dependency.DependencyKind.TheVariants.{Dev}
use Rattle.index_lines.specs.inner.Plain.{are_plain, quoted_list}
use Rattle.index_lines.specs.Shapes.{is_dev, kind_of_text, package_name_of, package_name_or_none}
use Rattle.index_lines.proofs.PlainLemmas.{dev-shape, part-shape}
use Rattle.index_lines.proofs.shortcuts.plain.plain_dependency.Goals as goal

pub returns-in-Dev : goal.returns-in-Dev
returns-in-Dev c =
    let p = c.in-Some.item in
    let texts = text_views c.in-Some-3.features.items in
    let read : (p.features.now ≡ quoted_list texts) × (are_plain texts ≡ true) = search rules in
    let named : package_name_of (string p.name.now) ≡ Ok c.in-Some-2.name = search rules in
    let kind_is : kind_of_text p.kind.now ≡ Some Dev = search rules in
    dev-shape c.args.bytes.now p texts c.in-Some-2.name c.in-Some.ensures read.0 read.1 named kind_is

pub returns : goal.returns
returns c =
    let p = c.in-Some.item in
    let texts = text_views c.in-Some-3.features.items in
    let kind = c.in-Some-kind_of_text.kind in
    let read : (p.features.now ≡ quoted_list texts) × (are_plain texts ≡ true) = search rules in
    let named : package_name_of (string p.name.now) ≡ Ok c.in-Some-2.name = search rules in
    let kind_is : kind_of_text p.kind.now ≡ Some kind = search rules in
    let takes_part : is_dev kind ≡ false = search rules in
    let renamed : package_name_or_none (option_map (λ t. string t.now) p.real_name) ≡ Ok c.in-Some-4.real_name =
    search rules in
    part-shape c.args.bytes.now p texts c.in-Some-2.name kind c.in-Some-4.real_name c.in-Some.ensures read.0 read.1
    named kind_is takes_part renamed
