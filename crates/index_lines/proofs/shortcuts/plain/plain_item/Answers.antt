use Rattle.index_lines.specs.declared.shortcuts.plain.PlainItem.{PlainItem}
use Rattle.index_lines.proofs.PlainLemmas.{item-whole}
use Rattle.index_lines.proofs.shortcuts.plain.plain_item.Goals as goal

pub returns : goal.returns
returns c =
    let name = c.in_ok-name in
    let requirement = c.in_ok-requirement in
    let features = c.in_ok-features in
    let optional = c.in_ok-optional in
    let default_features = c.in_ok-default_features in
    let target = c.in_ok-target in
    let kind = c.in_ok-kind in
    let real_name = c.in_ok-real_name in
    let p : PlainItem = record {
      name = name.name;
      requirement = requirement.requirement;
      features = features.features;
      optional = optional.optional;
      default_features = default_features.default_features;
      target = target.target;
      kind = kind.kind;
      real_name = real_name.real_name;
    } in
    record {
      whole = item-whole p c.args.bytes.now name.left.now requirement.left.now features.left.now optional.left.now
          default_features.left.now target.left.now kind.left.now name.ensures.0 requirement.ensures.0 features.ensures
          optional.ensures default_features.ensures target.ensures.0 kind.ensures.0 real_name.ensures.0;
      name = name.ensures.1;
      requirement = requirement.ensures.1;
      target = target.ensures.1;
      kind = kind.ensures.1;
      real_name = real_name.ensures.1;
    }
