use Rattle.std.proofs.Common.{arith}
use Rattle.std.specs.HashMap.Entry.{map_with_value}
use Rattle.numbering.specs.inner.Lists.{same_name}
use Rattle.numbering.proofs.ListLaws.{pushed, same_at}
use Rattle.numbering.proofs.lists.put_behind.Goals as goal

pub returns : goal.returns
returns g c =
    let w = c.push.new.self in
    let put = pushed same_name c.args.lists.now (map_with_value c.in_ok-lists.field-0 w) c.args.text c.args.value w
    (same_at c.args.lists.now c.args.text) (c.in_ok-lists.ensures.update.0 w).0 c.or_insert-values.result.now
    c.new.result c.in_ok-lists.ensures.value c.or_insert-values.ensures.value c.new.ensures.items
    c.in_ok-push.ensures.items in
    λ x. grind (arith, put x)
