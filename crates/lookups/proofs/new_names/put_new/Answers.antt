use Rattle.std.proofs.Common.{refl, sym, ◌∙◌}
use Rattle.lookups.proofs.ByNames.{new_put}
use Rattle.lookups.proofs.new_names.put_new.Goals as goal

pub returns-in_ok-insert : goal.returns-in_ok-insert
returns-in_ok-insert g c =
    new_put c.args.values.now c.args.name.now c.args.value c.args.name c.insert.new.self refl
    (sym c.contains_key.ensures ∙ c.if-not-contains_key.true) c.in_ok-insert.ensures.updates
