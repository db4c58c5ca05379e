use Rattle.std.proofs.lemmas.Result.{on_ok_weaker}
use Rattle.numbering.proofs.OnPackageLaws.{puts_on}
use Rattle.numbering.proofs.on_package.put_on.Goals as goal

pub returns : goal.returns
returns c = on_ok_weaker c.put_behind.result
    (λ put. puts_on c.args.on.now c.put_behind.new.lists c.as_str.result c.args.one c.as_str.ensures.text put)
    c.put_behind.ensures
