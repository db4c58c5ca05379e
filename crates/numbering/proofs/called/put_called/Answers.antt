use Rattle.std.proofs.lemmas.Result.{on_ok_weaker}
use Rattle.numbering.proofs.CalledLaws.{puts_called}
use Rattle.numbering.proofs.called.put_called.Goals as goal

pub returns : goal.returns
returns c = on_ok_weaker c.put_behind.result (λ put.
    puts_called c.args.called.now c.put_behind.new.lists c.as_str.result c.args.one c.as_str.ensures.text put)
    c.put_behind.ensures
