use Rattle.std.proofs.lemmas.Result.{on_ok_weaker}
use Rattle.numbering.proofs.AskedLaws.{asks_one}
use Rattle.numbering.proofs.asked.put_asked.Goals as goal

pub returns : goal.returns
returns c = on_ok_weaker c.put_behind.result (λ put. asks_one c.args.asked.now c.put_behind.new.lists c.args.called
    c.as_str.result (record { feature = c.args.feature }) c.as_str.ensures.text put) c.put_behind.ensures
