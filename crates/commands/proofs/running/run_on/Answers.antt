use Rattle.std.proofs.Common.{inl, inr, refl}
use Rattle.words.specs.Views.{words_view}
use Rattle.commands.specs.Lines.{ending_of}
use Rattle.commands.proofs.Telling.{tells-then}
use Rattle.commands.proofs.running.run_on.Goals as goal

pub returns-in-Ok : goal.returns-in-Ok
returns-in-Ok g c =
    let answered = c.answered-status.ensures.answers in
    inl (record {
      view = words_view c.in-Ok.words;
      taken = c.in-Ok.ensures.taken;
      asks = c.in-Ok.ensures.asked;
      given = c.answered-status.result.status;
      status_is = c.finish-status.ensures.status;
      told = answered.0;
      answers = answered.1;
      ends = answered.2;
      ended_before = c.answered-status.ensures.ended_before;
      ended = tells-then g.E.Stream.contents g.E.Stream.fails answered.0
          (ending_of c.answered-status.result.status) c.args.err.now c.answered-status.new.err c.finish-status.new.err
          c.answered-status.result.told c.finish-status.result.1 answered.3 c.finish-status.ensures.told;
    })

pub returns-in-Err : goal.returns-in-Err
returns-in-Err g c =
    inr (c.in-Err.fault, c.in-Err.ensures.fault, c.without_words.ensures.printed, c.without_words.ensures.told, refl)
