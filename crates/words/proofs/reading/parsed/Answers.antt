use Rattle.std.proofs.Common.{◌≡◌, ◌∙◌, List, [], map, option_and_then, ap, inr, subst, sym}
use Rattle.clap.specs.Words.{App, HasKind, Text, fault_of, kind_of, is_simple, is_simple_and_free, subcommand_of}
use Rattle.clap.specs.Words.{subcommand_rows_of}
use Rattle.words.specs.Asked.{command_of, faults, parsed, relock_app}
use Rattle.words.proofs.Commands.{relock_is_free, relock_is_simple}
use Rattle.words.proofs.WordsFaults.{is_words_fault}
use Rattle.words.proofs.reading.parsed.Goals as goal

pub returns-in-Some-clause-asked : goal.returns-in-Some-clause-asked
unfolding parsed
returns-in-Some-clause-asked g c =
    let words : List Text = map g.S.AsStr.text c.args.words.now in
    let rows : subcommand_rows_of c.in-Ok.matches ≡ subcommand_of relock_app words =
    (c.in-Ok.ensures.matches (ap is_simple c.in_ok-relock.ensures ∙ relock_is_simple)).1
    ∙ ap (λ (a : App). subcommand_of a words) c.in_ok-relock.ensures in
    sym (c.in-Some.ensures ∙ ap (option_and_then command_of) rows)

pub returns-in-Some-clause-taken : goal.returns-in-Some-clause-taken
unfolding faults
returns-in-Some-clause-taken g c =
    sym (ap (λ (a : App). fault_of a (map g.S.AsStr.text c.args.words.now)) c.in_ok-relock.ensures)
    ∙ c.in-Ok.ensures.kinds (ap is_simple_and_free c.in_ok-relock.ensures ∙ relock_is_free)

pub returns-in-Ok-clause-fault : goal.returns-in-Ok-clause-fault
unfolding faults parsed
returns-in-Ok-clause-fault g c =
    let words : List Text = map g.S.AsStr.text c.args.words.now in
    let taken : fault_of relock_app words ≡ [] =
    sym (ap (λ (a : App). fault_of a words) c.in_ok-relock.ensures)
    ∙ c.in-Ok.ensures.kinds (ap is_simple_and_free c.in_ok-relock.ensures ∙ relock_is_free) in
    let rows : subcommand_rows_of c.in-Ok.matches ≡ subcommand_of relock_app words =
    (c.in-Ok.ensures.matches (ap is_simple c.in_ok-relock.ensures ∙ relock_is_simple)).1
    ∙ ap (λ (a : App). subcommand_of a words) c.in_ok-relock.ensures in
    inr (taken, sym (c.in-None.ensures ∙ ap (option_and_then command_of) rows))

pub returns-clause-fault : goal.returns-clause-fault
unfolding faults
returns-clause-fault g c =
    let words : List Text = map g.S.AsStr.text c.args.words.now in
    let met : HasKind (fault_of relock_app words) c.in-Err.error =
    subst (λ (a : App). HasKind (fault_of a words) c.in-Err.error) c.in_ok-relock.ensures
    (c.in-Err.ensures.kinds (ap is_simple_and_free c.in_ok-relock.ensures ∙ relock_is_free)) in
    is_words_fault words (kind_of c.in-Err.error) c.fault_of.result met c.fault_of.ensures
