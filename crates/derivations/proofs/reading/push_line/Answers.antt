use Rattle.std.proofs.Common.{◌≡◌, arith, false, true, length, nat_lt, Ok, sym, ap, ◌∙◌}
use Rattle.std.proofs.lemmas.Bool.{lt-ltb}
use Rattle.derivations.specs.Files.{most_steps}
use Rattle.trees.specs.Trees.{is_blank}
use Rattle.derivations.specs.Steps.{step_of_line}
use Rattle.derivations.specs.inner.Tables.{step_at}
use Rattle.derivations.proofs.LineLaws.{one-read}
use Rattle.derivations.proofs.reading.push_line.Goals as goal

pub returns-clause-sound : goal.returns-clause-sound
returns-clause-sound c =
    let steps = c.args.steps.now.items in
    let text : is_blank c.args.line.now ≡ false = sym c.is_blank.ensures ∙ c.if-is_blank.false in
    let read : step_of_line (length steps) c.args.line.now ≡ Ok (step_at c.read_step.new.tables c.in-Ok.step) =
    ap (λ ss. step_of_line (length ss) c.args.line.now) (sym c.as_slice.ensures.value) ∙ c.in-Ok.ensures.step in
    let under = c.if-len-ge-MOST_STEPS.false in
    let counted = c.len.ensures in
    let room : nat_lt (length steps) most_steps ≡ true = lt-ltb (length steps) most_steps (omega arith) in
    rw c.in_ok-push.ensures.items
    (one-read c.args.tables.now steps c.args.line.now c.args.number text c.read_step.new.tables c.in-Ok.step read
    c.in-Ok.ensures.grown c.requires c.in-Ok.ensures.within room).0

pub returns-clause-steps : goal.returns-clause-steps
returns-clause-steps c =
    let steps = c.args.steps.now.items in
    let text : is_blank c.args.line.now ≡ false = sym c.is_blank.ensures ∙ c.if-is_blank.false in
    let read : step_of_line (length steps) c.args.line.now ≡ Ok (step_at c.read_step.new.tables c.in-Ok.step) =
    ap (λ ss. step_of_line (length ss) c.args.line.now) (sym c.as_slice.ensures.value) ∙ c.in-Ok.ensures.step in
    let under = c.if-len-ge-MOST_STEPS.false in
    let counted = c.len.ensures in
    let room : nat_lt (length steps) most_steps ≡ true = lt-ltb (length steps) most_steps (omega arith) in
    rw c.in_ok-push.ensures.items
    (one-read c.args.tables.now steps c.args.line.now c.args.number text c.read_step.new.tables c.in-Ok.step read
    c.in-Ok.ensures.grown c.requires c.in-Ok.ensures.within room).1
