use Rattle.std.proofs.Common.{◌≡◌, true, rules}
use Rattle.classes.specs.Classes.{is_plain_number}
use Rattle.classes.proofs.Numerals.{refused}
use Rattle.classes.proofs.numbers.whole_number.Goals as goal

pub returns-in-Err : goal.returns-in-Err
returns-in-Err c =
    let plain : is_plain_number c.args.text.now ≡ true = search rules in
    refused c.args.text.now plain c.in-Err.ensures.value.0
