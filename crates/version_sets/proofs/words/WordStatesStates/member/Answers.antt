use Rattle.std.proofs.Common.{◌≡◌, ◌*◌, ◌+◌, ◌/◌, ◌%◌, ◌∙◌, ap, arith}
use Rattle.version_sets.specs.Sets.{has}
use Rattle.version_sets.proofs.words.WordStatesStates.member.Goals as goal

pub returns : goal.returns
returns c =
    let number : 64 * (c.args.number / 64) + c.args.number % 64 ≡ c.args.number = omega arith in
    c.has_place.ensures ∙ c.word_at.ensures (c.args.number % 64) (omega arith) ∙ ap (has c.args.self.now) number
