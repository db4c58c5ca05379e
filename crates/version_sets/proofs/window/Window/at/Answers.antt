use Rattle.std.proofs.Common.{◌≡◌, ◌-◌, ◌∙◌, length, sym, arith, rules}
use Rattle.std.proofs.lemmas.List.{get_or_default}
use Rattle.version_sets.proofs.Kept.{at_high, at_in, at_low}
use Rattle.version_sets.proofs.window.Window.at.Goals as goal

pub returns-then-place-self : goal.returns-then-place-self
returns-then-place-self c = c.flank_word.ensures ∙ sym (at_low c.args.self.now c.args.place (omega arith))

pub returns-then-inside-len : goal.returns-then-inside-len
returns-then-inside-len c =
    let counted : c.len.result ≡ length c.args.self.now.words.items = search rules in
    c.index.ensures ∙ get_or_default c.args.self.now.words.items (c.args.place - c.args.self.now.first)
    c.index.result.now 0 (omega arith) ∙ sym (at_in c.args.self.now c.args.place (omega arith) (omega arith))

pub returns : goal.returns
returns c =
    let counted : c.len.result ≡ length c.args.self.now.words.items = search rules in
    c.flank_word-2.ensures ∙ sym (at_high c.args.self.now c.args.place (omega arith))
