use Rattle.features.proofs.DraftLemmas.{has_text-put}
use Rattle.features.proofs.texts.Texts.put.Goals as goal

pub returns-in_ok-insert : goal.returns-in_ok-insert
returns-in_ok-insert c = λ d. has_text-put d c.args.text c.args.self.now.few.items c.args.self.now.more.keys
    c.insert.new.self.keys c.in_ok-insert.ensures.keys
