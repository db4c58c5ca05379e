use Rattle.std.proofs.Common.{◌≡◌, ◌++◌, IfOk, codes, string_bytes, subst}
use Rattle.index_reader.proofs.opened.path_below.Goals as goal

pub returns : goal.returns
returns c = subst (λ folder. IfOk c.joined.result
    (λ whole. string_bytes whole ≡ folder ++ codes "/" ++ c.args.path.now)) c.or_present.ensures c.joined.ensures
