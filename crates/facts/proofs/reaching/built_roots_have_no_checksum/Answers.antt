use Rattle.facts.proofs.Found.{bare_root}
use Rattle.facts.proofs.reaching.built_roots_have_no_checksum.Goals as goal

pub returns : goal.returns
returns c = λ q owners nodes flags lists content built n p got root.
    bare_root q owners nodes lists flags content built n p got root
