use Rattle.std.proofs.Common.{◌∙◌, sym, ap, refl}
use Rattle.model.specs.inner.Terms.{same_states}
use Rattle.model.proofs.Sets.{same_states-is}
use Rattle.checker.specs.inner.Names.{named_set}
use Rattle.checker.specs.inner.Ready.{tables_of}
use Rattle.checker.proofs.names.Names.is_same_set.Goals as goal

pub returns-then-a-b : goal.returns-then-a-b
returns-then-a-b c =
    let t = tables_of c.args.self.now in
    sym ((same_states-is (named_set t c.args.a) (named_set t c.args.a)).1 (λ s. refl))
    ∙ ap (λ n. same_states (named_set t c.args.a) (named_set t n)) c.if-a-b.true
