use Rattle.numbering.specs.inner.Matched.{name_classes}
use Rattle.numbering.specs.inner.MatchedViews.{problem_of}
use Rattle.numbering.proofs.Keeping.{range_told}
use Rattle.numbering.proofs.matched.Matched.between.Goals as goal

pub returns : goal.returns
returns c = range_told c.in_ok-all_of.field-0.now (name_classes (problem_of c.args.self.now) c.args.name.now)
    c.args.from c.args.to c.get.result c.in_ok-all_of.ensures.0 c.get.ensures.lookup
