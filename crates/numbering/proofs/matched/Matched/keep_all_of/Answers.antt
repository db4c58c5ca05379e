use Rattle.numbering.specs.inner.Matched.{IsOfReleases}
use Rattle.numbering.specs.inner.MatchedViews.{problem_of}
use Rattle.numbering.proofs.Keeping.{for_some, put_named}
use Rattle.numbering.proofs.matched.Matched.keep_all_of.Goals as goal

pub invariant_of-self : goal.invariant_of-self
invariant_of-self c =
    let q = problem_of c.args.self.now in
    record {
      are_matched = c.args.self.now.are_matched;
      are_named = put_named q c.args.self.now.names c.insert.new.self c.args.name c.in_ok-classes.classes
          c.insert.result c.insert.ensures.updates c.insert.ensures.err c.args.self.now.are_named
          (for_some (λ ks. IsOfReleases q c.args.name.now ks.items) c.in_ok-classes.classes c.in_ok-classes.ensures);
      same_problem = c.args.self.now.same_problem;
    }
