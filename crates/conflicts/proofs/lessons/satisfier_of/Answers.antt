use Rattle.conflicts.proofs.lessons.satisfier_of.Goals as goal

pub returns : goal.returns
returns g c es trail = record {
  satisfier = record {
    satisfied = c.satisfier.ensures.satisfied;
    cause = c.satisfier.ensures.cause es trail;
    opens = c.satisfier.ensures.opens;
  };
  is = c.terms.ensures.is;
}
