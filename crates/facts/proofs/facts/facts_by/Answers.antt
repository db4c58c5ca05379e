use Rattle.facts.proofs.facts.facts_by.Goals as goal

pub returns : goal.returns
returns c = record {
  set = c.close.new.marked;
  given = c.in_ok-close.ensures.given;
  here = c.in_ok-here_flags.ensures;
  enabled = c.in_ok-enabled_flags.ensures;
  lacks = c.in_ok-lacks_flags.ensures;
}
