use Rattle.classes.specs.Classes.{class_view}
use Rattle.vertices.specs.inner.RefViews.{owner_ref_view}
use Rattle.numbering.proofs.NotedLaws.{above_step}
use Rattle.numbering.proofs.noted.Listed.list_above.Goals as goal

pub classes-preserved : goal.classes-preserved
classes-preserved c =
    let lead = c.args.lead in
    record {
      kept = λ o x m p h. c.list_if_above.ensures.kept o x m p (c.classes.invariant.kept o x m p h);
      listed = λ m there lower. above_step c.classes.self c.list_if_above.new.self (owner_ref_view lead.owner)
          c.args.name.now (lead.number, class_view lead.class) c.args.classes.now c.classes.higher-index _
          c.classes-test.true c.list_if_above.ensures.kept c.in_ok-list_if_above.ensures.listed m lower
          (c.classes.invariant.listed m there lower);
    }
