use Rattle.std.proofs.Common.{◌<◌, ◌∙◌, List, sym, subst, arith}
use Rattle.incompatibilities.specs.Stores.{EntryView, entries_view}
use Rattle.propagation.specs.Promises.{LieIn}
use Rattle.propagation.specs.Trails.{trail_view}
use Rattle.numbering.specs.inner.KnownProblem.{problem}
use Rattle.incompatibilities.specs.inner.Counts.{combinations}
use Rattle.guiding.specs.inner.Counting.{HasCounted}
use Rattle.guiding.proofs.Ended.{searched_of}
use Rattle.guiding.proofs.searched.search_over.Goals as goal

pub begin-requires-clause-trail : goal.begin-requires-clause-trail
begin-requires-clause-trail g c =
    let t = trail_view g.S.States.tests c.in_ok-trail.trail in
    c.in_ok-trail.ensures.trail (entries_view g.S.States.tests c.new-store.result)
    (subst (λ (es : List EntryView). LieIn t es) (sym c.new-store.ensures)
    (λ id below. let no : id < 0 = below in omega (arith, no)))

pub returns-clause-problem : goal.returns-clause-problem
returns-clause-problem g c = c.in_ok-found.ensures.keeps.problem ∙ c.in_ok-guide.ensures.problem

pub returns-clause-follows : goal.returns-clause-follows
returns-clause-follows g c = c.in_ok-found.ensures.keeps.follows_is ∙ c.in_ok-guide.ensures.follows_is

pub returns-clause-searched : goal.returns-clause-searched
returns-clause-searched g c =
    let tests = g.S.States.tests in
    let end = c.in_ok-found.ensures in
    searched_of (problem c.args.known) c.args.follows c.in_ok-guide.guide c.search.new.guide
    (trail_view tests c.begin.new.trail) (trail_view tests c.search.new.trail)
    (entries_view tests c.begin.new.store) (entries_view tests c.search.new.store) c.in_ok-found.found.answer
    c.in_ok-guide.ensures end.keeps c.vertices_have_numbers_and_states.ensures.numbering
    c.vertices_have_numbers_and_states.ensures.spaces end.spaces end.trail end.ended end.given end.stored end.follows
    end.selects

pub returns-clause-counted : goal.returns-clause-counted
returns-clause-counted g c =
    let count = c.in_ok-found.ensures.counted in
    record {
      combined = subst (λ n. HasCounted (combinations (entries_view g.S.States.tests c.search.new.store)) n
          c.in_ok-found.found.steps) c.in_ok-guide.ensures.uncombined count.combined;
      assigned = count.assigned;
    }
