use Rattle.std.proofs.Common.{◌≡◌, ◌++◌}
use Rattle.std.specs.Vec.Iter.{into_iter_items}
use Rattle.model.specs.Axioms.{without_full}
use Rattle.axioms.specs.inner.KeptViews.{problem_of}
use Rattle.lookups.specs.inner.TermViews.{term_views}
use Rattle.axioms.proofs.instances.full_terms.without_full.Given as goal

-- those taken so far, with those of the terms that are left, are those of all
abbrev pub invariant-terms : goal.invariant-terms
invariant-terms l =
    record {
      can : (goal.iterator-terms).can_next l.term-iterator;
      finite : (goal.iterator-terms).is_finite l.term-iterator;
      told : term_views l.others.items
          ++ without_full (problem_of l.kept) (term_views (into_iter_items l.term-iterator))
          ≡ without_full (problem_of l.kept) (term_views l.fn.terms.items);
    }
