use Rattle.std.proofs.Common.{ap, sym, ◌∙◌}
use Rattle.features.specs.Views.{requirement_view}
use Rattle.numbering.specs.inner.Matched.{Ask, classes_asked}
use Rattle.numbering.specs.inner.MatchedViews.{problem_of}
use Rattle.numbering.proofs.Keeping.{put_kept}
use Rattle.numbering.proofs.matched.Matched.keep.Goals as goal

pub invariant_of-self : goal.invariant_of-self
invariant_of-self c =
    let d = c.args.dependency in
    let self = c.keep_all_of.new.self in
    let q = problem_of self in
    let ask : Ask = (record { ref_ptr = d.ref_ptr; now = d.now.real_name }, c.deref-requirement.result) in
    record {
      are_matched = put_kept q self.classes c.insert.new.self ask c.in_ok-kept.kept c.insert.result
          c.insert.ensures.updates c.insert.ensures.err self.are_matched
          (c.in_ok-kept.ensures ∙ ap (λ r. classes_asked q d.now.real_name (requirement_view r))
          (sym c.deref-requirement.ensures));
      are_named = self.are_named;
      same_problem = self.same_problem;
    }
