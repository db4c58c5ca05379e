use Rattle.std.proofs.Common.{map, refl}
use Rattle.catalogue.specs.Problems.{preferred_in, problem_in}
use Rattle.selection.specs.inner.Contents.{owners_of}
use Rattle.facts.proofs.Found.{is_graph}
use Rattle.selection.specs.inner.Followed.{PicksFollowed}
use Rattle.selection.proofs.rounds.follow.Goals as goal

pub facts_of-requires : goal.facts_of-requires
facts_of-requires c =
    let index = c.args.catalogue.now in
    let q = problem_in c.args.manifest.now index in
    record {
      graph = rw c.as_slice.ensures.value
          (is_graph q (PicksFollowed c.args.all (map (λ v. v.items) c.args.asked.now)
          (owners_of index c.meet.new.versions.keys) q (preferred_in index)) _ _ c.in_ok-nodes.ensures.met refl);
    }

pub returns-clause-flags : goal.returns-clause-flags
returns-clause-flags c = record {
  each_here = rw c.as_slice.ensures.value at c.in_ok-facts.ensures.here;
  each_enabled = rw c.as_slice.ensures.value at c.in_ok-facts.ensures.enabled;
}
