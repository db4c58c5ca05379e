use Rattle.std.proofs.Common.{rules, ◌≡◌, map, true, false, refl, sym, ◌∙◌}
use Rattle.facts.specs.inner.Graphs.{node_views}
use Rattle.catalogue.specs.Problems.{preferred_in, problem_in}
use Rattle.selection.specs.inner.Contents.{owners_of}
use Rattle.selection.specs.inner.Met.{all_met}
use Rattle.selection.proofs.Completeness.{all_met_says, are_enough}
use Rattle.selection.proofs.Twice.{none_twice}
use Rattle.selection.specs.inner.Taking.{TakesTwice}
use Rattle.selection.proofs.rounds.reach.Goals as goal

pub returns-then-is_complete : goal.returns-then-is_complete
returns-then-is_complete c =
    let index = c.args.catalogue.now in
    let nodes = c.in_ok-found.found.nodes.items in
    let enabled = c.in_ok-found.found.facts.enabled.items in
    let test : c.is_complete.result ≡ all_met nodes enabled =
    rw (c.as_slice-in-rounds-3.ensures.value, c.as_slice-in-rounds-4.ensures.value) at c.is_complete.ensures in
    let done : c.is_complete.result ≡ true = search rules in
    record {
      versions = c.in_ok-found.ensures.versions;
      enough = are_enough (problem_in c.args.manifest.now index) (preferred_in index)
          (map (λ v. v.items) c.as_slice.result.now) (owners_of index c.follow.new.versions.keys) (node_views nodes)
          refl c.in_ok-found.found.facts.here.items (map (λ v. v.items) enabled) c.in_ok-found.ensures.flags false
          c.in_ok-found.ensures.met (all_met_says nodes enabled (sym test ∙ done));
    }

pub returns-then-branch : goal.returns-then-branch
returns-then-branch c content it =
    let index = c.args.catalogue.now in
    let found = c.in_ok-found.found in
    let twice : TakesTwice (owners_of index c.follow.new.versions.keys) found.facts.here.items =
    rw (c.as_slice-in-rounds.ensures.keys, c.as_slice-in-rounds-2.ensures.value)
    at (c.in_ok-takes_twice.ensures c.if-branch.true) in
    none_twice (problem_in c.args.manifest.now index) (preferred_in index) (map (λ v. v.items) c.as_slice.result.now)
    false (owners_of index c.follow.new.versions.keys) (node_views found.nodes.items) refl c.in_ok-found.ensures.met
    found.facts.here.items (map (λ v. v.items) found.facts.enabled.items) c.in_ok-found.ensures.flags content it twice
