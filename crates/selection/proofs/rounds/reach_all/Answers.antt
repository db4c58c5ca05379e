use Rattle.std.proofs.Common.{rules, ◌≡◌, map, [], true, false, refl, sym, ◌∙◌, true≢false}
use Rattle.facts.specs.inner.Graphs.{node_views}
use Rattle.catalogue.specs.Problems.{preferred_in, problem_in}
use Rattle.selection.specs.inner.Contents.{owners_of}
use Rattle.selection.specs.inner.Met.{all_met}
use Rattle.selection.proofs.Completeness.{all_met_says, are_enough, if_all_met, met_if_complete}
use Rattle.selection.proofs.rounds.reach_all.Goals as goal

pub returns-then-not-is_complete : goal.returns-then-not-is_complete
returns-then-not-is_complete c content it =
    let index = c.args.catalogue.now in
    let nodes = c.in_ok-found.found.nodes.items in
    let enabled = c.in_ok-found.found.facts.enabled.items in
    let test : c.is_complete.result ≡ all_met nodes enabled =
    rw (c.as_slice.ensures.value, c.as_slice-2.ensures.value) at c.is_complete.ensures in
    let lacks : c.is_complete.result ≡ false = search rules in
    let all = met_if_complete (problem_in c.args.manifest.now index) (preferred_in index) []
    (owners_of index c.follow.new.versions.keys) (node_views nodes) refl
    c.in_ok-found.found.facts.here.items (map (λ v. v.items) enabled) c.in_ok-found.ensures.flags
    c.in_ok-found.ensures.met it.complete in
    true≢false (sym (if_all_met nodes enabled all) ∙ sym test ∙ lacks)

pub returns : goal.returns
returns c =
    let index = c.args.catalogue.now in
    let nodes = c.in_ok-found.found.nodes.items in
    let enabled = c.in_ok-found.found.facts.enabled.items in
    let test : c.is_complete.result ≡ all_met nodes enabled =
    rw (c.as_slice.ensures.value, c.as_slice-2.ensures.value) at c.is_complete.ensures in
    let done : c.is_complete.result ≡ true = search rules in
    record {
      versions = c.in_ok-found.ensures.versions;
      enough = are_enough (problem_in c.args.manifest.now index) (preferred_in index) []
          (owners_of index c.follow.new.versions.keys) (node_views nodes) refl
          c.in_ok-found.found.facts.here.items (map (λ v. v.items) enabled) c.in_ok-found.ensures.flags true
          c.in_ok-found.ensures.met (all_met_says nodes enabled (sym test ∙ done));
    }
