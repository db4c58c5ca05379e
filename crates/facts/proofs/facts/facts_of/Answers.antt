use Rattle.std.proofs.Common.{◌≡◌, ◌∙◌, ap}
use Rattle.facts.specs.inner.Graphs.{node_views}
use Rattle.facts.specs.inner.FactNumbers.{numbers_views}
use Rattle.facts.specs.inner.RuleLists.{all_rules}
use Rattle.facts.proofs.Whole.{below_made, here_made, enabled_made, lacks_made}
use Rattle.facts.proofs.facts.facts_of.Goals as goal

pub facts_by-requires : goal.facts_by-requires
facts_by-requires c =
    let ps = numbers_views c.in_ok-packages.packages.items in
    let given : c.as_slice-3.result.now ≡ all_rules c.args.root ps
    = c.as_slice-3.ensures.value ∙ c.in_ok-rules.ensures
    ∙ ap (λ xs. all_rules c.args.root (numbers_views xs)) c.as_slice.ensures.value in
    record {
      below = below_made (node_views c.args.nodes.now) c.args.root ps c.new-marked.result.items
          c.as_mut_slice.result.now c.as_slice-3.result.now
          c.new-marked.ensures.items c.in_ok-packages.ensures.packages
          (c.as_mut_slice.ensures.value ∙ c.in_ok-packages.ensures.marked) given;
    }

pub returns-clause-here : goal.returns-clause-here
returns-clause-here c =
    let ps = numbers_views c.in_ok-packages.packages.items in
    let given : c.as_slice-3.result.now ≡ all_rules c.args.root ps
    = c.as_slice-3.ensures.value ∙ c.in_ok-rules.ensures
    ∙ ap (λ xs. all_rules c.args.root (numbers_views xs)) c.as_slice.ensures.value in
    here_made (node_views c.args.nodes.now) c.args.root ps (numbers_views c.as_slice-2.result.now)
    c.new-marked.result.items c.as_mut_slice.result.now c.as_slice-3.result.now
    c.facts_by.result c.new-marked.ensures.items c.in_ok-packages.ensures.packages
    (c.as_mut_slice.ensures.value ∙ c.in_ok-packages.ensures.marked) given c.requires.graph
    (ap numbers_views c.as_slice-2.ensures.value) c.facts_by.ensures

pub returns-clause-enabled : goal.returns-clause-enabled
returns-clause-enabled c =
    let ps = numbers_views c.in_ok-packages.packages.items in
    let given : c.as_slice-3.result.now ≡ all_rules c.args.root ps
    = c.as_slice-3.ensures.value ∙ c.in_ok-rules.ensures
    ∙ ap (λ xs. all_rules c.args.root (numbers_views xs)) c.as_slice.ensures.value in
    enabled_made (node_views c.args.nodes.now) c.args.root ps (numbers_views c.as_slice-2.result.now)
    c.new-marked.result.items c.as_mut_slice.result.now c.as_slice-3.result.now
    c.facts_by.result c.new-marked.ensures.items c.in_ok-packages.ensures.packages
    (c.as_mut_slice.ensures.value ∙ c.in_ok-packages.ensures.marked) given c.requires.graph
    (ap numbers_views c.as_slice-2.ensures.value) c.facts_by.ensures

pub returns-clause-lacks : goal.returns-clause-lacks
returns-clause-lacks c =
    let ps = numbers_views c.in_ok-packages.packages.items in
    let given : c.as_slice-3.result.now ≡ all_rules c.args.root ps
    = c.as_slice-3.ensures.value ∙ c.in_ok-rules.ensures
    ∙ ap (λ xs. all_rules c.args.root (numbers_views xs)) c.as_slice.ensures.value in
    lacks_made (node_views c.args.nodes.now) c.args.root ps (numbers_views c.as_slice-2.result.now)
    c.new-marked.result.items c.as_mut_slice.result.now c.as_slice-3.result.now
    c.facts_by.result c.new-marked.ensures.items c.in_ok-packages.ensures.packages
    (c.as_mut_slice.ensures.value ∙ c.in_ok-packages.ensures.marked) given c.requires.graph
    (ap numbers_views c.as_slice-2.ensures.value) c.facts_by.ensures
