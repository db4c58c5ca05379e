use Rattle.std.proofs.Common.{◌∙◌, sym, ap, subst}
use Rattle.lockfile.specs.inner.Views.{package_views}
use Rattle.catalogue.specs.Problems.{problem_in}
use Rattle.facts.specs.inner.Graphs.{node_views, IsGraph}
use Rattle.selection.specs.inner.Graphs.{HasNoRoot}
use Rattle.selection.specs.declared.findings.Findings.{Findings}
use Rattle.selection.proofs.Holding.{graph_within}
use Rattle.selection.proofs.Composing.{findings_are}
use Rattle.selection.proofs.findings.findings_of.Goals as goal

pub returns-in_default : goal.returns-in_default
returns-in_default c = (
  c.packages-content.ensures.content,
  subst (λ content. HasNoRoot (problem_in c.args.manifest.now c.args.catalogue.now) content)
      c.packages-content.ensures.views (c.in_default.ensures c.args.catalogue.now),
)

pub facts_of-requires : goal.facts_of-requires
facts_of-requires c = record {
  graph =
      subst IsGraph (sym (ap node_views c.deref.ensures.value ∙ c.in_ok-nodes.ensures.graph))
      (graph_within (problem_in c.args.manifest.now c.args.catalogue.now)
      (package_views c.packages-content.result.now));
}

pub returns : goal.returns
returns c =
    let f : Findings = record {
      content = c.packages-content.result;
      root = c.in-Some.root;
      nodes =
          c.in_ok-nodes.nodes;
      facts = c.in_ok-facts.facts;
      reached = c.in_ok-reached.reached;
    } in
    let only = c.in-Some.ensures.1 c.args.catalogue.now in (
      c.packages-content.ensures.content,
      c.packages-content.ensures.views,
      findings_are c.args.manifest.now c.args.catalogue.now f c.deref.result.now c.deref.ensures.value only
          c.in_ok-nodes.ensures.graph c.in_ok-nodes.ensures.known c.in_ok-facts.ensures.enabled
          c.in_ok-facts.ensures.lacks
          (c.in_ok-reached.ensures (problem_in c.args.manifest.now c.args.catalogue.now) only),
    )
