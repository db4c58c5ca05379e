use Rattle.std.proofs.Common.{◌≡◌, ◌∷◌, ◌+◌, [], length, take, sym, ap, ◌∙◌, subst, subst₂}
use Rattle.std.proofs.lemmas.List.{length-append, map-append}
use Rattle.facts.specs.inner.Graphs.{node_view, node_views}
use Rattle.facts.specs.inner.FactNumbers.{flags_of, flags_of_all, numbers_view, numbers_views, AreNumberedFrom}
use Rattle.facts.specs.inner.FactNumbers.{IsNumberedFrom}
use Rattle.facts.proofs.LoopLemmas.{views_more, loop_more}
use Rattle.facts.proofs.NumbersLemmas.{numbers_more}
use Rattle.facts.proofs.numbering.numbers_of_all.Goals as goal

pub nodes-preserved : goal.nodes-preserved
nodes-preserved c =
    let old = c.args.marked.now.items in
    let nodes = c.args.nodes.now in
    let i = c.nodes.node-index in
    let node = c.node-item.result in
    let numbers = c.in_ok-numbers_of.field-0 in
    let long : length c.nodes.marked.items ≡ length old + length (flags_of_all (node_views (take i nodes)))
    = ap length c.nodes.invariant.marked ∙ length-append old (flags_of_all (node_views (take i nodes))) in
    let more = numbers_more (length old) (node_views (take i nodes)) (numbers_views c.nodes.packages.items)
    (node_view node) (numbers_view numbers) c.nodes.invariant.packages
    (subst (λ n. IsNumberedFrom n (node_view node) (numbers_view numbers)) long c.in_ok-numbers_of.ensures.numbers) in
    record {
      marked = loop_more node_view flags_of old c.nodes.marked.items c.numbers_of.new.marked.items nodes i node
          c.nodes-test.true c.node-item.is
          c.nodes.invariant.marked c.in_ok-numbers_of.ensures.marked;
      packages = subst₂ (λ xs ps. AreNumberedFrom (length old) xs ps)
          (sym (views_more node_view nodes i node c.nodes-test.true c.node-item.is))
          (sym (ap numbers_views c.in_ok-push.ensures.items
          ∙ map-append numbers_view c.nodes.packages.items (numbers ∷ []))) more;
    }
