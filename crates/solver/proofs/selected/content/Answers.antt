use Rattle.std.proofs.Common.{IfOk, map, refl}
use Rattle.std.proofs.lemmas.Result.{IfOk-weaker}
use Rattle.facts.specs.inner.Graphs.{node_views}
use Rattle.propagation.specs.Trails.{trail_view}
use Rattle.model.specs.inner.Search.{LeadsTo}
use Rattle.facts.specs.inner.Built.{IsBuilt}
use Rattle.facts.specs.inner.Nodes.{AreFlags}
use Rattle.facts.proofs.Found.{stands}
use Rattle.numbering.specs.inner.KnownProblem.{problem}
use Rattle.selection.specs.inner.Contents.{owners_of}
use Rattle.solver.specs.inner.Leads.{ends}
use Rattle.solver.proofs.Assigned.{packages_assigned}
use Rattle.solver.proofs.Brought.{root_brings}
use Rattle.solver.proofs.selected.content.Given.{Over}
use Rattle.solver.proofs.selected.content.Goals as goal

pub meet-requires : goal.meet-requires
meet-requires g c = record { unbroken = c.requires.unbroken; whole = c.requires.whole }

pub facts_of-requires : goal.facts_of-requires
facts_of-requires g c =
    let i = c.args.known.now in
    record {
      graph = rw c.as_slice.ensures.value (c.packages_are_a_graph.ensures (problem i) (ends i c.args.table.now
          (trail_view g.S.States.tests c.args.trail.now)) _ _ refl c.in_ok-versions.ensures.met);
    }

-- which packages are here, and what each enables
flags_of : (g : Over) (c : goal.After-drop-versions-inside-5 g)
    → AreFlags (node_views c.in_ok-versions.field-0.nodes.items)
    c.in_ok-facts.facts.here.items (map (λ v. v.items) c.in_ok-facts.facts.enabled.items)
flags_of g c = record {
  each_here = rw c.as_slice.ensures.value at c.in_ok-facts.ensures.here;
  each_enabled =
      rw c.as_slice.ensures.value at c.in_ok-facts.ensures.enabled;
}

-- the content is built of these
built_of : (g : Over) (c : goal.After-drop-versions-inside-5 g) → IfOk c.content_of.result
    (λ x. IsBuilt (owners_of c.args.known.now.problem.catalogue.now c.in_ok-versions.field-0.versions.keys)
    (node_views c.in_ok-versions.field-0.nodes.items) (map (λ v. v.items) c.in_ok-facts.facts.enabled.items)
    (problem c.args.known.now) c.in_ok-facts.facts.here.items x)
built_of g c = rw (c.as_slice-2.ensures.keys, c.as_slice-3.ensures.value) at c.content_of.ensures

pub returns-clause-selection : goal.returns-clause-selection
returns-clause-selection g c =
    let i = c.args.known.now in
    let st = ends i c.args.table.now (trail_view g.S.States.tests c.args.trail.now) in
    IfOk-weaker c.content_of.result _ _
    (λ x built. c.built_contents_select.ensures (problem i) st _ _ _ _ x c.catalogues_are_well_formed.ensures
    refl c.requires.unbroken c.in_ok-versions.ensures.met (flags_of g c) built) (built_of g c)

pub returns-clause-root : goal.returns-clause-root
returns-clause-root g c =
    IfOk-weaker c.content_of.result _ _
    (λ x built. c.built_roots_have_no_checksum.ensures (problem c.args.known.now) _ _ _ _ x built) (built_of g c)

pub returns-clause-brought : goal.returns-clause-brought
returns-clause-brought g c =
    let i = c.args.known.now in
    let q = problem i in
    let st = ends i c.args.table.now (trail_view g.S.States.tests c.args.trail.now) in
    IfOk-weaker c.content_of.result _ _
    (λ x built. root_brings q st c.requires.unbroken c.catalogues_are_well_formed.ensures x
    (stands q (LeadsTo q st) _ _ c.in_ok-versions.ensures.met refl _ _ (flags_of g c) x built)) (built_of g c)

pub returns-clause-assigned : goal.returns-clause-assigned
returns-clause-assigned g c =
    let i = c.args.known.now in
    let q = problem i in
    let vs = c.args.table.now in
    let t = trail_view g.S.States.tests c.args.trail.now in
    IfOk-weaker c.content_of.result _ _
    (λ x built. packages_assigned q vs t c.requires.sound c.catalogues_are_well_formed.ensures c.requires.unbroken x
    (stands q (LeadsTo q (ends i vs t)) _ _ c.in_ok-versions.ensures.met refl _ _ (flags_of g c) x built))
    (built_of g c)
