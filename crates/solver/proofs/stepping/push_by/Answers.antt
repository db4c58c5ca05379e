use Rattle.std.proofs.Common.{length, Some, sym, ap, ◌∙◌, subst}
use Rattle.std.proofs.lemmas.Result.{on_ok_weaker}
use Rattle.model.specs.Derivation.{combine, given}
use Rattle.model.proofs.Members.{element}
use Rattle.vertices.specs.Texts.{kind_view, IsReadVertex}
use Rattle.derivations.specs.inner.Building.{ordered_terms}
use Rattle.derivations.specs.inner.Named.{named_views}
use Rattle.solver.specs.Refusing.{AreThere, IsNamed}
use Rattle.solver.proofs.SteppedRows.{by_axiom, by_parts}
use Rattle.solver.proofs.stepping.push_by.Goals as goal

pub returns-in-Axiom : goal.returns-in-Axiom
returns-in-Axiom c =
    let ts = ordered_terms (named_views c.args.terms.now) in
    on_ok_weaker c.push_named_axiom.result
    (λ e. (
      given (kind_view c.numbered.result) ts,
      e,
      by_axiom c.args.table.now c.args.source ts c.in-Axiom.number (kind_view c.numbered.result) c.in-Axiom.is
          c.numbered.ensures,
    ))
    c.push_named_axiom.ensures.ok

pub space-space-requires : goal.space-space-requires
space-space-requires c =
    let there = subst (AreThere c.args.table.now (length c.args.steps.now)) c.in-Combined.is c.requires.there in
    subst (IsNamed c.args.table.now c.args.spaces.now) c.in-Combined.is c.requires.named there.2 there.3

pub push_named_combination-requires-clause-first : goal.push_named_combination-requires-clause-first
push_named_combination-requires-clause-first c =
    (subst (AreThere c.args.table.now (length c.args.steps.now)) c.in-Combined.is c.requires.there).0

pub push_named_combination-requires-clause-second : goal.push_named_combination-requires-clause-second
push_named_combination-requires-clause-second c =
    (subst (AreThere c.args.table.now (length c.args.steps.now)) c.in-Combined.is c.requires.there).1

pub push_named_combination-requires-clause-vertex : goal.push_named_combination-requires-clause-vertex
push_named_combination-requires-clause-vertex c =
    let there = subst (AreThere c.args.table.now (length c.args.steps.now)) c.in-Combined.is c.requires.there in
    let one = c.requires.spelt c.in-Combined.number c.space-space.result.now
    c.space-space.ensures there.2 there.3 in
    subst IsReadVertex (sym one)
    (element IsReadVertex c.args.table.now c.in-Combined.number there.2 c.requires.valid there.3)

pub returns-in-Combined : goal.returns-in-Combined
returns-in-Combined c =
    let ts = ordered_terms (named_views c.args.terms.now) in
    let v = c.space-space.result.now.spelling in
    let there = subst (AreThere c.args.table.now (length c.args.steps.now)) c.in-Combined.is c.requires.there in
    let one = c.requires.spelt c.in-Combined.number c.space-space.result.now
    c.space-space.ensures there.2 there.3 in
    on_ok_weaker c.push_named_combination.result
    (λ e. (
      combine c.in-Combined.first c.in-Combined.second v ts,
      e,
      by_parts c.args.table.now c.args.source ts c.in-Combined.first c.in-Combined.second c.in-Combined.number
          v c.in-Combined.is (there.3 ∙ ap Some (sym one)),
    ))
    c.push_named_combination.ensures.ok
