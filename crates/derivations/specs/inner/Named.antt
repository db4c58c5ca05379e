-- Terms at vertices that are spelt once (this project's).
use Rattle.std.specs.Prelude.{List, map}
use Rattle.std.specs.Borrow.{Bor}
use Rattle.model.specs.Axioms.{Term, at}
use Rattle.model.specs.Derivation.{Step}
use Rattle.model.specs.Vertices.{Vertex}
use Rattle.vertices.specs.inner.RefViews.{state_ref_views}
use Rattle.vertices.specs.declared.state.StateRef.{StateRef}
use Rattle.derivations.specs.inner.Origins.{step_from}
use Rattle.derivations.specs.declared.named.NamedTerm.{NamedTerm}
use Rattle.derivations.specs.declared.named.SetInOrder.{SetInOrder}
use Rattle.derivations.specs.declared.named.StatesInOrder.{StatesInOrder}
use Rattle.derivations.specs.declared.named.StatesInOrder.TheVariants.{Given, Sorted}
use Rattle.derivations.specs.declared.step.Origin.{Origin}

abbrev pub named_view : NamedTerm → Term
named_view t = at t.vertex.now (state_ref_views t.states.now)

abbrev pub named_views : List NamedTerm → List Term
named_views ts = map named_view ts

abbrev pub states_in_order : StatesInOrder → List StateRef
states_in_order (Given states) = states.now
states_in_order (Sorted states) = states.items

abbrev pub set_in_order_view : SetInOrder → Term
set_in_order_view t = at t.vertex.now (state_ref_views (states_in_order t.states))

abbrev pub set_in_order_views : List SetInOrder → List Term
set_in_order_views ts = map set_in_order_view ts

abbrev pub named_step_from : Origin (Bor Vertex) → List Term → Step
named_step_from = step_from (λ v. v.now)
