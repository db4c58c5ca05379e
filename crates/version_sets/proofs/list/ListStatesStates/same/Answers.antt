use Rattle.std.proofs.Common.{◌∙◌, sym}
use Rattle.version_sets.proofs.Listing.{same_from_list, same_list}
use Rattle.version_sets.proofs.list.ListStatesStates.same.Goals as goal

pub returns : goal.returns
returns c = (
  (λ t. same_from_list c.self.inside.universe c.other.inside.universe c.self.inside.members.items
      c.other.inside.members.items c.args.self.now c.args.other.now c.self.view_is c.other.view_is c.requires
      (sym c.deref.ensures.value ∙ c.same_members.ensures.0 t ∙ c.deref-2.ensures.value)),
  (λ e. c.same_members.ensures.1
      (c.deref.ensures.value ∙ same_list c.self.inside.universe c.other.inside.universe c.self.inside.members.items
      c.other.inside.members.items c.self.invariant c.other.invariant (c.self.view_is ∙ e ∙ sym c.other.view_is)
      ∙ sym c.deref-2.ensures.value)),
)
