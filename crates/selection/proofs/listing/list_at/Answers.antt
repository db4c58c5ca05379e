use Rattle.std.proofs.Common.{◌↔◌, ℕ, Contains, IfOk, map, subst}
use Rattle.selection.specs.inner.Contents.{IsListed, flags_at}
use Rattle.selection.proofs.listing.list_at.Goals as goal

pub returns-clause-members : goal.returns-clause-members
returns-clause-members c =
    subst (λ ts. IfOk c.list_of.result (λ v. (r : ℕ) → Contains v.items r ↔ IsListed ts
    (flags_at (map (λ v. v.items) c.args.enabled.now) c.args.place) c.args.ranks.now r)) c.targets_at.ensures
    (subst (λ bs. IfOk c.list_of.result (λ v. (r : ℕ) → Contains v.items r
    ↔ IsListed c.targets_at.result.now bs c.args.ranks.now r)) c.flags.ensures c.list_of.ensures.members)
