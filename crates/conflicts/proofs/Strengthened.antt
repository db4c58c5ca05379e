-- What is combined with what is known of level 0.
use Rattle.std.proofs.Common.{◌≡◌, ℕ, ◌<◌, List, length}
use Rattle.std.proofs.Common.{sym, subst, arith}
use Rattle.terms.specs.Terms.{TermView}
use Rattle.version_sets.specs.Sets.{Members}
use Rattle.incompatibilities.specs.inner.Chains.{ChainView}
use Rattle.incompatibilities.specs.Incompatibilities.{Fit, LiesIn, states_at}
use Rattle.incompatibilities.specs.Stores.{EntryView, entry}
use Rattle.incompatibilities.proofs.Broken.{lies_fit}
use Rattle.propagation.specs.Promises.{IsSatisfied, IsSound, IsTrail}
use Rattle.propagation.specs.Satisfaction.{Sat}
use Rattle.propagation.specs.Trails.{TrailView, space_of}
use Rattle.propagation.specs.declared.satisfying.Satisfier.{Satisfier}
use Rattle.propagation.proofs.Back.{sets_now}
use Rattle.propagation.proofs.Places.{end_is_place, kept, kept_le, sat_later}
use Rattle.conflicts.specs.Resolving.{IsHeld, IsLone, LieSomewhere}
use Rattle.conflicts.proofs.Steps.{before_level}

pub held_somewhere : (es : List EntryView) (t : TrailView) (ts : List TermView) (chain : ChainView) → IsTrail es t
    → IsHeld es t ts chain → LieSomewhere es ts
held_somewhere es t ts chain trail held = (space_of t, trail.lies, held.lies)

pub held_fits : (es : List EntryView) (t : TrailView) (ts us : List TermView) (chain : ChainView) (unit : ℕ)
    → IsTrail es t → IsHeld es t ts chain → unit < length es → us ≡ (entry es unit).terms
    → Fit (states_at ts) (states_at us)
held_fits es t ts us chain unit trail held within same = lies_fit (space_of t) (states_at ts) (states_at us) held.lies
    (subst (λ (xs : List TermView). LiesIn (space_of t) (states_at xs)) (sym same) (trail.lies unit within))

-- what is not satisfied now was at no level's end
pub lone_unless : (t : TrailView) (ts : List TermView) → IsSound t → (Sat t.sets (states_at ts) → ⊥) → IsLone t ts
lone_unless t ts sound not l lt sat = not (subst (λ (ss : List Members). Sat ss (states_at ts)) (sets_now t)
    (sat_later t sound (states_at ts) (kept l t.steps) (length t.steps) (kept_le l t.steps) (omega arith)
    (subst (λ (ss : List Members). Sat ss (states_at ts)) (end_is_place t l) sat)))

-- nor is what the trail's own level satisfied
pub lone_top : (t : TrailView) (ts : List TermView) (s : Satisfier) → IsSatisfied t (states_at ts) s
    → s.level ≡ t.level → IsLone t ts
lone_top t ts s found top l lt now = before_level t ts s found l (omega (arith, lt, top)) now
