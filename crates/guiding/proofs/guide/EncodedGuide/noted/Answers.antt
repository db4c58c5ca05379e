use Rattle.std.proofs.Common.{ap, subst}
use Rattle.guiding.specs.inner.Guides.{EncodedView, Follows, late_with, left_with}
use Rattle.guiding.proofs.guide.EncodedGuide.noted.Goals as goal

pub returns-then-places-self-clause-late : goal.returns-then-places-self-clause-late
returns-then-places-self-clause-late g c = ap late_with c.self.view_is

pub returns-then-places-self-clause-left : goal.returns-then-places-self-clause-left
returns-then-places-self-clause-left g c = ap left_with c.self.view_is

pub returns-else-places-self-clause-late : goal.returns-else-places-self-clause-late
returns-else-places-self-clause-late g c = ap late_with c.self.view_is

pub returns-else-places-self-clause-left : goal.returns-else-places-self-clause-left
returns-else-places-self-clause-left g c = ap left_with c.self.view_is

pub returns-then-places-self-clause-follows : goal.returns-then-places-self-clause-follows
returns-then-places-self-clause-follows g c x f = subst (λ (o : EncodedView). Follows o x) c.self.view_is f

pub returns-else-places-self-clause-follows : goal.returns-else-places-self-clause-follows
returns-else-places-self-clause-follows g c x f = subst (λ (o : EncodedView). Follows o x) c.self.view_is f
