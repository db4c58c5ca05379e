use Rattle.std.proofs.Common.{length}
use Rattle.guiding.proofs.leads.Leads.next.Given as goal

abbrev pub decreases-vertices : goal.decreases-vertices
decreases-vertices g l = length l.self.vertices.items
