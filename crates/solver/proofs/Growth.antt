-- What stays as more vertices get numbers.
use Rattle.std.proofs.Common.{◌≡◌, ℕ, List}
use Rattle.std.proofs.Common.{Option, Some, None, slice_get, refl}
use Rattle.std.proofs.Common.{sym, ◌∙◌}
use Rattle.std.proofs.lemmas.Option.{none-some}
use Rattle.version_sets.specs.Sets.{Members}
use Rattle.terms.specs.Terms.{TermView}
use Rattle.incompatibilities.specs.Incompatibilities.{states_at}
use Rattle.model.specs.Content.{Problem}
use Rattle.model.specs.Vertices.{Vertex}
use Rattle.numbering.specs.Numberings.{Numbering}
use Rattle.solver.specs.inner.Decoding.{IsOver}
use Rattle.solver.proofs.Decoded.{none_at}

pub has_vertex : (q : Problem) (vs : Numbering) (made : List TermView) (n : ℕ) (m : Members) → IsOver q vs made
    → states_at made n ≡ Some m → (v : Vertex) × (slice_get vs n ≡ Some v)
has_vertex q vs made n m over e = by (slice_get vs n) refl
  where
    by : (o : Option Vertex) → slice_get vs n ≡ o → (v : Vertex) × (slice_get vs n ≡ Some v)
    by (Some v) f = (v, f)
    by None f = absurd (none-some m (sym (none_at q vs made over n f) ∙ e))
