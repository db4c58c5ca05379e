-- The written order of terms is total.
use Rattle.std.specs.Cmp.{IsTotalOrder}
use Rattle.std.proofs.lemmas.Cmp.{nat_list_cmp_total, on_total}
use Rattle.derivations.specs.Steps.{Written, written_cmp}

pub written_total : IsTotalOrder written_cmp
written_total = on_total (λ (t : Written). t.0) nat_list_cmp_total
