-- The order of a list is total.
use Rattle.std.specs.Cmp.{IsTotalOrder}
use Rattle.std.specs.Cmp.Lexicographic.{options_total}
use Rattle.std.proofs.lemmas.Cmp.{nat_list_cmp_total, on_total, then_total}
use Rattle.lockfile.specs.inner.Written.{Written, written_cmp}

pub written_total : IsTotalOrder written_cmp
written_total = then_total (on_total (λ (w : Written). w.locked.name) nat_list_cmp_total)
    (then_total (on_total (λ (w : Written). w.version) nat_list_cmp_total)
    (on_total (λ (w : Written). w.locked.source) (options_total nat_list_cmp_total)))
