-- In package order names rise: how they stand beside one name rises with them.
use Rattle.std.proofs.Common.{◌≡◌, ◌≤◌, List, ℕ, arith}
use Rattle.std.specs.Ordering.{ordering_index, ordering_then}
use Rattle.std.specs.declared.cmp.Ordering.TheVariants.{Less, Equal}
use Rattle.std.proofs.lemmas.Cmp.{nat_list_cmp_total}
use Rattle.lockfile.proofs.Ranges.{rises-then}
use Rattle.model.specs.Content.{Package}
use Rattle.model.specs.Order.{package_cmp, source_cmp, text_cmp, version_cmp}
use Rattle.model.proofs.Tests.{then-equal}

-- packages in order have rising names
pub names_rise : (name : List ℕ) (p r : Package) → package_cmp p r ≡ Less
    → ordering_index (text_cmp p.name name) ≤ ordering_index (text_cmp r.name name)
names_rise name p r e =
    let rises = rises-then nat_list_cmp_total p.name r.name name (ordering_then (version_cmp p.version r.version)
    (source_cmp p.source r.source)) Equal Equal (λ h. omega arith) e in
    rw (then-equal (text_cmp p.name name), then-equal (text_cmp r.name name)) at rises
