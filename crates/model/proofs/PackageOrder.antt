-- Package order is a total order.
use Rattle.std.proofs.Common.{◌≡◌, ℕ, List, Option, Some, None, refl}
use Rattle.std.specs.Cmp.{IsTotalOrder}
use Rattle.std.specs.Ordering.{ordering_reverse}
use Rattle.std.specs.declared.cmp.Ordering.TheVariants.{Less, Equal}
use Rattle.std.proofs.lemmas.Cmp.{nat_list_cmp_total, on_total, then_total}
use Rattle.semver.specs.Identifiers.{parts_text}
use Rattle.model.specs.Content.{Package}
use Rattle.model.specs.Order.{version_cmp, source_cmp, package_cmp}
use Rattle.model.proofs.Candidates.{precedence_total}

-- a source, where there is one, comes before none
source_flips : (a b : Option (List ℕ)) → source_cmp a b ≡ ordering_reverse (source_cmp b a)
source_flips None None = refl
source_flips None (Some b) = refl
source_flips (Some a) None = refl
source_flips (Some a) (Some b) = nat_list_cmp_total.antisymm a b

source_trans : (a b c : Option (List ℕ)) → source_cmp a b ≡ Less → source_cmp b c ≡ Less → source_cmp a c ≡ Less
source_trans None None c h k = cc
source_trans None (Some b) c h k = cc
source_trans (Some a) None None h k = cc
source_trans (Some a) None (Some c) h k = cc
source_trans (Some a) (Some b) None h k = refl
source_trans (Some a) (Some b) (Some c) h k = nat_list_cmp_total.trans a b c h k

source_congr : (a b c : Option (List ℕ)) → source_cmp a b ≡ Equal → source_cmp a c ≡ source_cmp b c
source_congr None None c h = refl
source_congr None (Some b) c h = cc
source_congr (Some a) None c h = cc
source_congr (Some a) (Some b) None h = refl
source_congr (Some a) (Some b) (Some c) h = nat_list_cmp_total.congr a b c h

pub source_total : IsTotalOrder source_cmp
source_total = record { antisymm = source_flips; trans = source_trans; congr = source_congr }

pub version_total : IsTotalOrder version_cmp
version_total = then_total precedence_total (on_total parts_text nat_list_cmp_total)

pub package_total : IsTotalOrder package_cmp
package_total = then_total (on_total (λ (p : Package). p.name) nat_list_cmp_total)
    (then_total (on_total (λ (p : Package). p.version) version_total)
    (on_total (λ (p : Package). p.source) source_total))
