-- Packages with their lists, one by one.
use Rattle.std.proofs.Common.{◌≡◌, ℕ, List, [], ◌∷◌, map, Vec, refl, ap}
use Rattle.std.specs.List.{zip}
use Rattle.std.specs.declared.alloc.Global.{Global}
use Rattle.lockfile.specs.Locks.{linked}
use Rattle.lockfile.specs.inner.Views.{unlinked_view, unlinked_views, list_views}
use Rattle.lockfile.specs.declared.packages.UnlinkedPackage.{UnlinkedPackage}

pub linked-zip : (ps : List UnlinkedPackage) (lists : List (Vec ℕ Global))
    → map (λ (p : UnlinkedPackage × Vec ℕ Global). linked (unlinked_view p.0, p.1.items)) (zip ps lists)
    ≡ map linked (zip (unlinked_views ps) (list_views lists))
linked-zip [] lists = refl
linked-zip (p ∷ ps) [] = refl
linked-zip (p ∷ ps) (l ∷ lists) = ap (λ rest. linked (unlinked_view p, l.items) ∷ rest) (linked-zip ps lists)
