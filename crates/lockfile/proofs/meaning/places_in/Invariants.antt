use Rattle.std.proofs.Common.{◌≡◌, drop}
use Rattle.lockfile.specs.Locks.{places_meant, locked_packages}
use Rattle.features.specs.Views.{text_views}
use Rattle.lockfile.specs.inner.Views.{unlinked_views}
use Rattle.model.proofs.Fronts.{with_front}
use Rattle.lockfile.proofs.meaning.places_in.Given as goal

-- the places so far and those of what is left are those of all
abbrev pub invariant-texts : goal.invariant-texts
invariant-texts l =
    with_front l.found.items
    (places_meant (locked_packages (unlinked_views l.packages)) (text_views (drop l.text-index l.texts)))
    ≡ places_meant (locked_packages (unlinked_views l.packages)) (text_views l.texts)
