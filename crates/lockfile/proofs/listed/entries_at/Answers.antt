use Rattle.std.proofs.Common.{◌≡◌, ◌++◌, ◌∷◌, []}
use Rattle.std.proofs.lemmas.List.{map-append}
use Rattle.lockfile.specs.inner.Written.{entry_views, listed_view, listed_views}
use Rattle.lockfile.proofs.Writing.{place-there, place-none}
use Rattle.lockfile.proofs.listed.entries_at.Goals.{in-Some+in_ok-push, in_default}
use Rattle.lockfile.proofs.listed.entries_at.Goals as goal

pub places-preserved : goal.places-preserved
places-preserved c =
    let place = c.listed_at.ensures in
    elim c.match-listed_at.branch [
      | in-Some+in_ok-push w ↦
          let items : c.match-listed_at.found.items ≡ c.places.found.items ++ w.in-Some.other ∷ [] =
          rw w.found-is w.in_ok-push.ensures.items in
          rw (items, map-append) (place-there (listed_views c.places.found.items)
          (entry_views c.args.entries.now) c.args.places.now c.places.place-index
          (listed_view w.in-Some.other) c.places-test.true (rw w.in-Some.is at place) c.places.invariant)
      | in_default w ↦ rw w.found-is (place-none (listed_views c.places.found.items) (entry_views c.args.entries.now)
          c.args.places.now c.places.place-index c.places-test.true (rw w.in_default.is at place) c.places.invariant)
    ]
