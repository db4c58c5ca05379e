use Rattle.std.proofs.Common.{arith, subst, sym}
use Rattle.std.proofs.lemmas.List.{length-map}
use Rattle.lockfile.specs.inner.Views.{package_view}
use Rattle.selection.specs.inner.Places.{content_in}
use Rattle.flaws.specs.inner.Flaws.{AreToldBelow}
use Rattle.flaws.proofs.Telling.{none_told, one_more, all_told}
use Rattle.flaws.proofs.judging.flawed_in.Goals as goal

pub places-init : goal.places-init
places-init c =
    λ m found. subst (λ xs. AreToldBelow m c.args.catalogue.now (content_in c.args.findings.now) 0 xs)
    (sym c.new-found.ensures.items) (none_told m c.args.catalogue.now (content_in c.args.findings.now))

pub places-preserved : goal.places-preserved
places-preserved c =
    λ m found. one_more m c.args.catalogue.now (content_in c.args.findings.now) c.places.at c.places.found.items
    c.in_ok-flawed.flawed (c.places.invariant m found)
    (c.in_ok-flawed.ensures.flaws m found) c.in_ok-flawed.ensures.place c.push_if_flawed.new.found.items
    c.in_ok-push_if_flawed.ensures

pub returns : goal.returns
returns c =
    λ m found. all_told m c.args.catalogue.now (content_in c.args.findings.now) c.places.at c.places.found.items
    (omega (arith, length-map c.args.findings.now.content.now package_view, c.places-test.false))
    (c.places.invariant m found)
