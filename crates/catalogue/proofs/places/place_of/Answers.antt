use Rattle.std.proofs.Common.{◌∙◌, sym, rules}
use Rattle.std.proofs.lemmas.Fn.{always_returns_same}
use Rattle.semver.specs.Eval.{precedence_cmp}
use Rattle.catalogue.proofs.Found.{search_ends, search_differs, search_finds}
use Rattle.catalogue.proofs.places.place_of.Goals as goal

pub returns-then-same_version : goal.returns-then-same_version
returns-then-same_version c =
    search_finds c.args.versions.now c.args.version.now c.index-versions-place.result c.in-Ok.place
    (rw c.in-Ok.is at c.binary_search_by.ensures.bound) (sym c.index-versions-place.is)
    (sym c.same_version.ensures ∙ c.if-same_version.true)

pub returns-else-same_version : goal.returns-else-same_version
returns-else-same_version c =
    let searched = c.binary_search_by.ensures.position
    (λ v. precedence_cmp v c.args.version.now) (always_returns_same _ _ _ (λ a r g called. search rules)) in
    search_differs c.args.versions.now c.args.version.now c.in-Ok.place c.requires
    (rw c.in-Ok.is at c.binary_search_by.ensures.bound) (rw c.in-Ok.is at searched) c.index-versions-place.result
    (sym c.index-versions-place.is) (sym c.same_version.ensures ∙ c.if-same_version.false)

pub returns-in-Err : goal.returns-in-Err
returns-in-Err c =
    let searched = c.binary_search_by.ensures.position
    (λ v. precedence_cmp v c.args.version.now) (always_returns_same _ _ _ (λ a r g called. search rules)) in
    search_ends c.args.versions.now c.args.version.now _ c.requires (rw c.in-Err.is at searched)
