use Rattle.std.proofs.Common.{◌≡◌, ◌∙◌, ◌∷◌, ◌++◌, [], List, map, filter, sym, ap, rules}
use Rattle.std.proofs.lemmas.List.{map-append}
use Rattle.semver.specs.Identifiers.{parts_of}
use Rattle.semver.specs.Parse.{Parts}
use Rattle.features.specs.Views.{requirement_view}
use Rattle.model.specs.Vertices.{absent, version}
use Rattle.lookups.specs.inner.Matching.{is_left}
use Rattle.vertices.specs.inner.RefViews.{state_ref_views}
use Rattle.axioms.proofs.instances.unmatched.left_states.Goals as goal

pub returns : goal.returns
returns c =
    let left = is_left (requirement_view c.args.requirement.now) in
    let first : List Parts = filter left (map parts_of c.unmatched_ends.result.0.now) in
    let last : List Parts = filter left (map parts_of c.unmatched_ends.result.1.now) in
    let begun : state_ref_views c.push.new.self.items ≡ absent ∷ [] = search rules in
    c.in_ok-push_left-2.ensures
    ∙ ap (λ ss. ss ++ map version last) (c.in_ok-push_left.ensures ∙ ap (λ ss. ss ++ map version first) begun)
    ∙ ap (λ ss. absent ∷ ss) (sym (map-append version first last) ∙ ap (map version) c.unmatched_ends.ensures)
