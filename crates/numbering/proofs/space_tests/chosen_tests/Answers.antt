use Rattle.std.proofs.Common.{ap, cond, length, ◌+◌, ◌∙◌}
use Rattle.semver.specs.Identifiers.{parts_of}
use Rattle.version_sets.specs.Sets.{none, only}
use Rattle.numbering.proofs.Alone.{chosen_alone_is}
use Rattle.numbering.proofs.space_tests.chosen_tests.Goals as goal

pub returns : goal.returns
returns c =
    let n = length c.args.versions.now in
    let p = c.older_versions-place.result in
    c.alone.ensures ∙ ap (λ b. cond b (only (n + 1) (p + 1)) (none (n + 1))) c.is_chosen_at.ensures
    ∙ chosen_alone_is (parts_of c.args.chosen.now) c.args.versions.now p c.requires
    c.older_versions-place.ensures.place
