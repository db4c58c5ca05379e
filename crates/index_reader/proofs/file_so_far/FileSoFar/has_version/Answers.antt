use Rattle.std.proofs.Common.{◌≡◌, ap, ◌∙◌}
use Rattle.semver.specs.Identifiers.{parts_of}
use Rattle.index_reader.specs.inner.BareVersions.{bare, has_equal}
use Rattle.index_reader.proofs.KeptLemmas.{found-bare}
use Rattle.index_reader.proofs.file_so_far.FileSoFar.has_version.Goals as goal

pub returns : goal.returns
returns c =
    let self = c.args.self.now in
    let same : parts_of c.in_ok-version.version ≡ bare (parts_of c.args.version.now) = c.in_ok-version.ensures in
    c.contains.ensures ∙ found-bare c.in_ok-version.version self.kept.keys (ap (λ p. p.4) same) self.without_build
    ∙ ap (has_equal self.kept.keys) same ∙ self.agrees (parts_of c.args.version.now)
