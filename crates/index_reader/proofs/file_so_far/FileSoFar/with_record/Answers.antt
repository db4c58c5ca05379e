use Rattle.std.proofs.Common.{◌≡◌, [], map, true, false, refl, sym, ap, ◌∙◌}
use Rattle.std.proofs.lemmas.List.{map-append}
use Rattle.std.proofs.lemmas.Map.Views.{All-insert_key}
use Rattle.std.specs.BTreeMap.{is_at}
use Rattle.std.specs.List.{list_any}
use Rattle.semver.specs.Identifiers.{parts_of}
use Rattle.semver.specs.contracts.VersionOrd.TheImpl.{cmp-value}
use Rattle.index_reader.specs.Files.{has_version}
use Rattle.index_reader.specs.inner.BareVersions.{bare, has_equal}
use Rattle.index_lines.specs.Views.{record_view}
use Rattle.index_reader.proofs.KeptLemmas.{found-bare, agrees-more, from_not}
use Rattle.index_reader.proofs.file_so_far.FileSoFar.with_record.Goals as goal

pub returns-then-not-branch : goal.returns-then-not-branch
returns-then-not-branch c =
    let same : parts_of c.in_ok-version.version ≡ bare (parts_of c.args.found.version) = c.in_ok-version.ensures in
    let found : list_any (is_at ((cmp-value).it c.in_ok-version.version)) c.args.self.kept.keys ≡ true
    = from_not _ true (sym c.in_ok-insert.ensures.added ∙ c.if-not-branch.true) in
    let has : has_version (map record_view c.args.self.records.items) (parts_of c.args.found.version) ≡ true
    = sym (c.args.self.agrees (parts_of c.args.found.version)) ∙ sym (ap (has_equal c.args.self.kept.keys) same)
    ∙ sym (found-bare c.in_ok-version.version c.args.self.kept.keys (ap (λ p. p.4) same) c.args.self.without_build)
    ∙ found in
    rw has c.with_skip.ensures

pub invariant_of-self-2 : goal.invariant_of-self-2
invariant_of-self-2 c =
    let same : parts_of c.in_ok-version.version ≡ bare (parts_of c.args.found.version) = c.in_ok-version.ensures in
    let absent : list_any (is_at ((cmp-value).it c.in_ok-version.version)) c.args.self.kept.keys ≡ false
    = from_not _ false (sym c.in_ok-insert.ensures.added ∙ c.if-not-branch.false) in
    rw (c.in_ok-insert.ensures.keys, c.in_ok-push.ensures.items) record {
      without_build = All-insert_key (cmp-value).it c.in_ok-version.version
          (λ k. (parts_of k).4 ≡ []) c.args.self.kept.keys c.args.self.without_build (ap (λ p. p.4) same);
      agrees = agrees-more c.args.self.kept.keys c.args.self.records.items c.in_ok-version.version c.args.found
          c.args.self.agrees same absent;
    }

pub returns : goal.returns
returns c =
    let same : parts_of c.in_ok-version.version ≡ bare (parts_of c.args.found.version) = c.in_ok-version.ensures in
    let absent : list_any (is_at ((cmp-value).it c.in_ok-version.version)) c.args.self.kept.keys ≡ false
    = from_not _ false (sym c.in_ok-insert.ensures.added ∙ c.if-not-branch.false) in
    let none : has_version (map record_view c.args.self.records.items) (parts_of c.args.found.version) ≡ false
    = sym (c.args.self.agrees (parts_of c.args.found.version)) ∙ sym (ap (has_equal c.args.self.kept.keys) same)
    ∙ sym (found-bare c.in_ok-version.version c.args.self.kept.keys (ap (λ p. p.4) same) c.args.self.without_build)
    ∙ absent in
    rw (none, c.in_ok-push.ensures.items, map-append) refl
