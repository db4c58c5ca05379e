use Rattle.std.proofs.Common.{◌++◌, map, option_map, sym, ap, ◌∙◌, subst}
use Rattle.std.specs.List.{AllPairs}
use Rattle.std.proofs.lemmas.List.{length-map, map-append}
use Rattle.classes.specs.Classes.{rust_version_view}
use Rattle.model.specs.Candidates.{IsApart, is_locked}
use Rattle.index_reader.specs.Files.{skip_view, contents_view}
use Rattle.catalogue.specs.Loads.{packages_of_old, ranked_among}
use Rattle.catalogue.specs.Stores.{BringValid, KnowFeatures}
use Rattle.catalogue.proofs.FileFacts.{file_few, views-same, records-are, skips-are}
use Rattle.catalogue.proofs.LawsRecords.{records-sound, records-valid}
use Rattle.catalogue.proofs.loading.ask.Goals as goal

pub candidates_of-requires-clause-apart : goal.candidates_of-requires-clause-apart
candidates_of-requires-clause-apart g c =
    let read = c.in_ok-records.ensures in
    subst (AllPairs IsApart) (views-same c.in_ok-records.records.items) (file_few c.args.name.now read.answer
    (contents_view (c.in_ok-records.records, c.in_ok-records.skipped)) read.within read.says).0

pub candidates_of-requires-clause-known : goal.candidates_of-requires-clause-known
candidates_of-requires-clause-known g c =
    let read = c.in_ok-records.ensures in
    let name = c.args.name.now in
    subst KnowFeatures (records-are name read.answer (contents_view (c.in_ok-records.records, c.in_ok-records.skipped))
    read.says ∙ views-same c.in_ok-records.records.items) (records-sound (name, read.answer)).known

pub candidates_of-requires-clause-valid : goal.candidates_of-requires-clause-valid
candidates_of-requires-clause-valid g c =
    let read = c.in_ok-records.ensures in
    let name = c.args.name.now in
    subst BringValid (records-are name read.answer (contents_view (c.in_ok-records.records, c.in_ok-records.skipped))
    read.says ∙ views-same c.in_ok-records.records.items) (records-valid (name, read.answer) read.within)

pub candidates_of-requires-clause-few : goal.candidates_of-requires-clause-few
candidates_of-requires-clause-few g c =
    let read = c.in_ok-records.ensures in
    rw length-map at (file_few c.args.name.now read.answer
    (contents_view (c.in_ok-records.records, c.in_ok-records.skipped)) read.within read.says).1

pub returns : goal.returns
returns g c =
    let read = c.in_ok-records.ensures in
    let name = c.args.name.now in
    let file = contents_view (c.in_ok-records.records, c.in_ok-records.skipped) in
    record {
      answer = read.answer;
      call = read.call;
      within = read.within;
      ranked = c.in_ok-candidates_of.ensures
          ∙ ap (ranked_among (is_locked (packages_of_old c.args.run.now.old) c.args.run.now.source.now name)
          (option_map rust_version_view c.args.run.now.rust_version))
          (sym (records-are name read.answer file read.says ∙ views-same c.in_ok-records.records.items));
      added = ap (map skip_view) c.in_ok-append.ensures.items
          ∙ map-append skip_view c.args.skips.now.items c.in_ok-records.skipped.items
          ∙ ap (λ zs. map skip_view c.args.skips.now.items ++ zs) (sym (skips-are name read.answer file read.says));
    }
