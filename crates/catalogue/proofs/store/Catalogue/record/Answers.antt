use Rattle.std.proofs.Common.{◌≡◌, ◌∙◌, ◌<◌, sym, ap, subst, slice_get, Some, map, length, option_map}
use Rattle.std.proofs.lemmas.Option.{slice_get-get_or, slice_get-map}
use Rattle.std.proofs.lemmas.List.{length-map}
use Rattle.catalogue.specs.Stores.{candidates_at, said, said_by}
use Rattle.catalogue.proofs.store.Catalogue.record.Goals as goal

pub returns : goal.returns
returns c =
    let rs = candidates_at c.args.self.now c.args.name.now in
    let cs = c.candidates.result.now in
    let same : length cs ≡ length rs =
    sym (length-map cs said_by) ∙ ap length c.candidates.ensures ∙ length-map rs said in
    let within : c.args.place < length cs = subst (λ n. c.args.place < n) (sym same) c.requires in
    sym (slice_get-map said rs c.args.place) ∙ ap (λ xs. slice_get xs c.args.place) (sym c.candidates.ensures)
    ∙ slice_get-map said_by cs c.args.place ∙ ap (option_map said_by) (slice_get-get_or cs c.args.place _ within)
    ∙ ap (λ x. Some (said_by x)) (sym c.index-candidates-place.is)
