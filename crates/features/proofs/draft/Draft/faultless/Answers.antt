use Rattle.std.proofs.Common.{refl, sym, ◌∙◌}
use Rattle.features.specs.inner.DraftViews.{names_in, written_in}
use Rattle.features.proofs.DraftLemmas.{faultless-well}
use Rattle.features.proofs.draft.Draft.faultless.Goals as goal

pub returns-then-all_well : goal.returns-then-all_well
returns-then-all_well c =
    faultless-well (names_in c.args.self.now) (written_in c.args.self.now) c.args.self.now.written.now refl
    (sym c.all_well.ensures ∙ c.if-all_well.true)
