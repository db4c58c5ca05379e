use Rattle.std.proofs.Common.{◌≡◌, sym, subst}
use Rattle.model.specs.Candidates.{is_locked}
use Rattle.catalogue.specs.Stores.{AreRanked, ranked_at}
use Rattle.selection.specs.Preferred.{preferred_by}
use Rattle.catalogue.specs.Problems.{preferred_in}
use Rattle.selection.proofs.Preferences.{rows_ranked, rows_prefer}
use Rattle.selection.proofs.laws.ranks_are_preferences.Goals as goal

pub returns-clause-ranked : goal.returns-clause-ranked
returns-clause-ranked c = λ old source rust root asked index is name. subst (λ i.
    AreRanked (is_locked old source name) rust (ranked_at i name)) (sym is) (rows_ranked old source rust asked name)

pub returns-clause-preferred : goal.returns-clause-preferred
returns-clause-preferred c = λ old source rust root asked index is.
    subst (λ i. preferred_in i ≡ preferred_by old rust i) (sym is) (rows_prefer old source rust root asked)
