use Rattle.std.proofs.Common.{◌∙◌, sym, subst}
use Rattle.model.specs.Outcome.{Gives}
use Rattle.features.specs.inner.Tables.{rows_of}
use Rattle.index_lines.specs.Shapes.{wants_memory}
use Rattle.index_lines.specs.inner.ShapeViews.{feature_views}
use Rattle.index_lines.proofs.RisingLemmas.{all-rising, read-rise}
use Rattle.index_lines.proofs.written.first_features.Goals as goal

pub returns-then-names_rise-clause-read : goal.returns-then-names_rise-clause-read
returns-then-names_rise-clause-read c =
    subst (Gives wants_memory (λ v. rows_of v.items) c.rows.result)
    (sym (all-rising (feature_views c.args.features.now) (sym c.names_rise.ensures ∙ c.if-names_rise.true)))
    c.rows.ensures

pub returns-then-names_rise-clause-rising : goal.returns-then-names_rise-clause-rising
returns-then-names_rise-clause-rising c =
    read-rise (feature_views c.args.features.now) c.rows.result (sym c.names_rise.ensures ∙ c.if-names_rise.true)
    c.rows.ensures
