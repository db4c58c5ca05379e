use Rattle.std.proofs.Common.{rules, ◌∙◌}
use Rattle.std.proofs.lemmas.Fn.{always_returns_same}
use Rattle.model.specs.Order.{text_cmp}
use Rattle.features.proofs.PlaceLemmas.{place_found}
use Rattle.features.proofs.rows.place_in.Goals as goal

pub returns : goal.returns
returns c =
    let searched = c.binary_search_by.ensures.position
    (λ e. text_cmp e.0 c.args.name.now) (always_returns_same _ _ _ (λ a r g called. search rules)) in
    c.ok.ensures.value ∙ place_found c.args.rows.now c.args.name.now c.binary_search_by.result c.requires searched
    c.binary_search_by.ensures.bound
