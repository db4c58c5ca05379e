use Rattle.std.proofs.Common.{map, sym, ap, ◌∙◌, subst}
use Rattle.model.specs.Summary.{same_text}
use Rattle.facts.specs.inner.ByName.{AreByName, name_of}
use Rattle.facts.specs.inner.FactNumbers.{link_view, links_called}
use Rattle.facts.proofs.ByName.{filter-seen, piece_is, rest_sorted}
use Rattle.facts.proofs.rules.called_so.Goals as goal

pub up_to-requires : goal.up_to-requires
up_to-requires c =
    rest_sorted name_of c.as_slice-called.result.now c.before-2.result c.before-2.ensures.few
    (subst AreByName (sym c.as_slice-called.ensures.value) c.args.node.now.order)

pub returns : goal.returns
returns c =
    let called = c.as_slice-called.result.now in
    let name = c.args.name.now in
    ap (map link_view) (piece_is name_of called name c.before-2.result c.up_to.result c.before-2.ensures.place
    c.up_to.ensures.few c.up_to.ensures.place)
    ∙ sym (filter-seen link_view (λ l. same_text name l.dependency.name) called)
    ∙ ap (λ ls. links_called name (map link_view ls)) c.as_slice-called.ensures.value
