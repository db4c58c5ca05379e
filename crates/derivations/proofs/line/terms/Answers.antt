use Rattle.std.proofs.Common.{◌≡◌, Ok, rules}
use Rattle.derivations.specs.Orders.{ordered}
use Rattle.derivations.specs.Steps.{terms_of, terms_without_texts, written_cmp}
use Rattle.derivations.specs.inner.StepViews.{written_views}
use Rattle.derivations.specs.inner.Tables.{terms_at}
use Rattle.derivations.proofs.EarlierLaws.{sorted-within, texts-dropped}
use Rattle.derivations.proofs.line.terms.Goals as goal

pub returns-clause-within : goal.returns-clause-within
returns-clause-within c =
    rw (c.in_ok-without_texts.ensures, c.deref.ensures.value)
    (sorted-within c.terms_in.new.tables c.in_ok-written.written.items c.in_ok-sorted.sorted.items
    c.in_ok-sorted.ensures.same c.in_ok-written.ensures.within)

pub returns-clause-terms : goal.returns-clause-terms
unfolding terms_of
returns-clause-terms c =
    let t = c.terms_in.new.tables in
    let dropped : terms_at t c.in_ok-without_texts.field-0.items
    ≡ terms_without_texts (written_views t c.in_ok-sorted.sorted.items)
    = rw (c.in_ok-without_texts.ensures, c.deref.ensures.value) (texts-dropped t c.in_ok-sorted.sorted.items) in
    let sorted : ordered written_cmp (written_views t c.in_ok-written.written.items)
    ≡ Ok (written_views t c.in_ok-sorted.sorted.items) = c.in_ok-sorted.ensures.terms t in
    search rules
