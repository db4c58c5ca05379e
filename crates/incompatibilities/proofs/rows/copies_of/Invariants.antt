use Rattle.std.proofs.Common.{◌≡◌, take}
use Rattle.terms.specs.Terms.{terms_view}
use Rattle.incompatibilities.proofs.rows.copies_of.Given as goal

abbrev pub invariant-terms : goal.invariant-terms
invariant-terms g l =
    terms_view g.S.States.tests l.copies.items ≡ terms_view g.S.States.tests (take l.term-index l.terms)
