use Rattle.std.proofs.Common.{◌≡◌, ◌++◌, take, flat_map}
use Rattle.incompatibilities.specs.inner.Merging.{lone}
use Rattle.terms.specs.Terms.{terms_view}
use Rattle.incompatibilities.proofs.combining.push_rest.Given as goal

-- what the terms so far give
abbrev pub invariant-others : goal.invariant-others
invariant-others g l = let view = terms_view g.S.States.tests in
    view l.made.items ≡ view l.fn.made.items ++ flat_map (lone l.at) (view (take l.other-index l.others))
