use Rattle.std.proofs.Common.{rules, ◌≡◌, ◌≤◌, ℕ, ◌+◌, [], ◌∷◌, ◌++◌, length, slice_index_or, refl, sym, ap, ◌∙◌, subst}
use Rattle.std.proofs.lemmas.List.{map-append}
use Rattle.terms.specs.Terms.{TermView, term_view, terms_view}
use Rattle.search_tests.proofs.Fitting.{AreSoFar, one_more}
use Rattle.search_tests.specs.inner.Meeting.{universe_at}
use Rattle.search_tests.proofs.made_terms.terms_of.Goals as goal

pub said-preserved : goal.said-preserved
said-preserved g c =
    let tests = g.S.States.tests in
    let space = universe_at c.args.spaces.now in
    let v : ℕ = (slice_index_or c.args.said.now c.said.vertex-index (0, 0)).0 in
    let before = terms_view tests c.said.terms.items in
    let term : TermView = record { vertex = v; states = tests c.in_ok-states.states } in
    let pushed : terms_view tests c.push.new.self.items ≡ before ++ term ∷ [] =
    ap (terms_view tests) c.in_ok-push.ensures.items ∙ map-append (term_view tests) c.said.terms.items _ in
    let low : c.said.low ≤ v = search rules in
    let fits : length (tests c.in_ok-states.states) ≡ space v = c.in_ok-states.ensures ∙ search rules in
    subst (AreSoFar space (v + 1)) (sym pushed)
    (one_more space c.said.low (v + 1) before term c.said.invariant low refl fits)
