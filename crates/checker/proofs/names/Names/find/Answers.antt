use Rattle.std.proofs.Common.{◌∙◌, ◌<◌, length, rules}
use Rattle.std.specs.Ordering.{nat_cmp}
use Rattle.std.proofs.lemmas.Fn.{always_returns_same}
use Rattle.std.proofs.lemmas.List.{get_or_default}
use Rattle.std.proofs.lemmas.List.Elements.{All-from_recursion}
use Rattle.checker.specs.inner.Names.{rank_at}
use Rattle.checker.specs.inner.Ready.{IsReady, tables_of}
use Rattle.checker.proofs.Searching.{number_ends, number_finds}
use Rattle.checker.proofs.names.Names.find.Goals as goal

pub returns-in-Ok-clause-said : goal.returns-in-Ok-clause-said
returns-in-Ok-clause-said c =
    let d = c.args.self.now in
    let searched = c.binary_search_by.ensures.position (λ t. nat_cmp (rank_at d.ranks.items t.vertex)
    (rank_at d.ranks.items c.args.vertex)) (always_returns_same _ _ _ (λ a r g called. search rules)) in
    let each = All-from_recursion (IsReady d) c.args.terms.now c.requires.terms.0 in
    let within : c.in-Ok.place < length c.args.terms.now = rw c.in-Ok.is at c.binary_search_by.ensures.bound in
    c.set_if.ensures.said ∙ number_finds (tables_of d) d.ranks.items d.order c.args.terms.now c.args.vertex
    c.requires.vertex (λ k x lt. (each k x lt).0) c.requires.terms.1
    c.in-Ok.place (rw c.in-Ok.is at searched) within _ (get_or_default c.args.terms.now c.in-Ok.place _ _ within)

pub returns-in-Err-clause-said : goal.returns-in-Err-clause-said
returns-in-Err-clause-said c =
    let d = c.args.self.now in
    let searched = c.binary_search_by.ensures.position (λ t. nat_cmp (rank_at d.ranks.items t.vertex)
    (rank_at d.ranks.items c.args.vertex)) (always_returns_same _ _ _ (λ a r g called. search rules)) in
    let each = All-from_recursion (IsReady d) c.args.terms.now c.requires.terms.0 in
    number_ends (tables_of d) d.ranks.items d.order c.args.terms.now c.args.vertex c.requires.vertex
    (λ k x lt. (each k x lt).0) c.requires.terms.1
    c.in-Err.field-0 (rw c.in-Err.is at searched) (rw c.in-Err.is at c.binary_search_by.ensures.bound)
