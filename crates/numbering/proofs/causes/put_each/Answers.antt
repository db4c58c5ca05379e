use Rattle.std.proofs.Common.{◌≡◌, ◌++◌, ℕ, sym, ap, ap₂, ◌∙◌}
use Rattle.std.specs.List.{flat_map}
use Rattle.std.proofs.lemmas.List.{append-nil}
use Rattle.std.proofs.lemmas.Result.{on_ok_weaker}
use Rattle.semver.specs.Identifiers.{parts_of}
use Rattle.features.specs.EntryViews.{entry_view}
use Rattle.model.specs.Summary.{Dependency}
use Rattle.model.specs.Vertices.{owner_brings, version_of}
use Rattle.numbering.specs.inner.Called.{called_so, numbered_from}
use Rattle.numbering.specs.GivenViews.{cause_views}
use Rattle.numbering.specs.inner.CausesAt.{entry_if}
use Rattle.numbering.specs.inner.KnownProblem.{problem}
use Rattle.numbering.proofs.CalledLaws.{entry_called, entry_without}
use Rattle.numbering.proofs.causes.put_each.Goals as goal

pub returns-in-Some : goal.returns-in-Some
returns-in-Some c =
    let q = problem c.args.known.now in
    let name = c.args.own.name.now in
    let v = parts_of c.args.own.version.now in
    let f = c.args.own.feature.now in
    let e = entry_view c.args.entry.now in
    let ds = (owner_brings q (version_of name v)).dependencies in
    let cs = cause_views c.args.causes.now.items in
    let named : called_so c.as_str.result.now (numbered_from 0 c.args.called.now)
    ≡ called_so c.in-Some.name.now (numbered_from 0 ds)
    = ap₂ (λ x l. called_so x (numbered_from 0 l)) c.as_str.ensures.text c.requires.called in
    on_ok_weaker c.put_called.result
    (λ put. put ∙ ap (λ l. cs ++ l)
    (ap (flat_map (λ (p : ℕ × Dependency). entry_if q name v f e p.0 p.1)) named
    ∙ entry_called q name v f e c.in-Some.name.now c.in-Some.ensures ds))
    c.put_called.ensures

pub returns-in-None : goal.returns-in-None
returns-in-None c =
    let q = problem c.args.known.now in
    let name = c.args.own.name.now in
    let v = parts_of c.args.own.version.now in
    let cs = cause_views c.args.causes.now.items in
    sym (ap (λ l. cs ++ l)
    (entry_without q name v c.args.own.feature.now (entry_view c.args.entry.now) c.in-None.ensures
    (owner_brings q (version_of name v)).dependencies)
    ∙ append-nil cs)
