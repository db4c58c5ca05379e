use Rattle.std.proofs.Common.{◌∙◌, sym}
use Rattle.lockfile.specs.inner.Views.{package_view}
use Rattle.catalogue.specs.Problems.{problem_in}
use Rattle.selection.proofs.Lookups.{brings_seen, root_brings, other_brings}
use Rattle.model.specs.Content.{candidate_of}
use Rattle.selection.proofs.summaries.summary_of.Goals as goal

pub returns-then-is_root : goal.returns-then-is_root
returns-then-is_root c =
    let q = problem_in c.args.manifest.now c.args.catalogue.now in
    let root = root_brings q (package_view c.args.locked.now)
    (sym (c.is_root.ensures c.args.catalogue.now) ∙ c.if-is_root.true) in
    record { brings = c.brings.ensures ∙ sym root.0; known = sym root.1 }

pub returns-else-is_root : goal.returns-else-is_root
returns-else-is_root c =
    let q = problem_in c.args.manifest.now c.args.catalogue.now in
    let other = other_brings q (package_view c.args.locked.now)
    (sym (c.is_root.ensures c.args.catalogue.now) ∙ c.if-is_root.false) in
    let seen =
    brings_seen _ (candidate_of q (package_view c.args.locked.now)) (c.candidate_of.ensures c.args.manifest.now) in
    record { brings = seen.0 ∙ sym other.0; known = seen.1 ∙ sym other.1 }
