use Rattle.std.proofs.Common.{◌≡◌, ◌∙◌, sym, refl, subst, arith, inl, inr, IfOk}
use Rattle.semver.specs.Identifiers.{parts_of}
use Rattle.lockfile.specs.declared.package.Package as code
use Rattle.selection.specs.Verdicts.{IsFaultOf}
use Rattle.std.proofs.lemmas.Bool.{cases_lt}
use Rattle.std.proofs.lemmas.List.{length-map}
use Rattle.model.specs.Verdict.{IsFaultless}
use Rattle.lockfile.specs.inner.Views.{package_view}
use Rattle.selection.specs.inner.Places.{content_in, lowest}
use Rattle.selection.proofs.LowestFault.{faultless, first_said, none_named}
use Rattle.selection.proofs.Seconds.{view_at}
use Rattle.selection.proofs.verifying.verdict_by.Goals as goal

pub returns-in-Some : goal.returns-in-Some
returns-in-Some c =
    let f = c.args.findings.now in
    first_said c.invalid.result f c.places.at (package_view c.index-findings-at.result) c.in_ok-checked.checked
    c.in-Some.fault (sym c.lowest.ensures ∙ c.in-Some.is)
    (view_at f.content.now c.places.at c.index-findings-at.result c.places-test.true (sym c.index-findings-at.is))
    c.in_ok-checked.ensures
    (omega (arith, c.places-test.true, length-map f.content.now package_view)) c.places.invariant
    (subst (λ (x : code.Package). IfOk c.invalid.result (IsFaultOf c.in-Some.fault x.name (parts_of x.version)))
    (sym c.index-findings-at.is) c.invalid.ensures)

pub places-preserved : goal.places-preserved
places-preserved c =
    λ q found m lt. elim (cases_lt m c.places.at) [
      | inl less ↦ c.places.invariant q found m less
      | inr back ↦
          let place : m ≡ c.places.at = omega (arith, lt, back) in
          subst (λ i. IsFaultless q (content_in c.args.findings.now) i) (sym place)
          (faultless c.in_ok-checked.checked q (content_in c.args.findings.now) c.places.at (c.in_ok-checked.ensures q
          found) (none_named (lowest c.in_ok-checked.checked) (sym c.lowest.ensures ∙ c.in_default.is)))
    ]

pub returns : goal.returns
returns c =
    λ q found. (
      (c.args.findings.now.root, (found.only_root c.args.findings.now.root).1 refl),
      λ n place. c.places.invariant q found n
          (omega (arith, place, length-map c.args.findings.now.content.now package_view, c.places-test.false)),
    )
