use Rattle.std.proofs.Common.{◌≡◌, ◌∙◌, sym, ap, slice_get, arith, inl, inr, true≢false}
use Rattle.std.proofs.lemmas.Bool.{cases_lt}
use Rattle.std.proofs.lemmas.List.{length-map}
use Rattle.std.proofs.lemmas.Option.{same_Some, slice_get_within}
use Rattle.model.specs.Content.{is_root}
use Rattle.lockfile.specs.inner.Views.{package_view, package_views}
use Rattle.catalogue.specs.Problems.{problem_in}
use Rattle.selection.proofs.OnlyRoot.{only_root}
use Rattle.selection.proofs.Seconds.{view_at}
use Rattle.selection.proofs.roots.root_of.Goals as goal

pub returns-then-is_root : goal.returns-then-is_root
returns-then-is_root c = (
  c.places-test.true,
  λ index. only_root (problem_in c.args.manifest.now index) (package_views c.args.content.now) c.places.at
      (package_view c.index-content-at.result) c.requires
      (view_at c.args.content.now c.places.at c.index-content-at.result c.places-test.true (sym c.index-content-at.is))
      (sym (c.is_root.ensures index) ∙ c.if-is_root.true),
)

pub places-preserved : goal.places-preserved
places-preserved c =
    λ index k p lt got. elim (cases_lt k c.places.at) [
      | inl less ↦ c.places.invariant index k p less got
      | inr back ↦
          let place : k ≡ c.places.at = omega (arith, lt, back) in
          let here = view_at c.args.content.now c.places.at c.index-content-at.result c.places-test.true
          (sym c.index-content-at.is) in
          ap (is_root (problem_in c.args.manifest.now index)) (same_Some p (package_view c.index-content-at.result)
          (sym got ∙ ap (slice_get (package_views c.args.content.now)) place ∙ here))
          ∙ sym (c.is_root.ensures index) ∙ c.if-is_root.false
    ]

pub returns : goal.returns
returns c =
    λ index n h. true≢false (sym h.2
    ∙ c.places.invariant index n h.0 (omega (
      arith,
      slice_get_within (package_views c.args.content.now) n h.0 h.1,
      length-map c.args.content.now package_view,
      c.places-test.false,
    )) h.1)
