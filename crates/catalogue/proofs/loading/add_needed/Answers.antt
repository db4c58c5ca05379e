use Rattle.std.proofs.Common.{rules, sym, ap, ◌∙◌, subst, ◌≡◌, ◌<◌, true, ℕ, List, length, drop, ◌+◌}
use Rattle.std.specs.List.{list_any}
use Rattle.model.specs.Summary.{same_text}
use Rattle.features.specs.Views.{dependency_views}
use Rattle.catalogue.specs.Loads.{needs_of}
use Rattle.catalogue.specs.Runs.{meant_by}
use Rattle.catalogue.specs.inner.Names.{insert_all}
use Rattle.catalogue.specs.declared.candidate.Candidate.{Candidate}
use Rattle.catalogue.proofs.NameLaws.{put-all, put-more}
use Rattle.catalogue.proofs.loading.add_needed.Goals as goal

pub candidates-preserved : goal.candidates-preserved
candidates-preserved c =
    let cs = c.args.candidates.now in
    let i = c.candidates.candidate-index in
    let item = c.candidate-item.result in
    let ks = c.candidates.names.keys in
    let less : i < length cs = search rules in
    let needs = λ (d : Candidate). meant_by (dependency_views d.brings.dependencies.items) in
    let put = c.in_ok-add_names.ensures in
    let is : meant_by (dependency_views c.as_slice-dependencies.result.now) ≡ needs item
    = ap (λ ds. meant_by (dependency_views ds)) c.as_slice-dependencies.ensures.value in
    let now = put ∙ ap (insert_all same_text ks) (is ∙ ap needs c.candidate-item.is) in (
      ap (λ ns. insert_all same_text ns (needs_of (drop (i + 1) cs))) now ∙ put-more needs ks cs i item less
          ∙ c.candidates.invariant.0,
      λ name here. subst (λ (ns : List (List ℕ)). list_any (same_text name) ns ≡ true) (sym put)
          (put-all name ks (meant_by (dependency_views c.as_slice-dependencies.result.now)) here),
    )
