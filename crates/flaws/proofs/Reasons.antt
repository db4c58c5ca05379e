-- There is a reason why a package is no candidate exactly where it is none.
use Rattle.std.proofs.Common.{◌≡◌, ℕ, Bool, true, false, not, cond, List, Option, Some, None, option_map}
use Rattle.std.proofs.Common.{option_and_then, is_some, refl, sym, ap, ◌∙◌}
use Rattle.model.specs.Candidates.{Record, as_candidate}
use Rattle.model.specs.Content.{Candidate, Package, same_option, candidates_of, candidate_at, candidate_of, if_checksum}
use Rattle.model.specs.Summary.{same_text}
use Rattle.manifest.specs.Manifests.{ManifestView}
use Rattle.catalogue.specs.Problems.{problem_in}
use Rattle.catalogue.specs.Stores.{CatalogueView, candidates_at, record_at, rows_by_name}
use Rattle.selection.proofs.Lookups.{of_source}
use Rattle.flaws.specs.inner.Reasons.{why_sum, why_record, why_source, why_none}
use Rattle.flaws.specs.declared.no_candidate.NoCandidate.TheVariants.{OtherSource, OtherChecksum}

by_sum : (sum : Option (List ℕ)) (r : Record)
    → is_some (why_sum sum r.checksum) ≡ not (is_some (if_checksum sum (as_candidate r)))
by_sum None r = refl
by_sum (Some sum) r = by (same_text sum r.checksum)
  where
    by : (b : Bool) → is_some (cond b None (Some OtherChecksum)) ≡ not (is_some (cond b (Some (as_candidate r)) None))
    by true = refl
    by false = refl

by_record : (o : Option Record) (sum : Option (List ℕ))
    → is_some (why_record o sum) ≡ not (is_some (option_and_then (if_checksum sum) (option_map as_candidate o)))
by_record None sum = refl
by_record (Some r) sum = by_sum sum r

pub why_decides : (m : ManifestView) (index : CatalogueView) (p : Package)
    → is_some (why_none index p) ≡ not (is_some (candidate_of (problem_in m index) p))
why_decides m index p = by p.source refl
  where
    none_there : (b : Bool) → same_option p.source (Some index.source) ≡ b → b ≡ false
        → is_some (candidate_of (problem_in m index) p) ≡ false
    none_there b e f = ap (λ x. is_some (cond x (option_and_then (if_checksum p.checksum)
        (candidate_at (candidates_of (rows_by_name index) p.name) p.version)) None)) (e ∙ f)

    test : (source : List ℕ) → p.source ≡ Some source → (b : Bool) → same_text source index.source ≡ b
        → is_some (cond b (why_record (record_at (candidates_at index p.name) p.version) p.checksum) (Some OtherSource))
        ≡ not (is_some (candidate_of (problem_in m index) p))
    test source e true t =
        by_record (record_at (candidates_at index p.name) p.version) p.checksum
        ∙ sym (ap (λ (o : Option Candidate). not (is_some o))
        (of_source index m p (ap (λ o. same_option o (Some index.source)) e ∙ t)))
    test source e false t =
        sym (ap not (none_there (same_text source index.source) (ap (λ o. same_option o (Some index.source)) e) t))

    by : (o : Option (List ℕ)) → p.source ≡ o
        → is_some (why_source index p o) ≡ not (is_some (candidate_of (problem_in m index) p))
    by None e = sym (ap not (none_there false (ap (λ o. same_option o (Some index.source)) e) refl))
    by (Some source) e = test source e (same_text source index.source) refl
