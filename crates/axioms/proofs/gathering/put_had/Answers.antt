use Rattle.std.proofs.Common.{◌≤◌, sym, subst}
use Rattle.model.specs.Content.{Candidate, candidates_of}
use Rattle.model.specs.Summary.{has_feature, same_text}
use Rattle.catalogue.specs.Stores.{rows_by_name}
use Rattle.axioms.specs.inner.Pairs.{has_pair}
use Rattle.axioms.proofs.Featured.{counted}
use Rattle.axioms.proofs.GatherLemmas.{place_more, places_end}
use Rattle.axioms.proofs.gathering.put_had.Goals as goal

pub places-preserved : goal.places-preserved
places-preserved c = λ n f.
    place_more (λ (e : Candidate). has_feature e.brings.features f)
    (candidates_of (rows_by_name c.args.catalogue.now) c.args.name.now) c.places.place (same_text n c.args.name.now)
    (has_pair c.places.known n f) (has_pair c.put_had_at.new.known n f) _
    (c.in_ok-put_had_at.ensures n f) (c.places.invariant n f)

pub returns : goal.returns
returns c = λ n f.
    let count =
    counted c.args.catalogue.now c.args.name.now c.versions-count.result.now c.versions-count.ensures.versions in
    places_end (λ (e : Candidate). has_feature e.brings.features f)
    (candidates_of (rows_by_name c.args.catalogue.now) c.args.name.now) c.places.place (same_text n c.args.name.now)
    (has_pair c.places.known n f) _
    (subst (λ k. k ≤ c.places.place) (sym count) c.places-test.false) (c.places.invariant n f)
