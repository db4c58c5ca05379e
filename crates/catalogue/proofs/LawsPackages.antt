-- What the packages of a content say of a run that has it as its old lock.
use Rattle.std.proofs.Common.{◌≡◌, ℕ, List, Bool, true, false, cond, ◌&&◌, Option, Some, None, slice_get}
use Rattle.std.proofs.Common.{option_and_then, refl, sym, ap, true≢false}
use Rattle.std.proofs.lemmas.Bool.{and_from}
use Rattle.std.proofs.lemmas.Option.{none-some}
use Rattle.semver.specs.Parse.{Parts}
use Rattle.model.specs.Summary.{Dependency, same_text}
use Rattle.model.specs.Content.{Candidate, Content, Package, Problem, candidates_of, candidate_at, candidate_of}
use Rattle.model.specs.Content.{if_checksum, same_option, same_version, serves, serves_if}
use Rattle.model.specs.Candidates.{is_locked}
use Rattle.model.proofs.Lists.{any_of, to_any}
use Rattle.model.proofs.Same.{both, text-same, text-refl, version-same, version-refl}
use Rattle.model.proofs.Places.{place_of, got_in}

pub text_option : (o : Option (List ℕ)) (x : List ℕ) → same_option o (Some x) ≡ true → o ≡ Some x
text_option None x h = absurd (true≢false (sym h))
text_option (Some y) x h = ap Some (text-same y x h)

-- what a package of a run's source in the content says of its version
pub from_locked : (content : Content) (source name : List ℕ) (v : Parts) → is_locked content source name v ≡ true
    → (n : ℕ) × (p : Package) × (slice_get content n ≡ Some p) × (p.name ≡ name) × (p.version ≡ v)
    × (p.source ≡ Some source)
from_locked content source name v h =
    let test =
    λ (p : Package). same_text name p.name && (same_version v p.version && same_option p.source (Some source)) in
    let r = any_of test content h in
    let e =
    both (same_text name (r.0).name) (same_version v (r.0).version && same_option (r.0).source (Some source)) r.2 in
    let f = both (same_version v (r.0).version) (same_option (r.0).source (Some source)) e.1 in
    let at = place_of content r.0 r.1 in (
      at.0,
      r.0,
      at.1,
      sym (text-same name (r.0).name e.0),
      sym (version-same v (r.0).version f.0),
      text_option (r.0).source source f.1,
    )

pub to_locked : (content : Content) (source : List ℕ) (n : ℕ) (p : Package) → slice_get content n ≡ Some p
    → same_option p.source (Some source) ≡ true
    → is_locked content source p.name p.version ≡ true
to_locked content source n p got h =
    to_any (λ (r : Package). same_text p.name r.name && (same_version p.version r.version
    && same_option r.source (Some source))) content p (got_in content n p got)
    (and_from (same_text p.name p.name)
    (same_version p.version p.version && same_option p.source (Some source)) (text-refl p.name)
    (and_from (same_version p.version p.version) (same_option p.source (Some source)) (version-refl p.version) h))

-- a package that is a candidate is of the run's source
pub of_source : (q : Problem) (p : Package) (c : Candidate) → candidate_of q p ≡ Some c
    → same_option p.source (Some q.source) ≡ true
of_source q p c e = by (same_option p.source (Some q.source)) refl e
  where
    by : (b : Bool) → same_option p.source (Some q.source) ≡ b
        → cond b (option_and_then (if_checksum p.checksum)
        (candidate_at (candidates_of q.candidates p.name) p.version)) None ≡ Some c → b ≡ true
    by true s e = refl
    by false s e = absurd (none-some c e)

pub serving_is : (d : Dependency) (o : Option Package) → serves_if d o ≡ true
    → (p : Package) × (o ≡ Some p) × (serves d p ≡ true)
serving_is d None h = absurd (true≢false (sym h))
serving_is d (Some p) h = (p, refl, h)
