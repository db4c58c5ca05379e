-- The packages of a valid selection, in a run over the same index whose old lock has those of them that are yanked:
-- each has a name that is asked for, and is the same candidate.
use Rattle.std.proofs.Common.{◌≡◌, ℕ, List, Bool, true, false, not, ◌||◌, cond, Contains, Option, Some, slice_get, refl}
use Rattle.std.proofs.Common.{sym, ap, ◌∙◌, subst, true≢false, None, option_and_then}
use Rattle.std.proofs.lemmas.Bool.{or_left, or_right}
use Rattle.std.proofs.lemmas.Option.{same_Some, slice_get_within}
use Rattle.semver.specs.Parse.{Parts}
use Rattle.model.specs.Summary.{Summary, Dependency}
use Rattle.model.specs.Content.{Candidate, Content, Package, Problem, candidates_of, candidate_at, candidate_of}
use Rattle.model.specs.Content.{is_root, brings_of, summary_if, summary_at, if_checksum, same_option}
use Rattle.model.specs.Candidates.{Record, as_candidate, is_locked}
use Rattle.model.specs.Selection.{IsValidSelection, IsOther, IsReached}
use Rattle.model.specs.Selection.IsReached.{root, listed}
use Rattle.model.proofs.Kept.{kept}
use Rattle.model.proofs.Lists.{to_map}
use Rattle.model.proofs.Owners.{candidate_at-is, is_candidate, target_is, serves_parts, candidate_at-there}
use Rattle.model.proofs.Same.{text-refl}
use Rattle.model.proofs.Places.{place_of, got_in}
use Rattle.model.proofs.Flat.{to_flat}
use Rattle.manifest.specs.Manifests.{ManifestView}
use Rattle.catalogue.specs.Runs.{Asked, candidates_in, meant_by}
use Rattle.catalogue.specs.Problems.{IsRunOver, KeepsYanked, names_in, problem_of}
use Rattle.catalogue.proofs.LawsCandidates.{file_of, with_file, in_candidates, to_candidates, in_index, to_index}
use Rattle.catalogue.proofs.LawsNames.{needed, needed-root, needed-asked, all_asked}
use Rattle.catalogue.proofs.LawsPackages.{text_option, of_source, serving_is, to_locked}
use Rattle.catalogue.proofs.LawsRecords.{each_record_once}

module _ (files : List ℕ → Option (List ℕ)) (manifest : ManifestView) (old : Content) (source : List ℕ)
    (asked : List Asked) (content lock : Content) (again : List Asked)
    (run : IsRunOver files manifest old source asked) (rerun : IsRunOver files manifest lock source again)
    (valid : IsValidSelection (problem_of manifest old source asked) content)
    (keeps : KeepsYanked files source content lock) where
  abbrev before : Problem
  before = problem_of manifest old source asked

  abbrev after : Problem
  after = problem_of manifest lock source again

  abbrev needs : List Dependency
  needs = manifest.brings.dependencies

  -- the record that a package is, a candidate of both runs
  record Selected (p : Package) : Type 0 where
    pub r : Record
    pub was : Contains (candidates_in old source (file_of files p.name)) r
    pub is : Contains (candidates_in lock source (file_of files p.name)) r
    pub version : p.version ≡ r.version
    pub candidate : candidate_of before p ≡ Some (as_candidate r)
    pub found : candidate_at (candidates_of before.candidates p.name) p.version ≡ Some (as_candidate r)

  -- it may be locked, for it isn't yanked, or it is in the lock
  still : (p : Package) (r : Record) → p.version ≡ r.version
      → (r.yanked ≡ true → is_locked lock source p.name p.version ≡ true) → (b : Bool) → r.yanked ≡ b
      → (not r.yanked || is_locked lock source p.name r.version) ≡ true
  still p r same locked false y = or_left (not r.yanked) (is_locked lock source p.name r.version) (ap not y)
  still p r same locked true y =
      or_right (not r.yanked) (is_locked lock source p.name r.version)
      (subst (λ (v : Parts). is_locked lock source p.name v ≡ true) same (locked y))

  selected : (n : ℕ) (p : Package) → IsOther before content n p → Selected p
  selected n p other =
      let k = is_candidate before content valid n p other in
      let f = candidate_at-is (candidates_of before.candidates p.name) p.version k.0 k.2 in
      let i = in_index old source files asked p.name k.0 run.answers f.0 in
      let same : p.version ≡ (i.0).version = f.1 ∙ ap (λ (c : Candidate). c.version) (sym i.2) in
      let there = (in_candidates old source (file_of files p.name) i.0 i.1).0 in
      let locked = λ (y : (i.0).yanked ≡ true). keeps p i.0 (got_in content n p other.0)
      (text_option p.source source (of_source before p k.0 k.1)) there (sym same) y in
      record {
        r = i.0;
        was = i.1;
        is = to_candidates lock source (file_of files p.name) i.0 there (still p i.0 same locked (i.0).yanked refl);
        version = same;
        candidate = k.1 ∙ ap Some (sym i.2);
        found = k.2 ∙ ap Some (sym i.2);
      }

  -- what a package needs is asked for in the second run, if its own name is
  needs_asked : (n i : ℕ) (d : Dependency) (p : Package) → slice_get content n ≡ Some p
      → (is_root before p ≡ false → Contains (names_in again) p.name)
      → slice_get (summary_at before content n).dependencies i ≡ Some d → Contains (names_in again) d.real_name
  needs_asked n i d p got named has =
      all_asked lock source needs again rerun.in_turn rerun.ended d.real_name (by (is_root before p) refl)
    where
      means : List Dependency → Type 0
      means ds = Contains (meant_by ds) d.real_name

      meant : (o : Summary) → summary_at before content n ≡ o → means o.dependencies
      meant o e = to_map (λ (d : Dependency). d.real_name) o.dependencies d
          (got_in o.dependencies i d (ap (λ (o : Summary). slice_get o.dependencies i) (sym e) ∙ has))

      brought : (b : Bool) → is_root before p ≡ b
          → summary_at before content n ≡ cond b manifest.brings (brings_of (candidate_of before p))
      brought b e = ap (summary_if before) got ∙ ap (λ b. cond b manifest.brings (brings_of (candidate_of before p))) e

      by : (b : Bool) → is_root before p ≡ b → Contains (needed lock source needs again) d.real_name
      by true e = needed-root lock source needs again d.real_name (meant manifest.brings (brought true e))
      by false e =
          let s = selected n p (got, e) in
          needed-asked lock source needs again (file_of files p.name) d.real_name
          (with_file files again p.name rerun.answers (named e))
          (to_flat (λ (r : Record). meant_by (r.brings).dependencies)
          (candidates_in lock source (file_of files p.name)) s.r d.real_name s.is
          (meant (s.r).brings (brought false e ∙ ap brings_of s.candidate)))

  -- each package other than the root has a name that the second run asks for
  named_again : (n : ℕ) → IsReached before content n → (p : Package) → slice_get content n ≡ Some p
      → is_root before p ≡ false → Contains (names_in again) p.name
  named_again n (root m r) p got other =
      absurd (true≢false (sym r.2 ∙ ap (is_root before) (same_Some r.0 p (sym r.1 ∙ got)) ∙ other))
  named_again n (listed m t l reached had c) p got other =
      let target = (valid.lists m n l had).0 c in
      let d : Dependency = target.1 in
      let s = serving_is d (slice_get content n) (target_is before content valid m n d target.3).serving in
      let name = (serves_parts before content valid d s.0 s.2).1 in
      subst (λ x. Contains (names_in again) x) (name ∙ ap (λ (p : Package). p.name) (same_Some s.0 p (sym s.1 ∙ got)))
      (needs_asked m target.0 d l had (named_again m reached l had) target.2.0)

  -- each package is the same candidate in both runs
  same_candidate : (n : ℕ) (p : Package) → IsOther before content n p → candidate_of before p ≡ candidate_of after p
  same_candidate n p other =
      ap (λ o. cond (same_option p.source (Some source)) (option_and_then (if_checksum p.checksum) o) None)
      (s.found ∙ sym found)
    where
      s : Selected p
      s = selected n p other

      found : candidate_at (candidates_of after.candidates p.name) p.version ≡ Some (as_candidate s.r)
      found =
          let cs : List Candidate = candidates_of after.candidates p.name in
          let named = named_again n (valid.reached n (slice_get_within content n p other.0)) p other.0 other.1 in
          let e = candidate_at-there cs (as_candidate s.r)
          (to_index lock source files again p.name s.r rerun.answers named s.is) in
          let f = candidate_at-is cs (s.r).version e.0 e.1 in
          let i = in_index lock source files again p.name e.0 rerun.answers f.0 in
          let record_in = λ (r : Record) (c : Contains (candidates_in lock source (file_of files p.name)) r).
          (in_candidates lock source (file_of files p.name) r c).0 in
          let same : s.r ≡ i.0 = each_record_once (file_of files p.name) s.r i.0 (record_in s.r s.is)
          (record_in i.0 i.1) (f.1 ∙ ap (λ (c : Candidate). c.version) (sym i.2)) in
          ap (candidate_at cs) s.version ∙ e.1 ∙ ap Some (sym i.2) ∙ ap (λ r. Some (as_candidate r)) (sym same)

  pub holds_still : IsValidSelection after content
  holds_still = kept before after.candidates content same_candidate valid

-- a content has all its packages
keeps-itself : (files : List ℕ → Option (List ℕ)) (source : List ℕ) (content : Content)
    → KeepsYanked files source content content
keeps-itself files source content p r c from i same y =
    let at = place_of content p c in
    to_locked content source at.0 p at.1 (ap (λ o. same_option o (Some source)) from ∙ text-refl source)

pub holds_again : (files : List ℕ → Option (List ℕ)) (manifest : ManifestView) (old : Content) (source : List ℕ)
    (asked : List Asked) (content : Content) (again : List Asked)
    → IsRunOver files manifest old source asked → IsRunOver files manifest content source again
    → IsValidSelection (problem_of manifest old source asked) content
    → IsValidSelection (problem_of manifest content source again) content
holds_again files manifest old source asked content again run rerun valid =
    holds_still files manifest old source asked content content again run rerun valid
    (keeps-itself files source content)
