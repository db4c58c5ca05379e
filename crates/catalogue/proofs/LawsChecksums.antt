-- The checksums of a valid selection are those of the records.
use Rattle.std.proofs.Common.{◌≡◌, ℕ, List, Bool, true, false, cond, Contains, Option, Some, None, option_and_then}
use Rattle.std.proofs.Common.{refl, sym, ap, ◌∙◌, subst}
use Rattle.std.proofs.lemmas.Option.{none-some, same_Some}
use Rattle.model.specs.Content.{Candidate, Content, Package, Problem, candidates_of, candidate_at, candidate_of}
use Rattle.model.specs.Content.{if_checksum, same_option}
use Rattle.model.specs.Candidates.{Record}
use Rattle.model.specs.Selection.{IsValidSelection, IsOther}
use Rattle.model.proofs.Owners.{candidate_at-is, is_candidate}
use Rattle.manifest.specs.Manifests.{ManifestView}
use Rattle.catalogue.specs.Runs.{Asked, records_of}
use Rattle.catalogue.specs.Problems.{IsRunOver, problem_of}
use Rattle.catalogue.proofs.LawsCandidates.{file_of, in_candidates, in_index}
use Rattle.catalogue.proofs.LawsPackages.{text_option}
use Rattle.catalogue.proofs.LawsRecords.{each_record_once}

-- a package that is a candidate has the candidate's checksum, if it has one
of_checksum : (q : Problem) (p : Package) (c : Candidate) → candidate_of q p ≡ Some c
    → same_option p.checksum (Some c.checksum) ≡ true
of_checksum q p c e =
    by (same_option p.source (Some q.source)) (candidate_at (candidates_of q.candidates p.name) p.version) e
  where
    checked : (d : Candidate) (b : Bool) → same_option p.checksum (Some d.checksum) ≡ b → cond b (Some d) None ≡ Some c
        → same_option p.checksum (Some c.checksum) ≡ true
    checked d true s e = subst (λ (x : Candidate). same_option p.checksum (Some x.checksum) ≡ true) (same_Some d c e) s
    checked d false s e = absurd (none-some c e)

    by : (b : Bool) (o : Option Candidate) → cond b (option_and_then (if_checksum p.checksum) o) None ≡ Some c
        → same_option p.checksum (Some c.checksum) ≡ true
    by true (Some d) e = checked d (same_option p.checksum (Some d.checksum)) refl e
    by true None e = absurd (none-some c e)
    by false o e = absurd (none-some c e)

module _ (files : List ℕ → Option (List ℕ)) (manifest : ManifestView) (old : Content) (source : List ℕ)
    (asked : List Asked) (content : Content)
    (run : IsRunOver files manifest old source asked)
    (valid : IsValidSelection (problem_of manifest old source asked) content) where
  abbrev before : Problem
  before = problem_of manifest old source asked

  pub same_checksum : (n : ℕ) (p : Package) (r : Record) → IsOther before content n p
      → Contains (records_of (file_of files p.name)) r → r.version ≡ p.version
      → p.checksum ≡ Some r.checksum
  same_checksum n p r other c same =
      let k = is_candidate before content valid n p other in
      let f = candidate_at-is (candidates_of before.candidates p.name) p.version k.0 k.2 in
      let i = in_index old source files asked p.name k.0 run.answers f.0 in
      let had = (in_candidates old source (file_of files p.name) i.0 i.1).0 in
      let is : i.0 ≡ r = each_record_once (file_of files p.name) i.0 r had c
      (ap (λ (c : Candidate). c.version) i.2 ∙ sym f.1 ∙ sym same) in
      text_option p.checksum (k.0).checksum (of_checksum before p k.0 k.1)
      ∙ ap (λ (c : Candidate). Some c.checksum) (sym i.2) ∙ ap (λ (r : Record). Some r.checksum) is
