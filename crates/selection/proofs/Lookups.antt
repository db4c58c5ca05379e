-- The candidate that a package is, in a loaded index, is the one that is meant where a selection is held against that
-- index.
use Rattle.std.proofs.Common.{◌≡◌, ℕ, Bool, true, false, cond, ◌||◌, List, Option, Some, None, option_map}
use Rattle.std.proofs.Common.{option_and_then, is_some, refl, sym, ap, ◌∙◌, subst}
use Rattle.std.specs.Borrow.{Bor}
use Rattle.std.proofs.lemmas.Option.{none-some, same_Some}
use Rattle.model.specs.Content.{Candidate, Package, Problem, same_option, candidates_of, candidate_at, candidate_of}
use Rattle.model.specs.Content.{if_checksum, brings_of, is_root, summary_of}
use Rattle.model.specs.Candidates.{Record, as_candidate}
use Rattle.features.specs.Views.{summary_view, brings_view}
use Rattle.features.specs.declared.dependency.Summary.{Summary}
use Rattle.manifest.specs.Manifests.{ManifestView}
use Rattle.catalogue.specs.Problems.{problem_in}
use Rattle.catalogue.specs.Stores.{CatalogueView, candidates_at, record_at, rows_by_name, Said, said}
use Rattle.catalogue.proofs.Lookups.{candidate_found}
use Rattle.selection.specs.inner.Graphs.{is_known}

-- of the run's source
pub of_source : (c : CatalogueView) (m : ManifestView) (p : Package) → same_option p.source (Some c.source) ≡ true
    → candidate_of (problem_in m c) p
    ≡ option_and_then (if_checksum p.checksum) (option_map as_candidate (record_at (candidates_at c p.name) p.version))
of_source c m p h =
    ap (λ b. cond b (option_and_then (if_checksum p.checksum)
    (candidate_at (candidates_of (rows_by_name c) p.name) p.version)) None) h
    ∙ ap (λ o. option_and_then (if_checksum p.checksum) o) (candidate_found c p.name p.version)

by_record : (o : Option Record) (s : Said) → Some s ≡ option_map said o → (sum : Option (List ℕ))
    → option_map (λ (e : Candidate). e.brings) (option_and_then (if_checksum sum) (option_map as_candidate o))
    ≡ cond (same_option sum (Some s.checksum)) (Some s.brings) None
by_record None s e sum = absurd (none-some s (sym e))
by_record (Some r) s e sum =
    subst (λ (t : Said). option_map (λ (e : Candidate). e.brings) (cond (same_option sum (Some r.checksum))
    (Some (as_candidate r)) None) ≡ cond (same_option sum (Some t.checksum)) (Some t.brings) None)
    (sym (same_Some s (said r) e)) (by (same_option sum (Some r.checksum)))
  where
    by : (b : Bool)
        → option_map (λ (e : Candidate). e.brings) (cond b (Some (as_candidate r)) None) ≡ cond b (Some r.brings) None
    by true = refl
    by false = refl

no_record : (o : Option Record) → None ≡ option_map said o → (sum : Option (List ℕ))
    → None ≡ option_map (λ (e : Candidate). e.brings) (option_and_then (if_checksum sum) (option_map as_candidate o))
no_record None e sum = refl
no_record (Some r) e sum = absurd (none-some (said r) e)

-- there is no such candidate, ..
pub not_found : (c : CatalogueView) (m : ManifestView) (p : Package) → same_option p.source (Some c.source) ≡ true
    → None ≡ option_map said (record_at (candidates_at c p.name) p.version)
    → None ≡ option_map (λ (e : Candidate). e.brings) (candidate_of (problem_in m c) p)
not_found c m p h e = no_record (record_at (candidates_at c p.name) p.version) e p.checksum
    ∙ ap (option_map (λ (e : Candidate). e.brings)) (sym (of_source c m p h))

-- .. or there is one, and its checksum decides
pub is_found : (c : CatalogueView) (m : ManifestView) (p : Package) (s : Said) → same_option p.source (Some c.source)
    ≡ true → Some s ≡ option_map said (record_at (candidates_at c p.name) p.version)
    → (b : Bool) → same_option p.checksum (Some s.checksum) ≡ b
    → cond b (Some s.brings) None ≡ option_map (λ (e : Candidate). e.brings) (candidate_of (problem_in m c) p)
is_found c m p s h e b sum =
    sym (ap (option_map (λ (e : Candidate). e.brings)) (of_source c m p h)
    ∙ by_record (record_at (candidates_at c p.name) p.version) s e p.checksum
    ∙ ap (λ b. cond b (Some s.brings) None) sum)

-- what a candidate brings, as the program has it
pub brings_seen : (r : Option (Bor Summary)) (o : Option Candidate) → option_map (λ w. summary_view w.now) r
    ≡ option_map (λ (e : Candidate). e.brings) o → (brings_view r ≡ brings_of o) × (is_some r ≡ is_some o)
brings_seen None None e = (refl, refl)
brings_seen None (Some c) e = absurd (none-some c.brings e)
brings_seen (Some w) None e = absurd (none-some (summary_view w.now) (sym e))
brings_seen (Some w) (Some c) e = (same_Some (summary_view w.now) c.brings e, refl)

pub root_brings : (q : Problem) (p : Package) → is_root q p ≡ true → (summary_of q p ≡ q.brings) × (is_known q p ≡ true)
root_brings q p h =
    (ap (λ b. cond b q.brings (brings_of (candidate_of q p))) h, ap (λ b. b || is_some (candidate_of q p)) h)

pub other_brings : (q : Problem) (p : Package) → is_root q p ≡ false
    → (summary_of q p ≡ brings_of (candidate_of q p)) × (is_known q p ≡ is_some (candidate_of q p))
other_brings q p h =
    (ap (λ b. cond b q.brings (brings_of (candidate_of q p))) h, ap (λ b. b || is_some (candidate_of q p)) h)
