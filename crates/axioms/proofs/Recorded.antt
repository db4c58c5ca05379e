-- What stands at the place of a candidate.
use Rattle.std.proofs.Common.{◌≡◌, ℕ, Bool, false, List, Option, Some, None, option_map, slice_get, refl, sym, ap, ◌∙◌}
use Rattle.std.proofs.lemmas.Option.{none-some, same_Some, slice_get-map}
use Rattle.model.specs.Summary.{Summary}
use Rattle.model.specs.Content.{Candidate, candidates_of, passes}
use Rattle.model.specs.Candidates.{Record, as_candidate}
use Rattle.catalogue.specs.Stores.{CatalogueView, candidates_at, rows_by_name, Said, said}
use Rattle.catalogue.proofs.Lookups.{candidates_are}

none_passes : (t : Summary → Bool) (o : Option Record) → None ≡ option_map said o
    → false ≡ passes (λ (c : Candidate). t c.brings) (option_map as_candidate o)
none_passes t None e = refl
none_passes t (Some r) e = absurd (none-some (said r) e)

some_passes : (t : Summary → Bool) (o : Option Record) (s : Said) → Some s ≡ option_map said o
    → t s.brings ≡ passes (λ (c : Candidate). t c.brings) (option_map as_candidate o)
some_passes t None s e = absurd (none-some s (sym e))
some_passes t (Some r) s e = ap (λ (s : Said). t s.brings) (same_Some s (said r) e)

placed : (c : CatalogueView) (name : List ℕ) (i : ℕ)
    → option_map as_candidate (slice_get (candidates_at c name) i) ≡ slice_get (candidates_of (rows_by_name c) name) i
placed c name i =
    sym (slice_get-map as_candidate (candidates_at c name) i) ∙ ap (λ cs. slice_get cs i) (sym (candidates_are c name))

-- there is none, ..
pub none_at : (t : Summary → Bool) (c : CatalogueView) (name : List ℕ) (i : ℕ)
    → None ≡ option_map said (slice_get (candidates_at c name) i)
    → false ≡ passes (λ (c : Candidate). t c.brings) (slice_get (candidates_of (rows_by_name c) name) i)
none_at t c name i e =
    none_passes t (slice_get (candidates_at c name) i) e ∙ ap (passes (λ (c : Candidate). t c.brings)) (placed c name i)

-- .. or there is one
pub one_at : (t : Summary → Bool) (c : CatalogueView) (name : List ℕ) (i : ℕ) (s : Said)
    → Some s ≡ option_map said (slice_get (candidates_at c name) i)
    → t s.brings ≡ passes (λ (c : Candidate). t c.brings) (slice_get (candidates_of (rows_by_name c) name) i)
one_at t c name i s e = some_passes t (slice_get (candidates_at c name) i) s e
    ∙ ap (passes (λ (c : Candidate). t c.brings)) (placed c name i)
