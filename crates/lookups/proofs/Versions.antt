-- Tests of the versions of a name are tests of its candidates.
use Rattle.std.proofs.Common.{◌≡◌, Bool, ◌&&◌, List, [], ◌∷◌, map, refl, sym, ap, ◌∙◌}
use Rattle.std.specs.List.{list_any, list_all}
use Rattle.semver.specs.Parse.{Parts}
use Rattle.semver.specs.Identifiers.{parts_of}
use Rattle.semver.specs.EvalViews.{matches_views}
use Rattle.semver.specs.declared.Version.{Version}
use Rattle.model.specs.Summary.{Dependency}
use Rattle.model.specs.Content.{Candidate, candidates_of}
use Rattle.model.specs.Axioms.{matched}
use Rattle.model.specs.Candidates.{Record, as_candidate}
use Rattle.model.proofs.Mapped.{any-map}
use Rattle.catalogue.specs.Stores.{CatalogueView, candidates_at, rows_by_name}
use Rattle.catalogue.proofs.Lookups.{candidates_are}

pub all-map : {X A : Type 0} (p : A → Bool) (view : X → A) (xs : List X)
    → list_all p (map view xs) ≡ list_all (λ x. p (view x)) xs
all-map p view [] = refl
all-map p view (x ∷ xs) = ap (λ b. p (view x) && b) (all-map p view xs)

-- the versions of the candidates
pub any_candidate : (f : Parts → Bool) (vs : List Version) (rs : List Record)
    → map parts_of vs ≡ map (λ r. r.version) rs
    → list_any (λ v. f (parts_of v)) vs ≡ list_any (λ (c : Candidate). f c.version) (map as_candidate rs)
any_candidate f vs rs e = sym (any-map f parts_of vs) ∙ ap (list_any f) e ∙ any-map f (λ (r : Record). r.version) rs
    ∙ sym (any-map (λ (c : Candidate). f c.version) as_candidate rs)

-- some version is matched
pub matched_is : (c : CatalogueView) (d : Dependency) (vs : List Version)
    → map parts_of vs ≡ map (λ r. r.version) (candidates_at c d.real_name)
    → list_any (λ v. matches_views d.requirement (parts_of v)) vs
    ≡ list_any (matched d) (candidates_of (rows_by_name c) d.real_name)
matched_is c d vs e =
    any_candidate (matches_views d.requirement) vs (candidates_at c d.real_name) e
    ∙ ap (list_any (matched d)) (sym (candidates_are c d.real_name))
