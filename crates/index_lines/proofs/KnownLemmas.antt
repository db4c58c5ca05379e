-- A part of a line that tests as the same as a dependency, and has the texts that this was made of, says just this.
use Rattle.std.proofs.Common.{◌≡◌, ℕ, List, true, unwrap_or, Ok, sym, ap, subst, ◌∙◌}
use Rattle.std.specs.Bool.{beq}
use Rattle.std.specs.Cmp.{booleans_Decides}
use Rattle.semver.specs.Parse.{Held}
use Rattle.model.specs.Outcome.{◌>>=◌}
use Rattle.model.specs.Summary as model
use Rattle.model.specs.Summary.{same_text}
use Rattle.model.proofs.Same.{both, text-same}
use Rattle.features.specs.Views.{requirement_view, dependency_view}
use Rattle.features.specs.declared.dependency.DependencyParts.{DependencyParts}
use Rattle.index_lines.specs.Shapes.{Line, PartView}
use Rattle.index_lines.specs.Records.{feature_names, dependency_read, required_part}
use Rattle.index_lines.specs.inner.Known.{IsRequirement, IsMadeOf, IsSaid, same_names, same_flags, same_parts}

-- the dependency that a part is with these features
abbrev with_features : PartView → List Held → List (List ℕ) → Line model.Dependency
with_features p requirement features = Ok (record {
  name = p.name;
  real_name = unwrap_or p.real_name p.name;
  requirement = requirement;
  optional = p.optional;
  default_features = p.default_features;
  features = features;
})

pub says : (p : PartView) (d : DependencyParts) (requirement : List ℕ) (features : List (List ℕ))
    → IsMadeOf requirement features d → same_parts d p ≡ true → requirement ≡ p.requirement → features ≡ p.features
    → IsSaid p d
unfolding dependency_read
says p d requirement features made same r f =
    let t = both (same_names d p) (same_flags d p) same in
    let names = both (same_text d.name p.name) (same_text d.real_name (unwrap_or p.real_name p.name)) t.0 in
    let flags = both (beq d.optional p.optional) (beq d.default_features p.default_features) t.1 in
    let named : feature_names p.features ≡ Ok d.features.items = ap feature_names (sym f) ∙ made.features in
    let read = with_features p (requirement_view d.requirement) in
    record {
      requirement = subst (λ text. IsRequirement text d.requirement) r made.requirement;
      dependency = ap (λ fs. fs >>= read) named
          ∙ parts (sym (text-same d.name p.name names.0))
          (sym (text-same d.real_name (unwrap_or p.real_name p.name) names.1))
          (sym ((booleans_Decides d.optional p.optional).0 flags.0))
          (sym ((booleans_Decides d.default_features p.default_features).0 flags.1));
    }
  where
    parts : p.name ≡ d.name → unwrap_or p.real_name p.name ≡ d.real_name → p.optional ≡ d.optional
        → p.default_features ≡ d.default_features
        → with_features p (requirement_view d.requirement) d.features.items ≡ Ok (dependency_view d)
    parts n m o e = λ i. Ok (record {
      name = n i;
      real_name = m i;
      requirement = requirement_view d.requirement;
      optional = o i;
      default_features = e i;
      features = d.features.items;
    })

-- texts and a dependency that are the same are made of one another
pub same_made : (r r' : List ℕ) (fs fs' : List (List ℕ)) (d d' : DependencyParts) → IsMadeOf r fs d → r' ≡ r → fs' ≡ fs
    → d' ≡ d → IsMadeOf r' fs' d'
same_made r r' fs fs' d d' made rs fss ds =
    subst (IsMadeOf r' fs') (sym ds) (subst (λ gs. IsMadeOf r' gs d) (sym fss)
    (subst (λ text. IsMadeOf text fs d) (sym rs) made))

-- a part that says what another one says has its requirement
pub again_required : (p q : PartView) (d : DependencyParts) → q ≡ p → IsSaid q d
    → required_part p ≡ Ok (q, requirement_view d.requirement)
again_required p q d e says =
    ap required_part (sym e) ∙ ap (λ r. r >>= λ requirement. Ok (q, requirement)) says.requirement
