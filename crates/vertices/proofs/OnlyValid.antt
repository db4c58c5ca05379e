-- What is read is valid.
use Rattle.std.proofs.Common.{◌≡◌, ℕ, ◌<◌, ◌^◌, List, Bool, true, false, cond, ◌&&◌, nat_lt, Option, Some, None, Ok}
use Rattle.std.proofs.Common.{codes, refl, subst}
use Rattle.std.specs.Str.Parse.{digits_value}
use Rattle.std.proofs.lemmas.Bool.{ltb-true}
use Rattle.semver.specs.Grammar.{IsValid}
use Rattle.semver.specs.Parse.{Parts, version_parts}
use Rattle.semver.proofs.Grammar.{version_parts-sound}
use Rattle.model.specs.Outcome.{◌>>=◌}
use Rattle.model.specs.Summary.{same_text}
use Rattle.model.specs.Selection.{Class, patch, minor, major}
use Rattle.model.specs.Vertices.{Owner, the_root, version_of, Vertex, root}
use Rattle.features.specs.Names.{after_text, is_package_name, is_feature_name}
use Rattle.classes.specs.Classes.{is_plain_number, number_of}
use Rattle.vertices.specs.Texts.{Reading, needed, parted, package_name_of, feature_name_of, version_of_text, above_zero}
use Rattle.vertices.specs.Texts.{lesser_class, class_or, class_of_text, index_of, named_version_of_text, owner_of_text}
use Rattle.vertices.specs.Texts.{package_of_text, dependency_of_text, feature_of_text, ask_of_text, kinded_vertex}
use Rattle.vertices.specs.Texts.{vertex_of_text}
use Rattle.vertices.proofs.Bound.{steps, same-Ok, same-Some, some, chosen}
use Rattle.vertices.proofs.MadeOf.{named_version, package_made, dependency_made, feature_made, ask_made}
use Rattle.vertices.proofs.TextLaws.{version-or}
use Rattle.features.specs.inner.Valid.{IsPackageName, IsFeatureName}
use Rattle.vertices.specs.inner.Valid.{IsValidClass, IsIndex, IsValidOwner, IsValidVertex}

either : {A P : Type 0} (b : Bool) (x y : Reading A) (v : A) → (x ≡ Ok v → P) → (y ≡ Ok v → P) → cond b x y ≡ Ok v → P
either true x y v f g h = f h
either false x y v f g h = g h

number-fits : (text : List ℕ) (n : ℕ) → number_of text ≡ Some n → n < 2 ^ 64
number-fits text n h = by (is_plain_number text) (nat_lt (digits_value 10 text) (2 ^ 64)) refl h
  where
    by : (a b : Bool) → nat_lt (digits_value 10 text) (2 ^ 64) ≡ b
        → cond (a && b) (Some (digits_value 10 text)) None ≡ Some n → n < 2 ^ 64
    by true true is h = subst (λ m. m < 2 ^ 64) (same-Some h) (ltb-true _ _ is)
    by true false is h = cc
    by false b is h = cc

needed-fits : (text : List ℕ) (n : ℕ) → needed (number_of text) ≡ Ok n → n < 2 ^ 64
needed-fits text n h = number-fits text n (some (number_of text) _ n h)

above-fits : (text : List ℕ) (n : ℕ) → above_zero text ≡ Ok n → (0 < n) × (n < 2 ^ 64)
unfolding above_zero
above-fits text n h =
    let s = steps (needed (number_of text)) _ n h in
    let c = chosen (nat_lt 0 s.at) s.at n _ s.then in
    subst (λ m. (0 < m) × (m < 2 ^ 64)) c.1 (ltb-true _ _ c.0, needed-fits text s.at s.first)

index-fits : (text : List ℕ) (n : ℕ) → index_of text ≡ Ok n → IsIndex n
unfolding index_of
index-fits text n h =
    let s = steps (needed (number_of text)) _ n h in
    let c = chosen (nat_lt s.at 4294967296) s.at n _ s.then in
    subst (λ m. IsIndex m) c.1 (ltb-true _ _ c.0)

lesser-fits : (text : List ℕ) (o : Option (List ℕ)) (c : Class) → lesser_class text o ≡ Ok c → IsValidClass c
lesser-fits text None c h = let s = steps (above_zero text) (λ n. Ok (minor n)) c h in
    subst (λ k. IsValidClass k) (same-Ok _ _ s.then) (above-fits text s.at s.first)
lesser-fits text (Some rest) c h = let s = steps (needed (number_of rest)) (λ n. Ok (patch n)) c h in
    subst (λ k. IsValidClass k) (same-Ok _ _ s.then) (needed-fits rest s.at s.first)

class-fits : (text : List ℕ) (c : Class) → class_of_text text ≡ Ok c → IsValidClass c
class-fits text c h = by (after_text (codes "0.") text) h
  where
    by : (o : Option (List ℕ)) → class_or text o ≡ Ok c → IsValidClass c
    by None h = let s = steps (above_zero text) (λ n. Ok (major n)) c h in
        subst (λ k. IsValidClass k) (same-Ok _ _ s.then) (above-fits text s.at s.first)
    by (Some rest) h = lesser-fits rest (after_text (codes "0.") rest) c h

version-fits : (text : List ℕ) (v : Parts) → version_of_text text ≡ Ok v → IsValid v
version-fits text v h = (version_parts-sound text v (version-or (version_parts text) v h)).1

name-fits : (text n : List ℕ) → package_name_of text ≡ Ok n → IsPackageName n
name-fits text n h = let c = chosen (is_package_name text) text n _ h in subst (λ m. IsPackageName m) c.1 c.0

feature-fits : (text f : List ℕ) → feature_name_of text ≡ Ok f → IsFeatureName f
feature-fits text f h = let c = chosen (is_feature_name text) text f _ h in subst (λ m. IsFeatureName m) c.1 c.0

named-fits : (text : List ℕ) (p : List ℕ × Parts) → named_version_of_text text ≡ Ok p → IsPackageName p.0 × IsValid p.1
named-fits text p h =
    let m = named_version text p h in
    subst (λ (r : List ℕ × Parts). IsPackageName r.0 × IsValid r.1) m.is
    (name-fits m.parts.0 m.name m.named, version-fits m.parts.1 m.of_version m.versioned)

owner-fits : (text : List ℕ) (o : Owner) → owner_of_text text ≡ Ok o → IsValidOwner o
owner-fits text o h =
    either (same_text text (codes "root")) (Ok the_root) (named_version_of_text text >>= λ p. Ok (version_of p.0 p.1)) o
    (λ e. subst (λ x. IsValidOwner x) (same-Ok _ _ e) tt)
    (λ e. let s = steps (named_version_of_text text) (λ p. Ok (version_of p.0 p.1)) o e in
    subst (λ x. IsValidOwner x) (same-Ok _ _ s.then) (named-fits text s.at s.first)) h

package-fits : (text : List ℕ) (v : Vertex) → package_of_text text ≡ Ok v → IsValidVertex v
package-fits text v h =
    let m = package_made text v h in
    subst (λ x. IsValidVertex x) m.is
    (name-fits m.parts.0 m.name m.named, class-fits m.parts.1 m.of_class m.classed)

dependency-fits : (text : List ℕ) (v : Vertex) → dependency_of_text text ≡ Ok v → IsValidVertex v
dependency-fits text v h =
    let m = dependency_made text v h in
    subst (λ x. IsValidVertex x) m.is
    (owner-fits m.parts.0 m.owner m.owned, index-fits m.parts.1 m.index m.indexed)

asked-fits : (text : List ℕ) (v : Vertex) → feature_of_text text ≡ Ok v → IsValidVertex v
asked-fits text v h =
    let m = feature_made text v h in
    subst (λ x. IsValidVertex x) m.is (
      name-fits m.parts.0 m.name m.named,
      class-fits m.more.0 m.of_class m.classed,
      feature-fits m.more.1 m.feature m.featured,
    )

ask-fits : (text : List ℕ) (v : Vertex) → ask_of_text text ≡ Ok v → IsValidVertex v
ask-fits text v h =
    let m = ask_made text v h in
    let both = named-fits m.parts.0 m.owner m.owned in
    subst (λ x. IsValidVertex x) m.is
    (both.0, both.1, index-fits m.more.0 m.index m.indexed, feature-fits m.more.1 m.feature m.featured)

kinded-fits : (word rest : List ℕ) (v : Vertex) → kinded_vertex word rest ≡ Ok v → IsValidVertex v
kinded-fits word rest v h =
    either (same_text word (codes "pkg")) _ _ v (package-fits rest v)
    (either (same_text word (codes "dep")) _ _ v (dependency-fits rest v)
    (either (same_text word (codes "feat")) _ _ v (asked-fits rest v)
    (either (same_text word (codes "ask")) _ _ v (ask-fits rest v) (λ e. cc)))) h

pub vertex-fits : (text : List ℕ) (v : Vertex) → vertex_of_text text ≡ Ok v → IsValidVertex v
vertex-fits text v h =
    either (same_text text (codes "root")) (Ok root) (parted 32 text >>= λ p. kinded_vertex p.0 p.1) v
    (λ e. subst (λ x. IsValidVertex x) (same-Ok _ _ e) tt)
    (λ e. let s = steps (parted 32 text) (λ p. kinded_vertex p.0 p.1) v e in kinded-fits s.at.0 s.at.1 v s.then) h
