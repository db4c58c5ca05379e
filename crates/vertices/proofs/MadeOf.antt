-- What a text that reads as a vertex is made of.
use Rattle.std.proofs.Common.{◌≡◌, ℕ, List, Ok}
use Rattle.semver.specs.Parse.{Parts}
use Rattle.model.specs.Selection.{Class}
use Rattle.model.specs.Vertices.{Owner, Vertex, pkg, dep, feat, ask}
use Rattle.vertices.specs.Texts.{parted, package_name_of, feature_name_of, version_of_text, class_of_text, index_of}
use Rattle.vertices.specs.Texts.{named_version_of_text, owner_of_text, package_of_text, dependency_of_text}
use Rattle.vertices.specs.Texts.{feature_of_text, ask_of_text}
use Rattle.vertices.proofs.Bound.{steps, same-Ok}

-- `NAME@VERSION`
pub record NamedVersion (text : List ℕ) (p : List ℕ × Parts) : Type 0 where
  pub parts : List ℕ × List ℕ
  pub name : List ℕ
  pub of_version : Parts
  pub cut : parted 64 text ≡ Ok parts
  pub named : package_name_of parts.0 ≡ Ok name
  pub versioned : version_of_text parts.1 ≡ Ok of_version
  pub is : (name, of_version) ≡ p

pub named_version : (text : List ℕ) (p : List ℕ × Parts) → named_version_of_text text ≡ Ok p → NamedVersion text p
unfolding named_version_of_text
named_version text p h =
    let s = steps (parted 64 text) _ p h in
    let t = steps (package_name_of s.at.0) _ p s.then in
    let u = steps (version_of_text s.at.1) _ p t.then in
    record {
      parts = s.at;
      name = t.at;
      of_version = u.at;
      cut = s.first;
      named = t.first;
      versioned = u.first;
      is = same-Ok _ _ u.then;
    }

-- `NAME CLASS`
pub record PackageText (text : List ℕ) (v : Vertex) : Type 0 where
  pub parts : List ℕ × List ℕ
  pub name : List ℕ
  pub of_class : Class
  pub cut : parted 32 text ≡ Ok parts
  pub named : package_name_of parts.0 ≡ Ok name
  pub classed : class_of_text parts.1 ≡ Ok of_class
  pub is : pkg name of_class ≡ v

pub package_made : (text : List ℕ) (v : Vertex) → package_of_text text ≡ Ok v → PackageText text v
unfolding package_of_text
package_made text v h =
    let s = steps (parted 32 text) _ v h in
    let t = steps (package_name_of s.at.0) _ v s.then in
    let u = steps (class_of_text s.at.1) _ v t.then in
    record {
      parts = s.at;
      name = t.at;
      of_class = u.at;
      cut = s.first;
      named = t.first;
      classed = u.first;
      is = same-Ok _ _ u.then;
    }

-- `OWNER I`
pub record DependencyText (text : List ℕ) (v : Vertex) : Type 0 where
  pub parts : List ℕ × List ℕ
  pub owner : Owner
  pub index : ℕ
  pub cut : parted 32 text ≡ Ok parts
  pub owned : owner_of_text parts.0 ≡ Ok owner
  pub indexed : index_of parts.1 ≡ Ok index
  pub is : dep owner index ≡ v

pub dependency_made : (text : List ℕ) (v : Vertex) → dependency_of_text text ≡ Ok v → DependencyText text v
unfolding dependency_of_text
dependency_made text v h =
    let s = steps (parted 32 text) _ v h in
    let t = steps (owner_of_text s.at.0) _ v s.then in
    let u = steps (index_of s.at.1) _ v t.then in
    record {
      parts = s.at;
      owner = t.at;
      index = u.at;
      cut = s.first;
      owned = t.first;
      indexed = u.first;
      is = same-Ok _ _ u.then;
    }

-- `NAME CLASS F`
pub record FeatureText (text : List ℕ) (v : Vertex) : Type 0 where
  pub parts : List ℕ × List ℕ
  pub more : List ℕ × List ℕ
  pub name : List ℕ
  pub of_class : Class
  pub feature : List ℕ
  pub cut : parted 32 text ≡ Ok parts
  pub cut_again : parted 32 parts.1 ≡ Ok more
  pub named : package_name_of parts.0 ≡ Ok name
  pub classed : class_of_text more.0 ≡ Ok of_class
  pub featured : feature_name_of more.1 ≡ Ok feature
  pub is : feat name of_class feature ≡ v

pub feature_made : (text : List ℕ) (v : Vertex) → feature_of_text text ≡ Ok v → FeatureText text v
unfolding feature_of_text
feature_made text v h =
    let s = steps (parted 32 text) _ v h in
    let m = steps (parted 32 s.at.1) _ v s.then in
    let t = steps (package_name_of s.at.0) _ v m.then in
    let u = steps (class_of_text m.at.0) _ v t.then in
    let w = steps (feature_name_of m.at.1) _ v u.then in
    record {
      parts = s.at;
      more = m.at;
      name = t.at;
      of_class = u.at;
      feature = w.at;
      cut = s.first;
      cut_again = m.first;
      named = t.first;
      classed = u.first;
      featured = w.first;
      is = same-Ok _ _ w.then;
    }

-- `NAME@VERSION I G`
pub record AskText (text : List ℕ) (v : Vertex) : Type 0 where
  pub parts : List ℕ × List ℕ
  pub more : List ℕ × List ℕ
  pub owner : List ℕ × Parts
  pub index : ℕ
  pub feature : List ℕ
  pub cut : parted 32 text ≡ Ok parts
  pub cut_again : parted 32 parts.1 ≡ Ok more
  pub owned : named_version_of_text parts.0 ≡ Ok owner
  pub indexed : index_of more.0 ≡ Ok index
  pub featured : feature_name_of more.1 ≡ Ok feature
  pub is : ask owner.0 owner.1 index feature ≡ v

pub ask_made : (text : List ℕ) (v : Vertex) → ask_of_text text ≡ Ok v → AskText text v
unfolding ask_of_text
ask_made text v h =
    let s = steps (parted 32 text) _ v h in
    let m = steps (parted 32 s.at.1) _ v s.then in
    let t = steps (named_version_of_text s.at.0) _ v m.then in
    let u = steps (index_of m.at.0) _ v t.then in
    let w = steps (feature_name_of m.at.1) _ v u.then in
    record {
      parts = s.at;
      more = m.at;
      owner = t.at;
      index = u.at;
      feature = w.at;
      cut = s.first;
      cut_again = m.first;
      owned = t.first;
      indexed = u.first;
      featured = w.first;
      is = same-Ok _ _ w.then;
    }
