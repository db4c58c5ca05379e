-- Each kind of axiom once, with its exact terms, and terms that just miss it.
use Rattle.std.proofs.Common.{◌≡◌, ℕ, List, [], ◌∷◌, true, false, refl}
use Rattle.std.specs.Prelude.{codes}
use Rattle.model.specs.Summary.{Dependency, feature, dependency, dependency_feature, weak_feature, Table}
use Rattle.model.specs.Content.{Problem}
use Rattle.model.specs.Selection.{major}
use Rattle.model.specs.Vertices.{Owner, the_root, version_of, Vertex, root, pkg, dep, feat, ask, absent, present}
use Rattle.model.specs.Vertices.{version}
use Rattle.model.specs.Axioms.{Term, at, Root, Needed, Target, HasFeature, WantsFeature, FeatureOnFeature}
use Rattle.model.specs.Axioms.{FeatureOnDependency, FeatureAsks, NewestListed, WeakFeature}
use Rattle.model.specs.Causes.{of_root, of_need, of_target, of_feature, of_list, of_ask, of_entry, of_enabling}
use Rattle.model.specs.Causes.{of_asking, of_newest, of_weak, is_cause}
use Rattle.model.specs.inner.Instances.{is_instance}
use Rattle.model.proofs.Examples.Pieces.{plain, exactly, within, from, on, candidate, demo, no_features, class_1}
use Rattle.model.proofs.Examples.Pieces.{class_2, one, HasTerms}

abbrev text_a : List ℕ
text_a = codes "a"

abbrev text_b : List ℕ
text_b = codes "b"

abbrev text_f : List ℕ
text_f = codes "f"

abbrev text_g : List ℕ
text_g = codes "g"

abbrev text_h : List ℕ
text_h = codes "h"

-- a as `>=1` with the feature f, and as `2` under another name
abbrev wide : Dependency
wide = record {
  name = text_a;
  real_name = text_a;
  requirement = from 1;
  optional = false;
  default_features =
      false;
  features = text_f ∷ [];
}

abbrev narrow : Dependency
narrow = record {
  name = codes "n";
  real_name = text_a;
  requirement = within 2;
  optional =
      false;
  default_features = false;
  features = [];
}

abbrev maybe_b : Dependency
maybe_b = record {
  name = text_b;
  real_name = text_b;
  requirement = exactly 1 0 0;
  optional =
      true;
  default_features = false;
  features = [];
}

-- f has an entry of each kind, and g itself
abbrev table : Table
table =
    (text_f, feature text_g ∷ dependency text_b ∷ dependency_feature text_b text_h ∷ weak_feature text_b text_g ∷ [])
    ∷ (text_g, feature text_g ∷ []) ∷ []

-- a 2.0.0 needs z, of which there is nothing
abbrev small : Problem
small = demo (wide ∷ narrow ∷ [])
    ((
      text_a,
      candidate (plain 1 0 0) (maybe_b ∷ []) table
          ∷ candidate (plain 2 0 0) (on (codes "z") [] ∷ []) no_features ∷ [],
    )
    ∷ (text_b, candidate (plain 1 0 0) [] ((text_h, []) ∷ []) ∷ candidate (plain 1 1 0) [] no_features ∷ []) ∷ [])

abbrev a1 : Vertex
a1 = pkg text_a (major 1)

abbrev a_1_0_0 : Owner
a_1_0_0 = version_of text_a (plain 1 0 0)

abbrev b1 : Vertex
b1 = pkg text_b (major 1)

-- the version a 1.0.0 with a feature that is on there
abbrev a_with : List ℕ → List Term → List Term
a_with f ts = one a1 (version (plain 1 0 0)) ∷ one (feat text_a (major 1) f) present ∷ ts

pub root_counts : HasTerms small of_root Root (one root absent ∷ [])
root_counts = (refl, refl, refl, refl)

pub root_counts-not : is_instance small Root (one root present ∷ []) ≡ false
root_counts-not = refl

pub root_needs : HasTerms small (of_need the_root 0) Needed (one root present ∷ one (dep the_root 0) absent ∷ [])
root_needs = (refl, refl, refl, refl)

-- an optional dependency isn't needed
pub optional_unneeded : is_instance small Needed (one a1 (version (plain 1 0 0)) ∷ one (dep a_1_0_0 0) absent ∷ [])
    ≡ false
optional_unneeded = refl

-- nothing matches z: the term on its vertex would be full, and is left out
pub full_dropped : HasTerms small (of_need (version_of text_a (plain 2 0 0)) 0) Needed
    (one (pkg text_a (major 2)) (version (plain 2 0 0)) ∷ [])
full_dropped = (refl, refl, refl, refl)

pub full_written : is_instance small Needed (one (pkg text_a (major 2)) (version (plain 2 0 0))
    ∷ one (dep (version_of text_a (plain 2 0 0)) 0) absent ∷ []) ≡ false
full_written = refl

pub leads_to_match : HasTerms small (of_target a_1_0_0 0 (major 1)) Target
    (one (dep a_1_0_0 0) class_1 ∷ at b1 (absent ∷ version (plain 1 1 0) ∷ []) ∷ [])
leads_to_match = (refl, refl, refl, refl)

pub leads_to_match-state_less : is_instance small Target (one (dep a_1_0_0 0) class_1 ∷ one b1 absent ∷ []) ≡ false
leads_to_match-state_less = refl

pub feature_is_had : HasTerms small (of_feature text_b (major 1) text_h) HasFeature
    (one (feat text_b (major 1) text_h) present ∷ at b1 (absent ∷ version (plain 1 1 0) ∷ []) ∷ [])
feature_is_had = (refl, refl, refl, refl)

-- a weak entry asks for g, which nothing has: all states of b's vertex are among these, and only the feature is left
pub feature_nowhere : HasTerms small (of_feature text_b (major 1) text_g) HasFeature
    (one (feat text_b (major 1) text_g) present ∷ [])
feature_nowhere = (refl, refl, refl, refl)

-- nobody speaks of f at b
pub feature_unknown : is_instance small HasFeature (one (feat text_b (major 1) text_f) present ∷ []) ≡ false
feature_unknown = refl

pub list_asks : HasTerms small (of_list the_root 0 (major 1) text_f) WantsFeature
    (one (dep the_root 0) class_1 ∷ one (feat text_a (major 1) text_f) absent ∷ [])
list_asks = (refl, refl, refl, refl)

pub list_asks_no_other : is_instance small WantsFeature
    (one (dep the_root 0) class_1 ∷ one (feat text_a (major 1) text_g) absent ∷ []) ≡ false
list_asks_no_other = refl

pub entry_is_passed_on : HasTerms small (of_ask text_a (plain 1 0 0) 0 text_h (major 1)) WantsFeature
    (one (ask text_a (plain 1 0 0) 0 text_h) present ∷ one (dep a_1_0_0 0) class_1
    ∷ one (feat text_b (major 1) text_h) absent ∷ [])
entry_is_passed_on = (refl, refl, refl, refl)

-- a weak entry has no vertex of its own
pub weak_entry_asks_not : is_instance small WantsFeature (one (ask text_a (plain 1 0 0) 0 text_g) present
    ∷ one (dep a_1_0_0 0) class_1 ∷ one (feat text_b (major 1) text_g) absent ∷ []) ≡ false
weak_entry_asks_not = refl

pub feature_turns_on : HasTerms small (of_entry text_a (plain 1 0 0) text_f text_g) FeatureOnFeature
    (a_with text_f (one (feat text_a (major 1) text_g) absent ∷ []))
feature_turns_on = (refl, refl, refl, refl)

-- not the other way
pub feature_turns_back : is_instance small FeatureOnFeature
    (a_with text_g (one (feat text_a (major 1) text_f) absent ∷ [])) ≡ false
feature_turns_back = refl

-- g turns on g: two terms would stand on one vertex, and the instance is left out
pub itself_left_out : is_cause small (of_entry text_a (plain 1 0 0) text_g text_g) ≡ false
itself_left_out = refl

pub dep_entry_enables : HasTerms small
    (of_enabling text_a (plain 1 0 0) text_f (dependency text_b) 0) FeatureOnDependency
    (a_with text_f (one (dep a_1_0_0 0) absent ∷ []))
dep_entry_enables = (refl, refl, refl, refl)

pub other_entry_enables : HasTerms small (of_enabling text_a (plain 1 0 0) text_f (dependency_feature text_b text_h) 0)
    FeatureOnDependency (a_with text_f (one (dep a_1_0_0 0) absent ∷ []))
other_entry_enables = (refl, refl, refl, refl)

-- g has no such entry, and a weak one doesn't enable
pub nothing_enables : is_instance small FeatureOnDependency (a_with text_g (one (dep a_1_0_0 0) absent ∷ [])) ≡ false
nothing_enables = refl

pub weak_enables_not : is_cause small (of_enabling text_a (plain 1 0 0) text_f (weak_feature text_b text_g) 0) ≡ false
weak_enables_not = refl

pub entry_asks : HasTerms small (of_asking text_a (plain 1 0 0) text_f text_h 0) FeatureAsks
    (a_with text_f (one (ask text_a (plain 1 0 0) 0 text_h) absent ∷ []))
entry_asks = (refl, refl, refl, refl)

pub entry_asks_no_other : is_instance small FeatureAsks
    (a_with text_f (one (ask text_a (plain 1 0 0) 0 text_g) absent ∷ [])) ≡ false
entry_asks_no_other = refl

-- a as `>=1` in class 1, and as `2` in class 2, which `>=1` matches too
pub newer_is_listed : HasTerms small (of_newest the_root 0 1 (major 1) (major 2)) NewestListed
    (one (dep the_root 0) class_1 ∷ one (dep the_root 1) class_2
    ∷ one (pkg text_a (major 2)) (version (plain 2 0 0)) ∷ [])
newer_is_listed = (refl, refl, refl, refl)

-- the two in either order are one instance
pub newer_in_any_order : is_instance small NewestListed (one (dep the_root 1) class_2
    ∷ one (pkg text_a (major 2)) (version (plain 2 0 0)) ∷ one (dep the_root 0) class_1 ∷ []) ≡ true
newer_in_any_order = refl

-- the second has no class 1
pub older_not_listed : is_instance small NewestListed
    (one (dep the_root 0) class_2 ∷ one (dep the_root 1) class_1 ∷ one a1 (version (plain 1 0 0)) ∷ []) ≡ false
older_not_listed = refl

pub weak_entry_asks : HasTerms small (of_weak text_a (plain 1 0 0) text_f text_g 0 (major 1)) WeakFeature
    (a_with text_f (one (dep a_1_0_0 0) class_1 ∷ one (feat text_b (major 1) text_g) absent ∷ []))
weak_entry_asks = (refl, refl, refl, refl)

-- `b/h` is no weak entry
pub strong_is_not_weak : is_instance small WeakFeature
    (a_with text_f (one (dep a_1_0_0 0) class_1 ∷ one (feat text_b (major 1) text_h) absent ∷ [])) ≡ false
strong_is_not_weak = refl
