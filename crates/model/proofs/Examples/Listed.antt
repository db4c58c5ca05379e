-- All causes of two small inputs.
use Rattle.std.proofs.Common.{◌≡◌, [], ◌∷◌, filter, Bool, true, false, refl}
use Rattle.std.specs.Prelude.{codes}
use Rattle.model.specs.Content.{Problem}
use Rattle.model.specs.Selection.{major}
use Rattle.model.specs.Vertices.{Owner, the_root, version_of}
use Rattle.model.specs.Tables.{default_feature}
use Rattle.model.specs.Causes.{Cause, of_root, of_need, of_target, of_feature, of_list, of_newest}
use Rattle.model.specs.inner.Listed.{causes}
use Rattle.model.proofs.Examples.Pieces.{plain, within, from, on, candidate, demo, no_features}
use Rattle.model.proofs.Examples.Thirteen.{text_a, text_b, unmeetable}

abbrev b_1_0_0 : Owner
b_1_0_0 = version_of text_b (plain 1 0 0)

-- the input of the refusal in thirteen steps has twelve
pub twelve : causes unmeetable ≡ of_root
    ∷ of_need the_root 0 ∷ of_target the_root 0 (major 1) ∷ of_list the_root 0 (major 1) default_feature
    ∷ of_need the_root 1 ∷ of_target the_root 1 (major 1) ∷ of_list the_root 1 (major 1) default_feature
    ∷ of_need b_1_0_0 0 ∷ of_target b_1_0_0 0 (major 1) ∷ of_list b_1_0_0 0 (major 1) default_feature
    ∷ of_feature text_a (major 1) default_feature ∷ of_feature text_b (major 1) default_feature ∷ []
twelve = refl

-- a root that needs a as `>=1`, and as `2` under another name
abbrev twice : Problem
twice = demo (on text_a (from 1) ∷ record (on (codes "n") (within 2)) { real_name = text_a } ∷ [])
    ((text_a, candidate (plain 1 0 0) [] no_features ∷ candidate (plain 2 0 0) [] no_features ∷ []) ∷ [])

abbrev is_newest : Cause → Bool
is_newest (of_newest o i j k m) = true
is_newest _ = false

-- where `>=1` leads to class 1 and `2` to class 2, the newer is listed too: one cause
pub one_newest : filter is_newest (causes twice) ≡ of_newest the_root 0 1 (major 1) (major 2) ∷ []
one_newest = refl
