-- Of two listed packages that serve a dependency the later one is its target.
use Rattle.std.proofs.Common.{◌≡◌, [], ◌∷◌, Some, refl}
use Rattle.model.specs.Content.{Content, target_of}
use Rattle.model.specs.Order.{IsContent}
use Rattle.model.proofs.Examples.Small.{text_a, version_1_0, version_2_0, on_any, locked, demo, formed}

-- two versions of one name, in two classes
abbrev both_listed : Content
both_listed = locked text_a version_1_0 [] ∷ locked text_a version_2_0 [] ∷ demo (0 ∷ 1 ∷ []) ∷ []

both_listed-formed : IsContent both_listed
both_listed-formed = formed both_listed refl

-- the older one serves it as well
pub newer_is_target : target_of both_listed 2 (on_any text_a) ≡ Some 1
newer_is_target = refl

-- and is the target where it is listed alone
pub older_alone : target_of
    (locked text_a version_1_0 [] ∷ locked text_a version_2_0 [] ∷ demo (0 ∷ []) ∷ []) 2 (on_any text_a) ≡ Some 0
older_alone = refl
