-- Owners that are kept in any order are one content: in package order, each with the places of its targets.
use Rattle.std.proofs.Common.{◌≡◌, [], ◌∷◌, List, refl}
use Rattle.model.specs.Content.{Problem}
use Rattle.model.specs.Vertices.{Owner, the_root, version_of}
use Rattle.model.specs.inner.ContentOf.{Kept, in_package_order, content_of}
use Rattle.model.proofs.Examples.Small.{text_a, text_b, version_1_0, version_2_0, on_any, candidate, asked_by_demo}
use Rattle.model.proofs.Examples.Small.{locked, demo}

-- the root needs a and b, and b needs a
abbrev both : Problem
both = asked_by_demo (on_any text_a ∷ on_any text_b ∷ [])
    ((text_a, candidate version_1_0 [] [] ∷ candidate version_2_0 [] [] ∷ [])
    ∷ (text_b, candidate version_1_0 (on_any text_a ∷ []) [] ∷ []) ∷ [])

abbrev newer_a : Owner
newer_a = version_of text_a version_2_0

abbrev only_b : Owner
only_b = version_of text_b version_1_0

abbrev kept : List Kept
kept = record { owner = the_root; targets = only_b ∷ newer_a ∷ [] } ∷ record { owner = only_b; targets = newer_a ∷ [] }
    ∷ record { owner = newer_a; targets = [] } ∷ []

pub gathered : content_of both kept
    ≡ locked text_a version_2_0 [] ∷ locked text_b version_1_0 (0 ∷ []) ∷ demo (0 ∷ 1 ∷ []) ∷ []
unfolding in_package_order
gathered = refl
