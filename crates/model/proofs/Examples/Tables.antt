-- Feature tables with implicit features and `default`, and each of their faults.
use Rattle.std.proofs.Common.{◌≡◌, List, [], ◌∷◌, true, false, Ok, Err, refl}
use Rattle.model.specs.Summary.{feature, dependency, weak_feature}
use Rattle.model.specs.Tables.{DepName, default_feature, with_implicit, no_such_feature, no_such_dependency}
use Rattle.model.specs.Tables.{not_optional, first_with, table_of}
use Rattle.model.proofs.Examples.Small.{text_b, text_f, text_g, text_h}

abbrev optional_b : List DepName
optional_b = record { name = text_b; optional = true } ∷ []

abbrev plain_b : List DepName
plain_b = record { name = text_b; optional = false } ∷ []

-- nothing is written, and there is a feature `default`
pub empty_table : table_of [] [] ≡ Ok ((default_feature, []) ∷ [])
unfolding table_of with_implicit first_with
empty_table = refl

-- an optional dependency has its implicit feature
pub implicit : table_of optional_b [] ≡ Ok ((text_b, dependency text_b ∷ []) ∷ (default_feature, []) ∷ [])
unfolding table_of with_implicit first_with
implicit = refl

-- not where some entry is `dep:b`
pub named_by_dep : table_of optional_b ((text_f, dependency text_b ∷ []) ∷ [])
    ≡ Ok ((default_feature, []) ∷ (text_f, dependency text_b ∷ []) ∷ [])
unfolding table_of with_implicit first_with
named_by_dep = refl

-- but a weak entry leaves it in place
pub weak_leaves : table_of optional_b ((text_f, weak_feature text_b text_g ∷ []) ∷ [])
    ≡ Ok ((text_b, dependency text_b ∷ []) ∷ (default_feature, []) ∷ (text_f, weak_feature text_b text_g ∷ []) ∷ [])
unfolding table_of with_implicit first_with
weak_leaves = refl

-- a feature that is called b stands in its place
pub explicit : table_of optional_b ((text_b, []) ∷ []) ≡ Ok ((text_b, []) ∷ (default_feature, []) ∷ [])
unfolding table_of with_implicit first_with
explicit = refl

-- F1
pub no_feature : table_of [] ((text_f, feature text_g ∷ []) ∷ []) ≡ Err (no_such_feature, text_f)
unfolding table_of with_implicit first_with
no_feature = refl

-- F2, also of a weak entry
pub no_dependency : table_of [] ((text_f, weak_feature text_b text_g ∷ []) ∷ []) ≡ Err (no_such_dependency, text_f)
unfolding table_of with_implicit first_with
no_dependency = refl

-- a weak entry may name a dependency that isn't optional
pub weak_on_plain : table_of plain_b ((text_f, weak_feature text_b text_g ∷ []) ∷ [])
    ≡ Ok ((default_feature, []) ∷ (text_f, weak_feature text_b text_g ∷ []) ∷ [])
unfolding table_of with_implicit first_with
weak_on_plain = refl

-- F3
pub plain : table_of plain_b ((text_f, dependency text_b ∷ []) ∷ []) ≡ Err (not_optional, text_f)
unfolding table_of with_implicit first_with
plain = refl

-- the lowest number is answered, though another fault stands first
pub lowest : table_of plain_b ((text_f, dependency text_b ∷ []) ∷ (text_g, feature text_h ∷ []) ∷ [])
    ≡ Err (no_such_feature, text_g)
unfolding table_of with_implicit first_with
lowest = refl
