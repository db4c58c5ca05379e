-- Two classes are equal exactly where they stand for one.
use Rattle.std.proofs.Common.{◌≡◌, refl}
use Rattle.classes.specs.Classes.{class_view}
use Rattle.classes.specs.contracts.class.ClassPartialEq.TheImpl as class_eq
use Rattle.classes.specs.declared.class.Class.{Class}
use Rattle.classes.specs.declared.class.Class.TheVariants as class
use Rattle.model.specs.Vertices.{same_class}

pub class_same : (a b : Class) → (class_eq.eq-value).it a b ≡ same_class (class_view a) (class_view b)
class_same (class.Patch n) (class.Patch m) = refl
class_same (class.Patch n) (class.Minor m) = refl
class_same (class.Patch n) (class.Major m) = refl
class_same (class.Minor n) (class.Patch m) = refl
class_same (class.Minor n) (class.Minor m) = refl
class_same (class.Minor n) (class.Major m) = refl
class_same (class.Major n) (class.Patch m) = refl
class_same (class.Major n) (class.Minor m) = refl
class_same (class.Major n) (class.Major m) = refl
