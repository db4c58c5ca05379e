-- An accepted derivation of three steps: the root needs a package of which there is no version.
use Rattle.std.proofs.Common.{[], ◌∷◌, List, refl}
use Rattle.model.specs.Content.{Problem}
use Rattle.model.specs.Vertices.{the_root, root, pkg, dep, feat, ask, absent, present}
use Rattle.model.specs.Axioms.{Root, Needed, at, without_full}
use Rattle.model.specs.Axioms.IsInstance.{root_is, needed}
use Rattle.model.specs.Derivation.{SameTerms, IsCombined, Step, given, combine, none_yet, one_more, IsAccepted}
use Rattle.model.proofs.Examples.Small.{text_a, on_any, asked_by_demo}

-- nothing serves it
abbrev without : Problem
without = asked_by_demo (on_any text_a ∷ []) []

abbrev step0 : Step
step0 = given Root (at root (absent ∷ []) ∷ [])

abbrev step1 : Step
step1 = given Needed (at root (present ∷ []) ∷ [])

abbrev step2 : Step
step2 = combine 0 1 root []

abbrev refusal : List Step
refusal = step0 ∷ step1 ∷ step2 ∷ []

-- the instance of Needed without its full term
same1 : SameTerms (at root (present ∷ []) ∷ [])
    (without_full without (at root (present ∷ []) ∷ at (dep the_root 0) (absent ∷ []) ∷ []))
same1 root = λ s. refl
same1 (pkg n k) = tt
same1 (dep o i) = tt
same1 (feat n k f) = tt
same1 (ask n v i g) = tt

same0 : SameTerms (at root (absent ∷ []) ∷ []) (without_full without (at root (absent ∷ []) ∷ []))
same0 root = λ s. refl
same0 (pkg n k) = tt
same0 (dep o i) = tt
same0 (feat n k f) = tt
same0 (ask n v i g) = tt

joined : IsCombined without root (at root (absent ∷ []) ∷ []) (at root (present ∷ []) ∷ []) []
joined root = tt
joined (pkg n k) = tt
joined (dep o i) = tt
joined (feat n k f) = tt
joined (ask n v i g) = tt

pub refusal-accepted : IsAccepted without refusal
refusal-accepted = record {
  each = one_more (step0 ∷ step1 ∷ []) step2
      (one_more (step0 ∷ []) step1
      (one_more [] step0 none_yet (at root (absent ∷ []) ∷ [], root_is, same0)) (
        at root (present ∷ []) ∷ at (dep the_root 0) (absent ∷ []) ∷ [],
        needed the_root 0 (on_any text_a) (tt, refl) tt,
        same1,
      ))
      (step0, step1, refl, refl, joined);
  final = (step0 ∷ step1 ∷ [], step2, refl, refl);
}
