-- A refusal in thirteen steps: the root needs a 1.0.0, and every b needs a 1.1.0.
use Rattle.std.proofs.Common.{◌≡◌, ℕ, List, [], ◌∷◌, ◌++◌, Some, None, refl}
use Rattle.std.specs.Prelude.{codes}
use Rattle.model.specs.Content.{Problem}
use Rattle.model.specs.Selection.{major}
use Rattle.model.specs.Vertices.{the_root, version_of, Vertex, root, pkg, dep, absent, present, version}
use Rattle.model.specs.Axioms.{Term, at, Root, Needed, Target}
use Rattle.model.specs.Derivation.{Step, given, combine}
use Rattle.model.specs.inner.Checks.{not_an_axiom, not_combined, not_final, refused_step}
use Rattle.model.proofs.Examples.Pieces.{plain, exactly, within, on, candidate, demo, no_features, class_1, one}

abbrev pub text_a : List ℕ
text_a = codes "a"

abbrev pub text_b : List ℕ
text_b = codes "b"

abbrev pub unmeetable : Problem
unmeetable = demo (on text_a (exactly 1 0 0) ∷ on text_b (within 1) ∷ [])
    ((text_a, candidate (plain 1 0 0) [] no_features ∷ candidate (plain 1 1 0) [] no_features ∷ [])
    ∷ (text_b, candidate (plain 1 0 0) (on text_a (exactly 1 1 0) ∷ []) no_features ∷ []) ∷ [])

abbrev a : Vertex
a = pkg text_a (major 1)

abbrev b : Vertex
b = pkg text_b (major 1)

abbrev b_needs_a : Vertex
b_needs_a = dep (version_of text_b (plain 1 0 0)) 0

-- the steps before the last but two, those, and the end
abbrev on_a : List Step
on_a = given Root (one root absent ∷ [])
    ∷ given Needed (one (dep the_root 0) absent ∷ one root present ∷ [])
    ∷ given Target (one (dep the_root 0) class_1 ∷ at a (absent ∷ version (plain 1 1 0) ∷ []) ∷ [])
    ∷ combine 1 2 (dep the_root 0) (at a (absent ∷ version (plain 1 1 0) ∷ []) ∷ one root present ∷ [])
    ∷ []

abbrev on_b : List Step
on_b = given Needed (one (dep the_root 1) absent ∷ one root present ∷ [])
    ∷ given Target (one (dep the_root 1) class_1 ∷ one b absent ∷ [])
    ∷ combine 4 5 (dep the_root 1) (one b absent ∷ one root present ∷ [])
    ∷ given Needed (one b_needs_a absent ∷ one b (version (plain 1 0 0)) ∷ [])
    ∷ given Target (one b_needs_a class_1 ∷ at a (absent ∷ version (plain 1 0 0) ∷ []) ∷ [])
    ∷ combine 7 8 b_needs_a (at a (absent ∷ version (plain 1 0 0) ∷ []) ∷ one b (version (plain 1 0 0)) ∷ [])
    ∷ []

-- the eleventh step, with these states of a
abbrev eleventh : List Term → Step
eleventh ts = combine 6 9 b ts

abbrev ending : List Step
ending = combine 3 10 a (one root present ∷ []) ∷ combine 0 11 root [] ∷ []

abbrev with_eleventh : List Term → List Step
with_eleventh ts = on_a ++ on_b ++ eleventh ts ∷ ending

abbrev pub thirteen : List Step
thirteen = with_eleventh (at a (absent ∷ version (plain 1 0 0) ∷ []) ∷ one root present ∷ [])

pub accepted : refused_step unmeetable thirteen ≡ None
accepted = refl

-- a state less in the eleventh step
pub state_missing : refused_step unmeetable (with_eleventh (one a absent ∷ one root present ∷ []))
    ≡ Some (10, not_combined)
state_missing = refl

-- a state less in an axiom's step
pub axiom_missing : refused_step unmeetable (given Target (one (dep the_root 0) class_1 ∷ one a absent ∷ []) ∷ [])
    ≡ Some (0, not_an_axiom)
axiom_missing = refl

-- one kind taken for another
pub other_kind : refused_step unmeetable (given Needed (one root absent ∷ []) ∷ []) ≡ Some (0, not_an_axiom)
other_kind = refl

-- the last step has a term
pub not_at_end : refused_step unmeetable on_a ≡ Some (3, not_final)
not_at_end = refl

pub nothing_said : refused_step unmeetable [] ≡ Some (0, not_final)
nothing_said = refl

-- a step that combines itself
pub itself : refused_step unmeetable (given Root (one root absent ∷ []) ∷ combine 0 1 root [] ∷ [])
    ≡ Some (1, not_combined)
itself = refl

-- the vertex need not be spoken of, nor be there: both terms stay
pub elsewhere : refused_step unmeetable (given Root (one root absent ∷ [])
    ∷ combine 0 0 (pkg (codes "z") (major 7)) (one root absent ∷ []) ∷ []) ≡ Some (1, not_final)
elsewhere = refl
