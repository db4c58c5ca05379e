-- A content that is followed is the preferred walk, if there is one that is complete and valid.
use Rattle.std.proofs.Common.{◌≡◌, ℕ, List, [], Option, Some, None, IfSome, is_some, true, false, ap, sym, subst, inl}
use Rattle.std.proofs.Common.{inr}
use Rattle.model.specs.Content.{Candidate, Content, Problem}
use Rattle.model.specs.Walk.{IsWalk}
use Rattle.guiding.specs.inner.Guides.{CanFollow}
use Rattle.model.specs.Selected.{HasBareRoot}
use Rattle.selection.specs.Preferred.{Answers}
use Rattle.solver.specs.Solving.{IsAnswer, IsFound, IsSolved, derivation_of}
use Rattle.solver.specs.declared.solving.Outcome.{Outcome}
use Rattle.solver.specs.declared.solving.Outcome.TheVariants.{Selection, Unsolvable}

module _ (q : Problem) (preferred : List (List ℕ × List Candidate)) where
  pub can_follow : (walk : Option Content) → Answers q preferred walk → CanFollow q walk
  can_follow None answers = tt
  can_follow (Some content) answers = answers.valid

  module _ (unique : (q : Problem) (preferred : List (List ℕ × List Candidate)) (a b : Content) → IsWalk q preferred a
      → IsWalk q preferred b → a ≡ b) where
    pub solved : (places : ℕ) (walk : Option Content) (o : Outcome) → Answers q preferred walk
        → IfSome walk (λ content. HasBareRoot q content) → IsAnswer q places walk o → IsSolved q preferred o
    solved places None (Selection reached) answers bare found = record {
      valid = found.0;
      bare_root = found.1;
      walk = λ w is. absurd (answers w is);
      needed = inl found.2;
    }
    solved places None (Unsolvable derivation) answers bare found = found
    solved places (Some content) o answers bare is = subst (IsSolved q preferred) (sym is) record {
      valid = answers.valid;
      bare_root = bare;
      walk = λ w is. unique q preferred w content is.walk answers.walk;
      needed = inr answers;
    }

-- an answer to what is the same
pub same_answer : (p q : Problem) (places : ℕ) (f walk : Option Content) (o : Outcome) → p ≡ q → f ≡ walk
    → IsAnswer p places f o → IsAnswer q places walk o
same_answer p q places f walk o same is answer =
    subst (λ f. IsAnswer q places f o) is (subst (λ p. IsAnswer p places f o) same answer)

-- what is found where nothing is followed is the answer
pub found-answers : (q : Problem) (places : ℕ) (followed : Option Content) (o : Outcome) → is_some followed ≡ false
    → IsFound q places o → IsAnswer q places followed o
found-answers q places None o none found = found
found-answers q places (Some content) o none found = cc

-- what is followed is the answer
pub followed-answers : (q : Problem) (places : ℕ) (followed : Option Content) (o : Outcome) → is_some followed ≡ true
    → IfSome followed (λ content. o ≡ Selection content) → IsAnswer q places followed o
followed-answers q places None o some is = cc
followed-answers q places (Some content) o some is = is

-- and has no derivation
pub followed-derives_nothing : (followed : Option Content) (o : Outcome) → is_some followed ≡ true
    → IfSome followed (λ content. o ≡ Selection content) → derivation_of o ≡ []
followed-derives_nothing None o some is = cc
followed-derives_nothing (Some content) o some is = ap derivation_of is
