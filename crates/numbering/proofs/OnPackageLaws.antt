-- Dependencies that are put by their packages stand there.
use Rattle.std.proofs.Common.{◌≡◌, ℕ, List, [], ◌∷◌, ◌++◌, cond, Vec, ap, ◌∙◌, Option, None, Some, IfSome}
use Rattle.std.specs.Borrow.{Bor}
use Rattle.std.specs.HashMap.{HashMap}
use Rattle.std.specs.declared.alloc.Global.{Global}
use Rattle.model.specs.Summary.{Dependency, same_text}
use Rattle.numbering.specs.inner.Called.{numbered_view, numbered_views, those_views}
use Rattle.numbering.specs.inner.Lists.{Puts}
use Rattle.numbering.specs.inner.OnPackage.{PutsOn, on_in}
use Rattle.numbering.specs.declared.called.Numbered.{Numbered}
use Rattle.numbering.proofs.ListLaws.{put_views}

-- one that is put stands behind those that are on its package
pub puts_on : {S : Type 0} (m new : HashMap (Bor (List ℕ)) (Vec Numbered Global) S) (name : Bor (List ℕ))
    (one : Numbered) → name.now ≡ (numbered_view one).1.real_name → Puts m name one new → PutsOn m one new
puts_on m new name one named put x = put_views numbered_view m new name one put x
    ∙ ap (λ n. on_in m x ++ cond (same_text n x.now) (numbered_view one ∷ []) []) named

-- those of a slice that is there
pub some_views : (o : Option (Bor (List Numbered))) (ps : List (ℕ × Dependency)) → those_views o ≡ ps
    → IfSome o (λ those. numbered_views those.now ≡ ps)
some_views None ps e = tt
some_views (Some those) ps e = e
