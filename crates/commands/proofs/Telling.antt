-- What is told on standard error, put together.
use Rattle.std.proofs.Common.{◌≡◌, ◌∙◌, ◌<◌, ◌+◌, Bool, true, false, ◌&&◌, List, [], ◌∷◌, ◌++◌, get_or, length, map}
use Rattle.std.proofs.Common.{take, ℕ, Option, refl, ap, subst, sym}
use Rattle.std.specs.Io.KnownBytes.{Appends}
use Rattle.std.proofs.Math.Bool.{and-true, and_assoc}
use Rattle.std.proofs.lemmas.List.{append-nil, map_more}
use Rattle.commands.specs.Lines.{Fails, Puts, Tells}

module _ {E : Type 0} (contents : E → Option (List ℕ)) (fails : Fails E) where
  -- how a stream's write ended
  pub puts : (old : E) (text : List ℕ) (told : Bool) (new : E)
      → (told ≡ true → Appends (contents old) (contents new) text) → (told ≡ false → fails old text new)
      → Puts contents fails old text told new
  puts old text true new written failed = written refl
  puts old text false new written failed = failed refl

  -- one text
  pub tells-one : (old : E) (text : List ℕ) (told : Bool) (new : E) → Puts contents fails old text told new
      → Tells contents fails old (text ∷ []) told new
  tells-one old text told new put = (new, told, true, put, (refl, refl), sym (and-true told))

  -- some texts, and then others
  pub tells-then : (xs ys : List (List ℕ)) (old mid new : E) (a b : Bool) → Tells contents fails old xs a mid
      → Tells contents fails mid ys b new
      → Tells contents fails old (xs ++ ys) (a && b) new
  tells-then [] ys old mid new a b first others = rw (first.0, sym first.1) others
  tells-then (x ∷ xs) ys old mid new a b first others = (
    first.0,
    first.1,
    first.2 && b,
    first.3,
    tells-then xs ys first.0 mid new first.2 b first.4 others,
    ap (λ t. t && b) first.5 ∙ and_assoc first.1 first.2 b,
  )

  -- the text of one more item
  pub tells-more : {X : Type 0} (f : X → List ℕ) (xs : List X) (i : ℕ) (x : X) (old mid new : E) (a b : Bool)
      → i < length xs → x ≡ get_or xs i x
      → Tells contents fails old (map f (take i xs)) a mid → Puts contents fails mid (f x) b new
      → Tells contents fails old (map f (take (i + 1) xs)) (a && b) new
  tells-more f xs i x old mid new a b in_range is told put =
      let one = tells-one mid (f (get_or xs i x)) b new (subst (λ y. Puts contents fails mid (f y) b new) is put) in
      rw (map_more f xs i x in_range) (tells-then (map f (take i xs)) (f (get_or xs i x) ∷ []) old mid new a b told one)
