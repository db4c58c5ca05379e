-- The vertices that a trail has, as one more of those with numbers comes onto it.
use Rattle.std.proofs.Common.{◌≡◌, ℕ, zero, suc, ◌<◌, false, List, [], ◌∷◌, ◌++◌, length, map, take, Some, slice_get}
use Rattle.std.proofs.Common.{refl, sym, ap, ap₂, ◌∙◌, subst, arith}
use Rattle.std.proofs.lemmas.List.{length-append, length-replicate}
use Rattle.std.proofs.lemmas.Option.{none-some, same_Some}
use Rattle.version_sets.specs.Sets.{Members, none}
use Rattle.model.specs.Vertices.{Vertex, space}
use Rattle.model.proofs.Places.{some_at}
use Rattle.numbering.specs.inner.KnownProblem.{problem}
use Rattle.numbering.specs.Numberings.{Numbering}
use Rattle.numbering.specs.declared.known_problem.KnownProblem.{KnownProblem}
use Rattle.propagation.specs.Trails.{TrailView}
use Rattle.propagation.proofs.Widened.{wider_again}
use Rattle.guiding.specs.inner.Guides.{IsCome, IsEncoding}
use Rattle.guiding.specs.inner.Remaining.{spaces_of}

pub map_append : {A B : Type 0} (f : A → B) (xs ys : List A) → map f (xs ++ ys) ≡ map f xs ++ map f ys
map_append f [] ys = refl
map_append f (x ∷ xs) ys = ap (λ l. f x ∷ l) (map_append f xs ys)

pub take_next : {A : Type 0} (xs : List A) (k : ℕ) (x : A) → slice_get xs k ≡ Some x
    → take (suc k) xs ≡ take k xs ++ x ∷ []
take_next [] k x e = absurd (none-some x e)
take_next (y ∷ xs) zero x e = ap (λ z. z ∷ []) (same_Some y x e)
take_next (y ∷ xs) (suc k) x e = ap (λ l. y ∷ l) (take_next xs k x e)

pub encoding_next : (i : KnownProblem) (vs : Numbering) (asked more : List Members) (n : ℕ) → IsEncoding i vs asked
    → length asked < length vs
    → ((v : Vertex) → slice_get vs (length asked) ≡ Some v → n ≡ length (space (problem i) v))
    → more ≡ asked ++ none n ∷ [] → IsEncoding i vs more
encoding_next i vs asked more n was less is e = record {
  default = was.default;
  catalogue = was.catalogue;
  numbering = was.numbering;
  spaces = subst (λ l. map length l ≡ spaces_of (problem i) (take (length l) vs)) (sym e) spaces;
}
  where
    next : (v : Vertex) × (slice_get vs (length asked) ≡ Some v)
    next = some_at vs (length asked) less

    longer : length (asked ++ none n ∷ []) ≡ suc (length asked)
    longer = length-append asked (none n ∷ []) ∙ omega arith

    spaces : map length (asked ++ none n ∷ []) ≡ spaces_of (problem i) (take (length (asked ++ none n ∷ [])) vs)
    spaces =
        map_append length asked (none n ∷ [])
        ∙ ap₂ (λ xs y. xs ++ y ∷ []) was.spaces (length-replicate n false ∙ is next.0 next.1)
        ∙ sym (map_append (λ v. length (space (problem i) v)) (take (length asked) vs) (next.0 ∷ []))
        ∙ ap (spaces_of (problem i)) (sym (ap (λ k. take k vs) longer ∙ take_next vs (length asked) next.0 next.1))

pub come_again : (a b c : List Members) (t m w : TrailView) → IsCome a b t m → IsCome b c m w → IsCome a c t w
come_again a b c t m w first second = record {
  came = first.came ++ second.came;
  sets = second.sets ∙ ap (λ l. l ++ map none second.came) first.sets ∙ assoc a (map none first.came)
      (map none second.came) ∙ ap (λ l. a ++ l) (sym (map_append none first.came second.came));
  wider = wider_again first.came second.came t m w first.wider second.wider;
}
  where
    assoc : (xs ys zs : List Members) → (xs ++ ys) ++ zs ≡ xs ++ (ys ++ zs)
    assoc [] ys zs = refl
    assoc (x ∷ xs) ys zs = ap (λ l. x ∷ l) (assoc xs ys zs)
