-- What stands at a number.
use Rattle.std.proofs.Common.{◌≡◌, ℕ, zero, suc, ◌<◌, List, [], ◌∷◌, map, length, get_or, sym, ap, ◌∙◌, subst, arith}
use Rattle.std.specs.List.{AllByRecursion}
use Rattle.std.proofs.lemmas.List.{get_or-map, length-map}
use Rattle.derivations.specs.inner.Tables.{TablesView, set_at}
use Rattle.explainer.specs.inner.Texts.{set_words, sets_words}

-- one of the elements passes as all do
pub at-each : {X V : Type 0} (P : V → Type 0) (view : X → V) (xs : List X) (i : ℕ) (x : X)
    → AllByRecursion P (map view xs) → i < length xs → x ≡ get_or xs i x → P (view x)
at-each P view [] i x h lt is = absurd (omega arith)
at-each P view (y ∷ ys) zero x h lt is = subst (λ z. P (view z)) (sym is) h.0
at-each P view (y ∷ ys) (suc i) x h lt is = at-each P view ys i x h.1 (omega arith) is

-- the text of a number is that of its set
pub found-set : {X : Type 0} (f : X → List ℕ) (texts : List X) (t : TablesView) (n : ℕ) (x : X)
    → map f texts ≡ sets_words t t.sets → n < length t.sets → x ≡ get_or texts n x → f x ≡ set_words t (set_at t n)
found-set f texts t n x h lt is =
    let many = sym (length-map texts f) ∙ ap length h ∙ length-map t.sets (set_words t) in
    let here : n < length texts = omega (arith, many) in
    ap f is ∙ sym (get_or-map f texts n x [] here) ∙ ap (λ xs. get_or xs n []) h
    ∙ get_or-map (set_words t) t.sets n [] [] lt
