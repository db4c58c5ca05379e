-- What is kept of a line is what a line says, where it tests as the same.
use Rattle.std.proofs.Common.{◌≡◌, ℕ, suc, List, [], ◌∷◌, Bool, true, ◌&&◌, length, map, refl, sym, ap, ap₂}
use Rattle.std.proofs.Common.{arith, true≢false}
use Rattle.std.specs.Bool.{beq}
use Rattle.std.specs.Cmp.{booleans_Decides}
use Rattle.std.specs.Cmp.Lexicographic.{pointwise}
use Rattle.std.specs.List.{list_all, zip}
use Rattle.model.specs.Summary.{same_text}
use Rattle.model.specs.Tables.{DepName}
use Rattle.model.proofs.Same.{both, text-same}
use Rattle.index_lines.specs.inner.Names.{same_name}

-- lists of one length are the same where they are place by place
pub by_place : {X Y V : Type 0} (f : X → V) (g : Y → V) (same : V → V → Bool) (xs : List X) (ys : List Y)
    → length xs ≡ length ys
    → list_all (λ (p : X × Y). same (f p.0) (g p.1)) (zip xs ys) ≡ pointwise same (map f xs) (map g ys)
by_place f g same [] [] e = refl
by_place f g same [] (y ∷ ys) e = absurd (let more : 0 ≡ suc (length ys) = e in omega (arith, more))
by_place f g same (x ∷ xs) [] e = absurd (let more : suc (length xs) ≡ 0 = e in omega (arith, more))
by_place f g same (x ∷ xs) (y ∷ ys) e =
    let more : suc (length xs) ≡ suc (length ys) = e in
    ap (λ r. same (f x) (g y) && r) (by_place f g same xs ys (omega (arith, more)))

lists-same : {V : Type 0} (same : V → V → Bool) → ((v w : V) → same v w ≡ true → v ≡ w) → (vs ws : List V)
    → pointwise same vs ws ≡ true → vs ≡ ws
lists-same same sound [] [] h = refl
lists-same same sound [] (w ∷ ws) h = absurd (true≢false (sym h))
lists-same same sound (v ∷ vs) [] h = absurd (true≢false (sym h))
lists-same same sound (v ∷ vs) (w ∷ ws) h =
    let t = both (same v w) (pointwise same vs ws) h in
    ap₂ (λ x xs. x ∷ xs) (sound v w t.0) (lists-same same sound vs ws t.1)

name-same : (a b : DepName) → same_name a b ≡ true → a ≡ b
name-same a b h =
    let t = both (same_text a.name b.name) (beq a.optional b.optional) h in
    built (text-same a.name b.name t.0) ((booleans_Decides a.optional b.optional).0 t.1)
  where
    built : a.name ≡ b.name → a.optional ≡ b.optional → a ≡ b
    built n o = λ i. record { name = n i; optional = o i }

pub texts-same : (xs ys : List (List ℕ)) → pointwise same_text xs ys ≡ true → xs ≡ ys
texts-same = lists-same same_text text-same

pub names-same : (ds es : List DepName) → pointwise same_name ds es ≡ true → ds ≡ es
names-same = lists-same same_name name-same
