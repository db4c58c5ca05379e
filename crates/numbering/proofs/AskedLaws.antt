-- What the entries of the root ask a dependency for is what they ask those called so for.
use Rattle.std.proofs.Common.{◌≡◌, ℕ, List, [], ◌∷◌, ◌++◌, Bool, true, false, cond, Vec, refl, sym, ap, ap₂, ◌∙◌}
use Rattle.std.specs.Borrow.{Bor}
use Rattle.std.specs.HashMap.{HashMap}
use Rattle.std.specs.List.{flat_map}
use Rattle.std.specs.declared.alloc.Global.{Global}
use Rattle.std.proofs.lemmas.List.{append-nil, append_assoc}
use Rattle.model.specs.Content.{Problem}
use Rattle.model.specs.Summary.{Dependency, same_text}
use Rattle.model.specs.Vertices.{the_root}
use Rattle.numbering.specs.inner.Asked.{Asks, asked_in, asked_so, feature_of}
use Rattle.numbering.specs.inner.CausesAt.{root_asked}
use Rattle.numbering.specs.inner.Lists.{Puts}
use Rattle.numbering.specs.declared.asked.Wanted.{Wanted}
use Rattle.numbering.proofs.ListLaws.{put_views}
use Rattle.model.proofs.Flips.{text-flips}

abbrev Pairs : Type 0
Pairs = List (List ℕ × List ℕ)

if_append : (b : Bool) (g : List ℕ) (a c all : List (List ℕ)) → all ≡ a ++ c
    → cond b (g ∷ []) [] ++ all ≡ (cond b (g ∷ []) [] ++ a) ++ c
if_append true g a c all e = ap (λ l. g ∷ l) e
if_append false g a c all e = e

pub asked-append : (x : List ℕ) (ps rs : Pairs) → asked_so x (ps ++ rs) ≡ asked_so x ps ++ asked_so x rs
asked-append x [] rs = refl
asked-append x (p ∷ ps) rs =
    if_append (same_text p.0 x) p.1 (asked_so x ps) (asked_so x rs) (asked_so x (ps ++ rs)) (asked-append x ps rs)

pub asks_nothing : {S : Type 0} (m : HashMap (Bor (List ℕ)) (Vec Wanted Global) S) → Asks m [] m
asks_nothing m x = sym (append-nil (asked_in m x))

module _ {S : Type 0} (m new : HashMap (Bor (List ℕ)) (Vec Wanted Global) S) where
  pub asks_one : (called name : Bor (List ℕ)) (one : Wanted) → name.now ≡ called.now → Puts m name one new
      → Asks m ((called.now, feature_of one) ∷ []) new
  asks_one called name one named put x =
      put_views feature_of m new name one put x
      ∙ ap (λ n. asked_in m x ++ cond (same_text n x.now) (feature_of one ∷ []) []) named
      ∙ ap (λ l. asked_in m x ++ l) (sym (append-nil (cond (same_text called.now x.now) (feature_of one ∷ []) [])))

  -- after one step what is left is that much less
  pub asks_more : (first rest : Pairs) (x : Bor (List ℕ)) (told : List (List ℕ)) → Asks m first new
      → asked_in m x ++ asked_so x.now (first ++ rest) ≡ told → asked_in new x ++ asked_so x.now rest ≡ told
  asks_more first rest x told asks had =
      ap (λ l. l ++ asked_so x.now rest) (asks x)
      ∙ append_assoc (asked_in m x) (asked_so x.now first) (asked_so x.now rest)
      ∙ ap (λ l. asked_in m x ++ l) (sym (asked-append x.now first rest)) ∙ had

-- ---- what the root asks a dependency for

asked-alike : (x : List ℕ) (ps : Pairs)
    → asked_so x ps ≡ flat_map (λ (p : List ℕ × List ℕ). cond (same_text x p.0) (p.1 ∷ []) []) ps
asked-alike x [] = refl
asked-alike x (p ∷ ps) = ap₂ (λ b l. cond b (p.1 ∷ []) [] ++ l) (text-flips p.0 x) (asked-alike x ps)

pub root-asked : (q : Problem) (d : Dependency) → asked_so d.name q.root_asks ≡ root_asked q the_root d
root-asked q d = asked-alike d.name q.root_asks
