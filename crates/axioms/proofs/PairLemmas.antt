-- What a set of pairs has after one is put there.
use Rattle.std.proofs.Common.{◌≡◌, ℕ, List, Bool, true, false, ◌||◌, ◌&&◌, cond, Option, Some, refl}
use Rattle.std.proofs.Common.{sym, ap, ap₂, ◌∙◌}
use Rattle.std.specs.Borrow.{Bor}
use Rattle.std.specs.BTreeMap.{BTreeMap, Updates, is_at}
use Rattle.std.specs.BTreeSet.{BTreeSet, insert_key}
use Rattle.std.specs.Map.{lookup}
use Rattle.std.specs.Ordering.{nat_cmp}
use Rattle.std.specs.Cmp.Lexicographic.{slice_cmp, texts_ties}
use Rattle.features.specs.inner.Texts.{borrowed_cmp, has_text}
use Rattle.features.specs.inner.TextMaps.{at_text}
use Rattle.features.proofs.DraftLemmas.{has_text-insert_key}
use Rattle.features.proofs.TextMaps.{at_text-get}
use Rattle.model.specs.Summary.{same_text}
use Rattle.model.proofs.Same.{text-same}
use Rattle.model.proofs.Flips.{text-flips}
use Rattle.model.specs.Causes.{same_pair}
use Rattle.axioms.specs.inner.Pairs.{keys_if}

pub or-none : (b : Bool) → b ≡ (b || false)
or-none true = refl
or-none false = refl

at_text-updates : {X : Type 0} (m after : BTreeMap (Bor (List ℕ)) X) (k : Bor (List ℕ)) (w : Option X)
    → Updates borrowed_cmp m after k w
    → (n : List ℕ) → at_text after.entries n ≡ cond (same_text n k.now) w (at_text m.entries n)
at_text-updates m after k w u n =
    let q : Bor (List ℕ) = record k { now = n } in
    sym (at_text-get n after.entries) ∙ u.0 q
    ∙ ap₂ (λ b o. cond b w o) (sym (texts_ties k.now n) ∙ text-flips k.now n) (at_text-get n m.entries)

abbrev Features : Type 0
Features = BTreeSet (Bor (List ℕ))

-- what a map had at the name, if anything, now has the feature too
pub put_pair : (m after : BTreeMap (Bor (List ℕ)) Features) (name feature : Bor (List ℕ))
    (o : Option Features) (w : Features)
    → lookup (is_at (λ k. slice_cmp nat_cmp name.now k.now)) m.entries ≡ o → Updates borrowed_cmp m after name (Some w)
    → w.keys ≡ insert_key borrowed_cmp (keys_if o) feature
    → (n f : List ℕ) → has_text (keys_if (at_text after.entries n)) f
    ≡ (has_text (keys_if (at_text m.entries n)) f || same_pair (n, f) (name.now, feature.now))
put_pair m after name feature o w was u keys n f =
    ap (λ s. has_text (keys_if s) f) (at_text-updates m after name (Some w) u n) ∙ by (same_text n name.now) refl
  where
    by : (b : Bool) → same_text n name.now ≡ b
        → has_text (keys_if (cond b (Some w) (at_text m.entries n))) f
        ≡ (has_text (keys_if (at_text m.entries n)) f || (b && same_text f feature.now))
    by true e = ap (λ ks. has_text ks f) keys ∙ has_text-insert_key f feature (keys_if o)
        ∙ ap (λ s. has_text (keys_if s) f || same_text f feature.now)
        (sym (ap (at_text m.entries) (text-same n name.now e) ∙ sym (at_text-get name.now m.entries) ∙ was))
    by false e = or-none (has_text (keys_if (at_text m.entries n)) f)
