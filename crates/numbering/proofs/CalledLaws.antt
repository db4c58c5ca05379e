-- What an entry gives with the dependencies of an owner is what it gives with those that are called so.
use Rattle.std.proofs.Common.{◌≡◌, ℕ, ◌+◌, List, [], ◌∷◌, ◌++◌, Bool, true, false, cond, Some, None, Vec, refl, sym, ap}
use Rattle.std.proofs.Common.{◌∙◌, ap₂}
use Rattle.std.specs.Borrow.{Bor}
use Rattle.std.specs.HashMap.{HashMap}
use Rattle.std.specs.List.{filter, flat_map}
use Rattle.std.specs.declared.alloc.Global.{Global}
use Rattle.std.proofs.lemmas.Option.{same_Some}
use Rattle.semver.specs.Parse.{Parts}
use Rattle.model.specs.Content.{Problem}
use Rattle.model.specs.Summary.{Dependency, Entry, feature, dependency, dependency_feature, weak_feature, same_text}
use Rattle.model.specs.Causes.{Cause}
use Rattle.numbering.specs.inner.Called.{PutsCalled, called_in, called_so, named_by, numbered_from, numbered_view}
use Rattle.numbering.specs.inner.CausesAt.{each_from, entry_if}
use Rattle.numbering.specs.inner.Lists.{Puts}
use Rattle.numbering.specs.declared.called.Numbered.{Numbered}
use Rattle.numbering.proofs.ListLaws.{put_views}

-- ---- dependencies by name

-- one that is put stands behind those that are called so
pub puts_called : {S : Type 0} (m new : HashMap (Bor (List ℕ)) (Vec Numbered Global) S) (name : Bor (List ℕ))
    (one : Numbered) → name.now ≡ (numbered_view one).1.name → Puts m name one new → PutsCalled m one new
puts_called m new name one named put x = put_views numbered_view m new name one put x
    ∙ ap (λ n. called_in m x ++ cond (same_text n x.now) (numbered_view one ∷ []) []) named

-- ---- what is given for each

-- what is given for none but those that pass a test, and for these otherwise, is given for these
pub each_in : (f : ℕ → Dependency → List Cause) (g : ℕ × Dependency → List Cause) (test : ℕ × Dependency → Bool)
    → ((j : ℕ) (e : Dependency) → test (j, e) ≡ false → f j e ≡ [])
    → ((j : ℕ) (e : Dependency) → test (j, e) ≡ true → g (j, e) ≡ f j e) → (n : ℕ) (ds : List Dependency)
    → flat_map g (filter test (numbered_from n ds)) ≡ each_from f n ds
each_in f g test off on n [] = refl
each_in f g test off on n (d ∷ ds) = by (test (n, d)) refl (each_in f g test off on (n + 1) ds)
  where
    by : (b : Bool) → test (n, d) ≡ b
        → flat_map g (filter test (numbered_from (n + 1) ds)) ≡ each_from f (n + 1) ds
        → flat_map g (cond b ((n, d) ∷ filter test (numbered_from (n + 1) ds))
        (filter test (numbered_from (n + 1) ds))) ≡ f n d ++ each_from f (n + 1) ds
    by true e rest = ap₂ (λ a l. a ++ l) (on n d e) rest
    by false e rest = rest ∙ ap (λ l. l ++ each_from f (n + 1) ds) (sym (off n d e))

pub each_nothing : (f : ℕ → Dependency → List Cause) → ((i : ℕ) (d : Dependency) → f i d ≡ [])
    → (n : ℕ) (ds : List Dependency) → each_from f n ds ≡ []
each_nothing f none n [] = refl
each_nothing f none n (d ∷ ds) = ap (λ l. l ++ each_from f (n + 1) ds) (none n d) ∙ each_nothing f none (n + 1) ds

module _ (q : Problem) (name : List ℕ) (v : Parts) (f : List ℕ) where
  off_if : (b : Bool) (cs : List Cause) → b ≡ false → cond b cs [] ≡ []
  off_if b cs e = ap (λ t. cond t cs []) e

  -- an entry gives nothing with a dependency that is called otherwise, ..
  off_name : (e : Entry) (x : List ℕ) → Some x ≡ named_by e → (i : ℕ) (d : Dependency) → same_text d.name x ≡ false
      → entry_if q name v f e i d ≡ []
  off_name (feature g) x is i d other = refl
  off_name (dependency y) x is i d other =
      off_if (same_text d.name y) _ (ap (same_text d.name) (sym (same_Some x y is)) ∙ other)
  off_name (dependency_feature y g) x is i d other =
      off_if (same_text d.name y) _ (ap (same_text d.name) (sym (same_Some x y is)) ∙ other)
  off_name (weak_feature y g) x is i d other =
      off_if (same_text d.name y) _ (ap (same_text d.name) (sym (same_Some x y is)) ∙ other)

  -- .. and with none if it calls none
  no_name : (e : Entry) → None ≡ named_by e → (i : ℕ) (d : Dependency) → entry_if q name v f e i d ≡ []
  no_name (feature g) is i d = refl
  no_name (dependency y) is i d = let no : None ≡ Some y = is in cc
  no_name (dependency_feature y g) is i d = let no : None ≡ Some y = is in cc
  no_name (weak_feature y g) is i d = let no : None ≡ Some y = is in cc

  pub entry_called : (e : Entry) (x : List ℕ) → Some x ≡ named_by e → (ds : List Dependency)
      → flat_map (λ p. entry_if q name v f e p.0 p.1) (called_so x (numbered_from 0 ds))
      ≡ each_from (entry_if q name v f e) 0 ds
  entry_called e x is ds = each_in (entry_if q name v f e) (λ p. entry_if q name v f e p.0 p.1)
      (λ p. same_text p.1.name x) (off_name e x is) (λ i d called. refl) 0 ds

  pub entry_without : (e : Entry) → None ≡ named_by e → (ds : List Dependency)
      → each_from (entry_if q name v f e) 0 ds ≡ []
  entry_without e is ds = each_nothing (entry_if q name v f e) (no_name e is) 0 ds
