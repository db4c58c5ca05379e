-- In a valid selection, what is found first of an owner is its package.
use Rattle.std.proofs.Common.{◌≡◌, ℕ, zero, suc, List, [], ◌∷◌, Bool, true, false, not, cond, ◌&&◌, map, Option, Some}
use Rattle.std.proofs.Common.{None, option_map, find, slice_get, is_some, IsSome, refl, sym, ap, ◌∙◌, subst, true≢false}
use Rattle.std.proofs.lemmas.Bool.{and_from}
use Rattle.std.proofs.lemmas.Option.{none-some, same_Some}
use Rattle.model.specs.Content.{Problem, Content, Package, candidate_of, candidate_at, candidates_of, if_checksum}
use Rattle.model.specs.Content.{is_root, same_option}
use Rattle.std.specs.Option.{option_and_then}
use Rattle.model.specs.Summary.{same_text}
use Rattle.model.specs.Selection.{Class, class_of, IsValidSelection, IsOther, IsRootAt}
use Rattle.model.specs.Vertices.{Owner, the_root, version_of, same_class}
use Rattle.model.specs.inner.Assignment.{Locks, IsOwnerAt}
use Rattle.model.proofs.Same.{both, text-same, text-refl, class-same, class-refl}
use Rattle.model.proofs.Owners.{root_parts, not_root, same_locked, same_root}
use Rattle.guiding.specs.inner.Found.{is_sourceless, is_locked, is_owner}

-- ---- the first that passes

module _ {X : Type 0} (t : X → Bool) where
  pub record First (xs : List X) : Type 0 where
    pub n : ℕ
    pub x : X
    pub found : find t xs ≡ Some x
    pub at : slice_get xs n ≡ Some x
    pub passes : t x ≡ true

  pub first_there : (xs : List X) (n : ℕ) (x : X) → slice_get xs n ≡ Some x → t x ≡ true → First xs
  first_there [] n x got h = absurd (none-some x got)
  first_there (y ∷ xs) n x got h = by (λ n got. first_there xs n x got h) (t y) refl n got
    where
      later : t y ≡ false → First xs → First (y ∷ xs)
      later e f = record {
        n = suc f.n;
        x = f.x;
        found = ap (λ b. cond b (Some y) (find t xs)) e ∙ f.found;
        at =
            f.at;
        passes = f.passes;
      }

      by : ((n : ℕ) → slice_get xs n ≡ Some x → First xs) → (b : Bool) → t y ≡ b → (n : ℕ)
          → slice_get (y ∷ xs) n ≡ Some x → First (y ∷ xs)
      by rest true e n got =
          record { n = zero; x = y; found = ap (λ b. cond b (Some y) (find t xs)) e; at = refl; passes = e }
      by rest false e zero got = absurd (true≢false (sym h ∙ ap t (sym (same_Some y x got)) ∙ e))
      by rest false e (suc n) got = later e (rest n got)

-- the first of a list as it is seen
pub find_seen : {X Y : Type 0} (f : X → Y) (t : Y → Bool) (xs : List X)
    → option_map f (find (λ x. t (f x)) xs) ≡ find t (map f xs)
find_seen f t [] = refl
find_seen f t (x ∷ xs) = by (t (f x)) (find_seen f t xs)
  where
    by : (b : Bool) → option_map f (find (λ x. t (f x)) xs) ≡ find t (map f xs)
        → option_map f (cond b (Some x) (find (λ x. t (f x)) xs)) ≡ cond b (Some (f x)) (find t (map f xs))
    by true e = refl
    by false e = e

-- ---- in a valid selection

module _ (q : Problem) (content : Content) (valid : IsValidSelection q content) where
  -- a package without a source is no candidate
  no_candidate : (p : Package) → p.source ≡ None → IsSome (candidate_of q p) → ⊥
  no_candidate p e some =
      true≢false (sym some ∙ ap (λ (o : Option (List ℕ)). is_some (cond (same_option o (Some q.source)) (option_and_then
      (if_checksum p.checksum) (candidate_at (candidates_of q.candidates p.name) p.version)) None)) e)

  sourceless : (o : Option (List ℕ)) → not (is_some o) ≡ true → o ≡ None
  sourceless None h = refl
  sourceless (Some x) h = absurd (true≢false (sym h))

  sourced : (n : ℕ) (p : Package) → IsOther q content n p → is_some p.source ≡ true
  sourced n p other = by p.source refl
    where
      by : (o : Option (List ℕ)) → p.source ≡ o → is_some o ≡ true
      by None e = absurd (no_candidate p e (valid.candidates n p other))
      by (Some s) e = refl

  -- so it is the root
  pub sourceless_root : (n : ℕ) (p : Package) → slice_get content n ≡ Some p
      → is_sourceless p ≡ true → is_root q p ≡ true
  sourceless_root n p got h = by (is_root q p) refl
    where
      by : (b : Bool) → is_root q p ≡ b → b ≡ true
      by true e = refl
      by false e = absurd (no_candidate p (sourceless p.source h) (valid.candidates n p (got, e)))

  to_root : (n : ℕ) (p : Package) → slice_get content n ≡ Some p → is_sourceless p ≡ true → IsRootAt q content n
  to_root n p got h = (p, got, sourceless_root n p got h)

  from_root : (p : Package) → is_root q p ≡ true → is_sourceless p ≡ true
  from_root p h = ap (λ (o : Option (List ℕ)). not (is_some o)) (root_parts q p h).0

  -- a package with a source, of a name and class, is the locked one
  pub to_locked : (name : List ℕ) (k : Class) (n : ℕ) (p : Package) → slice_get content n ≡ Some p
      → is_locked name k p ≡ true → Locks q content name k n p
  to_locked name k n p got h =
      let e = both (is_some p.source && same_text name p.name) (same_class k (class_of p.version)) h in
      let f = both (is_some p.source) (same_text name p.name) e.0 in
      record {
        other = (got, not_root q p f.0);
        named = sym (text-same name p.name f.1);
        classed =
            sym (class-same k (class_of p.version) e.1);
      }

  from_locked : (name : List ℕ) (k : Class) (n : ℕ) (p : Package) → Locks q content name k n p
      → is_locked name k p ≡ true
  from_locked name k n p l =
      and_from (is_some p.source && same_text name p.name) (same_class k (class_of p.version))
      (and_from (is_some p.source) (same_text name p.name) (sourced n p l.other)
      (subst (λ m. same_text name m ≡ true) (sym l.named) (text-refl name)))
      (subst (λ c. same_class k c ≡ true) (sym l.classed) (class-refl k))

  -- the package of a name and class is the first one found
  pub locked_found : (name : List ℕ) (k : Class) (n : ℕ) (p : Package) → Locks q content name k n p
      → find (is_locked name k) content ≡ Some p
  locked_found name k n p l =
      let f = first_there (is_locked name k) content n p (l.other).0 (from_locked name k n p l) in
      let same : f.n ≡ n = same_locked q content valid name k f.n n f.x p (to_locked name k f.n f.x f.at f.passes) l in
      f.found ∙ sym f.at ∙ ap (slice_get content) same ∙ (l.other).0

  root_found : (n : ℕ) (p : Package) → slice_get content n ≡ Some p → is_root q p ≡ true
      → find is_sourceless content ≡ Some p
  root_found n p got is =
      let f = first_there is_sourceless content n p got (from_root p is) in
      let same : f.n ≡ n = same_root q content valid f.n n (to_root f.n f.x f.at f.passes) (p, got, is) in
      f.found ∙ sym f.at ∙ ap (slice_get content) same ∙ got

  -- so is that of an owner
  pub owner_found : (o : Owner) (n : ℕ) → IsOwnerAt q content o n → find (is_owner o) content ≡ slice_get content n
  owner_found the_root n (p, got, is) = root_found n p got is ∙ sym got
  owner_found (version_of name v) n (p, l, is) = locked_found name (class_of v) n p l ∙ sym (l.other).0
