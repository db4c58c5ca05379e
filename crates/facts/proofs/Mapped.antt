-- The facts of packages hold of the packages that stand for them.
use Rattle.std.proofs.Common.{◌≡◌, ℕ, List, Some, slice_get, Contains, subst}
use Rattle.model.specs.Summary.{Summary, Dependency, Entry, entries_at}
use Rattle.model.specs.Selection.{Fact, Holds, here, on, enabled, Brings, Lists}
use Rattle.model.specs.Selection.Holds.{starts, arrives, root_needs, needs, asks, root_wants, turns_on, enables}
use Rattle.model.specs.Selection.Holds.{enables_for, wants, wants_weakly}

-- R n m: the package m of the others stands for n. What R has to keep for the facts of the ones to hold of the others.
module _ {N M : Type 0} (owner : N → Summary) (IsRoot Starts : N → Type 0) (root_asks : List (List ℕ × List ℕ))
    (LeadsTo : N → ℕ → Dependency → N → Type 0)
    (far_owner : M → Summary) (IsFarRoot FarStarts : M → Type 0) (far_asks : List (List ℕ × List ℕ))
    (LeadsFar : M → ℕ → Dependency → M → Type 0)
    (R : N → M → Type 0) where
  pub record Keeps : Type 0 where
    -- one package at most stands for another
    pub one : (n : N) (m l : M) → R n m → R n l → m ≡ l
    pub owners : (n : N) (m : M) → R n m → owner n ≡ far_owner m
    pub roots : (n : N) (m : M) → R n m → IsRoot n → IsFarRoot m
    pub asked : (n : N) → IsRoot n → (a : List ℕ × List ℕ) → Contains root_asks a → Contains far_asks a
    pub begun : (n : N) → Starts n → (m : M) × R n m × FarStarts m
    pub leads : (n t : N) (i : ℕ) (d : Dependency) (m : M) → R n m → Brings owner n i d → LeadsTo n i d t
        → (u : M) × R t u × LeadsFar m i d u

  abbrev pub Near : Fact N → Type 0
  Near = Holds owner IsRoot Starts root_asks LeadsTo

  abbrev pub Far : Fact M → Type 0
  Far = Holds far_owner IsFarRoot FarStarts far_asks LeadsFar

  -- the fact holds of a package that stands for its package
  abbrev pub HoldsFar : Fact N → Type 0
  HoldsFar (here n) = (m : M) × R n m × Far (here m)
  HoldsFar (on n f) = (m : M) × R n m × Far (on m f)
  HoldsFar (enabled n i) = (m : M) × R n m × Far (enabled m i)

  module _ (k : Keeps) where
    brings_far : (n : N) (i : ℕ) (d : Dependency) (m : M) → R n m → Brings owner n i d → Brings far_owner m i d
    brings_far n i d m r b = subst (λ (o : Summary). slice_get o.dependencies i ≡ Some d) (k.owners n m r) b

    lists_far : (n : N) (f : List ℕ) (e : Entry) (m : M) → R n m → Lists owner n f e → Lists far_owner m f e
    lists_far n f e m r l = (l.0, subst (λ (o : Summary). entries_at f o.features ≡ Some l.0) (k.owners n m r) l.1, l.2)

    enabled_at : (n : N) (i : ℕ) (m : M) → R n m → HoldsFar (enabled n i) → Far (enabled m i)
    enabled_at n i m r (l, s, h) = subst (λ o. Far (enabled o i)) (k.one n l m s r) h

    pub holds_far : (x : Fact N) → Near x → HoldsFar x
    holds_far x (starts n s) = let b = k.begun n s in (b.0, b.1, starts b.0 b.2)
    holds_far x (arrives n t i d h b l) =
        let (m, r, p) = holds_far (enabled n i) h in
        let u = k.leads n t i d m r b l in
        (u.0, u.1, arrives m u.0 i d p (brings_far n i d m r b) u.2)
    holds_far x (root_needs n i d h is b) =
        let (m, r, p) = holds_far (here n) h in
        (m, r, root_needs m i d p (k.roots n m r is) (brings_far n i d m r b))
    holds_far x (needs n i d h b o) =
        let (m, r, p) = holds_far (here n) h in
        (m, r, needs m i d p (brings_far n i d m r b) o)
    holds_far x (asks n t i d f h b l a) =
        let (m, r, p) = holds_far (enabled n i) h in
        let u = k.leads n t i d m r b l in
        (u.0, u.1, asks m u.0 i d f p (brings_far n i d m r b) u.2 a)
    holds_far x (root_wants n t i d g h is b l a) =
        let (m, r, p) = holds_far (here n) h in
        let u = k.leads n t i d m r b l in (
          u.0,
          u.1,
          root_wants m u.0 i d g p (k.roots n m r is) (brings_far n i d m r b) u.2 (k.asked n is (d.name, g) a),
        )
    holds_far x (turns_on n f g h l) =
        let (m, r, p) = holds_far (on n f) h in
        (m, r, turns_on m f g p (lists_far n f _ m r l))
    holds_far x (enables n i d f h b l) =
        let (m, r, p) = holds_far (on n f) h in
        (m, r, enables m i d f p (brings_far n i d m r b) (lists_far n f _ m r l))
    holds_far x (enables_for n i d f g h b l) =
        let (m, r, p) = holds_far (on n f) h in
        (m, r, enables_for m i d f g p (brings_far n i d m r b) (lists_far n f _ m r l))
    holds_far x (wants n t i d f g h b l to) =
        let (m, r, p) = holds_far (on n f) h in
        let u = k.leads n t i d m r b to in
        (u.0, u.1, wants m u.0 i d f g p (brings_far n i d m r b) (lists_far n f _ m r l) u.2)
    holds_far x (wants_weakly n t i d f g h b l e to) =
        let (m, r, p) = holds_far (on n f) h in
        let u = k.leads n t i d m r b to in (
          u.0,
          u.1,
          wants_weakly m u.0 i d f g p (brings_far n i d m r b) (lists_far n f _ m r l)
              (enabled_at n i m r (holds_far (enabled n i) e)) u.2,
        )
