-- A package that the root doesn't need can hold itself: a lists b, and only b asks a for the feature that enables b.
use Rattle.std.proofs.Common.{◌≡◌, ◌⊎◌, ◌<◌, ℕ, zero, suc, List, [], ◌∷◌, Contains, Some, slice_get, is_some, refl, sym}
use Rattle.std.proofs.Common.{ap, ◌∙◌, subst, subst₂, inl, inr, true, true≢false, arith}
use Rattle.std.proofs.lemmas.Option.{none-some, same_Some}
use Rattle.model.specs.Summary.{Dependency, Entry, Table, feature, dependency, dependency_feature, weak_feature}
use Rattle.model.specs.Summary.{entries_at, asked_of_target, has_feature, same_text}
use Rattle.model.specs.Selection.{Fact, here, on, enabled, Brings, Lists, IsValidSelection, IsFact, IsTarget, HasTarget}
use Rattle.model.specs.Selection.{IsRootAt, IsOther, IsReached}
use Rattle.model.specs.Selection.Holds.{starts, arrives, root_needs, needs, asks, root_wants, turns_on, enables}
use Rattle.model.specs.Selection.Holds.{enables_for, wants, wants_weakly}
use Rattle.model.specs.Content.{Problem, Content, Package, candidate_of, is_root, summary_at, target_of}
use Rattle.model.specs.Selection.IsReached.{root as at_root, listed}
use Rattle.model.proofs.Lists.{in_none, in_first}
use Rattle.model.proofs.Examples.Small.{text_a, text_b, text_f, version_1_0, on_any, asking, optional_on, candidate}
use Rattle.model.proofs.Examples.Small.{asked_by_demo, locked, demo, in_one, formed}

-- f enables b
abbrev table : Table
table = (text_f, dependency text_b ∷ []) ∷ []

abbrev held : Problem
held = asked_by_demo (on_any text_a ∷ [])
    ((text_a, candidate version_1_0 (optional_on text_b ∷ []) table ∷ [])
    ∷ (text_b, candidate version_1_0 (asking text_a (text_f ∷ []) ∷ []) [] ∷ []) ∷ [])

abbrev package_a : Package
package_a = locked text_a version_1_0 (1 ∷ [])

abbrev package_b : Package
package_b = locked text_b version_1_0 (0 ∷ [])

abbrev ring : Content
ring = package_a ∷ package_b ∷ demo (0 ∷ []) ∷ []

-- the dependencies, and where each leads
data IsDep (n i : ℕ) (d : Dependency) : Type 0 where
  of_a : n ≡ 0 → i ≡ 0 → optional_on text_b ≡ d → IsDep n i d
  of_b : n ≡ 1 → i ≡ 0 → asking text_a (text_f ∷ []) ≡ d → IsDep n i d
  of_demo : n ≡ 2 → i ≡ 0 → on_any text_a ≡ d → IsDep n i d

dep_here : (n i : ℕ) (d : Dependency) → Brings (summary_at held ring) n i d → IsDep n i d
dep_here zero zero d e = of_a refl refl (same_Some (optional_on text_b) d e)
dep_here zero (suc i) d e = absurd (none-some d e)
dep_here (suc zero) zero d e = of_b refl refl (same_Some (asking text_a (text_f ∷ [])) d e)
dep_here (suc zero) (suc i) d e = absurd (none-some d e)
dep_here (suc (suc zero)) zero d e = of_demo refl refl (same_Some (on_any text_a) d e)
dep_here (suc (suc zero)) (suc i) d e = absurd (none-some d e)
dep_here (suc (suc (suc n))) i d e = absurd (none-some d e)

target_here : (n t m : ℕ) (d e : Dependency) → n ≡ m → e ≡ d → HasTarget held ring n d t → target_of ring m e ≡ Some t
target_here n t m d e place same to = subst₂ (λ k x. target_of ring k x ≡ Some t) place (sym same) to

-- f is on at a, and no other feature anywhere
abbrev Only : Fact ℕ → Type 0
Only (here n) = Unit {0}
Only (on n f) = (n ≡ 0) × (f ≡ text_f)
Only (enabled n i) = Unit {0}

asked : (n t i : ℕ) (d : Dependency) (g : List ℕ) → IsDep n i d → HasTarget held ring n d t
    → Contains (asked_of_target d) g → (t ≡ 0) × (g ≡ text_f)
asked n t i d g (of_a p k e) to a =
    absurd (in_none g (subst (λ (x : Dependency). Contains (asked_of_target x) g) (sym e) a))
asked n t i d g (of_b p k e) to a = (
  sym (same_Some 0 t (target_here n t 1 d (asking text_a (text_f ∷ [])) p e to)),
  sym (in_one text_f g (subst (λ (x : Dependency). Contains (asked_of_target x) g) (sym e) a)),
)
asked n t i d g (of_demo p k e) to a =
    absurd (in_none g (subst (λ (x : Dependency). Contains (asked_of_target x) g) (sym e) a))

entry_of : (n : ℕ) (f : List ℕ) (e : Entry) → (n ≡ 0) × (f ≡ text_f)
    → Lists (summary_at held ring) n f e → dependency text_b ≡ e
entry_of n f e h (es, at_f, c) =
    let there : Some (dependency text_b ∷ []) ≡ Some es =
    subst₂ (λ m g. entries_at g (summary_at held ring m).features ≡ Some es) h.0 h.1 at_f in
    in_one (dependency text_b) e (subst (λ xs. Contains xs e) (sym (same_Some (dependency text_b ∷ []) es there)) c)

only : (f : Fact ℕ) → IsFact held ring f → Only f
only f (starts n lt) = tt
only f (arrives n t i d h b l) = tt
only f (root_needs n i d h e b) = tt
only f (needs n i d h b o) = tt
only f (asks n t i d g h b l a) = asked n t i d g (dep_here n i d b) l a
only f (root_wants n t i d g h e b l a) = absurd (in_none (d.name, g) a)
only f (turns_on n g k h l) = absurd (let x = entry_of n g (feature k) (only (on n g) h) l in cc)
only f (enables n i d g h b l) = tt
only f (enables_for n i d g k h b l) = tt
only f (wants n t i d g k h b l to) =
    absurd (let x = entry_of n g (dependency_feature d.name k) (only (on n g) h) l in cc)
only f (wants_weakly n t i d g k h b l e to) =
    absurd (let x = entry_of n g (weak_feature d.name k) (only (on n g) h) l in cc)

root_at : IsRootAt held ring 2
root_at = (demo (0 ∷ []), refl, refl)

demo_enabled : IsFact held ring (enabled 2 0)
demo_enabled = root_needs 2 0 (on_any text_a) (starts 2 (omega arith)) root_at refl

b_enabled : IsFact held ring (enabled 1 0)
b_enabled = needs 1 0 (asking text_a (text_f ∷ [])) (starts 1 (omega arith)) refl refl

f_on : IsFact held ring (on 0 text_f)
f_on = asks 1 0 0 (asking text_a (text_f ∷ [])) text_f b_enabled refl refl (in_first text_f [])

a_enabled : IsFact held ring (enabled 0 0)
a_enabled =
    enables 0 0 (optional_on text_b) text_f f_on refl (dependency text_b ∷ [], refl, in_first (dependency text_b) [])

-- each list has the one target
lists_at : (n t : ℕ) (p : Package) → slice_get ring n ≡ Some p → Contains p.list t → IsTarget held ring n t
lists_at zero t p got c = let e =
    in_one 1 t (subst (λ (x : Package). Contains x.list t) (sym (same_Some package_a p got)) c) in
    (0, optional_on text_b, (refl, a_enabled), ap Some e)
lists_at (suc zero) t p got c = let e =
    in_one 0 t (subst (λ (x : Package). Contains x.list t) (sym (same_Some package_b p got)) c) in
    (0, asking text_a (text_f ∷ []), (refl, b_enabled), ap Some e)
lists_at (suc (suc zero)) t p got c = let e =
    in_one 0 t (subst (λ (x : Package). Contains x.list t) (sym (same_Some (demo (0 ∷ [])) p got)) c) in
    (0, on_any text_a, (refl, demo_enabled), ap Some e)
lists_at (suc (suc (suc n))) t p got c = absurd (none-some p got)

-- the list of the package at a place, which has this one element
list_has : (n m u t : ℕ) (p r : Package) → n ≡ m → slice_get ring m ≡ Some r → slice_get ring n ≡ Some p
    → Contains r.list u → u ≡ t → Contains p.list t
list_has n m u t p r place there got c e =
    let same : r ≡ p = same_Some r p (sym there ∙ ap (slice_get ring) (sym place) ∙ got) in
    subst₂ (λ (x : Package) k. Contains x.list k) same e c

lists_back : (n t i : ℕ) (p : Package) (d : Dependency) → slice_get ring n ≡ Some p → IsDep n i d
    → HasTarget held ring n d t → Contains p.list t
lists_back n t i p d got (of_a a k e) to = list_has n 0 1 t p package_a a refl got (in_first 1 [])
    (same_Some 1 t (target_here n t 0 d (optional_on text_b) a e to))
lists_back n t i p d got (of_b a k e) to = list_has n 1 0 t p package_b a refl got (in_first 0 [])
    (same_Some 0 t (target_here n t 1 d (asking text_a (text_f ∷ [])) a e to))
lists_back n t i p d got (of_demo a k e) to = list_has n 2 0 t p (demo (0 ∷ [])) a refl got (in_first 0 [])
    (same_Some 0 t (target_here n t 2 d (on_any text_a) a e to))

reached_at : (n : ℕ) → n < 3 → IsReached held ring n
reached_at zero lt = listed 2 0 (demo (0 ∷ [])) (at_root 2 root_at) refl (in_first 0 [])
reached_at (suc zero) lt =
    listed 0 1 package_a (listed 2 0 (demo (0 ∷ [])) (at_root 2 root_at) refl (in_first 0 [])) refl (in_first 1 [])
reached_at (suc (suc zero)) lt = at_root 2 root_at
reached_at (suc (suc (suc n))) lt = absurd (omega arith)

met_here : (n i : ℕ) (d : Dependency) → IsDep n i d → (t : ℕ) × HasTarget held ring n d t
met_here n i d (of_a p k e) = (1, subst₂ (λ m x. target_of ring m x ≡ Some 1) (sym p) e refl)
met_here n i d (of_b p k e) = (0, subst₂ (λ m x. target_of ring m x ≡ Some 0) (sym p) e refl)
met_here n i d (of_demo p k e) = (0, subst₂ (λ m x. target_of ring m x ≡ Some 0) (sym p) e refl)

-- the two packages of the registry
other_at : (n : ℕ) (p : Package) → IsOther held ring n p → ((n ≡ 0) × (package_a ≡ p)) ⊎ ((n ≡ 1) × (package_b ≡ p))
other_at zero p o = inl (refl, same_Some package_a p o.0)
other_at (suc zero) p o = inr (refl, same_Some package_b p o.0)
other_at (suc (suc zero)) p o = absurd (true≢false (ap (is_root held) (same_Some (demo (0 ∷ [])) p o.0) ∙ o.1))
other_at (suc (suc (suc n))) p o = absurd (none-some p o.0)

names_differ : (p r : Package) → package_a ≡ p → package_b ≡ r → p.name ≡ r.name → ⊥
names_differ p r a b e =
    let name : text_a ≡ text_b = ap (λ (x : Package). x.name) a ∙ e ∙ sym (ap (λ (x : Package). x.name) b) in
    true≢false (ap (same_text text_a) name)

pub ring-valid : IsValidSelection held ring
ring-valid = record {
  is_content = formed ring refl;
  root = (2, root_at);
  candidates = λ n p o. elim (other_at n p o) [
    | inl h ↦ subst (λ x. is_some (candidate_of held x) ≡ true) h.1 refl
    | inr h ↦ subst (λ x. is_some (candidate_of held x) ≡ true) h.1 refl
  ];
  one_in_class = λ n m p r o u name class. elim (other_at n p o) [
    | inl h ↦ elim (other_at m r u) [ inl k ↦ h.0 ∙ sym k.0 | inr k ↦ absurd (names_differ p r h.1 k.1 name) ]
    | inr h ↦ elim (other_at m r u) [ inl k ↦ absurd (names_differ r p k.1 h.1 (sym name)) | inr k ↦ h.0 ∙ sym k.0 ]
  ];
  met = λ n i d e. met_here n i d (dep_here n i d e.0);
  features_exist = λ n f h. let x = only (on n f) h in
      subst₂ (λ m g. has_feature (summary_at held ring m).features g ≡ true) (sym x.0) (sym x.1) refl;
  lists = λ n t p got. (lists_at n t p got, λ x. lists_back n t x.0 p x.1 got (dep_here n x.0 x.1 (x.2).0) x.3);
  reached = reached_at;
}
