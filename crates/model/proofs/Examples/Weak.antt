-- A weak entry asks the target of its dependency for a feature where something else enables the dependency, and does
-- nothing where not.
use Rattle.std.proofs.Common.{◌≡◌, ◌⊎◌, ℕ, zero, suc, List, [], ◌∷◌, Contains, Some, refl, sym, ap, ◌∙◌, subst, subst₂}
use Rattle.std.proofs.Common.{inl, inr, true≢false, arith}
use Rattle.std.proofs.lemmas.Option.{none-some, same_Some}
use Rattle.model.specs.Summary.{Dependency, Entry, Table, feature, dependency, dependency_feature, weak_feature}
use Rattle.model.specs.Summary.{entries_at, asked_of_target}
use Rattle.model.specs.Selection.{Fact, here, on, enabled, Brings, Lists, IsFact, IsRootAt, HasTarget}
use Rattle.model.specs.Selection.Holds.{starts, arrives, root_needs, needs, asks, root_wants, turns_on, enables}
use Rattle.model.specs.Selection.Holds.{enables_for, wants, wants_weakly}
use Rattle.model.specs.Content.{Problem, Content, is_root, summary_at, target_of}
use Rattle.model.proofs.Lists.{in_none, in_first, in_rest}
use Rattle.model.proofs.Examples.Small.{text_a, text_b, text_f, text_g, text_h, version_1_0, asking, optional_on}
use Rattle.model.proofs.Examples.Small.{candidate, asked_by_demo, locked, demo, in_one}

abbrev weak_entry : Entry
weak_entry = weak_feature text_b text_g

-- f asks b for g weakly, and h enables b
abbrev weak_table : Table
weak_table = (text_f, weak_entry ∷ []) ∷ (text_h, dependency text_b ∷ []) ∷ []

-- the root asks a for these features
abbrev weakly : List (List ℕ) → Problem
weakly fs = asked_by_demo (asking text_a fs ∷ [])
    ((text_a, candidate version_1_0 (optional_on text_b ∷ []) weak_table ∷ [])
    ∷ (text_b, candidate version_1_0 [] ((text_g, []) ∷ []) ∷ []) ∷ [])

-- a lists b
abbrev listing : Content
listing = locked text_a version_1_0 (1 ∷ []) ∷ locked text_b version_1_0 [] ∷ demo (0 ∷ []) ∷ []

-- with f and h: b is enabled, and f asks it for g
abbrev with_both : Problem
with_both = weakly (text_f ∷ text_h ∷ [])

root_at : IsRootAt with_both listing 2
root_at = (demo (0 ∷ []), refl, refl)

a_enabled : IsFact with_both listing (enabled 2 0)
a_enabled = root_needs 2 0 (asking text_a (text_f ∷ text_h ∷ [])) (starts 2 (omega arith)) root_at refl

f_on : IsFact with_both listing (on 0 text_f)
f_on = asks 2 0 0 (asking text_a (text_f ∷ text_h ∷ [])) text_f a_enabled refl refl (in_first text_f (text_h ∷ []))

h_on : IsFact with_both listing (on 0 text_h)
h_on = asks 2 0 0 (asking text_a (text_f ∷ text_h ∷ [])) text_h a_enabled refl refl
    (in_rest text_f text_h (text_h ∷ []) (in_first text_h []))

b_enabled : IsFact with_both listing (enabled 0 0)
b_enabled =
    enables 0 0 (optional_on text_b) text_h h_on refl (dependency text_b ∷ [], refl, in_first (dependency text_b) [])

pub asks_enabled : IsFact with_both listing (on 1 text_g)
asks_enabled = wants_weakly 0 1 0 (optional_on text_b) text_f text_g f_on refl
    (weak_entry ∷ [], refl, in_first weak_entry []) b_enabled refl

-- with f alone: f is on at a, and that is all
abbrev with_f : Problem
with_f = weakly (text_f ∷ [])

abbrev Alone : Fact ℕ → Type 0
Alone (here n) = Unit {0}
Alone (on n f) = (n ≡ 0) × (f ≡ text_f)
Alone (enabled n i) = n ≡ 2

dep_here : (n i : ℕ) (d : Dependency) → Brings (summary_at with_f listing) n i d
    → ((n ≡ 0) × (optional_on text_b ≡ d)) ⊎ ((n ≡ 2) × (asking text_a (text_f ∷ []) ≡ d))
dep_here zero zero d e = inl (refl, same_Some (optional_on text_b) d e)
dep_here zero (suc i) d e = absurd (none-some d e)
dep_here (suc zero) i d e = absurd (none-some d e)
dep_here (suc (suc zero)) zero d e = inr (refl, same_Some (asking text_a (text_f ∷ [])) d e)
dep_here (suc (suc zero)) (suc i) d e = absurd (none-some d e)
dep_here (suc (suc (suc n))) i d e = absurd (none-some d e)

root_place : (n : ℕ) → IsRootAt with_f listing n → n ≡ 2
root_place zero (p, got, is) =
    absurd (true≢false (sym (ap (is_root with_f) (same_Some (locked text_a version_1_0 (1 ∷ [])) p got) ∙ is)))
root_place (suc zero) (p, got, is) =
    absurd (true≢false (sym (ap (is_root with_f) (same_Some (locked text_b version_1_0 []) p got) ∙ is)))
root_place (suc (suc zero)) r = refl
root_place (suc (suc (suc n))) (p, got, is) = absurd (none-some p got)

-- the root's dependency asks a for f
asked_by_root : (n t i : ℕ) (d : Dependency) (g : List ℕ) → n ≡ 2 → Brings (summary_at with_f listing) n i d
    → HasTarget with_f listing n d t → Contains (asked_of_target d) g
    → (t ≡ 0) × (g ≡ text_f)
asked_by_root n t i d g at_root b to a = elim (dep_here n i d b) [
  | inl h ↦ absurd (let x : 0 ≡ 2 = sym h.0 ∙ at_root in omega arith)
  | inr h ↦
      let place : 0 ≡ t = same_Some 0 t (subst₂ (λ m e. target_of listing m e ≡ Some t) h.0 (sym h.1) to) in
      let name : text_f ≡ g =
      in_one text_f g (subst (λ (e : Dependency). Contains (asked_of_target e) g) (sym h.1) a) in
      (sym place, sym name)
]

-- f has the one entry
entry_of : (n : ℕ) (f : List ℕ) (e : Entry) → (n ≡ 0) × (f ≡ text_f)
    → Lists (summary_at with_f listing) n f e → weak_entry ≡ e
entry_of n f e h (es, at_f, c) =
    let here : Some (weak_entry ∷ []) ≡ Some es =
    subst₂ (λ m g. entries_at g (summary_at with_f listing m).features ≡ Some es) h.0 h.1 at_f in
    in_one weak_entry e (subst (λ xs. Contains xs e) (sym (same_Some (weak_entry ∷ []) es here)) c)

alone : (f : Fact ℕ) → IsFact with_f listing f → Alone f
alone f (starts n lt) = tt
alone f (arrives n t i d h b l) = tt
alone f (root_needs n i d h e b) = root_place n e
alone f (needs n i d h b o) = elim (dep_here n i d b) [
  | inl x ↦ absurd (true≢false (ap (λ (y : Dependency). y.optional) x.1 ∙ o))
  | inr x ↦ x.0
]
alone f (asks n t i d g h b l a) = asked_by_root n t i d g (alone (enabled n i) h) b l a
alone f (root_wants n t i d g h e b l a) = absurd (in_none (d.name, g) a)
alone f (turns_on n g k h l) = absurd (let x = entry_of n g (feature k) (alone (on n g) h) l in cc)
alone f (enables n i d g h b l) = absurd (let x = entry_of n g (dependency d.name) (alone (on n g) h) l in cc)
alone f (enables_for n i d g k h b l) =
    absurd (let x = entry_of n g (dependency_feature d.name k) (alone (on n g) h) l in cc)
alone f (wants n t i d g k h b l to) =
    absurd (let x = entry_of n g (dependency_feature d.name k) (alone (on n g) h) l in cc)
alone f (wants_weakly n t i d g k h b l e to) =
    absurd (let x : 0 ≡ 2 = sym (alone (on n g) h).0 ∙ alone (enabled n i) e in omega arith)

-- so b isn't enabled, and g is off there, although a lists it
pub enables_nothing : IsFact with_f listing (enabled 0 0) → ⊥
enables_nothing h = let x : zero ≡ suc (suc zero) = alone (enabled 0 0) h in omega arith

pub asks_nothing : IsFact with_f listing (on 1 text_g) → ⊥
asks_nothing h = let x : suc zero ≡ zero = (alone (on 1 text_g) h).0 in omega arith
