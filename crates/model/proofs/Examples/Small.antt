-- What the examples are made of: one registry, a root `demo 0.1.0`, and packages of one letter.
use Rattle.std.proofs.Common.{◌≡◌, ℕ, ◌<◌, List, [], ◌∷◌, length, Bool, true, false, Contains, Some, None, Ordering}
use Rattle.std.proofs.Common.{Less, Equal, Greater, is_lt, nat_lt, ◌&&◌, sym, true≢false, inl, inr, refl, subst}
use Rattle.std.specs.Prelude.{codes}
use Rattle.std.specs.List.{All, AllPairs, list_all}
use Rattle.std.proofs.lemmas.Bool.{ltb-true}
use Rattle.std.proofs.lemmas.List.Kept.{AllPairs-cons}
use Rattle.semver.specs.Parse.{Parts}
use Rattle.model.specs.Summary.{Dependency, Table, asked_of_target}
use Rattle.model.specs.Selection.{Brings, Fact, here, on, enabled, IsFact}
use Rattle.model.specs.Selection.Holds.{starts, arrives, root_needs, needs, asks, root_wants, turns_on, enables}
use Rattle.model.specs.Selection.Holds.{enables_for, wants, wants_weakly}
use Rattle.model.specs.Content.{Package, Content, Candidate, Problem, summary_at}
use Rattle.model.specs.Order.{package_cmp, IsContent}
use Rattle.model.proofs.Same.{both}
use Rattle.model.proofs.Lists.{in_none, in_cons, all_none, all_cons, pairs_none}

abbrev pub text_a : List ℕ
text_a = codes "a"

abbrev pub text_b : List ℕ
text_b = codes "b"

abbrev pub text_f : List ℕ
text_f = codes "f"

abbrev pub text_g : List ℕ
text_g = codes "g"

abbrev pub text_h : List ℕ
text_h = codes "h"

abbrev pub version_1_0 : Parts
version_1_0 = (1, 0, 0, [], [])

abbrev pub version_1_1 : Parts
version_1_1 = (1, 1, 0, [], [])

abbrev pub version_2_0 : Parts
version_2_0 = (2, 0, 0, [], [])

abbrev pub registry : List ℕ
registry = codes "r"

abbrev pub digits : List ℕ
digits = codes "0"

-- a dependency that any version serves, which asks for these features
abbrev pub asking : List ℕ → List (List ℕ) → Dependency
asking name fs = record {
  name = name;
  real_name = name;
  requirement = [];
  optional =
      false;
  default_features = false;
  features = fs;
}

abbrev pub on_any : List ℕ → Dependency
on_any name = asking name []

abbrev pub optional_on : List ℕ → Dependency
optional_on name =
    record { name = name; real_name = name; requirement = []; optional = true; default_features = false; features = [] }

abbrev pub candidate : Parts → List Dependency → Table → Candidate
candidate v ds fs = record { version = v; checksum = digits; brings = record { dependencies = ds; features = fs } }

-- the root with these dependencies, and these candidates
abbrev pub asked_by_demo : List Dependency → List (List ℕ × List Candidate) → Problem
asked_by_demo ds cs = record {
  name = codes "demo";
  version = (0, 1, 0, [], []);
  brings =
      record { dependencies = ds; features = [] };
  root_asks = [];
  source = registry;
  candidates = cs;
}

-- a package of the registry, with its list
abbrev pub locked : List ℕ → Parts → List ℕ → Package
locked name v list = record { name = name; version = v; source = Some registry; checksum = Some digits; list = list }

abbrev pub demo : List ℕ → Package
demo list = record { name = codes "demo"; version = (0, 1, 0, [], []); source = None; checksum = None; list = list }

pub in_one : {X : Type 0} (x y : X) → Contains (x ∷ []) y → x ≡ y
in_one x y c = elim (in_cons x y [] c) [ inl e ↦ e | inr c ↦ absurd (in_none y c) ]

-- a test of each two elements
abbrev pairs_pass : {X : Type 0} → (X → X → Bool) → List X → Bool
pairs_pass r [] = true
pairs_pass r (x ∷ xs) = list_all (r x) xs && pairs_pass r xs

module _ {X : Type 0} where
  all_from : (P : X → Type 0) (p : X → Bool) → ((x : X) → p x ≡ true → P x) → (xs : List X)
      → list_all p xs ≡ true → All P xs
  all_from P p sure [] h = all_none P
  all_from P p sure (x ∷ xs) h = let e =
      both (p x) (list_all p xs) h in all_cons P x xs (sure x e.0) (all_from P p sure xs e.1)

  pairs_from : (R : X → X → Type 0) (r : X → X → Bool) → ((x y : X) → r x y ≡ true → R x y) → (xs : List X)
      → pairs_pass r xs ≡ true → AllPairs R xs
  pairs_from R r sure [] h = pairs_none R
  pairs_from R r sure (x ∷ xs) h = let e = both (list_all (r x) xs) (pairs_pass r xs) h in
      AllPairs-cons R x xs (all_from (R x) (r x) (sure x) xs e.0) (pairs_from R r sure xs e.1)

abbrev in_range : ℕ → Package → Bool
in_range n p = list_all (λ t. nat_lt t n) p.list

abbrev rises : Package → Bool
rises p = pairs_pass nat_lt p.list

abbrev before : Package → Package → Bool
before p r = is_lt (package_cmp p r)

abbrev pub is_content : Content → Bool
is_content content =
    pairs_pass before content && (list_all (in_range (length content)) content && list_all rises content)

is_less : (o : Ordering) → is_lt o ≡ true → o ≡ Less
is_less Less h = refl
is_less Equal h = absurd (true≢false (sym h))
is_less Greater h = absurd (true≢false (sym h))

-- packages that pass the test are a content
pub formed : (content : Content) → is_content content ≡ true → IsContent content
formed content h =
    let e =
    both (pairs_pass before content) (list_all (in_range (length content)) content && list_all rises content) h in
    let f = both (list_all (in_range (length content)) content) (list_all rises content) e.1 in
    record {
      in_order = pairs_from (λ p r. package_cmp p r ≡ Less) before (λ p r x. is_less (package_cmp p r) x) content e.0;
      within = all_from (λ p. All (λ t. t < length content) p.list) (in_range (length content))
          (λ p x. all_from (λ t. t < length content) (λ t. nat_lt t (length content))
          (λ t y. ltb-true t (length content) y) p.list x) content f.0;
      rising = all_from (λ p. AllPairs (λ i j. i < j) p.list) rises
          (λ p x. pairs_from (λ i j. i < j) nat_lt (λ i j y. ltb-true i j y) p.list x) content f.1;
    }

-- where nothing asks for a feature, none is on
module _ (q : Problem) (content : Content) (asks_none : (n i : ℕ) (d : Dependency) (f : List ℕ)
    → Brings (summary_at q content) n i d → Contains (asked_of_target d) f → ⊥)
    (root_asks_none : q.root_asks ≡ []) where
  abbrev NoFeature : Fact ℕ → Type 0
  NoFeature (here n) = Unit {0}
  NoFeature (on n f) = ⊥
  NoFeature (enabled n i) = Unit {0}

  none_of : (f : Fact ℕ) → IsFact q content f → NoFeature f
  none_of f (starts n lt) = tt
  none_of f (arrives n t i d h b l) = tt
  none_of f (root_needs n i d h e b) = tt
  none_of f (needs n i d h b o) = tt
  none_of f (asks n t i d g h b l a) = asks_none n i d g b a
  none_of f (root_wants n t i d g h e b l a) =
      in_none (d.name, g) (subst (λ xs. Contains xs (d.name, g)) root_asks_none a)
  none_of f (turns_on n g k h l) = none_of (on n g) h
  none_of f (enables n i d g h b l) = tt
  none_of f (enables_for n i d g k h b l) = tt
  none_of f (wants n t i d g k h b l to) = none_of (on n g) h
  none_of f (wants_weakly n t i d g k h b l e to) = none_of (on n g) h

  pub no_feature_on : (n : ℕ) (f : List ℕ) → IsFact q content (on n f) → ⊥
  no_feature_on n f h = none_of (on n f) h
