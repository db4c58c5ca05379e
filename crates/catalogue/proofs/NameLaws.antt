-- Where a name stands among the names so far, after one more is put last.
use Rattle.std.proofs.Common.{◌≡◌, ℕ, suc, Bool, true, false, cond, ◌||◌, List, [], ◌∷◌, ◌++◌, length, Option, Some}
use Rattle.std.proofs.Common.{None, ◌<◌, ◌+◌, get_or, drop, Bor, flat_map, option_map, is_some, refl, sym, ap, ◌∙◌}
use Rattle.std.proofs.Common.{subst}
use Rattle.std.proofs.Common.{true≢false}
use Rattle.std.specs.HashMap.{HashMap, Updates, get}
use Rattle.std.specs.List.{AllByRecursion, IsDistinct, list_any, position}
use Rattle.std.specs.Slice.{IsItemAt}
use Rattle.std.proofs.lemmas.List.{drop_more}
use Rattle.std.proofs.lemmas.List.Elements.{All-append}
use Rattle.std.proofs.lemmas.List.Sums.{fold-append}
use Rattle.std.proofs.lemmas.List.Concat.{flat_map-cons}
use Rattle.std.specs.Option.{option_or}
use Rattle.std.proofs.lemmas.Bool.{or_parts}
use Rattle.std.proofs.lemmas.List.Folds.{list_any-append, list_any_at}
use Rattle.std.proofs.Math.Bool.{or-true}
use Rattle.model.specs.Summary.{same_text}
use Rattle.model.proofs.Lists.{all_none, all_cons}
use Rattle.model.proofs.Same.{text-same, text-refl}
use Rattle.features.specs.inner.Valid.{IsPackageName}
use Rattle.features.specs.Views.{dependency_views}
use Rattle.features.specs.declared.dependency.DependencyParts.{DependencyParts}
use Rattle.catalogue.specs.Runs.{meant_by}
use Rattle.catalogue.specs.inner.Names.{ArePlaces, insert_all, insert_key}
use Rattle.catalogue.proofs.Rows.{position-cons}

module _ {X : Type 0} (p : X → Bool) where
  position-snoc : (xs : List X) (x : X)
      → position p (xs ++ x ∷ []) ≡ option_or (position p xs) (cond (p x) (Some (length xs)) None)
  position-snoc [] x = position-cons p x [] ∙ by (p x)
    where
      by : (b : Bool) → cond b (Some 0) None ≡ cond b (Some (length {A = X} [])) None
      by true = refl
      by false = refl
  position-snoc (y ∷ ys) x =
      position-cons p y (ys ++ x ∷ []) ∙ by (p y) (position-snoc ys x)
      ∙ sym (ap (λ o. option_or o (cond (p x) (Some (length (y ∷ ys))) None)) (position-cons p y ys))
    where
      shifted : (o : Option ℕ) (b : Bool) → option_map suc (option_or o (cond b (Some (length ys)) None))
          ≡ option_or (option_map suc o) (cond b (Some (length (y ∷ ys))) None)
      shifted (Some i) b = refl
      shifted None true = refl
      shifted None false = refl

      by : (b : Bool) → position p (ys ++ x ∷ []) ≡ option_or (position p ys) (cond (p x) (Some (length ys)) None)
          → cond b (Some 0) (option_map suc (position p (ys ++ x ∷ [])))
          ≡ option_or (cond b (Some 0) (option_map suc (position p ys))) (cond (p x) (Some (length (y ∷ ys))) None)
      by true rest = refl
      by false rest = ap (option_map suc) rest ∙ shifted (position p ys) (p x)

  -- there is a place just where the test holds of one
  place-any : (xs : List X) → is_some (position p xs) ≡ list_any p xs
  place-any [] = refl
  place-any (x ∷ xs) = ap is_some (position-cons p x xs) ∙ by (p x) (place-any xs)
    where
      shifted : (o : Option ℕ) → is_some (option_map suc o) ≡ is_some o
      shifted None = refl
      shifted (Some i) = refl

      by : (b : Bool) → is_some (position p xs) ≡ list_any p xs
          → is_some (cond b (Some 0) (option_map suc (position p xs))) ≡ (b || list_any p xs)
      by true rest = refl
      by false rest = shifted (position p xs) ∙ rest

  place-none : (xs : List X) → list_any p xs ≡ false → position p xs ≡ None
  place-none xs h = by (position p xs) (place-any xs ∙ h)
    where
      by : (o : Option ℕ) → is_some o ≡ false → o ≡ None
      by None e = refl
      by (Some i) e = absurd (true≢false e)

differs : (a b : List ℕ) → same_text a b ≡ false → same_text b a ≡ false
differs a b h = by (same_text b a) refl
  where
    by : (x : Bool) → same_text b a ≡ x → x ≡ false
    by true e = absurd (true≢false (sym (subst (λ t. same_text a t ≡ true) (sym (text-same b a e)) (text-refl a)) ∙ h))
    by false e = refl

distinct-snoc : (names : List (List ℕ)) (name : List ℕ) → IsDistinct same_text names
    → list_any (same_text name) names ≡ false → IsDistinct same_text (names ++ name ∷ [])
unfolding IsDistinct
distinct-snoc [] name d h = (tt, tt)
distinct-snoc (n ∷ ns) name d h =
    let p = or_parts (same_text name n) (list_any (same_text name) ns) h in
    (others ns d.0 (differs name n p.0), distinct-snoc ns name d.1 p.1)
  where
    others : (ms : List (List ℕ)) → AllByRecursion (λ y. same_text n y ≡ false) ms → same_text n name ≡ false
        → AllByRecursion (λ y. same_text n y ≡ false) (ms ++ name ∷ [])
    others [] all last = (last, tt)
    others (m ∷ ms) all last = (all.0, others ms all.1 last)

module _ {S : Type 0} where
  -- one more name goes last
  pub more_places : (names : List (List ℕ)) (name : List ℕ) (m n : HashMap (List ℕ) ℕ S) → ArePlaces names m
      → IsPackageName name → list_any (same_text name) names ≡ false
      → Updates same_text m n name (Some (length names)) → ArePlaces (names ++ name ∷ []) n
  more_places names name m n are valid absent u =
      record {
        valid = All-append IsPackageName names (name ∷ []) are.valid
            (all_cons IsPackageName name [] valid (all_none IsPackageName));
        once = distinct-snoc names name are.once absent;
        found =
            λ q. u.0 q ∙ by q (same_text name q) refl ∙ sym (position-snoc (same_text q) names name);
      }
    where
      by : (q : List ℕ) (b : Bool) → same_text name q ≡ b → cond b (Some (length names)) (get same_text m q)
          ≡ option_or (position (same_text q) names) (cond (same_text q name) (Some (length names)) None)
      by q true e =
          let is = text-same name q e in
          let none : position (same_text q) names ≡ None =
          subst (λ t. position (same_text t) names ≡ None) is (place-none (same_text name) names absent) in
          let here : same_text q name ≡ true = subst (λ t. same_text t name ≡ true) is (text-refl name) in
          sym (ap (λ o. option_or o (cond (same_text q name) (Some (length names)) None)) none
          ∙ ap (λ b. cond b (Some (length names)) None) here)
      by q false e =
          are.found q ∙ sym (ap (λ b. option_or (position (same_text q) names) (cond b (Some (length names)) None))
          (differs name q e) ∙ kept (position (same_text q) names))
        where
          kept : (o : Option ℕ) → option_or o None ≡ o
          kept None = refl
          kept (Some i) = refl

-- a look-up tells whether a name is there
pub there : {S : Type 0} (names : List (List ℕ)) (m : HashMap (List ℕ) ℕ S) (name : List ℕ) → ArePlaces names m
    → is_some (get same_text m name) ≡ list_any (same_text name) names
there names m name are = ap is_some (are.found name) ∙ place-any (same_text name) names

-- names that are there stay there
module _ (q : List ℕ) where
  kept-key : (ks : List (List ℕ)) (k : List ℕ) → list_any (same_text q) ks ≡ true
      → list_any (same_text q) (insert_key same_text ks k) ≡ true
  kept-key ks k h = by (list_any (same_text k) ks)
    where
      by : (b : Bool) → list_any (same_text q) (cond b ks (ks ++ k ∷ [])) ≡ true
      by true = h
      by false =
          list_any-append (same_text q) ks (k ∷ []) ∙ ap (λ b. b || list_any (same_text q) (k ∷ [])) h

  kept-all : (ks ns : List (List ℕ)) → list_any (same_text q) ks ≡ true
      → list_any (same_text q) (insert_all same_text ks ns) ≡ true
  kept-all ks [] h = h
  kept-all ks (n ∷ ns) h = kept-all (insert_key same_text ks n) ns (kept-key ks n h)

  -- a name that is put is there
  put-key : (ks : List (List ℕ)) (k : List ℕ) → same_text q k ≡ true
      → list_any (same_text q) (insert_key same_text ks k) ≡ true
  put-key ks k e = by (list_any (same_text k) ks) refl
    where
      by : (b : Bool) → list_any (same_text k) ks ≡ b → list_any (same_text q) (cond b ks (ks ++ k ∷ [])) ≡ true
      by true h = subst (λ t. list_any (same_text t) ks ≡ true) (sym (text-same q k e)) h
      by false h =
          list_any-append (same_text q) ks (k ∷ []) ∙ ap (λ b. list_any (same_text q) ks || (b || false)) e
          ∙ or-true (list_any (same_text q) ks)

  pub put-all : (ks ns : List (List ℕ)) → list_any (same_text q) ns ≡ true
      → list_any (same_text q) (insert_all same_text ks ns) ≡ true
  put-all ks [] h = absurd (true≢false (sym h))
  put-all ks (n ∷ ns) h = by (same_text q n) refl h (put-all (insert_key same_text ks n) ns)
    where
      by : (b : Bool) → same_text q n ≡ b → (b || list_any (same_text q) ns) ≡ true
          → (list_any (same_text q) ns ≡ true
          → list_any (same_text q) (insert_all same_text (insert_key same_text ks n) ns) ≡ true)
          → list_any (same_text q) (insert_all same_text (insert_key same_text ks n) ns) ≡ true
      by true e h rest = kept-all (insert_key same_text ks n) ns (put-key ks n e)
      by false e h rest = rest h

  -- a name that one of these dependencies means
  any-meant : (ds : List DependencyParts) → list_any (same_text q) (meant_by (dependency_views ds))
      ≡ list_any (λ d. same_text q d.real_name) ds
  any-meant [] = refl
  any-meant (d ∷ ds) = ap (λ b. same_text q d.real_name || b) (any-meant ds)

  pub meant-at : (ds : List DependencyParts) (i : ℕ) (r : Option (Bor DependencyParts)) (b : Bor DependencyParts)
      → IsItemAt ds i r → r ≡ Some b → same_text q b.now.real_name ≡ true
      → list_any (same_text q) (meant_by (dependency_views ds)) ≡ true
  meant-at ds i None b h e same = cc
  meant-at ds i (Some a) b h e same =
      any-meant ds ∙ list_any_at (λ d. same_text q d.real_name) ds i a.now h.3.0
      (sym (ap (λ (d : DependencyParts). same_text q d.real_name) (h.3.1 a.now)) ∙ ap means e ∙ same)
    where
      means : Option (Bor DependencyParts) → Bool
      means None = false
      means (Some d) = same_text q d.now.real_name

-- the names of the first of what is left are put, then those of the others
pub put-more : {X : Type 0} (f : X → List (List ℕ)) (ks : List (List ℕ)) (xs : List X) (i : ℕ) (x : X) → i < length xs
    → insert_all same_text (insert_all same_text ks (f (get_or xs i x))) (flat_map f (drop (i + 1) xs))
    ≡ insert_all same_text ks (flat_map f (drop i xs))
put-more f ks xs i x less =
    sym (ap (λ ys. insert_all same_text ks (flat_map f ys)) (drop_more xs i x less)
    ∙ ap (insert_all same_text ks) (flat_map-cons f (get_or xs i x) (drop (i + 1) xs))
    ∙ fold-append (insert_key same_text) ks (f (get_or xs i x)) (flat_map f (drop (i + 1) xs)))
