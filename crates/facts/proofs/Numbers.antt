-- Which fact each number stands for: facts and numbers are one to one.
use Rattle.std.proofs.Common.{◌≡◌, ℕ, zero, suc, ◌+◌, List, [], ◌∷◌, ◌++◌, map, length, Bool, true, false, cond, Option}
use Rattle.std.proofs.Common.{Some, None, slice_get, is_some, option_and_then, option_map, refl, sym, ap, ap₂, ◌∙◌}
use Rattle.std.proofs.Common.{subst}
use Rattle.std.proofs.Common.{arith}
use Rattle.std.proofs.lemmas.List.{length-append, append_assoc}
use Rattle.model.specs.Summary.{Dependency, Table, same_text, has_feature, entries_at}
use Rattle.model.proofs.Same.{text-same}
use Rattle.features.specs.inner.Places.{place_of}
use Rattle.facts.specs.inner.Graphs.{NodeView}
use Rattle.facts.specs.inner.FactNumbers.{LinkView, FactNumbersView, number_in, links_from, links_called}
use Rattle.facts.specs.inner.FactNumbers.{IsNumberedFrom}

-- a fact of a package
pub data Mark : Type 0 where
  is_here : ℕ → Mark
  -- some feature is on that doesn't exist there
  lacking : ℕ → Mark
  is_on : ℕ → List ℕ → Mark
  is_enabled : ℕ → ℕ → Mark

abbrev pub on_marks : ℕ → Table → List Mark
on_marks n rows = map (λ row. is_on n row.0) rows

abbrev pub enabled_marks : ℕ → ℕ → List Dependency → List Mark
enabled_marks n i [] = []
enabled_marks n i (d ∷ ds) = is_enabled n i ∷ enabled_marks n (suc i) ds

-- the facts of a package in the order of their numbers
abbrev pub block : ℕ → NodeView → List Mark
block n x = is_here n ∷ lacking n ∷ on_marks n x.brings.features ++ enabled_marks n 0 x.brings.dependencies

abbrev pub marks_from : ℕ → List NodeView → List Mark
marks_from n [] = []
marks_from n (x ∷ xs) = block n x ++ marks_from (suc n) xs

module _ {X : Type 0} where
  get_next : (xs : List X) (y : X) (ys : List X) → slice_get (xs ++ y ∷ ys) (length xs) ≡ Some y
  get_next [] y ys = refl
  get_next (x ∷ xs) y ys = get_next xs y ys

  get_later : (xs : List X) (y z : X) (ys : List X) → slice_get (xs ++ y ∷ z ∷ ys) (suc (length xs)) ≡ Some z
  get_later [] y z ys = refl
  get_later (x ∷ xs) y z ys = get_later xs y z ys

  get_behind : (xs ys : List X) (i : ℕ) → slice_get (xs ++ ys) (length xs + i) ≡ slice_get ys i
  get_behind [] ys i = let e : 0 + i ≡ i = omega arith in ap (slice_get ys) e
  get_behind (x ∷ xs) ys i =
      let e : suc (length xs) + i ≡ suc (length xs + i) = omega arith in
      ap (slice_get (x ∷ xs ++ ys)) e ∙ get_behind xs ys i

  one_more : (xs : List X) (y : X) (ys : List X) → (xs ++ y ∷ []) ++ ys ≡ xs ++ y ∷ ys
  one_more xs y ys = append_assoc xs (y ∷ []) ys

  long : (xs : List X) (y : X) → length (xs ++ y ∷ []) ≡ suc (length xs)
  long xs y = length-append xs (y ∷ []) ∙ omega arith

-- what stands at the place of a feature
abbrev IsThere : ℕ → List ℕ → Table → List Mark → ℕ → Type 0
IsThere n f rows rest i =
    (slice_get (on_marks n rows ++ rest) i ≡ Some (is_on n f)) × (has_feature rows f ≡ true)

place_there : (n : ℕ) (f : List ℕ) (rows : Table) (rest : List Mark) (i : ℕ) → place_of f rows ≡ Some i
    → IsThere n f rows rest i
place_there n f [] rest i e = let z : None ≡ Some i = e in absurd cc
place_there n f (row ∷ rows) rest i e = by (same_text f row.0) refl e (place_there n f rows rest)
  where
    later : (o : Option ℕ) → same_text f row.0 ≡ false → option_map suc o ≡ Some i
        → ((j : ℕ) → o ≡ Some j → IsThere n f rows rest j) → IsThere n f (row ∷ rows) rest i
    later None x e h = let z : None ≡ Some i = e in absurd cc
    later (Some j) x e h =
        let at : suc j ≡ i = cc in
        let r = h j refl in (
          subst (λ m. slice_get (on_marks n (row ∷ rows) ++ rest) m ≡ Some (is_on n f)) at r.0,
          ap (λ b. is_some (cond b (Some row.1) (entries_at f rows))) x ∙ r.1,
        )

    by : (b : Bool) → same_text f row.0 ≡ b → cond b (Some 0) (option_map suc (place_of f rows)) ≡ Some i
        → ((j : ℕ) → place_of f rows ≡ Some j → IsThere n f rows rest j) → IsThere n f (row ∷ rows) rest i
    by true x e h =
        let at : 0 ≡ i = cc in (
          subst (λ m. slice_get (on_marks n (row ∷ rows) ++ rest) m ≡ Some (is_on n f)) at
              (ap (λ g. Some (is_on n g)) (sym (text-same f row.0 x))),
          ap (λ b. is_some (cond b (Some row.1) (entries_at f rows))) x,
        )
    by false x e h = later (place_of f rows) x e h

-- the number of a feature is that of the fact that it is on
feature_there : (n : ℕ) (f : List ℕ) (front : List Mark) (rows : Table) (rest : List Mark) (k : ℕ)
    → number_in (length front) f rows ≡ Some k
    → (slice_get (front ++ (on_marks n rows ++ rest)) k ≡ Some (is_on n f)) × (has_feature rows f ≡ true)
feature_there n f front rows rest k e = by (place_of f rows) refl e
  where
    by : (o : Option ℕ) → place_of f rows ≡ o → option_map (λ i. length front + i) o ≡ Some k
        → (slice_get (front ++ (on_marks n rows ++ rest)) k ≡ Some (is_on n f)) × (has_feature rows f ≡ true)
    by None z e = let w : None ≡ Some k = e in absurd cc
    by (Some i) z e =
        let at : length front + i ≡ k = cc in
        let r = place_there n f rows rest i z in (
          subst (λ m. slice_get (front ++ (on_marks n rows ++ rest)) m ≡ Some (is_on n f)) at
              (get_behind front (on_marks n rows ++ rest) i ∙ r.0),
          r.1,
        )

-- a feature without a place doesn't exist
place_absent : (f : List ℕ) (rows : Table) → place_of f rows ≡ None → has_feature rows f ≡ false
place_absent f [] e = refl
place_absent f (row ∷ rows) e = by (same_text f row.0) refl e (place_absent f rows)
  where
    before : (o : Option ℕ) → option_map suc o ≡ None → o ≡ None
    before None e = refl
    before (Some j) e = let z : Some (suc j) ≡ None = e in absurd cc

    by : (b : Bool) → same_text f row.0 ≡ b → cond b (Some 0) (option_map suc (place_of f rows)) ≡ None
        → (place_of f rows ≡ None → has_feature rows f ≡ false) → has_feature (row ∷ rows) f ≡ false
    by true x e h = let z : Some 0 ≡ None = e in absurd cc
    by false x e h =
        ap (λ b. is_some (cond b (Some row.1) (entries_at f rows))) x ∙ h (before (place_of f rows) e)

-- nor does one without a number
feature_absent : (f : List ℕ) (k : ℕ) (rows : Table) → number_in k f rows ≡ None → has_feature rows f ≡ false
feature_absent f k rows e = place_absent f rows (before (place_of f rows) e)
  where
    before : (o : Option ℕ) → option_map (λ i. k + i) o ≡ None → o ≡ None
    before None e = refl
    before (Some j) e = let z : Some (k + j) ≡ None = e in absurd cc

-- what is known of the dependency with a number
pub record IsLink (marks : List Mark) (n : ℕ) (targets : List (Option ℕ)) (i : ℕ) (d : Dependency)
    (l : LinkView) : Type 0 where
  pub dependency : l.dependency ≡ d
  pub target : l.target ≡ option_and_then (λ o. o) (slice_get targets i)
  pub enabled : slice_get marks l.enabled ≡ Some (is_enabled n i)

link_there : (n : ℕ) (targets : List (Option ℕ)) (front : List Mark) (i : ℕ) (ds : List Dependency) (rest : List Mark)
    (j : ℕ) (d : Dependency) → slice_get ds j ≡ Some d
    → (l : LinkView) × (slice_get (links_from (length front) targets i ds) j ≡ Some l)
    × IsLink (front ++ (enabled_marks n i ds ++ rest)) n targets (i + j) d l
link_there n targets front i [] rest j d e = let z : None ≡ Some d = e in absurd cc
link_there n targets front i (x ∷ ds) rest zero d e = (
  _,
  refl,
  record {
    dependency = let s : x ≡ d = cc in s;
    target = let s : i ≡ i + 0 = omega arith in ap (λ m. option_and_then (λ o. o) (slice_get targets m)) s;
    enabled = let s : i ≡ i + 0 = omega arith in
        get_next front (is_enabled n i) (enabled_marks n (suc i) ds ++ rest) ∙ ap (λ m. Some (is_enabled n m)) s;
  },
)
link_there n targets front i (x ∷ ds) rest (suc j) d e =
    let r = link_there n targets (front ++ is_enabled n i ∷ []) (suc i) ds rest j d e in
    let same : (front ++ is_enabled n i ∷ []) ++ (enabled_marks n (suc i) ds ++ rest)
    ≡ front ++ (enabled_marks n i (x ∷ ds) ++ rest) =
    one_more front (is_enabled n i) (enabled_marks n (suc i) ds ++ rest) in
    let at : suc i + j ≡ i + suc j = omega arith in (
      r.0,
      ap (λ m. slice_get (links_from m targets (suc i) ds) j) (sym (long front (is_enabled n i))) ∙ r.1,
      subst (λ m. IsLink (front ++ (enabled_marks n i (x ∷ ds) ++ rest)) n targets m d r.0) at
          (subst (λ ms. IsLink ms n targets (suc i + j) d r.0) same r.2),
    )

link_back : (n : ℕ) (targets : List (Option ℕ)) (k i : ℕ) (ds : List Dependency) (j : ℕ) (l : LinkView)
    → slice_get (links_from k targets i ds) j ≡ Some l
    → (d : Dependency) × (slice_get ds j ≡ Some d)
link_back n targets k i [] j l e = let z : None ≡ Some l = e in absurd cc
link_back n targets k i (x ∷ ds) zero l e = (x, refl)
link_back n targets k i (x ∷ ds) (suc j) l e = link_back n targets (suc k) (suc i) ds j l e

-- the numbers of the package at place n stand for its facts
pub record IsNumbered (marks : List Mark) (n : ℕ) (x : NodeView) (p : FactNumbersView) : Type 0 where
  pub brings : p.brings ≡ x.brings
  pub here : slice_get marks p.here ≡ Some (is_here n)
  pub lacks : slice_get marks p.lacks ≡ Some (lacking n)
  pub on : (f : List ℕ) (k : ℕ) → p.numbers f ≡ Some k
      → (slice_get marks k ≡ Some (is_on n f)) × (has_feature x.brings.features f ≡ true)
  pub absent : (f : List ℕ) → p.numbers f ≡ None → has_feature x.brings.features f ≡ false
  pub link : (i : ℕ) (d : Dependency) → slice_get x.brings.dependencies i ≡ Some d
      → (l : LinkView) × (slice_get p.links i ≡ Some l) × IsLink marks n x.targets i d l
  pub back : (i : ℕ) (l : LinkView) → slice_get p.links i ≡ Some l
      → (d : Dependency) × (slice_get x.brings.dependencies i ≡ Some d)
  pub called : (d : List ℕ) → p.called d ≡ links_called d p.links

pub numbered : (front : List Mark) (n : ℕ) (x : NodeView) (p : FactNumbersView) (rest : List Mark)
    → IsNumberedFrom (length front) x p → IsNumbered (front ++ (block n x ++ rest)) n x p
numbered front n x p rest h =
    let rows = x.brings.features in
    let ds = x.brings.dependencies in
    let two : List Mark = (front ++ is_here n ∷ []) ++ lacking n ∷ [] in
    let long_two : length two ≡ suc (suc (length front)) =
    long (front ++ is_here n ∷ []) (lacking n) ∙ ap suc (long front (is_here n)) in
    let tail : List Mark = on_marks n rows ++ enabled_marks n 0 ds in
    let split : two ++ (tail ++ rest) ≡ front ++ (block n x ++ rest)
    = one_more (front ++ is_here n ∷ []) (lacking n) (tail ++ rest)
    ∙ one_more front (is_here n) (lacking n ∷ (tail ++ rest)) in
    let ons : two ++ (on_marks n rows ++ (enabled_marks n 0 ds ++ rest)) ≡ front ++ (block n x ++ rest)
    = ap (λ ms. two ++ ms) (sym (append_assoc (on_marks n rows) (enabled_marks n 0 ds) rest)) ∙ split in
    let three : List Mark = two ++ on_marks n rows in
    let long_three : length three ≡ suc (suc (length front)) + length rows =
    length-append two (on_marks n rows) ∙ ap₂ (λ a b. a + b) long_two (length-on n rows) in
    let deps : three ++ (enabled_marks n 0 ds ++ rest) ≡ front ++ (block n x ++ rest) =
    append_assoc two (on_marks n rows) (enabled_marks n 0 ds ++ rest) ∙ ons in
    let links : p.links ≡ links_from (length three) x.targets 0 ds =
    h.links ∙ ap (λ k. links_from k x.targets 0 ds) (sym long_three) in
    record {
      brings = h.brings;
      here = ap (slice_get (front ++ (block n x ++ rest))) h.here
          ∙ get_next front (is_here n) (lacking n ∷ (tail ++ rest));
      lacks = ap (slice_get (front ++ (block n x ++ rest))) h.lacks
          ∙ get_later front (is_here n) (lacking n) (tail ++ rest);
      on = λ f k e.
          let e2 : number_in (length two) f rows ≡ Some k =
          ap (λ m. number_in m f rows) long_two ∙ sym (h.numbers f) ∙ e in
          let r = feature_there n f two rows (enabled_marks n 0 ds ++ rest) k e2 in
          (ap (λ ms. slice_get ms k) (sym ons) ∙ r.0, r.1);
      absent = λ f e. feature_absent f (suc (suc (length front))) rows (sym (h.numbers f) ∙ e);
      link = λ i d e.
          let r = link_there n x.targets three 0 ds rest i d e in
          let at : 0 + i ≡ i = omega arith in (
            r.0,
            ap (λ ls. slice_get ls i) links ∙ r.1,
            subst (λ m. IsLink (front ++ (block n x ++ rest)) n x.targets m d
                r.0) at (subst (λ ms. IsLink ms n x.targets (0 + i) d r.0) deps r.2),
          );
      back = λ i l e. link_back n x.targets (length three) 0 ds i l (ap (λ ls. slice_get ls i) (sym links) ∙ e);
      called = h.called;
    }
  where
    length-on : (n : ℕ) (rows : Table) → length (on_marks n rows) ≡ length rows
    length-on n [] = refl
    length-on n (row ∷ rows) = ap suc (length-on n rows)
