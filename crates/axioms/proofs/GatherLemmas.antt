-- What is gathered of owners, dependencies and entries is what is known.
use Rattle.std.proofs.Common.{◌≡◌, ℕ, ◌+◌, ◌≤◌, List, [], ◌∷◌, ◌++◌, map, drop, length, slice_get, Bool, true, false}
use Rattle.std.proofs.Common.{◌||◌, ◌&&◌, cond, Option, Some, None, Result, Ok, Err, OnOk, is_some, unwrap_or, codes}
use Rattle.std.proofs.Common.{refl, sym, ap, ap₂, ◌∙◌}
use Rattle.std.specs.Borrow.{Bor}
use Rattle.std.specs.List.{list_any}
use Rattle.std.proofs.lemmas.List.Folds.{list_any-append}
use Rattle.semver.specs.Parse.{Parts}
use Rattle.semver.specs.Identifiers.{parts_of}
use Rattle.semver.specs.declared.Version.{Version}
use Rattle.features.specs.inner.Texts.{has_text}
use Rattle.model.specs.Summary.{Dependency, Entry, Table, nothing, asked_of_target, entries_at, has_feature, same_text}
use Rattle.model.specs.Content.{Candidate, candidates_of, passes}
use Rattle.model.specs.Vertices.{the_root, version_of}
use Rattle.model.proofs.Same.{text-same}
use Rattle.model.proofs.Flips.{text-flips}
use Rattle.model.proofs.Mapped.{any-map}
use Rattle.manifest.specs.Manifests.{ManifestView}
use Rattle.manifest.specs.Manifests as manifest
use Rattle.model.specs.Causes.{asks_for, entries_or_none, owner_asks, owners_in, same_pair}
use Rattle.catalogue.specs.Problems.{problem_in}
use Rattle.catalogue.specs.Stores.{records, CatalogueView, IsStore, Row, candidates_at, rows_by_name}
use Rattle.model.specs.Candidates.{as_candidate}
use Rattle.axioms.specs.inner.Asking.{row_may_ask, row_names, row_owners_ask, version_asks}
use Rattle.axioms.specs.inner.Gathered.{brings_in, is_asked_by_root, is_asked_by_some, is_asked_by_version, is_had}
use Rattle.axioms.specs.inner.Gathered.{is_known_by, is_known_feature}
use Rattle.axioms.specs.inner.Pairs.{Adds, has_pair}
use Rattle.axioms.specs.declared.pairs.Pairs.{Pairs}
use Rattle.axioms.proofs.Asked.{owner_may_ask, rows_ask}
use Rattle.catalogue.proofs.Lookups.{candidates_are}
use Rattle.axioms.proofs.Featured.{any_end, any_here, any_later, rows_asked}
use Rattle.axioms.proofs.PairLemmas.{or-none}
use Rattle.lookups.proofs.Versions.{any_candidate}

abbrev Test : Type 0
Test = List ℕ → List ℕ → Bool

-- pairs that came by one test came by another that is the same
pub adds_so : (old new : Pairs) (t u : Test) → ((n f : List ℕ) → t n f ≡ u n f) → Adds old new t → Adds old new u
adds_so old new t u e a n f = a n f ∙ ap (λ b. has_pair old n f || b) (e n f)

pub adds_ok : {X E : Type 0} (r : Result X E) (old new : Pairs) (t u : Test) → ((n f : List ℕ) → t n f ≡ u n f)
    → OnOk r (Adds old new t) → OnOk r (Adds old new u)
adds_ok (Ok x) old new t u e a = adds_so old new t u e a
adds_ok (Err x) old new t u e a = a

-- none came where none passes
pub adds_none : (p : Pairs) (u : Test) → ((n f : List ℕ) → false ≡ u n f) → Adds p p u
adds_none p u e n f = or-none (has_pair p n f) ∙ ap (λ b. has_pair p n f || b) (e n f)

or-assoc : (a b c : Bool) → ((a || b) || c) ≡ (a || (b || c))
or-assoc true b c = refl
or-assoc false b c = refl

or-swap : (a b c : Bool) → (a || (b || c)) ≡ (b || (a || c))
or-swap true true c = refl
or-swap true false c = refl
or-swap false b c = refl

pub and-none : (s p : Bool) → false ≡ p → false ≡ (s && p)
and-none true p e = e
and-none false p e = refl

and-or : (s a b : Bool) → ((s && a) || (s && b)) ≡ (s && (a || b))
and-or true a b = refl
and-or false a b = refl

any-and : {X : Type 0} (s : Bool) (p : X → Bool) (xs : List X) → list_any (λ x. s && p x) xs ≡ (s && list_any p xs)
any-and true p xs = refl
any-and false p [] = refl
any-and false p (x ∷ xs) = any-and false p xs

any-or : {X : Type 0} (p q : X → Bool) (xs : List X) → list_any (λ x. p x || q x) xs ≡ (list_any p xs || list_any q xs)
any-or p q [] = refl
any-or p q (x ∷ xs) =
    ap (λ b. (p x || q x) || b) (any-or p q xs) ∙ or-assoc (p x) (q x) (list_any p xs || list_any q xs)
    ∙ ap (λ b. p x || b) (or-swap (q x) (list_any p xs) (list_any q xs))
    ∙ sym (or-assoc (p x) (list_any p xs) (q x || list_any q xs))

pub any-same : {X : Type 0} (p q : X → Bool) → ((x : X) → p x ≡ q x) → (xs : List X) → list_any p xs ≡ list_any q xs
any-same p q e [] = refl
any-same p q e (x ∷ xs) = ap₂ (λ a b. a || b) (e x) (any-same p q e xs)

-- ---- features by one name

pub named_texts : (n f name : List ℕ) (fs : List (List ℕ))
    → list_any (λ g. same_pair (n, f) (name, g)) fs ≡ (same_text n name && list_any (same_text f) fs)
named_texts n f name fs = any-and (same_text n name) (same_text f) fs

pub named_keys : (n f name : List ℕ) (ks : List (Bor (List ℕ)))
    → list_any (λ k. same_pair (n, f) (name, k.now)) ks ≡ (same_text n name && has_text ks f)
named_keys n f name ks = any-and (same_text n name) (λ k. same_text f k.now) ks

has_row : (f : List ℕ) (table : Table) → list_any (λ row. same_text f row.0) table ≡ has_feature table f
has_row f [] = refl
has_row f (row ∷ rows) = by (same_text f row.0) (has_row f rows)
  where
    by : (b : Bool) → list_any (λ r. same_text f r.0) rows ≡ has_feature rows f
        → (b || list_any (λ r. same_text f r.0) rows) ≡ is_some (cond b (Some row.1) (entries_at f rows))
    by true e = refl
    by false e = e

pub named_rows : (n f name : List ℕ) (table : Table)
    → list_any (λ row. same_pair (n, f) (name, row.0)) table ≡ (same_text n name && has_feature table f)
named_rows n f name table =
    any-and (same_text n name) (λ row. same_text f row.0) table ∙ ap (λ b. same_text n name && b) (has_row f table)

-- a dependency's list without `default`, and with it
pub list_plain : (name : List ℕ) (d : Dependency) (n f : List ℕ) → d.default_features ≡ false
    → list_any (λ g. same_pair (n, f) (name, g)) d.features
    ≡ (same_text n name && list_any (same_text f) (asked_of_target d))
list_plain name d n f e = named_texts n f name d.features
    ∙ ap (λ b. same_text n name
    && list_any (same_text f) (cond b (d.features ++ codes "default" ∷ []) d.features)) (sym e)

pub list_default : (name : List ℕ) (d : Dependency) (n f : List ℕ) → d.default_features ≡ true
    → (list_any (λ g. same_pair (n, f) (name, g)) d.features || same_pair (n, f) (name, codes "default"))
    ≡ (same_text n name && list_any (same_text f) (asked_of_target d))
list_default name d n f e =
    let s = same_text n name in
    ap (λ b. b || (s && same_text f (codes "default"))) (named_texts n f name d.features)
    ∙ and-or s (list_any (same_text f) d.features) (same_text f (codes "default"))
    ∙ ap (λ b. s && (list_any (same_text f) d.features || b)) (or-none (same_text f (codes "default")))
    ∙ ap (λ b. s && b) (sym (list_any-append (same_text f) d.features (codes "default" ∷ [])))
    ∙ ap (λ b. s && list_any (same_text f) (cond b (d.features ++ codes "default" ∷ []) d.features)) (sym e)

-- two tests one after the other
pub adds_both : (old mid new : Pairs) (t u : Test) → Adds old mid t → Adds mid new u
    → Adds old new (λ n f. t n f || u n f)
adds_both old mid new t u a b n f = b n f ∙ ap (λ x. x || u n f) (a n f) ∙ or-assoc (has_pair old n f) (t n f) (u n f)

-- ---- loops

-- with what one more adds, the rest and what was there are still the whole
pub one_more : (before after e rest whole : Bool) → after ≡ (before || e) → (before || (e || rest)) ≡ whole
    → (after || rest) ≡ whole
one_more before after e rest whole h told = ap (λ b. b || rest) h ∙ or-assoc before e rest ∙ told

pub names_is : (d g : List ℕ) (row : List ℕ × List Entry) → list_any (asks_for d g) row.1 ≡ row_names d g row
unfolding row_names
names_is d g row = refl

pub none_are : (o : Option (List Entry)) → unwrap_or o [] ≡ entries_or_none o
none_are None = refl
none_are (Some es) = refl

pub may_ask_is : (d g : List ℕ) (table : Table) (row : List ℕ × List Entry)
    → list_any (asks_for d g) (unwrap_or (entries_at row.0 table) []) ≡ row_may_ask d g table row
unfolding row_may_ask
may_ask_is d g table row = ap (list_any (asks_for d g)) (none_are (entries_at row.0 table))

place_step : (t : Candidate → Bool) (cs : List Candidate) (i : ℕ)
    → list_any t (drop i cs) ≡ (passes t (slice_get cs i) || list_any t (drop (i + 1) cs))
place_step t cs i = by (passes t (slice_get cs i)) refl
  where
    by : (b : Bool) → passes t (slice_get cs i) ≡ b → list_any t (drop i cs) ≡ (b || list_any t (drop (i + 1) cs))
    by true e = any_here t cs i e
    by false e = any_later t cs i e

pub place_more : (t : Candidate → Bool) (cs : List Candidate) (i : ℕ) (s before after whole : Bool)
    → after ≡ (before || (s && passes t (slice_get cs i)))
    → (before || (s && list_any t (drop i cs))) ≡ whole → (after || (s && list_any t (drop (i + 1) cs))) ≡ whole
place_more t cs i s before after whole h told =
    one_more before after (s && passes t (slice_get cs i)) (s && list_any t (drop (i + 1) cs)) whole h
    (ap (λ b. before || b) (and-or s (passes t (slice_get cs i)) (list_any t (drop (i + 1) cs))
    ∙ ap (λ b. s && b) (sym (place_step t cs i))) ∙ told)

pub places_end : (t : Candidate → Bool) (cs : List Candidate) (i : ℕ) (s before whole : Bool) → length cs ≤ i
    → (before || (s && list_any t (drop i cs))) ≡ whole → before ≡ whole
places_end t cs i s before whole le told =
    or-none before ∙ ap (λ b. before || b) (and-none s (list_any t (drop i cs)) (sym (any_end t cs i le))) ∙ told

-- ---- owners

pub nothing_asks : (n f : List ℕ) → false ≡ is_asked_by_version nothing n f
unfolding is_asked_by_version
nothing_asks n f = refl

root_asks_same : (m : ManifestView) (c : CatalogueView) (n f : List ℕ)
    → is_asked_by_root m.brings n f ≡ owner_asks (problem_in m c) n f the_root
root_asks_same m c n f = any-same _ _ (λ d. ap₂ (λ a b. a && b) (text-flips n d.real_name)
    (ap (λ b. list_any (same_text f) (asked_of_target d) || b) (rows_ask d.name f m.brings.features)
    ∙ or-none (list_any (same_text f) (asked_of_target d)
    || list_any (same_pair (d.name, f)) (manifest.root_asks m.brings.features))))
    m.brings.dependencies

version_asks_same : (m : ManifestView) (c : CatalogueView) (n f name : List ℕ) (v : Parts)
    → is_asked_by_version (brings_in c name v) n f ≡ owner_asks (problem_in m c) n f (version_of name v)
unfolding is_asked_by_version
version_asks_same m c n f name v =
    let o = brings_in c name v in
    any-same _ _ (λ d. ap₂ (λ a b. a && b) (text-flips n d.real_name)
    (ap₂ (λ a b. a || b) (or-none (list_any (same_text f) (asked_of_target d))) (owner_may_ask d.name f o o refl)))
    o.dependencies

pub versions_asked : (c : CatalogueView) (name : List ℕ) (vs : List Version)
    → map parts_of vs ≡ map (λ r. r.version) (candidates_at c name)
    → (n f : List ℕ)
    → list_any (λ v. is_asked_by_version (brings_in c name (parts_of v)) n f) vs ≡ is_asked_by_some c name n f
versions_asked c name vs e n f =
    any_candidate (λ v. is_asked_by_version (brings_in c name v) n f) vs (candidates_at c name) e
    ∙ ap (list_any (λ (k : Candidate). is_asked_by_version (brings_in c name k.version) n f))
    (sym (candidates_are c name))

some_asks_same : (m : ManifestView) (c : CatalogueView) (n f name : List ℕ)
    → is_asked_by_some c name n f ≡ row_owners_ask (problem_in m c) n f name
unfolding row_owners_ask version_asks
some_asks_same m c n f name =
    any-same _ _ (λ k. version_asks_same m c n f name k.version) (candidates_of (rows_by_name c) name)

-- ---- names

abbrev Rows : Type 0
Rows = List (List ℕ × List Candidate)

absorbed : (a b : Bool) → (a || (b && a)) ≡ a
absorbed true b = refl
absorbed false true = refl
absorbed false false = refl

by_name : (p : List Candidate → Bool) (n : List ℕ) (all rows : Rows)
    → list_any (λ r. same_text n r.0 && p (candidates_of all r.0)) rows
    ≡ (list_any (λ r. same_text n r.0) rows && p (candidates_of all n))
by_name p n all [] = refl
by_name p n all (r ∷ rows) = by (same_text n r.0) refl (by_name p n all rows)
  where
    by : (b : Bool) → same_text n r.0 ≡ b → list_any (λ r. same_text n r.0 && p (candidates_of all r.0)) rows
        ≡ (list_any (λ r. same_text n r.0) rows && p (candidates_of all n))
        → ((b && p (candidates_of all r.0)) || list_any (λ r. same_text n r.0 && p (candidates_of all r.0)) rows)
        ≡ ((b || list_any (λ r. same_text n r.0) rows) && p (candidates_of all n))
    by true e rest = ap₂ (λ a b. a || b) (ap (λ m. p (candidates_of all m)) (sym (text-same n r.0 e))) rest
        ∙ absorbed (p (candidates_of all n)) (list_any (λ r. same_text n r.0) rows)
    by false e rest = rest

found : (p : List Candidate → Bool) (n : List ℕ) → p [] ≡ false → (rows : Rows)
    → (list_any (λ r. same_text n r.0) rows && p (candidates_of rows n)) ≡ p (candidates_of rows n)
found p n e [] = sym e
found p n e (r ∷ rows) = by (same_text n r.0) (found p n e rows)
  where
    by : (b : Bool) → (list_any (λ r. same_text n r.0) rows && p (candidates_of rows n)) ≡ p (candidates_of rows n)
        → ((b || list_any (λ r. same_text n r.0) rows) && p (cond b r.1 (candidates_of rows n)))
        ≡ p (cond b r.1 (candidates_of rows n))
    by true rest = refl
    by false rest = rest

over_rows : (p : List ℕ → Bool) (c : CatalogueView)
    → list_any p (map (λ row. row.0) c.rows) ≡ list_any (λ (r : List ℕ × List Candidate). p r.0) (rows_by_name c)
over_rows p c = any-map p (λ (row : Row). row.0) c.rows ∙ sym (any-map (λ (r : List ℕ × List Candidate). p r.0)
    (λ (row : Row). (row.0, map as_candidate (records row.1))) c.rows)

had_same : (c : CatalogueView) (n f : List ℕ) → list_any (λ name. is_had c name n f) (map (λ row. row.0) c.rows)
    ≡ list_any (λ e. has_feature e.brings.features f) (candidates_of (rows_by_name c) n)
had_same c n f =
    let p : List Candidate → Bool = list_any (λ e. has_feature e.brings.features f) in
    over_rows (λ name. is_had c name n f) c ∙ by_name p n (rows_by_name c) (rows_by_name c)
    ∙ found p n refl (rows_by_name c)

asked_same : (m : ManifestView) (c : CatalogueView) → IsStore c → (n f : List ℕ)
    → list_any (λ name. is_asked_by_some c name n f) (map (λ row. row.0) c.rows)
    ≡ list_any (owner_asks (problem_in m c) n f) (owners_in (rows_by_name c))
asked_same m c store n f = any-same _ _ (some_asks_same m c n f) (map (λ row. row.0) c.rows) ∙ rows_asked m c n f store

known_same : (c : CatalogueView) (n f : List ℕ) (names : List (List ℕ))
    → list_any (λ name. is_known_by c name n f) names
    ≡ (list_any (λ name. is_had c name n f) names || list_any (λ name. is_asked_by_some c name n f) names)
unfolding is_known_by
known_same c n f names = any-or (λ name. is_had c name n f) (λ name. is_asked_by_some c name n f) names

-- what the root asks for, and what the candidates of all names have and ask for
pub all_known : (m : ManifestView) (c : CatalogueView) → IsStore c → (n f : List ℕ)
    → (is_asked_by_root m.brings n f || list_any (λ name. is_known_by c name n f) (map (λ row. row.0) c.rows))
    ≡ is_known_feature (problem_in m c) n f
all_known m c store n f =
    ap₂ (λ a b. a || b) (root_asks_same m c n f)
    (known_same c n f (map (λ row. row.0) c.rows) ∙ ap₂ (λ a b. a || b) (had_same c n f) (asked_same m c store n f))
    ∙ or-swap (owner_asks (problem_in m c) n f the_root) (list_any (λ e. has_feature e.brings.features f)
    (candidates_of (rows_by_name c) n)) (list_any (owner_asks (problem_in m c) n f) (owners_in (rows_by_name c)))
