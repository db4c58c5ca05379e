-- A run, one name after another.
use Rattle.std.proofs.Common.{◌≡◌, ℕ, ◌<◌, ◌≤◌, Bool, true, false, not, ◌&&◌, ◌||◌, cond, List, [], ◌∷◌, ◌++◌, map}
use Rattle.std.proofs.Common.{filter, flat_map, length, slice_get, Option, Some, Ok, refl, sym, ap, ap₂, ◌∙◌, subst}
use Rattle.std.proofs.Common.{arith, true≢false, inr}
use Rattle.std.specs.List.{list_any}
use Rattle.std.proofs.lemmas.List.{append-nil, append_assoc, map-append, length-map, length-append}
use Rattle.std.proofs.lemmas.List.Elements.{filter-append, All-push}
use Rattle.std.proofs.lemmas.Option.{slice_get_past}
use Rattle.catalogue.specs.inner.Names.{insert_key, insert_all}
use Rattle.semver.specs.declared.Version.{Version}
use Rattle.model.specs.Candidates.{Record, RustVersion, is_locked}
use Rattle.model.specs.Content.{Content}
use Rattle.model.specs.Summary.{Dependency, same_text}
use Rattle.model.proofs.Lists.{all_none}
use Rattle.model.proofs.Same.{text-same}
use Rattle.model.proofs.Flips.{text-flips}
use Rattle.model.proofs.Mapped.{flat_last}
use Rattle.features.specs.Views.{dependency_views}
use Rattle.index_reader.specs.Files.{SkipView}
use Rattle.index_reader.specs.Folders.{path_of}
use Rattle.catalogue.specs.Stores.{Ranked, records, ranked_view, Row, CatalogueView}
use Rattle.catalogue.specs.inner.Views.{candidates_view, rows_view}
use Rattle.catalogue.specs.Runs.{Asked, Calls, Chain, meant_by, once, needed_by, candidates_in, names_after, next_name}
use Rattle.catalogue.specs.Runs.{AreNext}
use Rattle.catalogue.specs.Loads.{IsWithin, skips_of, needs_of, most_names, ranked_in, IsAsked, IsSoFar, IsLoaded}
use Rattle.catalogue.specs.Loads.{HasTooMany, HasFailed, IsCutShort, Fails, AskingEnds}
use Rattle.catalogue.specs.declared.fault.LoadFault.{LoadFault}
use Rattle.catalogue.specs.declared.fault.LoadFault.TheVariants as fault
use Rattle.catalogue.specs.declared.fault.Limit.TheVariants as limit
use Rattle.catalogue.specs.declared.candidate.Candidate.{Candidate}
use Rattle.catalogue.specs.declared.candidates.Candidates.{Candidates}
use Rattle.catalogue.proofs.Chosen.{records-ranked}

-- ---- each text once

-- a text is among those that aren't another one just where it isn't that one and is among all
any-others : (x y : List ℕ) (zs : List (List ℕ))
    → list_any (same_text x) (filter (λ z. not (same_text y z)) zs) ≡ (not (same_text y x) && list_any (same_text x) zs)
any-others x y [] = by (same_text y x)
  where
    by : (b : Bool) → false ≡ (not b && false)
    by true = refl
    by false = refl
any-others x y (z ∷ zs) = by (same_text y z) (same_text y x) (same_text x z) refl refl refl (any-others x y zs)
  where
    by : (a b d : Bool) → same_text y z ≡ a → same_text y x ≡ b → same_text x z ≡ d
        → list_any (same_text x) (filter (λ z. not (same_text y z)) zs) ≡ (not b && list_any (same_text x) zs)
        → list_any (same_text x) (cond (not a) (z ∷ filter (λ z. not (same_text y z)) zs)
        (filter (λ z. not (same_text y z)) zs)) ≡ (not b && (d || list_any (same_text x) zs))
    by true true d e f g rest = rest
    by true false true e f g rest =
        absurd (true≢false (sym (subst (λ w. same_text y w ≡ true) (sym (text-same x z g)) e) ∙ f))
    by true false false e f g rest = rest
    by false true true e f g rest =
        absurd (true≢false (sym (subst (λ w. same_text y w ≡ true) (text-same x z g) f) ∙ e))
    by false true false e f g rest =
        ap (λ o. o || list_any (same_text x) (filter (λ z. not (same_text y z)) zs)) g ∙ rest
    by false false d e f g rest = ap₂ (λ o p. o || p) g rest

once-snoc : (xs : List (List ℕ)) (x : List ℕ) → once (xs ++ x ∷ []) ≡ insert_key same_text (once xs) x
unfolding once
once-snoc [] x = refl
once-snoc (y ∷ ys) x = ap (λ zs. y ∷ filter (λ z. not (same_text y z)) zs) (once-snoc ys x)
    ∙ by (list_any (same_text x) (once ys)) (same_text y x) refl refl
    ∙ sym (ap (λ b. cond b (y ∷ filter (λ z. not (same_text y z)) (once ys)) ((y ∷ filter (λ z. not (same_text y z))
    (once ys)) ++ x ∷ [])) (ap₂ (λ a b. a || b) (text-flips x y) (any-others x y (once ys))))
  where
    by : (a b : Bool) → list_any (same_text x) (once ys) ≡ a → same_text y x ≡ b
        → y ∷ filter (λ z. not (same_text y z)) (cond a (once ys) (once ys ++ x ∷ []))
        ≡ cond (b || (not b && a)) (y ∷ filter (λ z. not (same_text y z)) (once ys))
        ((y ∷ filter (λ z. not (same_text y z)) (once ys)) ++ x ∷ [])
    by true true e f = refl
    by true false e f = refl
    by false b e f = ap (λ zs. y ∷ zs) (filter-append (λ z. not (same_text y z)) (once ys) (x ∷ [])) ∙ last b f
      where
        last : (b : Bool) → same_text y x ≡ b
            → y ∷ (filter (λ z. not (same_text y z)) (once ys) ++ cond (not (same_text y x)) (x ∷ []) [])
            ≡ cond (b || (not b && false)) (y ∷ filter (λ z. not (same_text y z)) (once ys))
            ((y ∷ filter (λ z. not (same_text y z)) (once ys)) ++ x ∷ [])
        last true f = ap (λ c. y ∷ (filter (λ z. not (same_text y z)) (once ys) ++ cond (not c) (x ∷ []) [])) f
            ∙ ap (λ zs. y ∷ zs) (append-nil (filter (λ z. not (same_text y z)) (once ys)))
        last false f = ap (λ c. y ∷ (filter (λ z. not (same_text y z)) (once ys) ++ cond (not c) (x ∷ []) [])) f

-- texts added one by one to texts that are there once
pub added-once : (xs ys : List (List ℕ)) → insert_all same_text (once xs) ys ≡ once (xs ++ ys)
added-once xs [] = ap once (sym (append-nil xs))
added-once xs (y ∷ ys) = ap (λ ks. insert_all same_text ks ys) (sym (once-snoc xs y)) ∙ added-once (xs ++ y ∷ []) ys
    ∙ ap once (append_assoc xs (y ∷ []) ys)

-- stand after them
pub added-after : (ks ys : List (List ℕ)) → (more : List (List ℕ)) × (insert_all same_text ks ys ≡ ks ++ more)
added-after ks [] = ([], sym (append-nil ks))
added-after ks (y ∷ ys) = by (list_any (same_text y) ks) (λ ls. added-after ls ys)
  where
    by : (b : Bool) → ((ls : List (List ℕ)) → (more : List (List ℕ)) × (insert_all same_text ls ys ≡ ls ++ more))
        → (more : List (List ℕ)) × (insert_all same_text (cond b ks (ks ++ y ∷ [])) ys ≡ ks ++ more)
    by true rest = rest ks
    by false rest = let r = rest (ks ++ y ∷ []) in (y ∷ r.0, r.1 ∙ append_assoc ks (y ∷ []) r.0)

-- ---- chains

chain-snoc : {S : Type 0} (calls : Calls S) (old mid new : S) (asked : List Asked) (name : List ℕ) (o : Option (List ℕ))
    → Chain calls old asked mid → calls mid (path_of name) (Ok o) new → Chain calls old (asked ++ (name, o) ∷ []) new
chain-snoc calls old mid new [] name o same call = (new, subst (λ s. calls s (path_of name) (Ok o) new) same call, refl)
chain-snoc calls old mid new (a ∷ later) name o (next, first, rest) call =
    (next, first, chain-snoc calls next mid new later name o rest call)

-- what is there after those that are asked for
rest-next : (front rest : List (List ℕ)) (name : List ℕ) → slice_get (front ++ rest) (length front) ≡ Some name
    → (more : List (List ℕ)) × (rest ≡ name ∷ more)
rest-next [] [] name h = cc
rest-next [] (r ∷ rs) name h = (rs, ap (λ x. x ∷ rs) (inner r name h))
  where
    inner : (x y : List ℕ) → Some x ≡ Some y → x ≡ y
    inner x y e = cc
rest-next (x ∷ xs) rest name h = rest-next xs rest name h

rest-none : (front rest : List (List ℕ)) → length (front ++ rest) ≤ length front → rest ≡ []
rest-none front [] h = refl
rest-none front (r ∷ rs) h = absurd (let long = length-append front (r ∷ rs) in omega (arith, long, h))

-- what candidates need is what their records need
needs-are : (vs : List Version) (cs : List Candidate) → length vs ≡ length cs
    → needs_of cs ≡ flat_map (λ r. meant_by (r.brings).dependencies) (records (ranked_view vs cs))
needs-are [] [] same = refl
needs-are (v ∷ vs) (c ∷ cs) same =
    ap (λ zs. meant_by (dependency_views c.brings.dependencies.items) ++ zs) (needs-are vs cs (omega (arith, same)))
needs-are [] (c ∷ cs) same = absurd (omega (arith, same))
needs-are (v ∷ vs) [] same = absurd (omega (arith, same))

-- ---- a run so far

module _ (old : Content) (source : List ℕ) (rust : Option RustVersion) (root : List Dependency) where
  next-snoc : (before later : List Asked) (a : Asked) → AreNext old source root before later
      → next_name old source root (before ++ later) ≡ Some a.0 → AreNext old source root before (later ++ a ∷ [])
  next-snoc before [] a h e = (ap (next_name old source root) (sym (append-nil before)) ∙ e, tt)
  next-snoc before (x ∷ xs) a h e = (
    h.0,
    next-snoc (before ++ x ∷ []) xs a h.1 (ap (next_name old source root) (append_assoc before (x ∷ []) xs) ∙ e),
  )

  -- the names that are known, the candidates that are found and the skips, after these were asked
  pub record SoFar {S : Type 0} (calls : Calls S) (before : S) (names : List (List ℕ)) (found : List Candidates)
      (skips : List SkipView) (mid : S) : Type 0 where
    pub asked : List Asked
    pub rest : List (List ℕ)
    pub so_far : IsSoFar old source rust root calls before asked mid
    pub known : names ≡ names_after old source root asked
    pub split : names ≡ map (λ a. a.0) asked ++ rest
    pub found_are : map candidates_view found ≡ map (ranked_in old source rust) asked
    pub skips_are : skips ≡ flat_map skips_of asked

  module _ {S : Type 0} (calls : Calls S) (before : S) where
    -- nobody was asked
    pub begun : (names : List (List ℕ)) → names ≡ insert_all same_text [] (meant_by root)
        → SoFar calls before names [] [] before
    unfolding once
    begun names h = record {
      asked = [];
      rest = names;
      so_far =
          record { chain = refl; in_turn = tt; within = all_none (λ (a : Asked). IsWithin a.1); few = omega arith };
      known = h ∙ first ∙ added-once [] (meant_by root) ∙ ap once (sym (append-nil (meant_by root)));
      split = refl;
      found_are = refl;
      skips_are = refl;
    }
      where
        first : insert_all same_text [] (meant_by root) ≡ insert_all same_text (once []) (meant_by root)
        first = refl

    found-long : (found : List Candidates) (asked : List Asked)
        → map candidates_view found ≡ map (ranked_in old source rust) asked → length found ≡ length asked
    found-long found asked h =
        sym (length-map found candidates_view) ∙ ap length h ∙ length-map asked (ranked_in old source rust)

    -- the next name
    pub next_known : (names : List (List ℕ)) (found : List Candidates) (skips : List SkipView) (mid : S) (name : List ℕ)
        (s : SoFar calls before names found skips mid) → slice_get names (length found) ≡ Some name
        → next_name old source root s.asked ≡ Some name
    next_known names found skips mid name s at =
        ap₂ slice_get (sym s.known) (sym (found-long found s.asked s.found_are)) ∙ at

    -- one name more
    pub asked_more : (names names' : List (List ℕ)) (found : List Candidates) (c : Candidates)
        (skips skips' : List SkipView) (mid after : S) (name : List ℕ) → SoFar calls before names found skips mid
        → slice_get names (length found) ≡ Some name → length found < most_names
        → IsAsked old source rust calls mid name skips (candidates_view c) after skips'
        → names' ≡ insert_all same_text names (needs_of c.candidates.items)
        → SoFar calls before names' (found ++ c ∷ []) skips' after
    asked_more names names' found c skips skips' mid after name s at less got added =
        let a : Asked = (name, got.answer) in
        let long = found-long found s.asked s.found_are in
        let next = next_known names found skips mid name s at in
        let here = rest-next (map (λ (a : Asked). a.0) s.asked) s.rest name
        (ap₂ slice_get (sym s.split) (length-map s.asked (λ (a : Asked). a.0) ∙ sym long) ∙ at) in
        let after_them = added-after names (needs_of c.candidates.items) in
        let needs : needs_of c.candidates.items ≡ needed_by old source a =
        needs-are c.versions.items c.candidates.items c.beside
        ∙ ap (λ (rs : List Ranked). flat_map (λ (r : Record). meant_by (r.brings).dependencies) (records rs)) got.ranked
        ∙ ap (flat_map (λ (r : Record). meant_by (r.brings).dependencies))
        (records-ranked (is_locked old source name) rust (candidates_in old source a)) in
        record {
          asked = s.asked ++ a ∷ [];
          rest = here.0 ++ after_them.0;
          so_far = record {
            chain = chain-snoc calls before mid after s.asked name got.answer s.so_far.chain got.call;
            in_turn = next-snoc [] s.asked a s.so_far.in_turn next;
            within = All-push (λ (a : Asked). IsWithin a.1) s.asked a s.so_far.within got.within;
            few = rw length-append (omega (arith, less, long));
          };
          known = added ∙ ap₂ (insert_all same_text) s.known needs
              ∙ added-once (meant_by root ++ flat_map (needed_by old source) s.asked) (needed_by old source a)
              ∙ ap once (append_assoc (meant_by root) (flat_map (needed_by old source) s.asked) (needed_by old source a)
              ∙ ap (λ zs. meant_by root ++ zs) (sym (flat_last (needed_by old source) s.asked a)));
          split = added ∙ after_them.1
              ∙ ap (λ zs. zs ++ after_them.0) (s.split ∙ ap (λ zs. map (λ (a : Asked). a.0) s.asked ++ zs) here.1)
              ∙ append_assoc (map (λ (a : Asked). a.0) s.asked) (name ∷ here.0) after_them.0
              ∙ sym (append_assoc (map (λ (a : Asked). a.0) s.asked) (name ∷ []) (here.0 ++ after_them.0))
              ∙ sym (ap (λ zs. zs ++ (here.0 ++ after_them.0)) (map-append (λ (a : Asked). a.0) s.asked (a ∷ [])));
          found_are = map-append candidates_view found (c ∷ []) ∙ ap₂ (λ xs x. xs ++ x ∷ []) s.found_are got.ranked
              ∙ sym (map-append (ranked_in old source rust) s.asked (a ∷ []));
          skips_are = got.added ∙ ap (λ zs. zs ++ skips_of a) s.skips_are ∙ sym (flat_last skips_of s.asked a);
        }

    rows_are : (asked : List Asked) (found : List Candidates)
        → map candidates_view found ≡ map (ranked_in old source rust) asked
        → rows_view (map (λ a. a.0) asked) found ≡ map (λ (a : Asked). (a.0, ranked_in old source rust a)) asked
    rows_are [] found h = refl
    rows_are (a ∷ later) [] h = absurd (let k = ap length h in omega (arith, k))
    rows_are (a ∷ later) (c ∷ cs) h =
        let parts = cons_same (candidates_view c) (ranked_in old source rust a) (map candidates_view cs)
        (map (ranked_in old source rust) later) h in
        ap₂ (λ x xs. (a.0, x) ∷ xs) parts.0 (rows_are later cs parts.1)
      where
        cons_same : {X : Type 0} (x y : X) (xs ys : List X) → x ∷ xs ≡ y ∷ ys → (x ≡ y) × (xs ≡ ys)
        cons_same x y xs ys e = (cc, cc)

    -- nobody is left
    pub all_asked : (names : List (List ℕ)) (found : List Candidates) (skips : List SkipView) (after : S)
        (s : SoFar calls before names found skips after) → length names ≤ length found
        → (length names ≡ length found) × IsLoaded old source rust root calls before
        (record { rows = rows_view names found; skips = skips; source = source }) after
    all_asked names found skips after s le =
        let long = found-long found s.asked s.found_are in
        let firsts = map (λ (a : Asked). a.0) s.asked in
        let wide = length-map s.asked (λ (a : Asked). a.0) in
        let split = ap length s.split in
        let none : s.rest ≡ [] = rest-none firsts s.rest (omega (arith, wide, split, long, le)) in
        let names_are : names ≡ firsts = s.split ∙ ap (λ zs. firsts ++ zs) none ∙ append-nil firsts in
        let even = ap length names_are in (
          omega (arith, even, wide, long),
          record {
            asked = s.asked;
            so_far = s.so_far;
            ended = ap₂ slice_get (sym s.known) refl ∙ slice_get_past names (length s.asked) (omega (arith, le, long));
            is = ap₂ (λ (rows : List Row) (ks : List SkipView). let v : CatalogueView =
                record { rows = rows; skips = ks; source = source } in v)
                (ap (λ zs. rows_view zs found) names_are ∙ rows_are s.asked found s.found_are) s.skips_are;
          },
        )

    -- so many were asked for, and another one waits
    pub too_many : (names : List (List ℕ)) (found : List Candidates) (skips : List SkipView) (after : S) (name : List ℕ)
        (s : SoFar calls before names found skips after)
        → slice_get names (length found) ≡ Some name → most_names ≤ length found
        → HasTooMany old source rust root calls before after
    too_many names found skips after name s at most =
        let long = found-long found s.asked s.found_are in
        let few = s.so_far.few in
        record {
          asked = s.asked;
          name = name;
          so_far = s.so_far;
          most = omega (arith, few, most, long);
          next =
              next_known names found skips after name s at;
        }

-- how the run ends with a fault
module _ (old : Content) (source : List ℕ) (rust : Option RustVersion) (root : List Dependency) {S : Type 0}
    (calls : Calls S) (failed : S → ℕ) (before : S) where
  -- at a name whose call failed
  pub stopped : (names : List (List ℕ)) (found : List Candidates) (skips : List SkipView) (mid after : S)
      (name : List ℕ) (e : LoadFault) → SoFar old source rust root calls before names found skips mid
      → slice_get names (length found) ≡ Some name → length found < most_names → Fails calls failed mid name e after
      → AskingEnds old source rust root calls failed before e after
  stopped names found skips mid after name e s at less fails = by e fails
    where
      here : (e : LoadFault) → Fails calls failed mid name e after
          → HasFailed old source rust root calls failed before e after
      here e f = record {
        asked = s.asked;
        mid = mid;
        name = name;
        so_far = s.so_far;
        next =
            next_known old source rust root calls before names found skips mid name s at;
        fewer = (let long = found-long
            old source rust root calls before found s.asked s.found_are in omega (arith, less, long));
        fails = f;
      }

      by : (e : LoadFault) → Fails calls failed mid name e after
          → AskingEnds old source rust root calls failed before e after
      by fault.OutOfMemory f = inr (here fault.OutOfMemory f)
      by (fault.FolderFailed path) f = here (fault.FolderFailed path) f
      by (fault.TooLarge limit.Names) (bytes, call, never) = absurd never
      by (fault.TooLarge (limit.File n)) f = here (fault.TooLarge (limit.File n)) f
      by (fault.TooLarge (limit.Lines n)) f = here (fault.TooLarge (limit.Lines n)) f
      by (fault.ChecksumChanged n v) f = absurd f

  -- where memory was wanting after the call for the next name
  pub cut_after : (names : List (List ℕ)) (found : List Candidates) (skips skips' : List SkipView) (mid after : S)
      (name : List ℕ) (ranked : List Ranked)
      → SoFar old source rust root calls before names found skips mid → slice_get names (length found) ≡ Some name
      → length found < most_names
      → IsAsked old source rust calls mid name skips ranked after skips'
      → IsCutShort old source rust root calls failed before after
  cut_after names found skips skips' mid after name ranked s at less asked =
      stopped names found skips mid after name fault.OutOfMemory s at less (inr (Ok asked.answer, asked.call))
