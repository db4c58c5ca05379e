-- What a search begins with.
use Rattle.std.proofs.Common.{◌≡◌, Option, ℕ, zero, suc, ◌<◌, ◌≤◌, true, List, [], ◌∷◌, length, map, get_or, Some}
use Rattle.std.proofs.Common.{slice_get, refl, sym, ap, ◌∙◌, subst, arith}
use Rattle.std.proofs.lemmas.Bool.{false≢true}
use Rattle.std.proofs.lemmas.List.{length-replicate}
use Rattle.version_sets.specs.Sets.{Members, has, size}
use Rattle.version_sets.proofs.Laws.{has_below}
use Rattle.incompatibilities.specs.Incompatibilities.{Assignment}
use Rattle.incompatibilities.specs.Stores.{EntryView, IsAxiom, entry}
use Rattle.propagation.specs.Trails.{TrailView, set_of, sets_at, space_of}
use Rattle.propagation.specs.Promises.{IsTrail, LieIn}
use Rattle.propagation.proofs.SetLemmas.{size_every}
use Rattle.propagation.proofs.Soundness.{trail_grown}
use Rattle.model.specs.Content.{Content}
use Rattle.model.specs.Vertices.{Vertex, absent, root}
use Rattle.model.specs.Causes.{is_cause, kind_of, of_root, terms_of_cause}
use Rattle.model.proofs.CauseLaws.{cause_instance}
use Rattle.numbering.specs.inner.Assignments.{state_at}
use Rattle.numbering.specs.inner.KnownProblem.{problem}
use Rattle.numbering.specs.Numberings.{Numbering}
use Rattle.numbering.specs.Pairs.{Given, IsGivenAt, first_pair}
use Rattle.numbering.specs.declared.known_problem.KnownProblem.{KnownProblem}
use Rattle.numbering.proofs.ByKind.{first_named}
use Rattle.guiding.specs.inner.Searching.{HasSpaces, IsSeen}
use Rattle.guiding.specs.inner.Following as following
use Rattle.guiding.specs.inner.Following.{IsLeft}
use Rattle.incompatibilities.specs.inner.Counts.{combinations}
use Rattle.guiding.proofs.Counts.{no_combinations}
use Rattle.guiding.proofs.Guides.{spaces_wider}
use Rattle.guiding.specs.inner.Guides.{CanFollow, Follows, HasBegun, IsCome, IsEncoding, IsOfInstance, IsPut, as_entry}
use Rattle.guiding.specs.inner.Guides.{asked_of, encoded_view, with_given}
use Rattle.guiding.proofs.Adding.{given_at, given_of, of_all, said_long, with_given_is}
use Rattle.guiding.proofs.Following.{more_unbroken, wider_agrees}
use Rattle.guiding.proofs.Marks.{lengths_none, past_none}
use Rattle.guiding.proofs.OnTrail.{on_trail_most}

bare_spaces : (t : TrailView) → length t.sets ≡ 0 → HasSpaces [] t
bare_spaces t e = record { vertices = e; each = each t.sets e }
  where
    each : (sets : List Members) → length sets ≡ 0 → (u : ℕ) → length (set_of sets u) ≡ get_or [] u 0
    each [] e zero = refl
    each [] e (suc u) = refl
    each (s ∷ sets) e u = absurd (omega (arith, e))

-- before any place only absent stands alone
seen_first : (asked : List Members) (es : List EntryView) (t : TrailView) → IsTrail es t → IsSeen 0 (asked_of asked) t
seen_first asked es t trail =
    record { within = omega arith; all = λ v i lt only. zero_asked v i (zero_is v i only.0 only.1) }
  where
    zero_asked : (v i : ℕ) → i ≡ 0 → asked_of asked v i ≡ true
    zero_asked v i e = subst (λ k. asked_of asked v k ≡ true) (sym e) refl

    zero_is : (v i : ℕ) → size (set_of (sets_at t 0) v) ≡ 1 → has (set_of (sets_at t 0) v) i ≡ true → i ≡ 0
    zero_is v i one h =
        let full = trail.sound.starts v in
        let n : space_of t v ≡ 1 = sym (size_every (space_of t v)) ∙ ap size (sym full) ∙ one in
        let below = has_below (set_of (sets_at t 0) v) i h in
        let long : length (set_of (sets_at t 0) v) ≡ space_of t v =
        ap length full ∙ length-replicate (space_of t v) true in
        omega (arith, n, below, long)

pub begun : (i : KnownProblem) (follows : Option Content) (put vs : Numbering) (n m : ℕ) (asked : List Members)
    (t wide : TrailView) (more : List EntryView) (given : List Given) → IsEncoding i vs asked
    → CanFollow (problem i) follows → slice_get put n ≡ Some root → IsCome [] asked t wide → length vs ≤ length asked
    → length t.sets ≡ 0 → t.steps ≡ [] → IsTrail [] wide
    → ((w : Vertex) → slice_get put n ≡ Some w → IsGivenAt (problem i) vs (w, state_at (problem i) w 0) given)
    → more ≡ with_given [] given
    → HasBegun (problem i) follows (encoded_view (problem i) vs asked 0 follows m) wide more
begun i follows put vs n m asked t wide more given encoding can at come whole bare steps trail is stored = subst
    (λ es. HasBegun (problem i) follows (encoded_view (problem i) vs asked 0 follows m) wide es) (sym entries) (record {
      problem = refl;
      whole = (let most = on_trail_most (problem i) vs asked encoding.spaces in omega (arith, most, whole));
      spaces = spaced;
      trail = now;
      steps = come.wider.steps ∙ steps;
      seen = seen_first asked (map as_entry given) wide now;
      given = instances;
      uncombined = none_combined;
      stored = record {
        root_is = root_put;
        pairs = λ c t all. (let f = all (first_pair c) (first_named c) in absurd (false≢true (sym (ap
            (λ (l : List Members). has (set_of l f.0) f.1) come.sets ∙ past_none come.came f.0 f.1) ∙ f.3)));
      };
      follows_is = refl;
      can_follow = can;
      is_left = start_left;
    })
  where
    entries : more ≡ map as_entry given
    entries = stored ∙ with_given_is [] given

    spaced : HasSpaces (map length asked) wide
    spaced = subst (λ l. HasSpaces l wide) (sym (ap (map length) come.sets ∙ lengths_none come.came))
        (spaces_wider [] come.came t wide (bare_spaces t bare) come.wider)

    root_given : IsGivenAt (problem i) vs (root, absent) given
    root_given = is root at

    lies : LieIn wide (map as_entry given)
    lies id lt u z e =
        let g = given_at (problem i) vs root_given.causes given id root_given.given lt in
        said_long (problem i) vs asked wide encoding.spaces whole spaced (entry (map as_entry given) id).terms
        (terms_of_cause (problem i) g.cause) g.says u z e

    now : IsTrail (map as_entry given) wide
    now = trail_grown [] (map as_entry given) wide trail lies

    instances : following.AreGiven (IsOfInstance (problem i) vs) (map as_entry given)
    instances id lt ax =
        let g = given_at (problem i) vs root_given.causes given id root_given.given lt in
        let there = (root_given.are.listed g.cause).0 g.listed in
        record {
          kind = kind_of g.cause;
          terms = terms_of_cause (problem i) g.cause;
          is =
              cause_instance (problem i) g.cause there.0;
          says = g.says;
          origin = g.origin;
        }

    root_put : is_cause (problem i) of_root ≡ true → IsPut (problem i) vs (map as_entry given) of_root
    root_put there = given_of (problem i) vs root_given.causes given of_root root_given.given
        ((root_given.are.listed of_root).1 (there, refl))

    are_axioms : (id : ℕ) → id < length (map as_entry given) → IsAxiom (entry (map as_entry given) id).origin
    are_axioms id lt =
        subst IsAxiom (sym (given_at (problem i) vs root_given.causes given id root_given.given lt).origin) tt

    none_combined : combinations (map as_entry given) ≡ 0
    none_combined = no_combinations (map as_entry given) are_axioms

    start_left : (x : Assignment) → Follows (encoded_view (problem i) vs asked 0 follows m) x
        → IsLeft x (map as_entry given) wide
    start_left x f = (
      more_unbroken (problem i) vs f.0 x f.3 (root, absent) []
          (map as_entry given) given encoding.catalogue f.2
          (of_all (problem i) vs (root, absent) given root_given) refl (λ id lt broken. omega (arith, lt)),
      wider_agrees (problem i) vs f.0 x f.3 asked come.came t wide encoding.spaces spaced come.wider
          (λ u lt. absurd (omega (arith, lt, bare))),
    )
