-- A guide as its fields are, before and after it asks for a pair.
use Rattle.std.proofs.Common.{◌≡◌, ◌⊎◌, inl, inr, ℕ, suc, ◌<◌, ◌≤◌, true, List, length, map, take, Result, Ok}
use Rattle.std.proofs.Common.{Err, Option, Some, slice_get, refl, sym, ap, ◌∙◌, subst, arith}
use Rattle.std.specs.Prelude.{OnErr, OnOk}
use Rattle.std.proofs.lemmas.List.{length-map}
use Rattle.std.proofs.lemmas.Option.{same_Some}
use Rattle.version_sets.specs.Sets.{Members, has}
use Rattle.version_sets.proofs.Laws.{has_below}
use Rattle.incompatibilities.specs.Stores.{EntryView}
use Rattle.propagation.specs.Trails.{TrailView, set_of}
use Rattle.propagation.specs.Promises.{IsTrail}
use Rattle.model.specs.Content.{Content}
use Rattle.model.specs.Vertices.{Vertex, space}
use Rattle.model.specs.Order.{IsCatalogue}
use Rattle.numbering.specs.inner.Assignments.{state_at}
use Rattle.numbering.specs.inner.KnownProblem.{KnowsDefault, problem}
use Rattle.numbering.specs.Numberings.{IsGrown, IsNumbering, Numbering}
use Rattle.numbering.specs.inner.AskedFor.{IsGivenFirst, IsGivenNext}
use Rattle.numbering.specs.Pairs.{Given}
use Rattle.numbering.specs.declared.known_problem.KnownProblem.{KnownProblem}
use Rattle.guiding.specs.inner.Searching.{HasSpaces, IsOnly, IsSeen, Pairs}
use Rattle.guiding.specs.inner.Searching as searching
use Rattle.guiding.proofs.Seen.{seen_all}
use Rattle.guiding.specs.inner.Guides.{AreAll, AreFirst, EncodedView, IsAskedFor, IsAsking, IsCome, IsEncoding}
use Rattle.guiding.specs.inner.Guides.{encoded_view}
use Rattle.guiding.specs.inner.Guides.{marked, on_trail, with_given}
use Rattle.guiding.specs.inner.Remaining.{spaces_of}
use Rattle.guiding.proofs.Marks.{lengths_at, mark_lengths}
use Rattle.guiding.proofs.OnTrail.{on_trail_at}

pub ok_by : {A E : Type 0} {P Q : Type 0} (r : Result A E) → (P → Q) → OnOk r P → OnOk r Q
ok_by (Ok x) f h = f h
ok_by (Err e) f h = tt

pub encoding_same : (i : KnownProblem) (vs : Numbering) (asked more : List Members) → map length more ≡ map length asked
    → IsEncoding i vs asked → IsEncoding i vs more
encoding_same i vs asked more e was = record {
  default = was.default;
  catalogue = was.catalogue;
  numbering = was.numbering;
  spaces = e ∙ was.spaces ∙ ap (λ k. spaces_of (problem i) (take k vs))
      (sym (length-map asked length) ∙ sym (ap length e) ∙ length-map more length);
}

-- where something else is kept of what requirements match
pub encoding_of : {j : KnownProblem} (i : KnownProblem) (vs : Numbering) (asked : List Members) → IsEncoding j vs asked
    → KnowsDefault i → problem j ≡ problem i → IsEncoding i vs asked
encoding_of i vs asked was default same = record {
  default = default;
  catalogue = subst IsCatalogue same was.catalogue;
  numbering = subst (λ q. IsNumbering q vs) same was.numbering;
  spaces = subst (λ q. map length asked ≡ spaces_of q (on_trail vs asked)) same was.spaces;
}

pub encoding_marked : {A E : Type 0} (r : Result A E) (i : KnownProblem) (vs : Numbering) (asked more : List Members)
    (v s : ℕ) → OnOk r (more ≡ marked asked v s) → OnErr r (more ≡ asked) → IsEncoding i vs asked → IsEncoding i vs more
encoding_marked (Ok x) i vs asked more v s is same was =
    encoding_same i vs asked more (ap (map length) is ∙ mark_lengths asked v s) was
encoding_marked (Err e) i vs asked more v s is same was = encoding_same i vs asked more (ap (map length) same) was

-- a state of a vertex
pub state_below : (i : KnownProblem) (vs : Numbering) (asked : List Members) (old : EncodedView) (seen : ℕ)
    (follows : Option Content) (n : ℕ) (v s : ℕ) → IsEncoding i vs asked
    → encoded_view (problem i) vs asked seen follows n ≡ old
    → v < length old.asked → s < length (set_of old.asked v)
    → (w : Vertex) → slice_get vs v ≡ Some w → s < length (space (problem i) w)
state_below i vs asked old seen follows n v s is view low lt w at =
    let low : v < length asked = subst (λ (o : EncodedView). v < length o.asked) (sym view) low in
    let lt : s < length (set_of asked v) = subst (λ (o : EncodedView). s < length (set_of o.asked v)) (sym view) lt in
    let r = on_trail_at (problem i) vs asked v is.spaces low in
    subst (λ n. s < n) (r.2 ∙ ap (λ x. length (space (problem i) x)) (same_Some r.0 w (sym r.1 ∙ at))) lt

-- what all of the instances, or some, are given in
module _ (i : KnownProblem) (vs new : Numbering) (asked mid last : List Members) (seen : ℕ) (follows : Option Content)
    (n m v s : ℕ) (old : EncodedView) (t wide : TrailView) (es more : List EntryView) (given : List Given)
    (view : encoded_view (problem i) vs asked seen follows n ≡ old) (was : IsEncoding i vs asked)
    (grown : IsGrown vs new) (now : IsEncoding i new mid) (come : IsCome asked mid t wide)
    (whole : length new ≤ length mid) (trail : IsTrail es wide) (stored : more ≡ with_given es given)
    (lengths : map length last ≡ map length mid) where
  abbrev before : EncodedView
  before = encoded_view (problem i) vs asked seen follows n

  abbrev after : EncodedView
  after = encoded_view (problem i) new last seen follows m

  by_how : AreAll v s before after come.came given ⊎ AreFirst v s before after come.came given
      → IsAsking v s old after t wide es more
  by_how how = subst (λ (o : EncodedView). IsAsking v s o after t wide es more) view (record {
    same = refl;
    seen_is = refl;
    follows_is = refl;
    catalogue = was.catalogue;
    grown = grown;
    was_numbering = was.numbering;
    numbering = now.numbering;
    spaces = was.spaces;
    whole = omega (arith, whole, ap length lengths, length-map last length, length-map mid length);
    spaced = (encoding_same i new mid last lengths now).spaces;
    came = come.came;
    wider = come.wider;
    trail = trail;
    given = given;
    how = how;
    stored = stored;
  })

  -- all of them
  pub asking_by : ((w : Vertex) → slice_get vs v ≡ Some w
      → IsGivenNext (problem i) new (IsAskedFor (problem i) vs asked) (w, state_at (problem i) w s) given)
      → last ≡ marked mid v s → m ≡ n → IsAsking v s old after t wide es more
  asking_by is marks e =
      by_how (inl (record { marks = marks ∙ ap (λ l. marked l v s) come.sets; is = is; begins = e }))

  -- the first of them
  pub beginning_by : ((w : Vertex) → slice_get vs v ≡ Some w
      → IsGivenFirst (problem i) new (w, state_at (problem i) w s) given) → last ≡ mid → n ≡ suc m
      → IsAsking v s old after t wide es more
  beginning_by is same e = by_how (inr (record { marks = same ∙ come.sets; is = is; begins = e }))

-- what is left to a vertex is a state of it
pub left_below : (asked : List Members) (t : TrailView) (v s : ℕ) → HasSpaces (map length asked) t
    → has (set_of t.sets v) s ≡ true → s < length (set_of asked v)
left_below asked t v s spaced h =
    subst (λ n. s < n) (spaced.each v ∙ lengths_at asked v) (has_below (set_of t.sets v) s h)

pub only_below : (asked : List Members) (t : TrailView) (v s : ℕ) → HasSpaces (map length asked) t
    → IsOnly (set_of t.sets v) s → s < length (set_of asked v)
only_below asked t v s spaced only = left_below asked t v s spaced only.1

-- once all places are seen
pub all_seen : (n : ℕ) (asked : Pairs) (t : TrailView) → IsSeen n asked t → length t.steps ≤ n
    → searching.AllAsked asked t.sets
all_seen n asked t seen le =
    seen_all asked t (subst (λ k. IsSeen k asked t) (let w = seen.within in omega (arith, w, le)) seen)
