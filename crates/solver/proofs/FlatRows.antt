-- A row that grows by the combinations of a chain.
use Rattle.std.proofs.Common.{◌≡◌, ℕ, suc, ◌+◌, ◌-◌, ◌<◌, ◌≤◌, ◌⊎◌, Bool, true, false, List, [], ◌∷◌, ◌++◌, length}
use Rattle.std.proofs.Common.{append_assoc, get_or, refl, sym, ap, ap₂, ◌∙◌, subst, arith, inl, inr}
use Rattle.std.proofs.Common.{take, zero}
use Rattle.std.proofs.Math.Seq.{get_or-append_seam}
use Rattle.std.proofs.lemmas.Bool.{cases_lt}
use Rattle.std.proofs.lemmas.List.{append-nil, get_or_append_left, get_or-map, length-append, length-map}
use Rattle.version_sets.specs.Sets.{Members, has}
use Rattle.terms.specs.Terms.{TermView}
use Rattle.incompatibilities.specs.inner.Counts.{axioms, combinations, given_in}
use Rattle.incompatibilities.specs.inner.Chains.{ChainView}
use Rattle.incompatibilities.specs.Incompatibilities.{Fit, IsCombination, LiesIn, states_at}
use Rattle.incompatibilities.specs.Stores.{ComesOut, EntryView, OriginFits, entry, terms_of, touches}
use Rattle.incompatibilities.specs.declared.chain.Link.{Link}
use Rattle.incompatibilities.specs.declared.origin.Origin.TheVariants as origins
use Rattle.incompatibilities.proofs.Broken.{lies_fit}
use Rattle.guiding.proofs.Counts.{one_further}
use Rattle.solver.specs.declared.flat.Flat.{Flat}
use Rattle.solver.specs.declared.flat.Source.{Source}
use Rattle.solver.specs.declared.flat.Source.TheVariants.{Axiom, Combined}
use Rattle.solver.specs.inner.Flats.{AreAt, AreFlat, ChainAt, FlatView, IsLinkPut, IsPut, IsUnrolled, LieSomewhere}
use Rattle.solver.specs.inner.Flats.{LinksAt, PutIf, SourceFits, StandsAt, combined_in, flat, flat_view, flats_view}
use Rattle.solver.specs.inner.Flats.{given_of}
use Rattle.solver.specs.inner.Marks.{AreIn, IsMarking, PartsIn}

abbrev empty : FlatView
empty = record { terms = []; source = Axiom 0 }

-- one of a row, read
pub flat_read : {S : Type 0} (tests : S → Members) (fs : List (Flat S)) (i : ℕ) (f : Flat S)
    → i < length (flats_view tests fs) → f ≡ get_or fs i f → flat (flats_view tests fs) i ≡ flat_view tests f
flat_read {S} tests fs i f within is =
    get_or-map (flat_view tests) fs i f empty (omega (arith, within, length-map fs (flat_view tests)))
    ∙ ap (flat_view tests) (sym is)

-- ---- a row that grows

module _ (es : List EntryView) (fs gained new : List FlatView) (grown : new ≡ fs ++ gained) where
  pub flat_kept : (k : ℕ) → k < length fs → flat new k ≡ flat fs k
  flat_kept k lt = ap (λ (xs : List FlatView). flat xs k) grown ∙ get_or_append_left fs gained empty k lt

  pub longer : length new ≡ length fs + length gained
  longer = ap length grown ∙ length-append fs gained

  pub stands_kept : (id p : ℕ) → StandsAt es fs id p → StandsAt es new id p
  stands_kept id p s = record {
    within = (let w = s.within in omega (arith, w, longer));
    terms = ap (λ (f : FlatView). f.terms) (flat_kept p s.within) ∙ s.terms;
  }

  pub links_kept : (places : List ℕ) (ls : List Link) → LinksAt es fs places ls → LinksAt es new places ls
  links_kept places [] at = tt
  links_kept places (l ∷ ls) at =
      (at.0, stands_kept l.with (get_or places l.with 0) at.1, links_kept places ls at.2)

  source_kept : (n : ℕ) (ts : List TermView) (s : Source) → n ≤ length fs → SourceFits es fs n ts s
      → SourceFits es new n ts s
  source_kept n ts (Axiom kind) le fits = fits
  source_kept n ts (Combined i j v) le fits =
      let first : flat new i ≡ flat fs i = flat_kept i (let lt = fits.0 in omega (arith, lt, le)) in
      let second : flat new j ≡ flat fs j = flat_kept j (let lt = fits.1 in omega (arith, lt, le)) in (
        fits.0,
        fits.1,
        subst (λ (f : FlatView). touches v f.terms ≡ true) (sym first) fits.2,
        subst (λ (f : FlatView). IsCombination v f.terms (flat new j).terms ts) (sym first)
            (subst (λ (f : FlatView). IsCombination v (flat fs i).terms f.terms ts) (sym second) fits.3),
      )

pub founded_push : (es : List EntryView) (fs new : List FlatView) (ts : List TermView) (s : Source) → AreFlat es fs
    → SourceFits es fs (length fs) ts s → new ≡ fs ++ record { terms = ts; source = s } ∷ [] → AreFlat es new
founded_push es fs new ts s founded fits grown k lt = elim (cases_lt k (length fs)) [
  | inl low ↦ subst (λ (f : FlatView). SourceFits es new k f.terms f.source)
      (sym (flat_kept es fs (last ∷ []) new grown k low))
      (source_kept es fs (last ∷ []) new grown k (flat fs k).terms (flat fs k).source (omega (arith, low))
      (founded k low))
  | inr ge ↦
      let this : k ≡ length fs = omega (arith, ge, lt, longer es fs (last ∷ []) new grown) in
      subst (λ (f : FlatView). SourceFits es new k f.terms f.source)
      (sym (at_end k this))
      (subst (λ n. SourceFits es new n ts s) (sym this)
      (source_kept es fs (last ∷ []) new grown (length fs) ts s (omega arith) fits))
]
  where
    last : FlatView
    last = record { terms = ts; source = s }

    at_end : (n : ℕ) → n ≡ length fs → flat new n ≡ record { terms = ts; source = s }
    at_end n is = ap₂ (λ (xs : List FlatView) m. flat xs m) grown is ∙ get_or-append_seam fs last [] empty

pub flat_last : (fs new : List FlatView) (f : FlatView) (p : ℕ) → new ≡ fs ++ f ∷ [] → p ≡ length fs → flat new p ≡ f
flat_last fs new f p grown is = ap₂ (λ (xs : List FlatView) m. flat xs m) grown is ∙ get_or-append_seam fs f [] empty

-- ---- counts

pub combined_append : (xs ys : List FlatView) → combined_in (xs ++ ys) ≡ combined_in xs + combined_in ys
combined_append [] ys = omega arith
combined_append (x ∷ xs) ys = omega (arith, combined_append xs ys)

pub given_append : (xs ys : List FlatView) → given_of (xs ++ ys) ≡ given_of xs + given_of ys
given_append [] ys = omega arith
given_append (x ∷ xs) ys = omega (arith, given_append xs ys)

axioms_next : (es : List EntryView) (k : ℕ) → k < length es
    → axioms (take (suc k) es) ≡ axioms (take k es) + given_in (entry es k).origin
axioms_next [] k lt = absurd (omega (arith, lt))
axioms_next (e ∷ es) zero lt = omega arith
axioms_next (e ∷ es) (suc k) lt = omega (arith, axioms_next es k (omega (arith, lt)))

combinations_front : (es : List EntryView) (n : ℕ) → combinations (take n es) ≤ combinations es
combinations_front es zero = omega arith
combinations_front [] (suc n) = omega arith
combinations_front (e ∷ es) (suc n) = omega (arith, combinations_front es n)

axioms_front : (es : List EntryView) (n : ℕ) → axioms (take n es) ≤ axioms es
axioms_front es zero = omega arith
axioms_front [] (suc n) = omega arith
axioms_front (e ∷ es) (suc n) = omega (arith, axioms_front es n)

-- ---- the combinations of a chain

-- what was put so far, and what is left of the chain
pub record IsPutting (es : List EntryView) (fs now : List FlatView) (places : List ℕ) (id place done : ℕ)
    (rest : List Link) : Type 0 where
  pub gained : List FlatView
  pub grown : now ≡ fs ++ gained
  pub founded : AreFlat es now
  pub within : place < length now
  pub comes_out : ComesOut es id (flat now place).terms rest (entry es id).terms
  pub lies : (space : ℕ → ℕ) → ((i : ℕ) → i < length es → LiesIn space (terms_of es i))
      → LiesIn space (states_at (flat now place).terms)
  pub placed : LinksAt es now places rest
  pub ends : (done ≡ 0) ⊎ (suc place ≡ length now)
  pub combined : combined_in gained ≡ done
  pub given : given_of gained ≡ 0

pub putting_none : (es : List EntryView) (fs : List FlatView) (places : List ℕ) (id place : ℕ) (chain : ChainView)
    → id ≤ length es → OriginFits es id (entry es id).terms (origins.Learned chain) → AreFlat es fs
    → ChainAt es fs places chain → place ≡ get_or places chain.first 0
    → IsPutting es fs fs places id place 0 chain.links
putting_none es fs places id place chain below fits founded at is = record {
  gained = [];
  grown = sym (append-nil fs);
  founded = founded;
  within = subst (λ n. n < length fs) (sym is) stands.within;
  comes_out = subst (λ us. ComesOut es id us chain.links (entry es id).terms) (sym same) fits.2;
  lies = λ space all. subst (λ (us : List TermView). LiesIn space (states_at us)) (sym same)
      (all chain.first (let lt = fits.0 in omega (arith, lt, below)));
  placed = at.2;
  ends = inl refl;
  combined = refl;
  given = refl;
}
  where
    stands : StandsAt es fs chain.first (get_or places chain.first 0)
    stands = at.1

    same : (flat fs place).terms ≡ (entry es chain.first).terms
    same = ap (λ n. (flat fs n).terms) is ∙ stands.terms

pub putting_fit : (es : List EntryView) (fs now : List FlatView) (places : List ℕ) (id place done : ℕ) (l : Link)
    (ls : List Link) → LieSomewhere es → id ≤ length es → IsPutting es fs now places id place done (l ∷ ls)
    → Fit (states_at (flat now place).terms) (terms_of es l.with)
putting_fit es fs now places id place done l ls lies below p = lies_fit lies.0 (states_at (flat now place).terms)
    (terms_of es l.with) (p.lies lies.0 lies.1)
    (lies.1 l.with (let lt = p.comes_out.1.earlier in omega (arith, lt, below)))

pub putting_more : (es : List EntryView) (fs now new : List FlatView) (places : List ℕ) (id place done p more : ℕ)
    (l : Link) (ls : List Link) → id ≤ length es → IsPutting es fs now places id place done (l ∷ ls)
    → IsLinkPut es now new places place l p → more ≡ suc done → IsPutting es fs new places id p more ls
putting_more es fs now new places id place done p more l ls below was put next = record {
  gained = was.gained ++ last ∷ [];
  grown = put.grown ∙ ap (λ (xs : List FlatView). xs ++ last ∷ []) was.grown ∙ append_assoc fs was.gained (last ∷ []);
  founded = founded_push es now new put.made last.source was.founded fits put.grown;
  within = (let at = put.at_end in omega (arith, at, longer es now (last ∷ []) new put.grown));
  comes_out = subst (λ us. ComesOut es id us ls (entry es id).terms) (same ∙ sym here) was.comes_out.2;
  lies = λ space all. subst (λ (us : List TermView). LiesIn space (states_at us)) (sym here)
      (put.lies space (was.lies space all) (all l.with (let lt = was.comes_out.1.earlier in omega (arith, lt, below))));
  placed = links_kept es now (last ∷ []) new put.grown places ls was.placed.2;
  ends = inr (let at = put.at_end in omega (arith, at, longer es now (last ∷ []) new put.grown));
  combined = (let c = was.combined in omega (arith, c, next, combined_append was.gained (last ∷ [])));
  given = (let c = was.given in omega (arith, c, given_append was.gained (last ∷ [])));
}
  where
    last : FlatView
    last = record { terms = put.made; source = Combined place (get_or places l.with 0) l.vertex }

    same : was.comes_out.0 ≡ put.made
    same = put.only was.comes_out.0 was.comes_out.1.is

    here : (flat new p).terms ≡ put.made
    here = ap (λ (f : FlatView). f.terms) (flat_last now new last p put.grown put.at_end)

    stands : StandsAt es now l.with (get_or places l.with 0)
    stands = was.placed.1

    fits : SourceFits es now (length now) put.made (Combined place (get_or places l.with 0) l.vertex)
    fits = (
      was.within,
      stands.within,
      was.comes_out.1.term,
      subst (λ (us : List TermView). IsCombination l.vertex (flat now place).terms us put.made) (sym stands.terms)
          put.is,
    )

-- an axiom is put
pub put_axiom : (es : List EntryView) (fs new : List FlatView) (id p kind : ℕ) (ts : List TermView) → id < length es
    → (entry es id).origin ≡ origins.Axiom kind → ts ≡ (entry es id).terms → AreFlat es fs → p ≡ length fs
    → new ≡ fs ++ record { terms = ts; source = Axiom kind } ∷ [] → IsPut es fs new id p 0 1
put_axiom es fs new id p kind ts within given same founded at grown = record {
  gained = last ∷ [];
  grown = grown;
  founded = founded_push es fs new ts (Axiom kind) founded (id, within, given, sym same) grown;
  here = record {
    within = omega (arith, at, longer es fs (last ∷ []) new grown);
    terms = ap (λ (f : FlatView). f.terms) (flat_last fs new last p grown at) ∙ same;
  };
  ends = omega (arith, at, longer es fs (last ∷ []) new grown);
  combined = refl;
  given = refl;
}
  where
    last : FlatView
    last = record { terms = ts; source = Axiom kind }

-- the entries of a marked entry's chain stand at their places
links_at : (es : List EntryView) (fs : List FlatView) (ms : List Bool) (id : ℕ) (places : List ℕ) (ts : List TermView)
    (ls : List Link) (made : List TermView) → length places ≡ id → AreAt es fs ms id places → ComesOut es id ts ls made
    → AreIn ms ls → LinksAt es fs places ls
links_at es fs ms id places ts [] made long at out marked = tt
links_at es fs ms id places ts (l ∷ ls) made long at out marked = (
  (let lt = out.1.earlier in omega (arith, lt, long)),
  at l.with out.1.earlier marked.0,
  links_at es fs ms id places out.0 ls made long at out.2 marked.1,
)

pub chain_at : (es : List EntryView) (fs : List FlatView) (ms : List Bool) (last id : ℕ) (places : List ℕ)
    (chain : ChainView) → IsMarking es last 0 ms → has ms id ≡ true → (entry es id).origin ≡ origins.Learned chain
    → length places ≡ id → AreAt es fs ms id places → ChainAt es fs places chain
chain_at es fs ms last id places chain marking here is long at =
    let closed = marking.closed id (omega arith) here in
    let parts : PartsIn ms (origins.Learned chain) = subst (PartsIn ms) is closed.parts in
    let fits : OriginFits es id (entry es id).terms (origins.Learned chain) =
    subst (OriginFits es id (entry es id).terms) is closed.fits in (
      (let lt = fits.0 in omega (arith, lt, long)),
      at chain.first fits.0 parts.0,
      links_at es fs ms id places (entry es chain.first).terms chain.links (entry es id).terms long at fits.2 parts.1,
    )

-- ---- the entries one by one

pub record IsUnrolling (es : List EntryView) (fs : List FlatView) (ms : List Bool) (n : ℕ) (places : List ℕ)
    : Type 0 where
  pub founded : AreFlat es fs
  pub placed : AreAt es fs ms n places
  pub long : length places ≡ n
  pub ends : (k : ℕ) → n ≡ suc k → has ms k ≡ true → suc (get_or places k 0) ≡ length fs
  pub few_combined : combined_in fs ≤ combinations (take n es)
  pub few_given : given_of fs ≤ axioms (take n es)

place_kept : (places : List ℕ) (p k : ℕ) → k < length places → get_or (places ++ p ∷ []) k 0 ≡ get_or places k 0
place_kept places p k lt = get_or_append_left places (p ∷ []) 0 k lt

place_new : (places : List ℕ) (p : ℕ) → get_or (places ++ p ∷ []) (length places) 0 ≡ p
place_new places p = get_or-append_seam places p [] 0

pub unrolling_more : (es : List EntryView) (fs new : List FlatView) (ms : List Bool) (n p : ℕ)
    (places more : List ℕ) (b : Bool) → n < length es → has ms n ≡ b → IsUnrolling es fs ms n places
    → PutIf es fs new n p b → more ≡ places ++ p ∷ [] → IsUnrolling es new ms (suc n) more
unrolling_more es fs new ms n p places more true within here was put grown = record {
  founded = put.founded;
  placed = λ id lt h. elim (cases_lt id n) [
    | inl less ↦ subst (StandsAt es new id) (sym (old id less))
        (stands_kept es fs put.gained new put.grown id (get_or places id 0) (was.placed id less h))
    | inr ge ↦ let e : id ≡ n = omega (arith, lt, ge) in
        subst (λ i. StandsAt es new i (get_or more i 0)) (sym e) (subst (StandsAt es new n) (sym at) put.here)
  ];
  long = (let l = was.long in omega (arith, l, ap length grown, length-append places (p ∷ [])));
  ends = λ k e h. let same : k ≡ n = omega (arith, e) in
      subst (λ i. suc (get_or more i 0) ≡ length new) (sym same) (ap suc at ∙ put.ends);
  few_combined = (let few = was.few_combined in let gained = put.combined in omega (
    arith,
    few,
    gained,
    ap combined_in put.grown,
    combined_append fs put.gained,
    one_further es n within,
  ));
  few_given = (let few = was.few_given in let gained = put.given in omega (
    arith,
    few,
    gained,
    ap given_of put.grown,
    given_append fs put.gained,
    axioms_next es n within,
  ));
}
  where
    at : get_or more n 0 ≡ p
    at = ap₂ (λ (xs : List ℕ) i. get_or xs i 0) grown (sym was.long) ∙ place_new places p

    old : (id : ℕ) → id < n → get_or more id 0 ≡ get_or places id 0
    old id less = ap (λ (xs : List ℕ). get_or xs id 0) grown
        ∙ place_kept places p id (let l = was.long in omega (arith, less, l))
unrolling_more es fs new ms n p places more false within here was same grown = record {
  founded = subst (AreFlat es) (sym same) was.founded;
  placed = λ id lt h. elim (cases_lt id n) [
    | inl less ↦ subst (λ (xs : List FlatView). StandsAt es xs id (get_or more id 0)) (sym same)
        (subst (StandsAt es fs id) (sym (old id less)) (was.placed id less h))
    | inr ge ↦ let e : id ≡ n = omega (arith, lt, ge) in absurd (apart (sym h ∙ ap (has ms) e ∙ here))
  ];
  long = (let l = was.long in omega (arith, l, ap length grown, length-append places (p ∷ [])));
  ends = λ k e h. let e2 : k ≡ n = omega (arith, e) in absurd (apart (sym h ∙ ap (has ms) e2 ∙ here));
  few_combined = (let few = was.few_combined in
      omega (arith, few, ap combined_in same, one_further es n within));
  few_given = (let few = was.few_given in omega (arith, few, ap given_of same, axioms_next es n within));
}
  where
    apart : true ≡ false → ⊥
    apart e = cc

    old : (id : ℕ) → id < n → get_or more id 0 ≡ get_or places id 0
    old id less = ap (λ (xs : List ℕ). get_or xs id 0) grown
        ∙ place_kept places p id (let l = was.long in omega (arith, less, l))

pub unrolled : (es : List EntryView) (fs : List FlatView) (ms : List Bool) (n last : ℕ) (places : List ℕ)
    → IsMarking es last 0 ms → n ≡ length ms → IsUnrolling es fs ms n places → IsUnrolled es last fs
unrolled es fs ms n last places marking all was =
    let n_is : n ≡ suc last = all ∙ marking.long in
    let ends : suc (get_or places last 0) ≡ length fs = was.ends last n_is marking.ends in
    let stands : StandsAt es fs last (get_or places last 0) = was.placed last (omega (arith, n_is)) marking.ends in
    let at : length fs - 1 ≡ get_or places last 0 = omega (arith, ends) in
    record {
      founded = was.founded;
      some = omega (arith, ends);
      ends = ap (λ k. (flat fs k).terms) at ∙ stands.terms;
      few_combined = (let few = was.few_combined in omega (arith, few, combinations_front es n));
      few_given = (let few = was.few_given in omega (arith, few, axioms_front es n));
    }
