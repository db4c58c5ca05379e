-- One guide goes on from another, and a store keeps its instances.
use Rattle.std.proofs.Common.{◌≡◌, ◌≢◌, List, [], ◌∷◌, ◌++◌, refl, sym, ap, ◌∙◌, subst, arith}
use Rattle.std.proofs.lemmas.List.{get_or_append_left, length-append}
use Rattle.incompatibilities.specs.Stores.{EntryView, IsAxiom, entry}
use Rattle.incompatibilities.specs.declared.origin.Origin.TheVariants.{Axiom}
use Rattle.terms.specs.Terms.{TermView}
use Rattle.model.specs.Content.{Problem}
use Rattle.model.specs.Axioms.{Term}
use Rattle.model.specs.Causes.{Cause, of_root, terms_of_cause}
use Rattle.numbering.specs.Numberings.{IsGrown, IsNumbering, Numbering, Says}
use Rattle.numbering.proofs.Needing.{grows_on, says_more}
use Rattle.std.specs.List.{AllPairs}
use Rattle.guiding.specs.inner.Guides.{AreStored, EncodedView, GoesOn, IsPut}

pub grows_same : (vs : Numbering) → IsGrown vs vs
grows_same vs = ([], same vs)
  where
    same : (xs : Numbering) → xs ≡ xs ++ []
    same [] = refl
    same (x ∷ xs) = ap (λ l. x ∷ l) (same xs)

pub goes_same : (g : EncodedView) → GoesOn g g
goes_same g = record { problem = refl; grown = grows_same g.vertices; whole = λ h. h; follows_is = refl }

pub goes_on : (a b c : EncodedView) → GoesOn a b → GoesOn b c → GoesOn a c
goes_on a b c first second = record {
  problem = second.problem ∙ first.problem;
  grown = grows_on a.vertices b.vertices c.vertices first.grown second.grown;
  whole = λ h. second.whole (first.whole h);
  follows_is = second.follows_is ∙ first.follows_is;
}

-- what says an instance says it as vertices get numbers
pub says_on : (q : Problem) (vs new : Numbering) → IsGrown vs new → IsNumbering q new
    → (made : List TermView) (ts : List Term) → Says q vs made ts → Says q new made ts
says_on q vs new grown ok made ts says = subst (λ w. Says q w made ts) (sym grown.1)
    (says_more q vs grown.0 made ts (subst (AllPairs (λ v w. v ≢ w)) grown.1 ok.once) says)

pub added_on : (q : Problem) (vs : Numbering) (es more : List EntryView) (c : Cause) → IsPut q vs es c
    → IsPut q vs (es ++ more) c
added_on q vs es more c a =
    let lt = a.1 in
    let same : entry (es ++ more) a.0 ≡ entry es a.0 =
    get_or_append_left es more (record { terms = []; origin = Axiom 0 }) a.0 a.1 in (
      a.0,
      omega (arith, lt, length-append es more),
      subst (λ (e : EntryView). IsAxiom e.origin) (sym same) a.2,
      subst (λ (e : EntryView). Says q vs e.terms (terms_of_cause q c)) (sym same) a.3,
    )

pub added_grown : (q : Problem) (vs new : Numbering) (es : List EntryView) (c : Cause) → IsGrown vs new
    → IsNumbering q new → IsPut q vs es c → IsPut q new es c
added_grown q vs new es c grown ok a =
    (a.0, a.1, a.2, says_on q vs new grown ok (entry es a.0).terms (terms_of_cause q c) a.3)

pub stored_on : (g : EncodedView) (es more : List EntryView) → AreStored g.problem g.vertices g.asked es
    → AreStored g.problem g.vertices g.asked (es ++ more)
stored_on g es more was = record {
  root_is = λ t. added_on g.problem g.vertices es more of_root (was.root_is t);
  pairs = λ c t all. added_on g.problem g.vertices es more c (was.pairs c t all);
}
