-- The terms of an incompatibility can be put into a derivation, where the problem's parts are valid.
use Rattle.std.proofs.Common.{◌≡◌, ◌≢◌, List, [], ◌∷◌, true, false, Contains, Option, Some, None, slice_get, refl}
use Rattle.std.specs.List.{AllByRecursion, AllPairs, IsDistinct}
use Rattle.std.specs.Ordering.{on}
use Rattle.std.proofs.lemmas.Bool.{false_from_ne_true}
use Rattle.std.proofs.lemmas.List.Elements.{All-from_recursion}
use Rattle.version_sets.specs.Sets.{Members}
use Rattle.terms.specs.Terms.{TermView}
use Rattle.incompatibilities.specs.Incompatibilities.{IsRising}
use Rattle.model.specs.Content.{Problem}
use Rattle.model.specs.Order.{IsCatalogue}
use Rattle.model.specs.Vertices.{Vertex, State, same_state, same_vertex, space}
use Rattle.model.specs.Axioms.{AreApart, IsVertex, Term, at}
use Rattle.model.proofs.Lists.{in_first, in_rest, pairs_first, pairs_rest}
use Rattle.model.proofs.Same.{state-same}
use Rattle.model.proofs.Places.{got_in}
use Rattle.model.proofs.Members.{each_at}
use Rattle.vertices.specs.Texts.{IsReadState, IsReadVertex}
use Rattle.vertices.specs.inner.Valid.{HasValidParts}
use Rattle.vertices.proofs.InProblem.{in-problem}
use Rattle.vertices.proofs.InSpace.{in-space}
use Rattle.vertices.proofs.ReadBack.{state-is-read, vertex-is-read}
use Rattle.derivations.specs.inner.Building.{AreNewTerms, IsNewTerm}
use Rattle.numbering.specs.Numberings.{IsNumbering, Numbering}
use Rattle.numbering.proofs.Distinct.{states_once}
use Rattle.solver.specs.inner.Decoding.{states_in, terms_of, with_term}
use Rattle.solver.proofs.Whole.{terms_apart}

-- ---- states that are chosen

each_chosen : (P : State → Type 0) (ss : List State) (m : Members) → ((s : State) → Contains ss s → P s)
    → AllByRecursion P (states_in ss m)
each_chosen P [] m h = tt
each_chosen P (s ∷ ss) [] h = tt
each_chosen P (s ∷ ss) (true ∷ m) h = (h s (in_first s ss), each_chosen P ss m (λ r c. h r (in_rest s r ss c)))
each_chosen P (s ∷ ss) (false ∷ m) h = each_chosen P ss m (λ r c. h r (in_rest s r ss c))

pub chosen_apart : (ss : List State) (m : Members) → AllPairs (λ s r. s ≢ r) ss → IsDistinct same_state (states_in ss m)
unfolding IsDistinct
chosen_apart [] m once = tt
chosen_apart (s ∷ ss) [] once = tt
chosen_apart (s ∷ ss) (true ∷ m) once = (
  each_chosen (λ r. same_state s r ≡ false) ss m
      (λ r c. false_from_ne_true (same_state s r) (λ h. pairs_first (λ s r. s ≢ r) s r ss once c (state-same s r h))),
  chosen_apart ss m (pairs_rest (λ s r. s ≢ r) s ss once),
)
chosen_apart (s ∷ ss) (false ∷ m) once = chosen_apart ss m (pairs_rest (λ s r. s ≢ r) s ss once)

-- ---- terms

apart_distinct : (ts : List Term) → AreApart ts → IsDistinct (on (λ t. t.vertex) same_vertex) ts
unfolding IsDistinct
apart_distinct [] apart = tt
apart_distinct (t ∷ ts) apart = (apart.0, apart_distinct ts apart.1)

pub vertices_read : (q : Problem) → HasValidParts q → (vs : Numbering) → AllByRecursion (λ v. IsVertex q v) vs
    → AllByRecursion IsReadVertex vs
vertices_read q valid [] there = tt
vertices_read q valid (v ∷ vs) there =
    (vertex-is-read v (in-problem q valid v there.0), vertices_read q valid vs there.1)

module _ (q : Problem) (vs : Numbering) (valid : HasValidParts q) (known : IsCatalogue q) (ok : IsNumbering q vs) where
  term_new : (v : Vertex) (m : Members) → Contains vs v → IsNewTerm (at v (states_in (space q v) m))
  term_new v m c = record {
    vertex = vertex-is-read v (in-problem q valid v (each_at (λ v. IsVertex q v) vs v ok.there c));
    states = All-from_recursion _ (states_in (space q v) m)
        (each_chosen (λ s. IsReadState v s) (space q v) m (λ s i. state-is-read v s (in-space q valid v s i)));
    apart = chosen_apart (space q v) m (states_once q known v);
  }

  each_new : (ts : List TermView) → AllByRecursion IsNewTerm (terms_of q vs ts)
  each_new [] = tt
  each_new (t ∷ ts) = by (slice_get vs t.vertex) refl (each_new ts)
    where
      by : (o : Option Vertex) → slice_get vs t.vertex ≡ o → AllByRecursion IsNewTerm (terms_of q vs ts)
          → AllByRecursion IsNewTerm (with_term q o t.states (terms_of q vs ts))
      by None e rest = rest
      by (Some v) e rest = (term_new v t.states (got_in vs t.vertex v e), rest)

  pub terms_new : (ts : List TermView) → IsRising ts → AreNewTerms (terms_of q vs ts)
  terms_new ts rising = record {
    each = All-from_recursion _ (terms_of q vs ts) (each_new ts);
    apart = apart_distinct (terms_of q vs ts) (terms_apart q vs ok ts rising);
  }
