-- What is written reads as the derivation that was written.
use Rattle.std.proofs.Common.{◌≡◌, ℕ, ◌+◌, ◌<◌, ◌≤◌, ◌^◌, map, length, List, [], ◌∷◌, ◌++◌, Bool, true, false, ◌&&◌}
use Rattle.std.proofs.Common.{nat_le, nat_lt, Some, Ok, codes, decimal, refl, sym, ap, ap₂, ◌∙◌, subst, arith}
use Rattle.std.proofs.Common.{append_assoc, append-nil, IsUtf8, length-append, Ordering, Less}
use Rattle.std.specs.Cmp.{IsTotalOrder}
use Rattle.std.specs.List.{AllByRecursion, list_all, slice_split}
use Rattle.std.specs.List.Sorted.{IsStrictlySortedBy}
use Rattle.std.proofs.lemmas.Bool.{lt-ltb, and_parts}
use Rattle.std.proofs.lemmas.Bool.Decides.{nat_tests}
use Rattle.std.proofs.lemmas.List.Elements.{All-from_recursion}
use Rattle.std.proofs.lemmas.List.Sorted.{IsPermutation-refl}
use Rattle.std.proofs.lemmas.List.Splits.{slice_split_at}
use Rattle.json.specs.Print as printed
use Rattle.json.proofs.Printed.Strings.{escape_byte_plain}
use Rattle.json.proofs.Printed.Utf8.{are_ascii, IsUtf8-are_ascii}
use Rattle.serde_json.specs.Data.{Data, number, string, array, object, unsigned, Items, no_items, item, no_members}
use Rattle.serde_json.specs.Data.{member, items_depth}
use Rattle.serde_json.specs.Read.{read}
use Rattle.serde_json.specs.Written.{compact_text, items_text}
use Rattle.model.specs.Outcome.{◌>>=◌, guard}
use Rattle.model.specs.Vertices.{Vertex, State}
use Rattle.model.specs.Axioms.{Kind, Root, Needed, Target, HasFeature, WantsFeature, FeatureOnFeature}
use Rattle.model.specs.Axioms.{FeatureOnDependency, FeatureAsks, NewestListed, WeakFeature, Term}
use Rattle.model.specs.Derivation.{Step, given, combine, terms_of as terms_in_step}
use Rattle.vertices.specs.Texts.{IsReadVertex, IsReadState, kind_text, kind_of_text, vertex_text, state_text}
use Rattle.derivations.specs.inner.Derivations.{IsTerm, term_cmp, AreTerms, IsStepAt, AreStepsFrom, IsDerivation}
use Rattle.derivations.specs.Files.{most_steps, with_read, with_line, with_lines, derivation_of_bytes}
use Rattle.trees.specs.Trees.{is_line_end}
use Rattle.derivations.specs.Orders.{ordered}
use Rattle.derivations.specs.Steps.{two_of, states_in, states_of, Written, written_cmp, term_of, terms_in}
use Rattle.derivations.specs.Steps.{terms_without_texts, terms_of, Origin, by_axiom, by_combination, axiom_of}
use Rattle.derivations.specs.Steps.{combination_of, origin_of, is_backward, step_by, step_of, step_of_line}
use Rattle.derivations.specs.Lines.{Line}
use Rattle.derivations.specs.Written.{quoted, with_commas, state_json, term_json, combination_json, origin_json}
use Rattle.derivations.specs.Written.{step_json, lines_of}
use Rattle.derivations.specs.declared.fault.LineFault.TheVariants.{Forward}
use Rattle.derivations.proofs.Commas.{separated, separated-commas}
use Rattle.derivations.proofs.JsonLaws.{AreSimple, two-read}
use Rattle.vertices.proofs.OrderLaws.{state_total}
use Rattle.derivations.proofs.OrderLaws.{written_total}
use Rattle.vertices.proofs.PlainTexts.{IsPlain, literal, vertex-plain, state-plain, kind-plain, decimal-plain}
use Rattle.derivations.proofs.ReadLemmas.{data-read}
use Rattle.model.proofs.Sorting.{none-from_distinct, in_order-sorted, distinct-sorted}

-- ---- the JSON value of a step

abbrev states_data : List State → Items
states_data [] = no_items
states_data (s ∷ ss) = item (string (state_text s)) (states_data ss)

abbrev term_data : Term → Data
term_data t = array (item (string (vertex_text t.vertex)) (item (array (states_data t.states)) no_items))

abbrev terms_data : List Term → Items
terms_data [] = no_items
terms_data (t ∷ ts) = item (term_data t) (terms_data ts)

abbrev combination_data : ℕ → ℕ → Vertex → Data
combination_data a b v =
    array (item (number (unsigned a)) (item (number (unsigned b)) (item (string (vertex_text v)) no_items)))

abbrev with_terms : List ℕ → Data → List Term → Data
with_terms key d ts = object (member key d (member (codes "terms") (array (terms_data ts)) no_members))

abbrev step_data : Step → Data
step_data (given k ts) = with_terms (codes "axiom") (string (kind_text k)) ts
step_data (combine a b v ts) = with_terms (codes "combine") (combination_data a b v) ts

-- ---- its compact text is what is written

same-escape : (text : List ℕ) → IsPlain text → printed.escape text ≡ text
same-escape [] h = refl
same-escape (b ∷ bs) h = ap₂ (λ x y. x ++ y) (escape_byte_plain b h.0.2 h.0.3 h.0.0) (same-escape bs h.1)

same-quoted : (text : List ℕ) → IsPlain text → printed.quoted text ≡ quoted text
same-quoted text h = ap (λ t. 34 ∷ (t ++ 34 ∷ [])) (same-escape text h)

placed : (comma one rest : List ℕ) (a b : List ℕ) → a ≡ one → b ≡ rest ++ 93 ∷ []
    → comma ++ (a ++ b) ≡ (comma ++ (one ++ rest)) ++ 93 ∷ []
placed comma one rest a b h k = ap₂ (λ x y. comma ++ (x ++ y)) h k
    ∙ ap (λ t. comma ++ t) (sym (append_assoc one rest (93 ∷ []))) ∙ sym (append_assoc comma (one ++ rest) (93 ∷ []))

states-text : (later : Bool) (v : Vertex) (ss : List State) → AllByRecursion (λ s. IsReadState v s) ss
    → items_text later (states_data ss) ≡ separated state_json later ss ++ 93 ∷ []
states-text later v [] h = refl
states-text true v (s ∷ ss) h = placed (44 ∷ []) (state_json s) (separated state_json true ss) _ _
    (same-quoted (state_text s) (state-plain v (state_text s) s h.0)) (states-text true v ss h.1)
states-text false v (s ∷ ss) h = placed [] (state_json s) (separated state_json true ss) _ _
    (same-quoted (state_text s) (state-plain v (state_text s) s h.0)) (states-text true v ss h.1)

states-commas : (v : Vertex) (ss : List State) → AllByRecursion (λ s. IsReadState v s) ss
    → items_text false (states_data ss) ++ 93 ∷ [] ≡ with_commas (map state_json ss) ++ 93 ∷ 93 ∷ []
states-commas v ss h =
    ap (λ t. t ++ 93 ∷ []) (states-text false v ss h ∙ ap (λ t. t ++ 93 ∷ []) (separated-commas state_json ss))
    ∙ append_assoc (with_commas (map state_json ss)) (93 ∷ []) (93 ∷ [])

term-text : (t : Term) → IsTerm t → compact_text (term_data t) ≡ term_json t
term-text t h = ap₂ (λ q r. 91 ∷ (q ++ (44 ∷ (91 ∷ r)))) (same-quoted (vertex_text t.vertex)
    (vertex-plain (vertex_text t.vertex) t.vertex h.vertex)) (states-commas t.vertex t.states h.states)

terms-text : (later : Bool) (ts : List Term) → AllByRecursion IsTerm ts
    → items_text later (terms_data ts) ≡ separated term_json later ts ++ 93 ∷ []
terms-text later [] h = refl
terms-text true (t ∷ ts) h =
    placed (44 ∷ []) (term_json t) (separated term_json true ts) _ _ (term-text t h.0) (terms-text true ts h.1)
terms-text false (t ∷ ts) h =
    placed [] (term_json t) (separated term_json true ts) _ _ (term-text t h.0) (terms-text true ts h.1)

terms-commas : (ts : List Term) → AllByRecursion IsTerm ts
    → items_text false (terms_data ts) ++ 125 ∷ [] ≡ with_commas (map term_json ts) ++ 93 ∷ 125 ∷ []
terms-commas ts h =
    ap (λ t. t ++ 125 ∷ []) (terms-text false ts h ∙ ap (λ t. t ++ 93 ∷ []) (separated-commas term_json ts))
    ∙ append_assoc (with_commas (map term_json ts)) (93 ∷ []) (125 ∷ [])

-- `{KEY:VALUE,"terms":[..]}`
abbrev line_of : List ℕ → List ℕ → List ℕ → List ℕ → List ℕ
line_of key value terms rest = 123 ∷ (key ++ (58 ∷ (value ++ (44 ∷ (terms ++ (58 ∷ (91 ∷ rest)))))))

same-line : (k k' v v' t t' r r' : List ℕ) → k ≡ k' → v ≡ v' → t ≡ t' → r ≡ r' → line_of k v t r ≡ line_of k' v' t' r'
same-line k k' v v' t t' r r' p q s u = cc

combination-text : (a b : ℕ) (v : Vertex) → IsReadVertex v
    → codes "\"combine\":" ++ compact_text (combination_data a b v) ≡ combination_json a b v
combination-text a b v h =
    let rest : List ℕ = quoted (vertex_text v) ++ 93 ∷ [] in
    ap (λ q. codes "\"combine\":[" ++ (decimal a ++ (44 ∷ (decimal b ++ (44 ∷ (q ++ 93 ∷ []))))))
    (same-quoted (vertex_text v) (vertex-plain (vertex_text v) v h))
    ∙ ap (λ t. codes "\"combine\":[" ++ t)
    (ap (λ t. decimal a ++ (44 ∷ t)) (sym (append_assoc (decimal b) (44 ∷ []) rest))
    ∙ sym (append_assoc (decimal a) (44 ∷ []) ((decimal b ++ 44 ∷ []) ++ rest)))

step-text : (n : ℕ) (s : Step) → IsStepAt n s → compact_text (step_data s) ≡ step_json s
step-text n (given k ts) h =
    same-line _ _ _ _ _ _ _ _ (same-quoted (codes "axiom") (literal (codes "axiom") refl)) (same-quoted (kind_text k)
    (kind-plain k)) (same-quoted (codes "terms") (literal (codes "terms") refl)) (terms-commas ts h.1.0)
step-text n (combine a b v ts) h =
    same-line _ _ (compact_text (combination_data a b v)) (compact_text (combination_data a b v)) _ _ _ _
    (same-quoted (codes "combine") (literal (codes "combine") refl)) refl
    (same-quoted (codes "terms") (literal (codes "terms") refl)) (terms-commas ts h.1.0)
    ∙ ap (λ t. 123 ∷ (t ++ (codes ",\"terms\":[" ++ (with_commas (map term_json ts) ++ codes "]}"))))
    (combination-text a b v h.0.2)

-- ---- the value reads as the step

states-simple : (ss : List State) → AreSimple (states_data ss)
states-simple [] = tt
states-simple (s ∷ ss) = (tt, states-simple ss)

terms-simple : (ts : List Term) → AreSimple (terms_data ts)
terms-simple [] = tt
terms-simple (t ∷ ts) = ((tt, (states-simple t.states, tt)), terms-simple ts)

states-shallow : (ss : List State) → items_depth (states_data ss) ≤ 0
states-shallow [] = omega arith
states-shallow (s ∷ ss) = let rest = states-shallow ss in omega arith

terms-shallow : (ts : List Term) → items_depth (terms_data ts) ≤ 2
terms-shallow [] = omega arith
terms-shallow (t ∷ ts) = let rest = terms-shallow ts in let here = states-shallow t.states in omega arith

step-read : (n : ℕ) (s : Step) → n ≤ 2 ^ 64 → IsStepAt n s → read (compact_text (step_data s)) ≡ Some (step_data s)
step-read n (given k ts) few h = two-read (codes "axiom") (codes "terms") (string (kind_text k))
    (array (terms_data ts)) tt (terms-simple ts) (omega arith) (let low = terms-shallow ts in omega arith) refl
step-read n (combine a b v ts) few h =
    let first : a < 2 ^ 64 = let lt = h.0.0 in omega arith in
    let second : b < 2 ^ 64 = let lt = h.0.1 in omega arith in
    two-read (codes "combine") (codes "terms") (combination_data a b v) (array (terms_data ts))
    (first, (second, (tt, tt))) (terms-simple ts) (omega arith) (let low = terms-shallow ts in omega arith) refl

pub ordered-same : {X : Type 0} {R : X → X → Ordering} (o : IsTotalOrder R) (xs : List X)
    → IsStrictlySortedBy R xs → ordered R xs ≡ Ok xs
ordered-same {R = R} o xs s = rw (
  none-from_distinct _ xs (distinct-sorted o xs xs (IsPermutation-refl xs) s),
  in_order-sorted o xs xs (IsPermutation-refl xs) s,
) refl

states-back : (v : Vertex) (ss : List State) → AllByRecursion (λ s. IsReadState v s) ss
    → states_in v (states_data ss) ≡ Ok ss
unfolding states_in
states-back v [] h = refl
states-back v (s ∷ ss) h = rw (h.0, states-back v ss h.1) refl

term-back : (t : Term) → IsTerm t → term_of (term_data t) ≡ Ok (vertex_text t.vertex, t)
unfolding term_of two_of states_of
term-back t h = rw (h.vertex, states-back t.vertex t.states h.states, ordered-same state_total t.states h.order) refl

abbrev written : Term → Written
written t = (vertex_text t.vertex, t)

terms-back : (ts : List Term) → AllByRecursion IsTerm ts → terms_in (terms_data ts) ≡ Ok (map written ts)
unfolding terms_in
terms-back [] h = refl
terms-back (t ∷ ts) h = rw (term-back t h.0, terms-back ts h.1) refl

written-after : (t : Term) (ts : List Term) → AllByRecursion (λ u. term_cmp t u ≡ Less) ts
    → AllByRecursion (λ u. written_cmp (written t) u ≡ Less) (map written ts)
written-after t [] h = tt
written-after t (u ∷ us) h = (h.0, written-after t us h.1)

written-sorted : (ts : List Term) → IsStrictlySortedBy term_cmp ts → IsStrictlySortedBy written_cmp (map written ts)
unfolding IsStrictlySortedBy
written-sorted [] h = tt
written-sorted (t ∷ ts) h = (written-after t ts h.0, written-sorted ts h.1)

without-texts : (ts : List Term) → terms_without_texts (map written ts) ≡ ts
without-texts [] = refl
without-texts (t ∷ ts) = ap (λ us. t ∷ us) (without-texts ts)

all-terms : (key : List ℕ) (d : Data) (ts : List Term) → AreTerms ts
    → terms_in (terms_data ts) >>= (λ w. ordered written_cmp w >>= λ s. Ok (terms_without_texts s)) ≡ Ok ts
all-terms key d ts h = rw (terms-back ts h.0, ordered-same written_total (map written ts) (written-sorted ts h.1))
    (ap Ok (without-texts ts))

kind-back : (k : Kind) → kind_of_text (kind_text k) ≡ Some k
kind-back Root = refl
kind-back Needed = refl
kind-back Target = refl
kind-back HasFeature = refl
kind-back WantsFeature = refl
kind-back FeatureOnFeature = refl
kind-back FeatureOnDependency = refl
kind-back FeatureAsks = refl
kind-back NewestListed = refl
kind-back WeakFeature = refl

origin-back : (n : ℕ) (s : Step) → IsStepAt n s
    → (r : Origin) × (origin_of (step_data s) ≡ Ok r) × (is_backward n r ≡ true) × (step_by r (terms_in_step s) ≡ s)
unfolding axiom_of combination_of
origin-back n (given k ts) h = (by_axiom k, rw (kind-back k) refl, refl, refl)
origin-back n (combine a b v ts) h =
    (by_combination a b v, rw (h.0.2) refl, rw (lt-ltb a n h.0.0, lt-ltb b n h.0.1) refl, refl)

terms-of-step : (s : Step) → AreTerms (terms_in_step s) → terms_of (step_data s) ≡ Ok (terms_in_step s)
unfolding terms_of
terms-of-step (given k ts) h = all-terms (codes "axiom") (string (kind_text k)) ts h
terms-of-step (combine a b v ts) h = all-terms (codes "combine") (combination_data a b v) ts h

-- three steps that end well
in-turn : {A B C : Type 0} (r : Line A) (t : Line B) (b : A → Bool) (f : A → B → C) (x : A) (y : B)
    → r ≡ Ok x → t ≡ Ok y → b x ≡ true
    → (r >>= λ x. t >>= λ y. guard (b x) Forward >>= λ u. Ok (f x y)) ≡ Ok (f x y)
in-turn r t b f x y p q s =
    ap (λ r. r >>= λ x. t >>= λ y. guard (b x) Forward >>= λ u. Ok (f x y)) p
    ∙ ap (λ t. t >>= λ y. guard (b x) Forward >>= λ u. Ok (f x y)) q
    ∙ ap (λ c. guard c Forward >>= λ u. Ok (f x y)) s

step-back : (n : ℕ) (s : Step) → IsStepAt n s → step_of n (step_data s) ≡ Ok s
unfolding step_of
step-back n s h =
    let r = origin-back n s h in
    in-turn (origin_of (step_data s)) (terms_of (step_data s)) (is_backward n) step_by r.0 (terms_in_step s) r.1
    (terms-of-step s h.1) r.2 ∙ ap Ok r.3

-- ---- the bytes of a line

abbrev IsLine : List ℕ → Type 0
IsLine [] = Unit {0}
IsLine (b ∷ bs) = ((32 ≤ b) × (b < 127)) × IsLine bs

line-plain : (text : List ℕ) → IsPlain text → IsLine text
line-plain [] h = tt
line-plain (b ∷ bs) h = ((h.0.0, h.0.1), line-plain bs h.1)

line-append : (a b : List ℕ) → IsLine a → IsLine b → IsLine (a ++ b)
line-append [] b h k = k
line-append (x ∷ a) b h k = (h.0, line-append a b h.1 k)

abbrev printable : ℕ → Bool
printable b = nat_le 32 b && nat_lt b 127

line-literal : (text : List ℕ) → list_all printable text ≡ true → IsLine text
line-literal [] h = tt
line-literal (b ∷ bs) h = let both = and_parts (printable b) (list_all printable bs) h in let test =
    both.0 in ((grind (arith, nat_tests), grind (arith, nat_tests)), line-literal bs both.1)

line-commas : {X : Type 0} (f : X → List ℕ) (xs : List X) → AllByRecursion (λ x. IsLine (f x)) xs
    → IsLine (with_commas (map f xs))
line-commas f [] h = tt
line-commas f (x ∷ []) h = h.0
line-commas f (x ∷ y ∷ ys) h =
    line-append (f x) (44 ∷ with_commas (map f (y ∷ ys))) h.0 ((omega arith, omega arith), line-commas f (y ∷ ys) h.1)

line-quoted : (text : List ℕ) → IsPlain text → IsLine (quoted text)
line-quoted text h = line-append (codes "\"") (text ++ codes "\"") (line-literal (codes "\"") refl)
    (line-append text (codes "\"") (line-plain text h) (line-literal (codes "\"") refl))

line-states : (v : Vertex) (ss : List State) → AllByRecursion (λ s. IsReadState v s) ss
    → AllByRecursion (λ s. IsLine (state_json s)) ss
line-states v [] h = tt
line-states v (s ∷ ss) h = (line-quoted (state_text s) (state-plain v (state_text s) s h.0), line-states v ss h.1)

line-vertex : (v : Vertex) → IsReadVertex v → IsLine (quoted (vertex_text v))
line-vertex v h = line-quoted (vertex_text v) (vertex-plain (vertex_text v) v h)

line-term : (t : Term) → IsTerm t → IsLine (term_json t)
line-term t h =
    let states = line-append (with_commas (map state_json t.states)) (codes "]]")
    (line-commas state_json t.states (line-states t.vertex t.states h.states)) (line-literal (codes "]]") refl) in
    let rest = line-append (codes ",[") (with_commas (map state_json t.states) ++ codes "]]")
    (line-literal (codes ",[") refl) states in
    line-append (codes "[") (quoted (vertex_text t.vertex)
    ++ (codes ",[" ++ (with_commas (map state_json t.states) ++ codes "]]"))) (line-literal (codes "[") refl)
    (line-append (quoted (vertex_text t.vertex)) (codes ",[" ++ (with_commas (map state_json t.states) ++ codes "]]"))
    (line-vertex t.vertex h.vertex) rest)

line-terms : (ts : List Term) → AllByRecursion IsTerm ts → AllByRecursion (λ t. IsLine (term_json t)) ts
line-terms [] h = tt
line-terms (t ∷ ts) h = (line-term t h.0, line-terms ts h.1)

line-number : (n : ℕ) → n < 2 ^ 64 → IsLine (decimal n ++ codes ",")
line-number n l =
    line-append (decimal n) (codes ",") (line-plain (decimal n) (decimal-plain n l)) (line-literal (codes ",") refl)

line-origin : (n : ℕ) (s : Step) → n ≤ 2 ^ 64 → IsStepAt n s → IsLine (origin_json s)
line-origin n (given k ts) few h = line-append (codes "\"axiom\":") (quoted (kind_text k))
    (line-literal (codes "\"axiom\":") refl) (line-quoted (kind_text k) (kind-plain k))
line-origin n (combine a b v ts) few h =
    let first : a < 2 ^ 64 = let lt = h.0.0 in omega arith in
    let second : b < 2 ^ 64 = let lt = h.0.1 in omega arith in
    let last = line-append (quoted (vertex_text v)) (codes "]") (line-vertex v h.0.2) (line-literal (codes "]") refl) in
    line-append (codes "\"combine\":[") ((decimal a ++ codes ",") ++ ((decimal b ++ codes ",")
    ++ (quoted (vertex_text v) ++ codes "]"))) (line-literal (codes "\"combine\":[") refl)
    (line-append (decimal a ++ codes ",")
    ((decimal b ++ codes ",") ++ (quoted (vertex_text v) ++ codes "]")) (line-number a first)
    (line-append (decimal b ++ codes ",") (quoted (vertex_text v) ++ codes "]") (line-number b second) last))

line-step : (n : ℕ) (s : Step) → n ≤ 2 ^ 64 → IsStepAt n s → IsLine (step_json s)
line-step n s few h =
    let terms = line-append (with_commas (map term_json (terms_in_step s))) (codes "]}") (line-commas term_json
    (terms_in_step s) (line-terms (terms_in_step s) h.1.0)) (line-literal (codes "]}") refl) in
    let rest = line-append (codes ",\"terms\":[") (with_commas (map term_json (terms_in_step s)) ++ codes "]}")
    (line-literal (codes ",\"terms\":[") refl) terms in
    line-append (codes "{") (origin_json s ++ (codes ",\"terms\":["
    ++ (with_commas (map term_json (terms_in_step s)) ++ codes "]}"))) (line-literal (codes "{") refl)
    (line-append (origin_json s) (codes ",\"terms\":[" ++ (with_commas (map term_json (terms_in_step s)) ++ codes "]}"))
    (line-origin n s few h) rest)

ascii : (text : List ℕ) → IsLine text → are_ascii text ≡ true
ascii [] h = refl
ascii (b ∷ bs) h = let high = h.0.1 in let here : nat_lt b 128 ≡ true =
    grind (arith, nat_tests) in rw (here, ascii bs h.1) refl

no-end : (text : List ℕ) → IsLine text → AllByRecursion (λ b. is_line_end b ≡ false) text
no-end [] h = tt
no-end (b ∷ bs) h = (let low = h.0.0 in grind (arith, nat_tests), no-end bs h.1)

-- ---- lines

line-back : (n : ℕ) (s : Step) → n ≤ 2 ^ 64 → IsStepAt n s → step_of_line n (step_json s) ≡ Ok s
unfolding step_of_line
line-back n s few h =
    let is : read (step_json s) ≡ Some (step_data s) = ap read (sym (step-text n s h)) ∙ step-read n s few h in
    let text : IsUtf8 (step_json s) = IsUtf8-are_ascii (step_json s) (ascii (step_json s) (line-step n s few h)) in
    rw (data-read (step_json s) (step_data s) text is) (step-back n s h)

with-one : (n : ℕ) (before : List Step) (s : Step) (r : Line Step) → r ≡ Ok s → length before < most_steps
    → with_read n before r ≡ Ok (before ++ s ∷ [])
with-one n before s r h few = rw (h, lt-ltb (length before) most_steps few) refl

lines-then : (n : ℕ) (before ss : List Step) (rest : List (List ℕ)) → AreStepsFrom (length before) ss
    → length before + length ss ≤ most_steps
    → with_lines n (map step_json ss ++ rest) before ≡ with_lines (n + length ss) rest (before ++ ss)
unfolding with_lines
lines-then n before [] rest h few = ap₂ (λ m steps. with_lines m rest steps) (omega arith) (sym (append-nil before))
lines-then n before (s ∷ ss) rest h few =
    let below : length before < most_steps = omega arith in
    let here : with_line n (step_json s) before ≡ Ok (before ++ s ∷ []) = with-one n before s
    (step_of_line (length before) (step_json s)) (line-back (length before) s (omega arith) h.0) below in
    let longer : length before + 1 ≡ length (before ++ s ∷ []) = sym (length-append before (s ∷ [])) in
    let room : length (before ++ s ∷ []) + length ss ≤ most_steps = omega (arith, longer) in
    ap (λ r. r >>= λ next. with_lines (n + 1) (map step_json ss ++ rest) next) here
    ∙ lines-then (n + 1) (before ++ s ∷ []) ss rest (subst (λ m. AreStepsFrom m ss) longer h.1) room
    ∙ ap₂ (λ m steps. with_lines m rest steps) (omega arith) (append_assoc before (s ∷ []) ss)

split-lines : (n : ℕ) (ss : List Step) → AreStepsFrom n ss → n + length ss ≤ 2 ^ 64
    → slice_split is_line_end (lines_of ss) ≡ map step_json ss ++ [] ∷ []
split-lines n [] h few = refl
split-lines n (s ∷ ss) h few =
    ap (slice_split is_line_end) (append_assoc (step_json s) (10 ∷ []) (lines_of ss))
    ∙ slice_split_at is_line_end (step_json s) 10 (lines_of ss)
    (All-from_recursion _ (step_json s) (no-end (step_json s) (line-step n s (omega arith) h.0))) refl
    ∙ ap (λ texts. step_json s ∷ texts) (split-lines (n + 1) ss h.1 (omega arith))

-- the bytes that a derivation is written as read as it, unless it has more steps than are read
pub written-reads : (ss : List Step) → IsDerivation ss → length ss ≤ most_steps
    → derivation_of_bytes (lines_of ss) ≡ Ok ss
unfolding with_lines
written-reads ss h few = ap (λ texts. with_lines 1 texts []) (split-lines 0 ss h (omega arith))
    ∙ lines-then 1 [] ss ([] ∷ []) h (omega arith)
