-- What the JSON reader's clauses say of `data_within`.
use Rattle.std.proofs.Common.{◌≡◌, ℕ, ◌≤◌, List, [], ◌∷◌, Bool, true, false, Option, Some, None, option_map, map, drop}
use Rattle.std.proofs.Common.{◌+◌, ◌<◌, length, ◌⊎◌, inl, inr}
use Rattle.std.proofs.Common.{option_and_then, is_some, Ok, Err, refl, sym, ap, ◌∙◌, arith, IsUtf8}
use Rattle.std.proofs.Math.ListN.{get_or}
use Rattle.std.proofs.lemmas.List.{at_drop_more, drop_all}
use Rattle.std.specs.Prelude.{IsSome}
use Rattle.std.specs.Option.{ok_or}
use Rattle.serde_json.specs.Data.{Data}
use Rattle.serde_json.specs.Read.{of_json}
use Rattle.json.specs.Token.{Token}
use Rattle.json.specs.Lex.{tokens}
use Rattle.json.specs.Tape.{node_token}
use Rattle.json.specs.declared.tape.Node.{Node}
use Rattle.json.specs.declared.tape.Node.TheVariants.{Object, Array}
use Rattle.json.specs.Json.{Json, value, if_last, document}
use Rattle.json.specs.Json as json
use Rattle.json.specs.Tree.{depth}
use Rattle.json.proofs.Nesting.{value-depth}
use Rattle.json.proofs.Printed.Trees.{value-json_tokens}
use Rattle.model.specs.Content.{passes}
use Rattle.model.proofs.Utf8.{utf8-read, utf8-refused}
use Rattle.trees.specs.inner.Parts.{json_within, read_within, data_within}
use Rattle.trees.specs.Trees.{numbers_fit, data_of, tokens_view}
use Rattle.trees.specs.declared.fault.TreeFault.TheVariants.{NotJson}
use Rattle.trees.proofs.TokenLemmas.{value-spelt, json_from-read, left_after, fit_within, fit-depth, depth-fit}
use Rattle.trees.proofs.TreeLemmas.{if_fits, of_json-fits}

-- ---- what a text is read as, by the tokens of it

abbrev whole : Option (Json × List Token) → Option Json
whole o = option_and_then (λ p. if_last p.0 p.1) o

whole-is : (o : Option (Json × List Token)) (j : Json) → whole o ≡ Some j → o ≡ Some (j, [])
whole-is None j e = cc
whole-is (Some (i, [])) j e = ap (option_map (λ k. (k, []))) e
whole-is (Some (i, t ∷ ts)) j e = cc

-- what is read down to one depth is read down to another, unless it nests deeper
deep_enough : (d e : ℕ) (ts : List Token) (j : Json) → value d ts ≡ Some (j, []) → depth j ≤ e
    → value e ts ≡ Some (j, [])
deep_enough d e ts j read few = ap (value e) (value-spelt d ts [] j read) ∙ value-json_tokens j e [] few

is_some-if_fits : (b : Bool) (d : Data) → is_some (if_fits b d) ≡ b
is_some-if_fits true d = refl
is_some-if_fits false d = refl

module _ (limit : ℕ) where
  pub data-read : (bytes : List ℕ) (d : Data) → IsUtf8 bytes → read_within limit bytes ≡ Some d
      → ok_or (data_within limit bytes) NotJson ≡ Ok d
  data-read bytes d text is = ap (λ o. ok_or o NotJson) (utf8-read (read_within limit) bytes d text is)

  pub data-refused : (bytes : List ℕ) → (IsUtf8 bytes → read_within limit bytes ≡ None)
      → ok_or (data_within limit bytes) NotJson ≡ Err NotJson
  data-refused bytes h = ap (λ o. ok_or o NotJson) (utf8-refused (read_within limit) bytes h)

  pub read-invalid : (text : List ℕ) → limit ≤ json.max_depth → document text ≡ None → read_within limit text ≡ None
  read-invalid text within none = go (json_within limit text) refl
    where
      go : (o : Option Json) → json_within limit text ≡ o → option_and_then of_json o ≡ None
      go None e = refl
      go (Some j) e =
          let shallow = whole-is (value limit (tokens text)) j e in
          let few = value-depth limit (tokens text) [] j shallow in
          let there : document text ≡ Some j =
          ap whole (deep_enough limit json.max_depth (tokens text) j shallow (omega (arith, few))) in
          cc

  -- where `json` reads a text, it is read within the limit too just where the tokens fit, and as what they are
  read-fits : (text : List ℕ) → IsSome (document text)
      → read_within limit text ≡ if_fits (fit_within limit (tokens text)) (tokens_view (tokens text))
  read-fits text there = go (json_within limit text) refl
    where
      shallow_text : (j : Json) → value limit (tokens text) ≡ Some (j, []) → option_and_then of_json (Some j)
          ≡ if_fits (fit_within limit (tokens text)) (tokens_view (tokens text))
      shallow_text j shallow =
          let few = value-depth limit (tokens text) [] j shallow in
          let fit : fit_within limit (tokens text) ≡ numbers_fit j =
          ap (fit_within limit) (value-spelt limit (tokens text) [] j shallow) ∙ depth-fit j limit few in
          let view : tokens_view (tokens text) ≡ data_of j =
          ap data_of (json_from-read (tokens text) j (limit, [], shallow)) in
          of_json-fits j ∙ ap (λ b. if_fits b (data_of j)) (sym fit)
          ∙ ap (if_fits (fit_within limit (tokens text))) (sym view)

      deep_text : (o : Option Json) → document text ≡ o → IsSome o → json_within limit text ≡ None → (b : Bool)
          → fit_within limit (tokens text) ≡ b → None ≡ if_fits b (tokens_view (tokens text))
      deep_text None e some none b fit = cc
      deep_text (Some j) e some none false fit = refl
      deep_text (Some j) e some none true fit =
          let deep = whole-is (value json.max_depth (tokens text)) j e in
          let spelt = value-spelt json.max_depth (tokens text) [] j deep in
          let few = fit-depth j limit (sym (ap (fit_within limit) spelt) ∙ fit) in
          let shallow : json_within limit text ≡ Some j =
          ap whole (deep_enough json.max_depth limit (tokens text) j deep few) in
          cc

      go : (o : Option Json) → json_within limit text ≡ o → option_and_then of_json o
          ≡ if_fits (fit_within limit (tokens text)) (tokens_view (tokens text))
      go None e = deep_text (document text) refl there e (fit_within limit (tokens text)) refl
      go (Some j) e = shallow_text j (whole-is (value limit (tokens text)) j e)

  pub fit-read : (text : List ℕ) → IsSome (document text)
      → fit_within limit (tokens text) ≡ is_some (read_within limit text)
  fit-read text there = sym (ap is_some (read-fits text there) ∙ is_some-if_fits (fit_within limit (tokens text)) _)

  pub read-whole : (text : List ℕ) → IsSome (document text) → is_some (read_within limit text) ≡ true
      → read_within limit text ≡ Some (tokens_view (tokens text))
  read-whole text there is = read-fits text there
      ∙ ap (λ b. if_fits b (tokens_view (tokens text))) (fit-read text there ∙ is)

pub read-none : (o : Option Data) → is_some o ≡ false → o ≡ None
read-none None is = refl
read-none (Some d) is = cc

-- what a loop over the tokens finds where it stands: the first node that is left doesn't fit, or none is left
first-stops : (left : ℕ) (t : Token) (ts : List Token) → left_after left t ≡ None → fit_within left (t ∷ ts) ≡ false
unfolding fit_within
first-stops left t ts none = ap (passes (λ n. fit_within n ts)) none

stops : (left i : ℕ) (nodes : List Node) (d : Node) → i < length nodes
    → left_after left (node_token (get_or nodes i d)) ≡ None
    → fit_within left (map node_token (drop i nodes)) ≡ false
stops left i nodes d more none = at_drop_more (λ l. fit_within left (map node_token l)) nodes i d more
    ∙ first-stops left _ (map node_token (drop (i + 1) nodes)) none

pub is_some-map : {A B : Type 0} (f : A → B) (o : Option A) → is_some (option_map f o) ≡ is_some o
is_some-map f None = refl
is_some-map f (Some a) = refl

pub opens : (left : ℕ) (node : Node) → left ≡ 0
    → ((x : ℕ) × (node ≡ Object x)) ⊎ ((x : ℕ) × (node ≡ Array x)) → left_after left (node_token node) ≡ None
opens left node none (inl (x, is)) =
    ap (λ n. left_after n (node_token node)) none ∙ ap (λ n. left_after 0 (node_token n)) is
opens left node none (inr (x, is)) =
    ap (λ n. left_after n (node_token node)) none ∙ ap (λ n. left_after 0 (node_token n)) is

ends : (left i : ℕ) (nodes : List Node) → length nodes ≤ i → fit_within left (map node_token (drop i nodes)) ≡ true
unfolding fit_within
ends left i nodes end = ap (λ l. fit_within left (map node_token l)) (drop_all i nodes end)

module _ (limit : ℕ) where
  -- what is told of a loop over the tokens: whether a text with these tokens is read
  abbrev Tells : List Node → Bool → Type 0
  Tells nodes b = (text : List ℕ) → map node_token nodes ≡ tokens text → IsSome (document text)
      → b ≡ is_some (read_within limit text)

  told : (left i : ℕ) (nodes : List Node) (b : Bool)
      → fit_within left (map node_token (drop i nodes)) ≡ fit_within limit (map node_token nodes)
      → fit_within left (map node_token (drop i nodes)) ≡ b → Tells nodes b
  told left i nodes b same_fit is text same there =
      sym is ∙ same_fit ∙ ap (fit_within limit) same ∙ fit-read limit text there

  pub told-stops : (left i : ℕ) (nodes : List Node) (d : Node)
      → fit_within left (map node_token (drop i nodes)) ≡ fit_within limit (map node_token nodes)
      → i < length nodes → left_after left (node_token (get_or nodes i d)) ≡ None → Tells nodes false
  told-stops left i nodes d same_fit more none = told left i nodes false same_fit (stops left i nodes d more none)

  pub told-ends : (left i : ℕ) (nodes : List Node)
      → fit_within left (map node_token (drop i nodes)) ≡ fit_within limit (map node_token nodes)
      → length nodes ≤ i → Tells nodes true
  told-ends left i nodes same_fit end = told left i nodes true same_fit (ends left i nodes end)
