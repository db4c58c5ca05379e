-- An object of JSON is read by its members.
use Rattle.std.proofs.Common.{◌≡◌, ℕ, suc, ◌≤◌, true, false, List, [], ◌∷◌, ◌++◌, map, Some}
use Rattle.std.proofs.Common.{option_and_then, refl, sym, ap, ◌∙◌, subst, arith, append_assoc, append-nil, IsUtf8}
use Rattle.std.specs.Prelude.{codes}
use Rattle.std.specs.List.{list_all, zip}
use Rattle.std.proofs.lemmas.Bool.{and_parts, false≢true}
use Rattle.std.proofs.lemmas.Str.{IsUtf8-append}
use Rattle.json.specs.Token.{begin_object, end_object, key}
use Rattle.json.specs.Word.{ends_word}
use Rattle.json.specs.Lex.{between, lex, Place, fresh, after_value, after_comma, after_key}
use Rattle.json.specs.Lex.{begins_colon, may_begin, may_close, punctuate, tokens}
use Rattle.json.specs.Json.{value, if_last}
use Rattle.json.specs.Json as json
use Rattle.json.specs.Tree.{json_tokens, members_tokens, members_depth}
use Rattle.json.proofs.Printed.Trees.{value-json_tokens}
use Rattle.json.proofs.Printed.Utf8.{IsUtf8-are_ascii}
use Rattle.serde_json.specs.Data.{Data, object, Members, no_members, put}
use Rattle.serde_json.specs.Read.{of_json}
use Rattle.model.proofs.Utf8.{utf8-read}
use Rattle.trees.specs.inner.Parts.{is_plain, read_within, data_within, member_text, members_text, object_text}
use Rattle.trees.specs.inner.Parts.{members_put}
use Rattle.trees.specs.Trees.{members_fit, members_of}
use Rattle.trees.proofs.LexLemmas.{outside}
use Rattle.trees.proofs.PunctuationLemmas.{good-json, lexemes_good, value-then, all_good}
use Rattle.trees.proofs.PartsLemmas.{ascii_plain, lex-plain, ReadOf, read-of}
use Rattle.trees.proofs.TreeLemmas.{if_fits, of_json-fits}

-- ---- the bytes behind the bracket that opens an object

-- members up to the end of their object, where it is read on from a place
record MembersRead (deep : ℕ) (p : Place) (bytes : List ℕ) (ds : List (List ℕ × Data)) : Type 0 where
  these : json.Members
  spelt : punctuate p (lex between bytes) ≡ members_tokens these
  shallow : members_depth these ≤ deep
  fit : members_fit these ≡ true
  are : (found : Members) → members_put ds found ≡ members_of these found
  text : IsUtf8 bytes

closing : (p : Place) → may_close p ≡ true → punctuate p (lex between (codes "}")) ≡ end_object ∷ []
unfolding lex punctuate
closing fresh closes = refl
closing after_value closes = refl
closing after_comma closes = absurd (false≢true closes)
closing after_key closes = absurd (false≢true closes)

no-members : (deep : ℕ) (p : Place) → may_close p ≡ true → MembersRead deep p (codes "}") []
no-members deep p closes = record {
  these = json.no_members;
  spelt = closing p closes;
  shallow = omega arith;
  fit = refl;
  are = λ found. refl;
  text = IsUtf8-are_ascii (codes "}") refl;
}

behind-comma : (deep : ℕ) (rest : List ℕ) (ds : List (List ℕ × Data)) → MembersRead deep after_comma rest ds
    → MembersRead deep after_value (44 ∷ rest) ds
unfolding lex punctuate
behind-comma deep rest ds others = record {
  these = others.these;
  spelt = others.spelt;
  shallow = others.shallow;
  fit = others.fit;
  are = others.are;
  text = IsUtf8-append (codes ",") rest (IsUtf8-are_ascii (codes ",") refl) others.text;
}

-- a plain key with its colon, wherever a key may begin
key-before : (p : Place) (k behind : List ℕ) → may_begin p ≡ true → is_plain k ≡ true
    → punctuate p (lex between (34 ∷ (k ++ 34 ∷ 58 ∷ behind))) ≡ key k ∷ punctuate fresh (lex between behind)
unfolding lex punctuate
key-before fresh k behind begins plain = ap (punctuate fresh) (lex-plain k (58 ∷ behind) plain)
key-before after_value k behind begins plain = absurd (false≢true begins)
key-before after_comma k behind begins plain = ap (punctuate after_comma) (lex-plain k (58 ∷ behind) plain)
key-before after_key k behind begins plain = absurd (false≢true begins)

member-bytes : (m : List ℕ × List ℕ) (rest : List ℕ)
    → 34 ∷ (m.0 ++ 34 ∷ 58 ∷ (m.1 ++ rest)) ≡ member_text m ++ rest
member-bytes m rest = ap (λ l. 34 ∷ l) (sym (append_assoc m.0 (34 ∷ 58 ∷ m.1) rest))

member-before : (deep : ℕ) (p : Place) (m : List ℕ × List ℕ) (rest : List ℕ) (d : Data) (ds : List (List ℕ × Data))
    → may_begin p ≡ true → is_plain m.0 ≡ true → ends_word rest ≡ true → begins_colon (lex between rest) ≡ false
    → ReadOf deep m.1 d → MembersRead deep after_value rest ds
    → MembersRead deep p (member_text m ++ rest) ((m.0, d) ∷ ds)
member-before deep p m rest d ds begins plain ended apart first others =
    let behind = m.1 ++ rest in
    let read : MembersRead deep p (34 ∷ (m.0 ++ 34 ∷ 58 ∷ behind)) ((m.0, d) ∷ ds) = record {
      these = json.member m.0 first.part others.these;
      spelt = key-before p m.0 behind begins plain
          ∙ ap (λ ts. key m.0 ∷ ts) (ap (punctuate fresh) (outside rest ended m.1
          (lexemes_good (lex between m.1) fresh (ap all_good first.spelt ∙ good-json first.part)))
          ∙ value-then (lex between rest) apart (lex between m.1) fresh first.part first.spelt
          ∙ ap (λ ts. json_tokens first.part ++ ts) others.spelt);
      shallow = omega (arith, first.shallow, others.shallow);
      fit = rw (first.fits, others.fit) refl;
      are = λ found. others.are (put m.0 d found)
          ∙ ap (λ d. members_of others.these (put m.0 d found)) first.is;
      text = IsUtf8-append (codes "\"") _ (IsUtf8-are_ascii (codes "\"") refl)
          (IsUtf8-append m.0 _ (IsUtf8-are_ascii m.0 (ascii_plain m.0 plain))
          (IsUtf8-append (codes "\":") behind (IsUtf8-are_ascii (codes "\":") refl)
          (IsUtf8-append m.1 rest first.text others.text)));
    } in
    subst (λ bytes. MembersRead deep p bytes ((m.0, d) ∷ ds)) (member-bytes m rest) read

-- ---- the object

members-from : (deep : ℕ) (p : Place) (ms : List (List ℕ × List ℕ)) (ds : List Data) (m : List ℕ × List ℕ) (d : Data)
    → may_begin p ≡ true → list_all (λ m. is_plain m.0) (m ∷ ms) ≡ true → data_within deep m.1 ≡ Some d
    → map (λ m. data_within deep m.1) ms ≡ map Some ds
    → MembersRead deep p (members_text (m ∷ ms) ++ codes "}") ((m.0, d) ∷ zip (map (λ m. m.0) ms) ds)
unfolding lex
members-from deep p [] [] m d begins plain is others =
    member-before deep p m (codes "}") d [] begins (and_parts (is_plain m.0) true plain).0 refl refl
    (read-of deep m.1 d is) (no-members deep after_value refl)
members-from deep p [] (e ∷ ds) m d begins plain is others = cc
members-from deep p (next ∷ ms) [] m d begins plain is others = cc
members-from deep p (next ∷ ms) (e ∷ ds) m d begins plain is others =
    let rest = members_text (next ∷ ms) ++ codes "}" in
    let es = (next.0, e) ∷ zip (map (λ m. m.0) ms) ds in
    let plains = and_parts (is_plain m.0) (list_all (λ m. is_plain m.0) (next ∷ ms)) plain in
    let second : data_within deep next.1 ≡ Some e = cc in
    let behind : map (λ m. data_within deep m.1) ms ≡ map Some ds = cc in
    subst (λ bytes. MembersRead deep p bytes ((m.0, d) ∷ es))
    (sym (append_assoc (member_text m) (44 ∷ members_text (next ∷ ms)) (codes "}")))
    (member-before deep p m (44 ∷ rest) d es begins plains.0 refl refl (read-of deep m.1 d is)
    (behind-comma deep rest es (members-from deep after_comma ms ds next e refl plains.1 second behind)))

members-read : (deep : ℕ) (ms : List (List ℕ × List ℕ)) (ds : List Data) → list_all (λ m. is_plain m.0) ms ≡ true
    → map (λ m. data_within deep m.1) ms ≡ map Some ds
    → MembersRead deep fresh (members_text ms ++ codes "}") (zip (map (λ m. m.0) ms) ds)
members-read deep [] [] plain are = no-members deep fresh refl
members-read deep [] (d ∷ ds) plain are = cc
members-read deep (m ∷ ms) [] plain are = cc
members-read deep (m ∷ ms) (d ∷ ds) plain are =
    let first : data_within deep m.1 ≡ Some d = cc in
    let others : map (λ m. data_within deep m.1) ms ≡ map Some ds = cc in
    members-from deep fresh ms ds m d refl plain first others

object-tokens : (bytes : List ℕ) (ms : json.Members) → punctuate fresh (lex between bytes) ≡ members_tokens ms
    → tokens (codes "{" ++ bytes) ≡ json_tokens (json.object ms)
unfolding lex punctuate
object-tokens bytes ms is = ap (λ ts. begin_object ∷ ts) is

-- an object is what its members are, each value read as a text of its own
pub object-by_members : (deep : ℕ) (ms : List (List ℕ × List ℕ)) (ds : List Data)
    → list_all (λ m. is_plain m.0) ms ≡ true → map (λ m. data_within deep m.1) ms ≡ map Some ds
    → data_within (suc deep) (object_text ms) ≡ Some (object (members_put (zip (map (λ m. m.0) ms) ds) no_members))
object-by_members deep ms ds plain are =
    let read = members-read deep ms ds plain are in
    let whole = json.object read.these in
    let found : value (suc deep) (tokens (object_text ms)) ≡ Some (whole, []) =
    ap (value (suc deep)) (object-tokens (members_text ms ++ codes "}") read.these read.spelt
    ∙ sym (append-nil (json_tokens whole)))
    ∙ value-json_tokens whole (suc deep) [] (omega (arith, read.shallow)) in
    utf8-read (read_within (suc deep)) (object_text ms) _
    (IsUtf8-append (codes "{") (members_text ms ++ codes "}") (IsUtf8-are_ascii (codes "{") refl) read.text)
    (ap (λ o. option_and_then of_json (option_and_then (λ p. if_last p.0 p.1) o)) found ∙ of_json-fits whole
    ∙ ap (λ b. if_fits b (object (members_of read.these no_members))) read.fit
    ∙ ap (λ l. Some (object l)) (sym (read.are no_members)))
