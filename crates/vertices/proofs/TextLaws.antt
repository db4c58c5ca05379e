-- A text that is read is the text of what it is read as.
use Rattle.std.proofs.Common.{◌≡◌, ℕ, suc, ◌+◌, ◌<◌, ◌^◌, List, [], ◌∷◌, ◌++◌, length, take, drop, get_or, slice_index}
use Rattle.std.proofs.Common.{Bool, true, false, not, cond, ◌&&◌, ◌||◌, ◌==◌, Option, Some, None, Result, Ok, Err}
use Rattle.std.proofs.Common.{nat_eq, nat_lt, nat_le, decimal, codes, refl, sym, ap, ap₂, ◌∙◌, arith, append_assoc}
use Rattle.std.proofs.Common.{subst, true≢false}
use Rattle.std.specs.Char.{is_ascii_digit}
use Rattle.std.specs.List.{list_all, list_any, position_or_len, before_first, after_first, starts_with}
use Rattle.std.specs.Str.{all_ascii_digits}
use Rattle.std.specs.Str.Parse.{digits_value}
use Rattle.std.proofs.lemmas.Bool.{eqb-true, ltb-true, leb-true, and_parts}
use Rattle.std.proofs.lemmas.Fmt.{decimal-digits_value}
use Rattle.std.proofs.lemmas.List.{take-append-drop}
use Rattle.std.proofs.lemmas.List.Sums.{passes_at_first, split_at_first}
use Rattle.std.proofs.lemmas.Str.Parse.{numerals_by_value, tells_all_ascii_digits}
use Rattle.semver.specs.Identifiers.{parts_text}
use Rattle.semver.specs.OrderLaws.{same_text}
use Rattle.semver.specs.Parse.{Parts, version_parts}
use Rattle.semver.specs.declared.error.Error.{Error}
use Rattle.semver.proofs.Grammar.{version_parts-sound}
use Rattle.model.specs.Outcome.{◌>>=◌}
use Rattle.model.specs.Summary.{same_text as same_bytes}
use Rattle.model.specs.Vertices.{Owner, the_root, version_of, Vertex, root, pkg, dep, feat, ask, State, absent, present}
use Rattle.model.specs.Vertices.{version, in_class}
use Rattle.model.specs.Selection.{Class, patch, minor, major}
use Rattle.features.specs.Names.{after_text, around, is_package_name, is_feature_name}
use Rattle.classes.specs.Classes.{class_text, is_plain_number, number_of}
use Rattle.vertices.specs.Texts.{needed, parted, package_name_of, feature_name_of, version_or, version_of_text}
use Rattle.vertices.specs.Texts.{above_zero, lesser_class, class_or, class_of_text, index_of, named_version_of_text}
use Rattle.vertices.specs.Texts.{owner_text, owner_of_text, vertex_text, package_of_text, dependency_of_text}
use Rattle.vertices.specs.Texts.{feature_of_text, ask_of_text, kinded_vertex, vertex_of_text, state_text}
use Rattle.vertices.specs.Texts.{present_of_text, value_of_text, state_of_text}
use Rattle.vertices.specs.declared.fault.TextFault.TheVariants.{NotAText}
use Rattle.vertices.proofs.Bound.{steps, same-Ok, same-Some, some, chosen}
use Rattle.vertices.proofs.MadeOf.{named_version, package_made, dependency_made, feature_made, ask_made}

-- ---- parts of texts

within : (p : ℕ → Bool) (s : List ℕ) → list_any p s ≡ true → position_or_len p s < length s
within p [] e = cc
within p (x ∷ xs) e = by (within p xs) (p x) e
  where
    by : (list_any p xs ≡ true → position_or_len p xs < length xs) → (b : Bool) → (b || list_any p xs) ≡ true
        → cond (not b) (1 + position_or_len p xs) 0 < suc (length xs)
    by rest true e = omega arith
    by rest false e = let lt = rest e in omega arith

pub around-joins : (byte : ℕ) (text : List ℕ) (p : List ℕ × List ℕ) → around byte text ≡ Some p
    → text ≡ p.0 ++ (byte ∷ p.1)
around-joins byte text p h = by (list_any (λ b. b == byte) text) refl h
  where
    by : (b : Bool) → list_any (λ b. b == byte) text ≡ b
        → cond b (Some (before_first (λ b. b == byte) text, after_first (λ b. b == byte) text)) None ≡ Some p
        → text ≡ p.0 ++ (byte ∷ p.1)
    by true is h =
        let lt = within (λ b. b == byte) text is in
        let here : get_or text (position_or_len (λ b. b == byte) text) 0 ≡ byte =
        eqb-true _ _ (passes_at_first (λ b. b == byte) text 0 lt) in
        split_at_first (λ b. b == byte) text 0 lt
        ∙ ap (λ c. before_first (λ b. b == byte) text ++ (c ∷ after_first (λ b. b == byte) text)) here
        ∙ ap (λ (q : List ℕ × List ℕ). q.0 ++ (byte ∷ q.1)) (same-Some h)
    by false is h = cc

pub front-joins : (front text rest : List ℕ) → after_text front text ≡ Some rest → text ≡ front ++ rest
front-joins front text rest h = by (starts_with nat_eq text front) refl h
  where
    by : (b : Bool) → starts_with nat_eq text front ≡ b
        → cond b (Some (drop (length front) text)) None ≡ Some rest → text ≡ front ++ rest
    by true is h =
        let begins : front ≡ take (length front) text = same_text front (take (length front) text) is in
        let left : drop (length front) text ≡ rest = same-Some h in
        sym (take-append-drop (length front) text) ∙ ap₂ (λ a b. a ++ b) (sym begins) left
    by false is h = cc

-- ---- numbers

digits : (text : List ℕ) → list_all is_ascii_digit text ≡ true → all_ascii_digits text ≡ true
digits [] e = refl
digits (c ∷ text) e =
    let p = and_parts (is_ascii_digit c) (list_all is_ascii_digit text) e in rw (p.0, digits text p.1) refl

plain-text : (text : List ℕ) → is_plain_number text ≡ true → digits_value 10 text < 2 ^ 64
    → decimal (digits_value 10 text) ≡ text
plain-text text plain lt =
    let some_digit = and_parts _ _ plain in
    let rest = and_parts _ _ some_digit.1 in
    decimal-digits_value (numerals_by_value (λ ds. all_ascii_digits ds ≡ true) tells_all_ascii_digits) text
    (digits text rest.0) (leb-true _ _ some_digit.0)
    (λ zero_first. one_digit text zero_first some_digit.0 rest.1) lt
  where
    one_digit : (text : List ℕ) → get_or text 0 0 ≡ 48 → nat_le 1 (length text) ≡ true
        → (nat_le (length text) 1 || not (slice_index text 0 == 48)) ≡ true → length text ≡ 1
    one_digit text z more h = by (nat_le (length text) 1) refl h
      where
        by : (b : Bool) → nat_le (length text) 1 ≡ b → (b || not (slice_index text 0 == 48)) ≡ true → length text ≡ 1
        by true is h = let low = leb-true _ _ more in let high = leb-true _ _ is in omega arith
        by false is h = absurd (true≢false (sym (subst (λ c. not (c == 48) ≡ true) z h)))

pub number-text : (text : List ℕ) (n : ℕ) → number_of text ≡ Some n → decimal n ≡ text
number-text text n h = by (is_plain_number text && nat_lt (digits_value 10 text) (2 ^ 64)) refl h
  where
    by : (b : Bool) → (is_plain_number text && nat_lt (digits_value 10 text) (2 ^ 64)) ≡ b
        → cond b (Some (digits_value 10 text)) None ≡ Some n → decimal n ≡ text
    by true is h = let p = and_parts _ _ is in let same : digits_value 10 text ≡ n =
        same-Some h in ap decimal (sym same) ∙ plain-text text p.0 (ltb-true _ _ p.1)
    by false is h = cc

number-needed : (text : List ℕ) (n : ℕ) → needed (number_of text) ≡ Ok n → decimal n ≡ text
number-needed text n h = number-text text n (some (number_of text) NotAText n h)

above_zero-text : (text : List ℕ) (n : ℕ) → above_zero text ≡ Ok n → decimal n ≡ text
unfolding above_zero
above_zero-text text n h =
    let s = steps (needed (number_of text)) (λ m. cond (nat_lt 0 m) (Ok m) (Err NotAText)) n h in
    let same : s.at ≡ n = (chosen (nat_lt 0 s.at) s.at n NotAText s.then).1 in
    ap decimal (sym same) ∙ number-needed text s.at s.first

pub index-text : (text : List ℕ) (n : ℕ) → index_of text ≡ Ok n → decimal n ≡ text
unfolding index_of
index-text text n h =
    let s = steps (needed (number_of text)) (λ m. cond (nat_lt m 4294967296) (Ok m) (Err NotAText)) n h in
    let same : s.at ≡ n = (chosen (nat_lt s.at 4294967296) s.at n NotAText s.then).1 in
    ap decimal (sym same) ∙ number-needed text s.at s.first

-- ---- classes and versions

lesser-text : (text : List ℕ) (o : Option (List ℕ)) (c : Class) → after_text (codes "0.") text ≡ o
    → lesser_class text o ≡ Ok c → class_text c ≡ 48 ∷ 46 ∷ text
lesser-text text None c is h =
    let s = steps (above_zero text) (λ n. Ok (minor n)) c h in
    let same : minor s.at ≡ c = same-Ok _ _ s.then in
    ap class_text (sym same) ∙ ap (λ t. 48 ∷ 46 ∷ t) (above_zero-text text s.at s.first)
lesser-text text (Some rest) c is h =
    let s = steps (needed (number_of rest)) (λ n. Ok (patch n)) c h in
    let same : patch s.at ≡ c = same-Ok _ _ s.then in
    let whole : text ≡ 48 ∷ 46 ∷ rest = front-joins (codes "0.") text rest is in
    ap class_text (sym same) ∙ ap (λ t. 48 ∷ 46 ∷ 48 ∷ 46 ∷ t) (number-needed rest s.at s.first)
    ∙ ap (λ t. 48 ∷ 46 ∷ t) (sym whole)

class-by : (text : List ℕ) (o : Option (List ℕ)) (c : Class) → after_text (codes "0.") text ≡ o
    → class_or text o ≡ Ok c → class_text c ≡ text
class-by text None c is h =
    let s = steps (above_zero text) (λ n. Ok (major n)) c h in
    let same : major s.at ≡ c = same-Ok _ _ s.then in
    ap class_text (sym same) ∙ above_zero-text text s.at s.first
class-by text (Some rest) c is h =
    let whole : text ≡ 48 ∷ 46 ∷ rest = front-joins (codes "0.") text rest is in
    lesser-text rest (after_text (codes "0.") rest) c refl h ∙ sym whole

pub class-reads : (text : List ℕ) (c : Class) → class_of_text text ≡ Ok c → class_text c ≡ text
class-reads text c h = class-by text (after_text (codes "0.") text) c refl h

pub version-or : (r : Result Parts Error) (v : Parts) → version_or r ≡ Ok v → r ≡ Ok v
version-or (Ok w) v h = ap Ok (same-Ok _ _ h)
version-or (Err e) v h = cc

pub version-reads : (text : List ℕ) (v : Parts) → version_of_text text ≡ Ok v → parts_text v ≡ text
version-reads text v h = (version_parts-sound text v (version-or (version_parts text) v h)).0

-- ---- owners and vertices

name-is : (text n : List ℕ) → package_name_of text ≡ Ok n → text ≡ n
name-is text n h = (chosen (is_package_name text) text n NotAText h).1

feature-is : (text f : List ℕ) → feature_name_of text ≡ Ok f → text ≡ f
feature-is text f h = (chosen (is_feature_name text) text f NotAText h).1

pub parted-joins : (byte : ℕ) (text : List ℕ) (p : List ℕ × List ℕ) → parted byte text ≡ Ok p
    → text ≡ p.0 ++ (byte ∷ p.1)
parted-joins byte text p h = around-joins byte text p (some (around byte text) NotAText p h)

joined : (byte : ℕ) (a b c d : List ℕ) → a ≡ c → b ≡ d → a ++ (byte ∷ b) ≡ c ++ (byte ∷ d)
joined byte a b c d p q = cc

named-text : (text : List ℕ) (p : List ℕ × Parts) → named_version_of_text text ≡ Ok p
    → p.0 ++ (64 ∷ parts_text p.1) ≡ text
named-text text p h =
    let m = named_version text p h in
    ap (λ (q : List ℕ × Parts). q.0 ++ (64 ∷ parts_text q.1)) (sym m.is)
    ∙ joined 64 m.name (parts_text m.of_version) m.parts.0 m.parts.1
    (sym (name-is _ _ m.named)) (version-reads _ _ m.versioned)
    ∙ sym (parted-joins 64 text m.parts m.cut)

owner-text : (text : List ℕ) (o : Owner) → owner_of_text text ≡ Ok o → owner_text o ≡ text
owner-text text o h = by (same_bytes text (codes "root")) refl h
  where
    by : (b : Bool) → same_bytes text (codes "root") ≡ b → cond b (Ok the_root)
        (named_version_of_text text >>= λ p. Ok (version_of p.0 p.1)) ≡ Ok o → owner_text o ≡ text
    by true is h = ap owner_text (sym (same-Ok _ _ h)) ∙ sym (same_text text (codes "root") is)
    by false is h =
        let s = steps (named_version_of_text text) (λ p. Ok (version_of p.0 p.1)) o h in
        ap owner_text (sym (same-Ok _ _ s.then)) ∙ named-text text s.at s.first

package-text : (text : List ℕ) (v : Vertex) → package_of_text text ≡ Ok v → vertex_text v ≡ codes "pkg " ++ text
package-text text v h =
    let m = package_made text v h in
    ap vertex_text (sym m.is)
    ∙ ap (λ r. codes "pkg " ++ r) (joined 32 m.name (class_text m.of_class) m.parts.0 m.parts.1
    (sym (name-is _ _ m.named)) (class-reads _ _ m.classed) ∙ sym (parted-joins 32 text m.parts m.cut))

dependency-text : (text : List ℕ) (v : Vertex) → dependency_of_text text ≡ Ok v → vertex_text v ≡ codes "dep " ++ text
dependency-text text v h =
    let m = dependency_made text v h in
    ap vertex_text (sym m.is)
    ∙ ap (λ r. codes "dep " ++ r) (joined 32 (owner_text m.owner) (decimal m.index) m.parts.0 m.parts.1
    (owner-text _ _ m.owned) (index-text _ _ m.indexed) ∙ sym (parted-joins 32 text m.parts m.cut))

feature-text : (text : List ℕ) (v : Vertex) → feature_of_text text ≡ Ok v → vertex_text v ≡ codes "feat " ++ text
feature-text text v h =
    let m = feature_made text v h in
    let more : class_text m.of_class ++ (32 ∷ m.feature) ≡ m.parts.1 =
    joined 32 (class_text m.of_class) m.feature m.more.0 m.more.1 (class-reads _ _ m.classed)
    (sym (feature-is _ _ m.featured)) ∙ sym (parted-joins 32 m.parts.1 m.more m.cut_again) in
    ap vertex_text (sym m.is)
    ∙ ap (λ r. codes "feat " ++ r) (joined 32 m.name (class_text m.of_class ++ (32 ∷ m.feature)) m.parts.0 m.parts.1
    (sym (name-is _ _ m.named)) more ∙ sym (parted-joins 32 text m.parts m.cut))

ask-text : (text : List ℕ) (v : Vertex) → ask_of_text text ≡ Ok v → vertex_text v ≡ codes "ask " ++ text
ask-text text v h =
    let m = ask_made text v h in
    let owner : m.owner.0 ++ (64 ∷ parts_text m.owner.1) ≡ m.parts.0 = named-text _ _ m.owned in
    let more : decimal m.index ++ (32 ∷ m.feature) ≡ m.parts.1 =
    joined 32 (decimal m.index) m.feature m.more.0 m.more.1 (index-text _ _ m.indexed)
    (sym (feature-is _ _ m.featured)) ∙ sym (parted-joins 32 m.parts.1 m.more m.cut_again) in
    ap vertex_text (sym m.is)
    ∙ ap (λ r. codes "ask " ++ r)
    (sym (append_assoc m.owner.0 (64 ∷ parts_text m.owner.1) (32 ∷ (decimal m.index ++ (32 ∷ m.feature))))
    ∙ joined 32 (m.owner.0 ++ (64 ∷ parts_text m.owner.1)) (decimal m.index ++ (32 ∷ m.feature)) m.parts.0 m.parts.1
    owner more ∙ sym (parted-joins 32 text m.parts m.cut))

kinded-text : (word rest : List ℕ) (v : Vertex) → kinded_vertex word rest ≡ Ok v → vertex_text v ≡ word ++ (32 ∷ rest)
kinded-text word rest v h = pkg_or (same_bytes word (codes "pkg")) refl h
  where
    after : (front : List ℕ) → same_bytes word front ≡ true → front ++ (32 ∷ rest) ≡ word ++ (32 ∷ rest)
    after front is = ap (λ w. w ++ (32 ∷ rest)) (sym (same_text word front is))

    ask_or : (b : Bool) → same_bytes word (codes "ask") ≡ b → cond b (ask_of_text rest) (Err NotAText) ≡ Ok v
        → vertex_text v ≡ word ++ (32 ∷ rest)
    ask_or true is h = ask-text rest v h ∙ after (codes "ask") is
    ask_or false is h = cc

    feat_or : (b : Bool) → same_bytes word (codes "feat") ≡ b
        → cond b (feature_of_text rest) (cond (same_bytes word (codes "ask")) (ask_of_text rest) (Err NotAText)) ≡ Ok v
        → vertex_text v ≡ word ++ (32 ∷ rest)
    feat_or true is h = feature-text rest v h ∙ after (codes "feat") is
    feat_or false is h = ask_or (same_bytes word (codes "ask")) refl h

    dep_or : (b : Bool) → same_bytes word (codes "dep") ≡ b
        → cond b (dependency_of_text rest) (cond (same_bytes word (codes "feat")) (feature_of_text rest)
        (cond (same_bytes word (codes "ask")) (ask_of_text rest) (Err NotAText))) ≡ Ok v
        → vertex_text v ≡ word ++ (32 ∷ rest)
    dep_or true is h = dependency-text rest v h ∙ after (codes "dep") is
    dep_or false is h = feat_or (same_bytes word (codes "feat")) refl h

    pkg_or : (b : Bool) → same_bytes word (codes "pkg") ≡ b
        → cond b (package_of_text rest)
        (cond (same_bytes word (codes "dep")) (dependency_of_text rest) (cond (same_bytes word (codes "feat"))
        (feature_of_text rest) (cond (same_bytes word (codes "ask")) (ask_of_text rest) (Err NotAText)))) ≡ Ok v
        → vertex_text v ≡ word ++ (32 ∷ rest)
    pkg_or true is h = package-text rest v h ∙ after (codes "pkg") is
    pkg_or false is h = dep_or (same_bytes word (codes "dep")) refl h

pub vertex-reads : (text : List ℕ) (v : Vertex) → vertex_of_text text ≡ Ok v → vertex_text v ≡ text
vertex-reads text v h = by (same_bytes text (codes "root")) refl h
  where
    by : (b : Bool) → same_bytes text (codes "root") ≡ b
        → cond b (Ok root) (parted 32 text >>= λ p. kinded_vertex p.0 p.1) ≡ Ok v → vertex_text v ≡ text
    by true is h = ap vertex_text (sym (same-Ok _ _ h)) ∙ sym (same_text text (codes "root") is)
    by false is h =
        let s = steps (parted 32 text) (λ p. kinded_vertex p.0 p.1) v h in
        kinded-text s.at.0 s.at.1 v s.then ∙ sym (parted-joins 32 text s.at s.first)

-- ---- states

present-text : (text : List ℕ) (s : State) → present_of_text text ≡ Ok s → state_text s ≡ text
present-text text s h =
    let c = chosen (same_bytes text (codes "present")) present s NotAText h in
    ap state_text (sym c.1) ∙ sym (same_text text (codes "present") c.0)

value-text : (v : Vertex) (text : List ℕ) (s : State) → value_of_text v text ≡ Ok s → state_text s ≡ text
value-text root text s h = present-text text s h
value-text (pkg n c) text s h = let t = steps (version_of_text text) (λ w. Ok (version w)) s h in
    ap state_text (sym (same-Ok _ _ t.then)) ∙ version-reads text t.at t.first
value-text (dep o i) text s h = let t = steps (class_of_text text) (λ c. Ok (in_class c)) s h in
    ap state_text (sym (same-Ok _ _ t.then)) ∙ class-reads text t.at t.first
value-text (feat n c f) text s h = present-text text s h
value-text (ask n w i g) text s h = present-text text s h

pub state-reads : (v : Vertex) (text : List ℕ) (s : State) → state_of_text v text ≡ Ok s → state_text s ≡ text
state-reads v text s h = by (same_bytes text (codes "absent")) refl h
  where
    by : (b : Bool) → same_bytes text (codes "absent") ≡ b
        → cond b (Ok absent) (value_of_text v text) ≡ Ok s → state_text s ≡ text
    by true is h = ap state_text (sym (same-Ok _ _ h)) ∙ sym (same_text text (codes "absent") is)
    by false is h = value-text v text s h
