-- The texts of vertices, states and kinds are of plain bytes: JSON escapes none of them, and none ends a line.
use Rattle.std.proofs.Common.{◌≡◌, ℕ, ◌+◌, ◌%◌, ◌^◌, ◌<◌, ◌≤◌, Bool, true, false, cond, ◌&&◌, not, ◌==◌, nat_le, nat_lt}
use Rattle.std.proofs.Common.{List, [], ◌∷◌, ◌++◌, Option, Some, None, Ok, Err, codes, refl, sym, subst, arith}
use Rattle.std.specs.Char.{is_ascii_digit}
use Rattle.std.specs.Fmt.{decimal}
use Rattle.std.specs.List.{list_all}
use Rattle.std.specs.Str.Parse.{digits_value}
use Rattle.std.proofs.lemmas.Bool.Decides.{nat_tests}
use Rattle.std.proofs.lemmas.Fmt.{decimal_by_steps}
use Rattle.std.proofs.lemmas.Bool.{and_parts}
use Rattle.semver.specs.Grammar.{IsValid, is_identifier_byte, is_build_identifier, is_pre_identifier, is_pre_release}
use Rattle.semver.specs.Grammar.{is_build}
use Rattle.semver.specs.Identifiers.{parts_text, marked}
use Rattle.semver.specs.Order.{parts}
use Rattle.semver.specs.OrderLaws.{join_dots, join-parts, same_text}
use Rattle.semver.specs.Parse.{Parts, version_parts}
use Rattle.semver.proofs.Grammar.{version_parts-sound}
use Rattle.model.specs.Axioms.{Kind, Root, Needed, Target, HasFeature, WantsFeature, FeatureOnFeature}
use Rattle.model.specs.Axioms.{FeatureOnDependency, FeatureAsks, NewestListed, WeakFeature}
use Rattle.model.specs.Outcome.{◌>>=◌}
use Rattle.model.specs.Summary.{same_text as same_bytes}
use Rattle.model.specs.Selection.{Class, minor, major, patch}
use Rattle.model.specs.Vertices.{Owner, the_root, version_of, Vertex, root, pkg, dep, feat, ask, State, absent, present}
use Rattle.model.specs.Vertices.{version, in_class}
use Rattle.features.specs.Names.{after_text, is_package_name, is_package_byte, is_feature_name, is_feature_byte}
use Rattle.classes.specs.Classes.{is_plain_number, number_of}
use Rattle.vertices.specs.Texts.{kind_text, needed, parted, package_name_of, feature_name_of, version_of_text}
use Rattle.vertices.specs.Texts.{above_zero, lesser_class, class_or, class_of_text, index_of, named_version_of_text}
use Rattle.vertices.specs.Texts.{owner_of_text, package_of_text, dependency_of_text, feature_of_text, ask_of_text}
use Rattle.vertices.specs.Texts.{kinded_vertex, vertex_of_text, present_of_text, value_of_text, state_of_text}
use Rattle.vertices.specs.declared.fault.TextFault.TheVariants.{NotAText}
use Rattle.vertices.proofs.Bound.{steps, some, chosen}
use Rattle.vertices.proofs.MadeOf.{named_version, package_made, dependency_made, feature_made, ask_made}
use Rattle.vertices.proofs.TextLaws.{front-joins, parted-joins, version-or}

-- a printable ASCII byte other than `"` and `\`
abbrev pub IsPlainByte : ℕ → Type 0
IsPlainByte b = (32 ≤ b) × (b < 127) × (b ≡ 34 → ⊥) × (b ≡ 92 → ⊥)

abbrev pub IsPlain : List ℕ → Type 0
IsPlain [] = Unit {0}
IsPlain (b ∷ bs) = IsPlainByte b × IsPlain bs

pub plain-append : (a b : List ℕ) → IsPlain a → IsPlain b → IsPlain (a ++ b)
plain-append [] b h k = k
plain-append (x ∷ a) b h k = (h.0, plain-append a b h.1 k)

-- texts of which a test of each byte says so
plain-bytes : (test : ℕ → Bool) → ((b : ℕ) → test b ≡ true → IsPlainByte b) → (text : List ℕ)
    → list_all test text ≡ true → IsPlain text
plain-bytes test plain [] h = tt
plain-bytes test plain (b ∷ bs) h = let both =
    and_parts (test b) (list_all test bs) h in (plain b both.0, plain-bytes test plain bs both.1)

package-byte : (b : ℕ) → is_package_byte b ≡ true → IsPlainByte b
package-byte b h = (
  grind (arith, nat_tests),
  grind (arith, nat_tests),
  λ e. let no : is_package_byte 34 ≡ true =
      rw e at h in cc,
  λ e. let no : is_package_byte 92 ≡ true = rw e at h in cc,
)

feature-byte : (b : ℕ) → is_feature_byte b ≡ true → IsPlainByte b
feature-byte b h = (
  grind (arith, nat_tests),
  grind (arith, nat_tests),
  λ e. let no : is_feature_byte 34 ≡ true =
      rw e at h in cc,
  λ e. let no : is_feature_byte 92 ≡ true = rw e at h in cc,
)

digit-byte : (b : ℕ) → is_ascii_digit b ≡ true → IsPlainByte b
digit-byte b h = (
  grind (arith, nat_tests),
  grind (arith, nat_tests),
  λ e. let no : is_ascii_digit 34 ≡ true =
      rw e at h in cc,
  λ e. let no : is_ascii_digit 92 ≡ true = rw e at h in cc,
)

identifier-byte : (b : ℕ) → is_identifier_byte b ≡ true → IsPlainByte b
identifier-byte b h = (
  grind (arith, nat_tests),
  grind (arith, nat_tests),
  λ e. let no : is_identifier_byte 34 ≡ true =
      rw e at h in cc,
  λ e. let no : is_identifier_byte 92 ≡ true = rw e at h in cc,
)

abbrev literal-byte : ℕ → Bool
literal-byte b = nat_le 32 b && (nat_lt b 127 && (not (b == 34) && not (b == 92)))

literal-is : (b : ℕ) → literal-byte b ≡ true → IsPlainByte b
literal-is b h = (
  grind (arith, nat_tests),
  grind (arith, nat_tests),
  λ e. let no : literal-byte 34 ≡ true =
      rw e at h in cc,
  λ e. let no : literal-byte 92 ≡ true = rw e at h in cc,
)

pub literal : (text : List ℕ) → list_all literal-byte text ≡ true → IsPlain text
literal text h = plain-bytes literal-byte literal-is text h

-- ---- names and numbers

name-plain : (text n : List ℕ) → package_name_of text ≡ Ok n → IsPlain text
name-plain text n h = plain-bytes is_package_byte package-byte text (and_parts _ (list_all is_package_byte text)
    (and_parts _ _ (chosen (is_package_name text) text n NotAText h).0).1).1

feature-plain : (text f : List ℕ) → feature_name_of text ≡ Ok f → IsPlain text
feature-plain text f h = plain-bytes is_feature_byte feature-byte text (and_parts _ (list_all is_feature_byte text)
    (and_parts _ _ (chosen (is_feature_name text) text f NotAText h).0).1).1

number-plain : (text : List ℕ) (n : ℕ) → number_of text ≡ Some n → IsPlain text
number-plain text n h = by (is_plain_number text && nat_lt (digits_value 10 text) (2 ^ 64)) refl h
  where
    by : (b : Bool) → (is_plain_number text && nat_lt (digits_value 10 text) (2 ^ 64)) ≡ b
        → cond b (Some (digits_value 10 text)) None ≡ Some n → IsPlain text
    by true is h = plain-bytes is_ascii_digit digit-byte text
        (and_parts (list_all is_ascii_digit text) _ (and_parts _ _ (and_parts _ _ is).0).1).0
    by false is h = cc

needed-plain : (text : List ℕ) (n : ℕ) → needed (number_of text) ≡ Ok n → IsPlain text
needed-plain text n h = number-plain text n (some (number_of text) NotAText n h)

above_zero-plain : (text : List ℕ) (n : ℕ) → above_zero text ≡ Ok n → IsPlain text
unfolding above_zero
above_zero-plain text n h = let s = steps (needed (number_of text)) _ n h in needed-plain text s.at s.first

index-plain : (text : List ℕ) (n : ℕ) → index_of text ≡ Ok n → IsPlain text
unfolding index_of
index-plain text n h = let s = steps (needed (number_of text)) _ n h in needed-plain text s.at s.first

pub decimal-plain : (n : ℕ) → n < 2 ^ 64 → IsPlain (decimal n)
decimal-plain n l = decimal_by_steps (λ m ds. IsPlain ds) (λ m k. (digit-plain m k, tt))
    (λ m ds k h. plain-append ds ((48 + m % 10) ∷ []) h (digit-plain (m % 10) (omega arith), tt)) n l
  where
    digit-plain : (m : ℕ) → m < 10 → IsPlainByte (48 + m)
    digit-plain m k = (omega arith, omega arith, λ e. omega arith, λ e. omega arith)

-- ---- classes and versions

zero-dot : (text rest : List ℕ) → after_text (codes "0.") text ≡ Some rest → IsPlain rest → IsPlain text
zero-dot text rest is h = subst IsPlain (sym (front-joins (codes "0.") text rest is))
    (plain-append (codes "0.") rest (literal (codes "0.") refl) h)

lesser-plain : (text : List ℕ) (o : Option (List ℕ)) (c : Class) → after_text (codes "0.") text ≡ o
    → lesser_class text o ≡ Ok c → IsPlain text
lesser-plain text None c is h = let s =
    steps (above_zero text) (λ n. Ok (minor n)) c h in above_zero-plain text s.at s.first
lesser-plain text (Some rest) c is h = let s =
    steps (needed (number_of rest)) (λ n. Ok (patch n)) c h in zero-dot text rest is (needed-plain rest s.at s.first)

class-by : (text : List ℕ) (o : Option (List ℕ)) (c : Class) → after_text (codes "0.") text ≡ o
    → class_or text o ≡ Ok c → IsPlain text
class-by text None c is h = let s =
    steps (above_zero text) (λ n. Ok (major n)) c h in above_zero-plain text s.at s.first
class-by text (Some rest) c is h = zero-dot text rest is (lesser-plain rest (after_text (codes "0.") rest) c refl h)

class-plain : (text : List ℕ) (c : Class) → class_of_text text ≡ Ok c → IsPlain text
class-plain text c h = class-by text (after_text (codes "0.") text) c refl h

build-part : (part : List ℕ) → is_build_identifier part ≡ true → IsPlain part
build-part part h =
    plain-bytes is_identifier_byte identifier-byte part (and_parts _ (list_all is_identifier_byte part) h).1

pre-part : (part : List ℕ) → is_pre_identifier part ≡ true → IsPlain part
pre-part part h = build-part part (and_parts (is_build_identifier part) _ h).0

dots : (test : List ℕ → Bool) → ((part : List ℕ) → test part ≡ true → IsPlain part) → (ps : List (List ℕ))
    → list_all test ps ≡ true → IsPlain (join_dots ps)
unfolding join_dots
dots test plain [] h = tt
dots test plain (p ∷ []) h = plain p (and_parts (test p) _ h).0
dots test plain (p ∷ (q ∷ ps)) h =
    let both = and_parts (test p) (list_all test (q ∷ ps)) h in
    plain-append p (46 ∷ join_dots (q ∷ ps)) (plain p both.0) (literal-is 46 refl, dots test plain (q ∷ ps) both.1)

dotted : (test : List ℕ → Bool) → ((part : List ℕ) → test part ≡ true → IsPlain part) → (text : List ℕ)
    → list_all test (parts text) ≡ true → IsPlain text
dotted test plain text h = subst IsPlain (join-parts text) (dots test plain (parts text) h)

pre-plain : (text : List ℕ) → is_pre_release text ≡ true → IsPlain text
pre-plain [] h = tt
pre-plain (b ∷ bs) h = dotted is_pre_identifier pre-part (b ∷ bs) h

build-plain : (text : List ℕ) → is_build text ≡ true → IsPlain text
build-plain [] h = tt
build-plain (b ∷ bs) h = dotted is_build_identifier build-part (b ∷ bs) h

marked-plain : (mark : ℕ) → IsPlainByte mark → (text : List ℕ) → IsPlain text → IsPlain (marked mark text)
marked-plain mark m [] h = tt
marked-plain mark m (b ∷ bs) h = (m, h)

parts-plain : (v : Parts) → IsValid v → IsPlain (parts_text v)
parts-plain v h =
    plain-append (decimal v.0) _ (decimal-plain v.0 h.0) (
      literal-is 46 refl,
      plain-append (decimal v.1) _ (decimal-plain v.1 h.1) (
        literal-is 46 refl,
        plain-append (decimal v.2) _ (decimal-plain v.2 h.2)
            (plain-append (marked 45 (v.3)) _ (marked-plain 45 (literal-is 45 refl) (v.3) (pre-plain (v.3) h.3))
            (marked-plain 43 (literal-is 43 refl) (v.4) (build-plain (v.4) h.4))),
      ),
    )

version-plain : (text : List ℕ) (v : Parts) → version_of_text text ≡ Ok v → IsPlain text
version-plain text v h = let both =
    version_parts-sound text v (version-or (version_parts text) v h) in subst IsPlain both.0 (parts-plain v both.1)

-- ---- vertices

joined : (byte : ℕ) → IsPlainByte byte → (text : List ℕ) (p : List ℕ × List ℕ) → parted byte text ≡ Ok p → IsPlain p.0
    → IsPlain p.1 → IsPlain text
joined byte plain text p is h k =
    subst IsPlain (sym (parted-joins byte text p is)) (plain-append p.0 (byte ∷ p.1) h (plain, k))

named-plain : (text : List ℕ) (p : List ℕ × Parts) → named_version_of_text text ≡ Ok p → IsPlain text
named-plain text p h =
    let m = named_version text p h in
    joined 64 (literal-is 64 refl) text m.parts m.cut (name-plain _ _ m.named) (version-plain _ _ m.versioned)

-- a text that is this literal
is-literal : (text word : List ℕ) → same_bytes text word ≡ true → IsPlain word → IsPlain text
is-literal text word is h = subst IsPlain (sym (same_text text word is)) h

owner-plain : (text : List ℕ) (o : Owner) → owner_of_text text ≡ Ok o → IsPlain text
owner-plain text o h = by (same_bytes text (codes "root")) refl h
  where
    by : (b : Bool) → same_bytes text (codes "root") ≡ b
        → cond b (Ok the_root) (named_version_of_text text >>= λ p. Ok (version_of p.0 p.1)) ≡ Ok o → IsPlain text
    by true is h = is-literal text (codes "root") is (literal (codes "root") refl)
    by false is h = let s =
        steps (named_version_of_text text) (λ p. Ok (version_of p.0 p.1)) o h in named-plain text s.at s.first

package-plain : (text : List ℕ) (v : Vertex) → package_of_text text ≡ Ok v → IsPlain text
package-plain text v h =
    let m = package_made text v h in
    joined 32 (literal-is 32 refl) text m.parts m.cut (name-plain _ _ m.named) (class-plain _ _ m.classed)

dependency-plain : (text : List ℕ) (v : Vertex) → dependency_of_text text ≡ Ok v → IsPlain text
dependency-plain text v h =
    let m = dependency_made text v h in
    joined 32 (literal-is 32 refl) text m.parts m.cut (owner-plain _ _ m.owned) (index-plain _ _ m.indexed)

asked-plain : (text : List ℕ) (v : Vertex) → feature_of_text text ≡ Ok v → IsPlain text
asked-plain text v h =
    let m = feature_made text v h in
    joined 32 (literal-is 32 refl) text m.parts m.cut (name-plain _ _ m.named)
    (joined 32 (literal-is 32 refl) m.parts.1 m.more m.cut_again (class-plain _ _ m.classed)
    (feature-plain _ _ m.featured))

ask-plain : (text : List ℕ) (v : Vertex) → ask_of_text text ≡ Ok v → IsPlain text
ask-plain text v h =
    let m = ask_made text v h in
    joined 32 (literal-is 32 refl) text m.parts m.cut (named-plain _ _ m.owned)
    (joined 32 (literal-is 32 refl) m.parts.1 m.more m.cut_again (index-plain _ _ m.indexed)
    (feature-plain _ _ m.featured))

abbrev Both : List ℕ → List ℕ → Type 0
Both word rest = IsPlain word × IsPlain rest

kinded-plain : (word rest : List ℕ) (v : Vertex) → kinded_vertex word rest ≡ Ok v → Both word rest
kinded-plain word rest v h = pkg_or (same_bytes word (codes "pkg")) refl h
  where
    ask_or : (b : Bool) → same_bytes word (codes "ask") ≡ b
        → cond b (ask_of_text rest) (Err NotAText) ≡ Ok v → Both word rest
    ask_or true is h = (is-literal word (codes "ask") is (literal (codes "ask") refl), ask-plain rest v h)
    ask_or false is h = cc

    feat_or : (b : Bool) → same_bytes word (codes "feat") ≡ b → cond b (feature_of_text rest)
        (cond (same_bytes word (codes "ask")) (ask_of_text rest) (Err NotAText)) ≡ Ok v → Both word rest
    feat_or true is h = (is-literal word (codes "feat") is (literal (codes "feat") refl), asked-plain rest v h)
    feat_or false is h = ask_or (same_bytes word (codes "ask")) refl h

    dep_or : (b : Bool) → same_bytes word (codes "dep") ≡ b
        → cond b (dependency_of_text rest) (cond (same_bytes word (codes "feat")) (feature_of_text rest)
        (cond (same_bytes word (codes "ask")) (ask_of_text rest) (Err NotAText))) ≡ Ok v
        → Both word rest
    dep_or true is h = (is-literal word (codes "dep") is (literal (codes "dep") refl), dependency-plain rest v h)
    dep_or false is h = feat_or (same_bytes word (codes "feat")) refl h

    pkg_or : (b : Bool) → same_bytes word (codes "pkg") ≡ b
        → cond b (package_of_text rest)
        (cond (same_bytes word (codes "dep")) (dependency_of_text rest) (cond (same_bytes word (codes "feat"))
        (feature_of_text rest) (cond (same_bytes word (codes "ask")) (ask_of_text rest) (Err NotAText)))) ≡ Ok v
        → Both word rest
    pkg_or true is h = (is-literal word (codes "pkg") is (literal (codes "pkg") refl), package-plain rest v h)
    pkg_or false is h = dep_or (same_bytes word (codes "dep")) refl h

pub vertex-plain : (text : List ℕ) (v : Vertex) → vertex_of_text text ≡ Ok v → IsPlain text
vertex-plain text v h = by (same_bytes text (codes "root")) refl h
  where
    by : (b : Bool) → same_bytes text (codes "root") ≡ b
        → cond b (Ok root) (parted 32 text >>= λ p. kinded_vertex p.0 p.1) ≡ Ok v → IsPlain text
    by true is h = is-literal text (codes "root") is (literal (codes "root") refl)
    by false is h =
        let s = steps (parted 32 text) (λ p. kinded_vertex p.0 p.1) v h in
        let both = kinded-plain s.at.0 s.at.1 v s.then in
        joined 32 (literal-is 32 refl) text s.at s.first both.0 both.1

-- ---- states and kinds

present-plain : (text : List ℕ) (s : State) → present_of_text text ≡ Ok s → IsPlain text
present-plain text s h = is-literal text (codes "present")
    (chosen (same_bytes text (codes "present")) present s NotAText h).0 (literal (codes "present") refl)

value-plain : (v : Vertex) (text : List ℕ) (s : State) → value_of_text v text ≡ Ok s → IsPlain text
value-plain root text s h = present-plain text s h
value-plain (pkg n c) text s h = let t =
    steps (version_of_text text) (λ w. Ok (version w)) s h in version-plain text t.at t.first
value-plain (dep o i) text s h = let t =
    steps (class_of_text text) (λ c. Ok (in_class c)) s h in class-plain text t.at t.first
value-plain (feat n c f) text s h = present-plain text s h
value-plain (ask n w i g) text s h = present-plain text s h

pub state-plain : (v : Vertex) (text : List ℕ) (s : State) → state_of_text v text ≡ Ok s → IsPlain text
state-plain v text s h = by (same_bytes text (codes "absent")) refl h
  where
    by : (b : Bool) → same_bytes text (codes "absent") ≡ b
        → cond b (Ok absent) (value_of_text v text) ≡ Ok s → IsPlain text
    by true is h = is-literal text (codes "absent") is (literal (codes "absent") refl)
    by false is h = value-plain v text s h

pub kind-plain : (k : Kind) → IsPlain (kind_text k)
kind-plain Root = literal (codes "X0") refl
kind-plain Needed = literal (codes "X1") refl
kind-plain Target = literal (codes "X2") refl
kind-plain HasFeature = literal (codes "X3") refl
kind-plain WantsFeature = literal (codes "X4") refl
kind-plain FeatureOnFeature = literal (codes "X5") refl
kind-plain FeatureOnDependency = literal (codes "X6") refl
kind-plain FeatureAsks = literal (codes "X7") refl
kind-plain NewestListed = literal (codes "X8") refl
kind-plain WeakFeature = literal (codes "X9") refl
