-- Valid vertices and states are what their own texts read as.
use Rattle.std.proofs.Common.{◌≡◌, ℕ, List, [], ◌∷◌, ◌++◌, Bool, true, false, cond, ◌||◌, ◌==◌, Result, Ok, Err, codes}
use Rattle.std.proofs.Common.{decimal, refl, sym, ap, ◌∙◌, arith, append_assoc, true≢false}
use Rattle.std.specs.List.{list_any}
use Rattle.std.proofs.lemmas.Bool.{false_from_ne_true}
use Rattle.semver.specs.Grammar.{IsValid}
use Rattle.semver.specs.Identifiers.{parts_text}
use Rattle.semver.specs.Parse.{Parts}
use Rattle.semver.proofs.Grammar.{version_parts-complete}
use Rattle.semver.proofs.OnLiterals.{semver_on_literals}
use Rattle.model.specs.Outcome.{◌>>=◌}
use Rattle.model.specs.Summary.{same_text}
use Rattle.model.specs.Selection.{Class}
use Rattle.model.specs.Vertices.{Owner, the_root, version_of, Vertex, root, pkg, dep, feat, ask, State, absent, present}
use Rattle.model.specs.Vertices.{version, in_class}
use Rattle.model.proofs.Same.{text-same}
use Rattle.classes.specs.Classes.{class_text}
use Rattle.vertices.specs.Texts.{IsReadVertex, IsReadState, Reading, parted, kinded_vertex, package_name_of}
use Rattle.vertices.specs.Texts.{feature_name_of, version_or, version_of_text, above_zero, class_of_text}
use Rattle.vertices.specs.Texts.{named_version_of_text, owner_text, owner_of_text, vertex_text, package_of_text}
use Rattle.vertices.specs.Texts.{dependency_of_text, feature_of_text, ask_of_text, vertex_of_text, value_of_text}
use Rattle.features.specs.inner.Valid.{IsPackageName, IsFeatureName}
use Rattle.vertices.specs.inner.Valid.{IsValidClass, IsIndex, IsValidOwner, IsValidVertex}
use Rattle.vertices.specs.inner.Valid.{IsValidState}
use Rattle.vertices.proofs.Around.{Lacks, lacks-append, parted-first}
use Rattle.vertices.proofs.Numbers.{index-reads, class-is-read}
use Rattle.vertices.proofs.Dense.{name-lacks, decimal-dense, class-dense, version-dense}

-- a step that ends well
pub goes-on : {A B : Type 0} (r : Reading A) (x : A) (f : A → Reading B) → r ≡ Ok x → (r >>= f) ≡ f x
goes-on r x f h = ap (λ s. s >>= f) h

taken : {A E : Type 0} (test : Bool) (x : A) (e : E) → test ≡ true
    → ◌≡◌ {A = Result A E} (cond test (Ok x) (Err e)) (Ok x)
taken true x e h = refl
taken false x e h = cc

-- ---- names and versions

name-reads : (n : List ℕ) → IsPackageName n → package_name_of n ≡ Ok n
name-reads n h = taken _ n _ h

feature-reads : (f : List ℕ) → IsFeatureName f → feature_name_of f ≡ Ok f
feature-reads f h = taken _ f _ h

pub version-is-read : (v : Parts) → IsValid v → version_of_text (parts_text v) ≡ Ok v
version-is-read v h = ap version_or (version_parts-complete v h)

pub named-reads : (n : List ℕ) (v : Parts) → IsPackageName n → IsValid v
    → named_version_of_text (n ++ (64 ∷ parts_text v)) ≡ Ok (n, v)
unfolding named_version_of_text
named-reads n v h k =
    goes-on _ (n, parts_text v) _ (parted-first 64 n (parts_text v) (name-lacks 64 refl n h))
    ∙ goes-on _ n _ (name-reads n h) ∙ goes-on _ v _ (version-is-read v k)

-- ---- owners

named-dense : (n : List ℕ) (v : Parts) → IsPackageName n → IsValid v → Lacks 32 (n ++ (64 ∷ parts_text v))
named-dense n v h k = lacks-append 32 n (64 ∷ parts_text v) (name-lacks 32 refl n h) (version-dense v k)

owner-dense : (o : Owner) → IsValidOwner o → Lacks 32 (owner_text o)
owner-dense the_root h = refl
owner-dense (version_of n v) h = named-dense n v h.0 h.1

-- `@` stands in no other owner's text
has-at : (n t : List ℕ) → list_any (λ b. b == 64) (n ++ (64 ∷ t)) ≡ true
has-at [] t = refl
has-at (x ∷ n) t = or-true (x == 64) _ (has-at n t)
  where
    or-true : (s t : Bool) → t ≡ true → (s || t) ≡ true
    or-true true t e = refl
    or-true false t e = e

not-root : (n t : List ℕ) → same_text (n ++ (64 ∷ t)) (codes "root") ≡ false
not-root n t = false_from_ne_true _
    (λ e. true≢false (sym (has-at n t) ∙ ap (list_any (λ b. b == 64)) (text-same (n ++ (64 ∷ t)) (codes "root") e)))

owner-reads : (o : Owner) → IsValidOwner o → owner_of_text (owner_text o) ≡ Ok o
owner-reads the_root h = refl
owner-reads (version_of n v) h =
    ap (λ t. cond t (Ok the_root) (named_version_of_text (n ++ (64 ∷ parts_text v)) >>= λ p. Ok (version_of p.0 p.1)))
    (not-root n (parts_text v))
    ∙ goes-on _ (n, v) _ (named-reads n v h.0 h.1)

-- ---- vertices

package-reads : (n : List ℕ) (c : Class) → IsPackageName n → IsValidClass c
    → package_of_text (n ++ (32 ∷ class_text c)) ≡ Ok (pkg n c)
unfolding package_of_text
package-reads n c h k =
    goes-on _ (n, class_text c) _ (parted-first 32 n (class_text c) (name-lacks 32 refl n h))
    ∙ goes-on _ n _ (name-reads n h) ∙ goes-on _ c _ (class-is-read c k)

dependency-reads : (o : Owner) (i : ℕ) → IsValidOwner o → IsIndex i
    → dependency_of_text (owner_text o ++ (32 ∷ decimal i)) ≡ Ok (dep o i)
unfolding dependency_of_text
dependency-reads o i h k =
    goes-on _ (owner_text o, decimal i) _ (parted-first 32 (owner_text o) (decimal i) (owner-dense o h))
    ∙ goes-on _ o _ (owner-reads o h) ∙ goes-on _ i _ (index-reads i k)

asked-reads : (n : List ℕ) (c : Class) (f : List ℕ) → IsPackageName n → IsValidClass c → IsFeatureName f
    → feature_of_text (n ++ (32 ∷ (class_text c ++ (32 ∷ f)))) ≡ Ok (feat n c f)
unfolding feature_of_text
asked-reads n c f h k l =
    goes-on _ (n, class_text c ++ (32 ∷ f)) _ (parted-first 32 n (class_text c ++ (32 ∷ f)) (name-lacks 32 refl n h))
    ∙ goes-on _ (class_text c, f) _ (parted-first 32 (class_text c) f (class-dense c k))
    ∙ goes-on _ n _ (name-reads n h) ∙ goes-on _ c _ (class-is-read c k) ∙ goes-on _ f _ (feature-reads f l)

ask-reads : (n : List ℕ) (v : Parts) (i : ℕ) (g : List ℕ) → IsPackageName n → IsValid v → IsIndex i → IsFeatureName g
    → ask_of_text (n ++ (64 ∷ (parts_text v ++ (32 ∷ (decimal i ++ (32 ∷ g)))))) ≡ Ok (ask n v i g)
unfolding ask_of_text
ask-reads n v i g h k l m =
    let rest = decimal i ++ (32 ∷ g) in
    let owner = n ++ (64 ∷ parts_text v) in
    ap ask_of_text (sym (append_assoc n (64 ∷ parts_text v) (32 ∷ rest)))
    ∙ goes-on _ (owner, rest) _ (parted-first 32 owner rest (named-dense n v h k))
    ∙ goes-on _ (decimal i, g) _ (parted-first 32 (decimal i) g (decimal-dense i (omega arith)))
    ∙ goes-on _ (n, v) _ (named-reads n v h k) ∙ goes-on _ i _ (index-reads i l) ∙ goes-on _ g _ (feature-reads g m)

worded : (word rest : List ℕ) → Lacks 32 word
    → (parted 32 (word ++ (32 ∷ rest)) >>= λ p. kinded_vertex p.0 p.1) ≡ kinded_vertex word rest
worded word rest h = goes-on _ (word, rest) (λ p. kinded_vertex p.0 p.1) (parted-first 32 word rest h)

pub vertex-is-read : (v : Vertex) → IsValidVertex v → IsReadVertex v
vertex-is-read root h = refl
vertex-is-read (pkg n c) h = worded (codes "pkg") (n ++ (32 ∷ class_text c)) refl ∙ package-reads n c h.0 h.1
vertex-is-read (dep o i) h = worded (codes "dep") (owner_text o ++ (32 ∷ decimal i)) refl ∙ dependency-reads o i h.0 h.1
vertex-is-read (feat n c f) h =
    worded (codes "feat") (n ++ (32 ∷ (class_text c ++ (32 ∷ f)))) refl ∙ asked-reads n c f h.0 h.1 h.2
vertex-is-read (ask n v i g) h = worded (codes "ask")
    (n ++ (64 ∷ (parts_text v ++ (32 ∷ (decimal i ++ (32 ∷ g)))))) refl ∙ ask-reads n v i g h.0 h.1 h.2 h.3

pub same-texts : (v w : Vertex) → IsReadVertex v → IsReadVertex w → vertex_text v ≡ vertex_text w → v ≡ w
same-texts v w h k e = inside v w (sym h ∙ ap vertex_of_text e ∙ k)
  where
    inside : (v w : Vertex) → ◌≡◌ {A = Reading Vertex} (Ok v) (Ok w) → v ≡ w
    inside v w h = cc

-- ---- states

abbrev ends-well : {A E : Type 0} → Result A E → Bool
ends-well (Ok x) = true
ends-well (Err e) = false

class-not-absent : (c : Class) → IsValidClass c → same_text (class_text c) (codes "absent") ≡ false
unfolding above_zero
class-not-absent c h = false_from_ne_true _ (λ e.
    let no : false ≡ true = ap ends-well (sym (ap class_of_text (text-same (class_text c) (codes "absent") e))
    ∙ class-is-read c h) in true≢false (sym no))

version-not-absent : (v : Parts) → IsValid v → same_text (parts_text v) (codes "absent") ≡ false
unfolding semver_on_literals
version-not-absent v h = false_from_ne_true _ (λ e.
    let no : false ≡ true = ap ends-well (sym (ap version_of_text (text-same (parts_text v) (codes "absent") e))
    ∙ version-is-read v h) in true≢false (sym no))

pub state-is-read : (v : Vertex) (s : State) → IsValidState v s → IsReadState v s
state-is-read v absent h = refl
state-is-read root present h = refl
state-is-read (feat n c f) present h = refl
state-is-read (ask n w i g) present h = refl
state-is-read (pkg n c) (version w) h =
    ap (λ t. cond t (Ok absent) (value_of_text (pkg n c) (parts_text w))) (version-not-absent w h)
    ∙ goes-on _ w _ (version-is-read w h)
state-is-read (dep o i) (in_class c) h =
    ap (λ t. cond t (Ok absent) (value_of_text (dep o i) (class_text c))) (class-not-absent c h)
    ∙ goes-on _ c _ (class-is-read c h)
state-is-read root (version w) h = absurd h
state-is-read root (in_class c) h = absurd h
state-is-read (pkg n c) present h = absurd h
state-is-read (pkg n c) (in_class d) h = absurd h
state-is-read (dep o i) present h = absurd h
state-is-read (dep o i) (version w) h = absurd h
state-is-read (feat n c f) (version w) h = absurd h
state-is-read (feat n c f) (in_class d) h = absurd h
state-is-read (ask n w i g) (version x) h = absurd h
state-is-read (ask n w i g) (in_class d) h = absurd h
