-- A set of versions without build metadata finds those of equal precedence.
use Rattle.std.proofs.Common.{◌≡◌, ◌||◌, List, [], ◌∷◌, ◌++◌, map, Bool, true, false, not, refl, sym, ap, ap₂, ◌∙◌}
use Rattle.std.proofs.lemmas.List.{map-append}
use Rattle.std.proofs.lemmas.List.Elements.{All-head, All-tail}
use Rattle.std.proofs.lemmas.List.Folds.{list_any-append}
use Rattle.std.proofs.Math.Bool.{or-false, or_comm}
use Rattle.std.specs.List.{list_any}
use Rattle.std.specs.Ordering.{is_eq, ordering_then, nat_cmp, match_ordering}
use Rattle.std.specs.declared.cmp.Ordering.{Ordering}
use Rattle.std.specs.declared.cmp.Ordering.TheVariants.{Less, Equal, Greater}
use Rattle.std.specs.BTreeMap.{is_at}
use Rattle.std.specs.BTreeSet.{insert_key}
use Rattle.semver.specs.Identifiers.{parts_of, pre_text}
use Rattle.semver.specs.Order.{pre_cmp}
use Rattle.semver.specs.OrderLaws.{build_parts-self}
use Rattle.semver.specs.declared.Version.{Version}
use Rattle.semver.specs.contracts.VersionOrd.TheImpl.{cmp-value}
use Rattle.model.specs.Order.{precedence}
use Rattle.index_reader.specs.Files.{same_precedence, has_version}
use Rattle.index_lines.specs.Views.{record_view}
use Rattle.index_reader.specs.inner.BareVersions.{bare, has_equal, WithoutBuild, Agrees}
use Rattle.index_lines.specs.declared.record.Record.{Record}

swap_or : (a b c : Bool) → (a || (b || c)) ≡ (b || (a || c))
swap_or true true c = refl
swap_or true false c = refl
swap_or false b c = refl

-- a new key is found beside the others
placed : {K : Type 0} (cmp : K → K → Ordering) (p : K → Bool) (x : K) (xs : List K) (k : K) (o : Ordering)
    → (list_any (is_at (cmp k)) xs ≡ false → list_any p (insert_key cmp xs k) ≡ (p k || list_any p xs))
    → (is_eq o || list_any (is_at (cmp k)) xs) ≡ false
    → list_any p (match_ordering o (k ∷ x ∷ xs) (x ∷ xs) (x ∷ insert_key cmp xs k)) ≡ (p k || (p x || list_any p xs))
placed cmp p x xs k Less rest none = refl
placed cmp p x xs k Equal rest none = cc
placed cmp p x xs k Greater rest none = ap (λ b. p x || b) (rest none) ∙ swap_or (p x) (p k) (list_any p xs)

pub any-insert_key : {K : Type 0} (cmp : K → K → Ordering) (p : K → Bool) (keys : List K) (k : K)
    → list_any (is_at (cmp k)) keys ≡ false → list_any p (insert_key cmp keys k) ≡ (p k || list_any p keys)
any-insert_key cmp p [] k absent = refl
any-insert_key cmp p (x ∷ xs) k absent = placed cmp p x xs k (cmp k x) (any-insert_key cmp p xs k) absent

-- versions without build metadata are ordered by precedence
then_equal : (a b c d : Ordering) → ordering_then a (ordering_then b (ordering_then c (ordering_then d Equal)))
    ≡ ordering_then a (ordering_then b (ordering_then c d))
then_equal Less b c d = refl
then_equal Greater b c d = refl
then_equal Equal Less c d = refl
then_equal Equal Greater c d = refl
then_equal Equal Equal Less d = refl
then_equal Equal Equal Greater d = refl
then_equal Equal Equal Equal Less = refl
then_equal Equal Equal Equal Equal = refl
then_equal Equal Equal Equal Greater = refl

pub cmp-bare : (v w : Version) → (parts_of v).4 ≡ [] → (parts_of w).4 ≡ []
    → (cmp-value).it v w ≡ precedence (parts_of v) (parts_of w)
cmp-bare v w none_v none_w = rw (none_v, none_w, build_parts-self []) (then_equal (nat_cmp v.major w.major)
    (nat_cmp v.minor w.minor) (nat_cmp v.patch w.patch) (pre_cmp (pre_text v.pre) (pre_text w.pre)))

-- such a set finds just the versions of equal precedence
pub found-bare : (v : Version) (keys : List Version) → (parts_of v).4 ≡ [] → WithoutBuild keys
    → list_any (is_at ((cmp-value).it v)) keys ≡ has_equal keys (parts_of v)
found-bare v [] none all = refl
found-bare v (k ∷ ks) none all =
    ap₂ (λ a b. a || b) (ap is_eq (cmp-bare v k none (All-head (λ x. (parts_of x).4 ≡ []) k ks all)))
    (found-bare v ks none (All-tail (λ x. (parts_of x).4 ≡ []) k ks all))

-- one more is kept of which none was found
pub agrees-more : (keys : List Version) (records : List Record) (v : Version) (r : Record) → Agrees keys records
    → parts_of v ≡ bare (parts_of r.version)
    → list_any (is_at ((cmp-value).it v)) keys ≡ false → Agrees (insert_key (cmp-value).it keys v) (records ++ r ∷ [])
agrees-more keys records v r agrees same absent w =
    any-insert_key (cmp-value).it (λ k. same_precedence w (parts_of k)) keys v absent
    ∙ ap₂ (λ a b. a || b) (ap (same_precedence w) same) (agrees w)
    ∙ or_comm (same_precedence w (parts_of r.version)) (has_version (map record_view records) w)
    ∙ sym (ap (λ rs. has_version rs w) (map-append record_view records (r ∷ []))
    ∙ list_any-append (λ x. same_precedence w x.version) (map record_view records) (record_view r ∷ [])
    ∙ ap (λ b. has_version (map record_view records) w || b) (or-false (same_precedence w (parts_of r.version))))

pub from_not : (a b : Bool) → not a ≡ not b → a ≡ b
from_not true true same = refl
from_not true false same = cc
from_not false true same = cc
from_not false false same = refl
