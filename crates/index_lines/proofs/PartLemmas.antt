-- What stands at the keys of an object is found member after member.
use Rattle.std.proofs.Common.{◌≡◌, ℕ, List, Bool, true, false, Some, unwrap_or, codes, refl, sym}
use Rattle.std.proofs.Common.{ap, ◌∙◌, subst, true≢false}
use Rattle.std.specs.Prelude.{if◌then◌else◌}
use Rattle.serde_json.specs.Data.{Data, null, boolean, number, string, array, object, Members, no_members, put}
use Rattle.serde_json.specs.Find.{get_member, as_object}
use Rattle.serde_json.proofs.Views.{get_member-put, get_member-put_other}
use Rattle.model.specs.Summary.{same_text}
use Rattle.model.proofs.Same.{text-same, text-refl}
use Rattle.index_lines.specs.Shapes.{unless_null, values_by, values_of}
use Rattle.index_lines.specs.inner.PartMembers.{line_values_by, line_values_in, line_values_of, value_put, values_in}

-- a member with another key changes nothing of this one
at_other : (key k : List ℕ) (d : Data) (ms : Members) → same_text k key ≡ false
    → unless_null (get_member key ms) ≡ unless_null (get_member key (put k d ms))
at_other key k d ms other = ap unless_null (sym (get_member-put_other key k d ms
    (λ same. true≢false (sym (text-refl key) ∙ ap (λ x. same_text x key) same ∙ other))))

at_own : (k : List ℕ) (d : Data) (ms : Members)
    → unless_null (Some d) ≡ unless_null (get_member k (put k d ms))
at_own k d ms = ap unless_null (sym (get_member-put k d ms))

at_key : (key k : List ℕ) (d : Data) (ms : Members)
    → (if same_text k key then unless_null (Some d) else unless_null (get_member key ms))
    ≡ unless_null (get_member key (put k d ms))
at_key key k d ms = go (same_text k key) refl
  where
    go : (b : Bool) → same_text k key ≡ b → (if b then unless_null (Some d) else unless_null (get_member key ms))
        ≡ unless_null (get_member key (put k d ms))
    go true e = let same : k ≡ key = text-same k key e in
        subst (λ x. unless_null (Some d) ≡ unless_null (get_member x (put k d ms))) same (at_own k d ms)
    go false e = at_other key k d ms e

-- with one member more
pub values_in-put : (k : List ℕ) (d : Data) (ms : Members)
    → values_by (value_put k (unless_null (Some d)) (λ key. unless_null (get_member key ms)))
    ≡ values_in (put k d ms)
values_in-put k d ms =
    rw (
      at_key (codes "name") k d ms,
      at_key (codes "kind") k d ms,
      at_key (codes "package") k d ms,
      at_key (codes "req") k d ms,
      at_key (codes "optional") k d ms,
      at_key (codes "default_features") k d ms,
      at_key (codes "features") k d ms,
      at_key (codes "registry") k d ms,
    )
    refl

pub line_values_in-put : (k : List ℕ) (d : Data) (ms : Members)
    → line_values_by (value_put k (unless_null (Some d)) (λ key. unless_null (get_member key ms)))
    ≡ line_values_in (put k d ms)
line_values_in-put k d ms =
    rw (
      at_key (codes "name") k d ms,
      at_key (codes "vers") k d ms,
      at_key (codes "cksum") k d ms,
      at_key (codes "deps") k d ms,
      at_key (codes "features") k d ms,
      at_key (codes "features2") k d ms,
      at_key (codes "yanked") k d ms,
      at_key (codes "v") k d ms,
      at_key (codes "rust_version") k d ms,
    )
    refl

-- those of an object are those in its members, and there is none in what is no object
pub values_of-object : (d : Data) (ms : Members) → Some ms ≡ as_object d → values_in ms ≡ values_of d
values_of-object null ms is = cc
values_of-object (boolean b) ms is = cc
values_of-object (number n) ms is = cc
values_of-object (string s) ms is = cc
values_of-object (array ds) ms is = cc
values_of-object (object all) ms is = ap (λ o. values_in (unwrap_or o no_members)) is

pub line_values_of-object : (d : Data) (ms : Members) → Some ms ≡ as_object d → line_values_in ms ≡ line_values_of d
line_values_of-object null ms is = cc
line_values_of-object (boolean b) ms is = cc
line_values_of-object (number n) ms is = cc
line_values_of-object (string s) ms is = cc
line_values_of-object (array ds) ms is = cc
line_values_of-object (object all) ms is = ap (λ o. line_values_in (unwrap_or o no_members)) is
