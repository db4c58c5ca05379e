-- Two vertices are equal exactly where they stand for one.
use Rattle.std.proofs.Common.{◌≡◌, ℕ, zero, suc, List, [], ◌∷◌, ◌++◌, map, Bool, true, false, cond}
use Rattle.std.proofs.Common.{◌&&◌, ◌||◌, nat_eq, Some, slice_get, refl, sym, ap, ap₂, ◌∙◌}
use Rattle.std.specs.Prelude.{option_map, position}
use Rattle.std.specs.List.{list_any}
use Rattle.indexmap.specs.IndexSet.{insert_key}
use Rattle.std.proofs.lemmas.Option.{none-some, same_Some}
use Rattle.model.proofs.Same.{vertex-same}
use Rattle.catalogue.proofs.Rows.{position-cons}
use Rattle.numbering.specs.Numberings.{number_in, with_vertex}
use Rattle.std.specs.Cmp.Lexicographic.{pointwise}
use Rattle.semver.specs.declared.Version.{Version}
use Rattle.semver.specs.Identifiers.{parts_of, pre_text, build_text}
use Rattle.model.specs.Content.{same_version}
use Rattle.vertices.specs.declared.vertex.OwnerRef.{OwnerRef}
use Rattle.vertices.specs.declared.vertex.VertexRef.{VertexRef}
use Rattle.vertices.specs.contracts.same.OwnerRefPartialEq.TheImpl as owner_eq
use Rattle.vertices.specs.contracts.same.VertexRefPartialEq.TheImpl as vertex_eq
use Rattle.model.specs.Vertices.{same_owner, same_vertex}
use Rattle.vertices.specs.inner.RefViews.{owner_ref_view, vertex_ref_view}

five : (a b c d e : Bool) → (a && (b && (c && (d && e)))) ≡ ((((a && b) && c) && d) && e)
five true true true d e = refl
five true true false d e = refl
five true false c d e = refl
five false b c d e = refl

pub version_same : (v w : Version) → (nat_eq v.major w.major && (nat_eq v.minor w.minor && (nat_eq v.patch w.patch
    && (pointwise nat_eq (pre_text v.pre) (pre_text w.pre)
    && pointwise nat_eq (build_text v.build) (build_text w.build)))))
    ≡ same_version (parts_of v)
    (parts_of w)
version_same v w = five (nat_eq v.major w.major) (nat_eq v.minor w.minor) (nat_eq v.patch w.patch)
    (pointwise nat_eq (pre_text v.pre) (pre_text w.pre)) (pointwise nat_eq (build_text v.build) (build_text w.build))

pub owner_same : (o p : OwnerRef) → (owner_eq.eq-value).it o p ≡ same_owner (owner_ref_view o) (owner_ref_view p)
owner_same o p = refl

pub vertex_same : (v w : VertexRef) → (vertex_eq.eq-value).it v w ≡ same_vertex (vertex_ref_view v) (vertex_ref_view w)
vertex_same v w = refl

-- ---- vertices that a table keeps, and what they stand for

-- the place of a vertex is the number of what it stands for
pub number_kept : (v : VertexRef) (ks : List VertexRef)
    → position ((vertex_eq.eq-value).it v) ks ≡ number_in (map vertex_ref_view ks) (vertex_ref_view v)
number_kept v [] = refl
number_kept v (k ∷ ks) = position-cons ((vertex_eq.eq-value).it v) k ks
    ∙ ap₂ (λ b o. cond b (Some 0) (option_map suc o)) (vertex_same v k) (number_kept v ks)

any_kept : (v : VertexRef) (ks : List VertexRef)
    → list_any ((vertex_eq.eq-value).it v) ks ≡ list_any (same_vertex (vertex_ref_view v)) (map vertex_ref_view ks)
any_kept v [] = refl
any_kept v (k ∷ ks) = ap₂ (λ a b. a || b) (vertex_same v k) (any_kept v ks)

view_last : (ks : List VertexRef) (v : VertexRef)
    → map vertex_ref_view (ks ++ v ∷ []) ≡ map vertex_ref_view ks ++ vertex_ref_view v ∷ []
view_last [] v = refl
view_last (k ∷ ks) v = ap (λ l. vertex_ref_view k ∷ l) (view_last ks v)

-- what is kept once one more is put
pub put_kept : (v : VertexRef) (ks : List VertexRef) → map vertex_ref_view (insert_key (vertex_eq.eq-value).it ks v)
    ≡ with_vertex (map vertex_ref_view ks) (vertex_ref_view v)
put_kept v ks = step (list_any ((vertex_eq.eq-value).it v) ks)
    ∙ ap (λ b. cond b (map vertex_ref_view ks) (map vertex_ref_view ks ++ vertex_ref_view v ∷ [])) (any_kept v ks)
  where
    step : (b : Bool) → map vertex_ref_view (cond b ks (ks ++ v ∷ []))
        ≡ cond b (map vertex_ref_view ks) (map vertex_ref_view ks ++ vertex_ref_view v ∷ [])
    step true = refl
    step false = view_last ks v

-- the vertex at a place
pub kept_at : (ks : List VertexRef) (n : ℕ) (k : VertexRef) → slice_get ks n ≡ Some k
    → slice_get (map vertex_ref_view ks) n ≡ Some (vertex_ref_view k)
kept_at [] n k e = absurd (none-some k e)
kept_at (x ∷ ks) zero k e = ap Some (ap vertex_ref_view (same_Some x k e))
kept_at (x ∷ ks) (suc n) k e = kept_at ks n k e

pub kept_same : (v : VertexRef) (ks : List VertexRef) (n : ℕ) (k : VertexRef) → slice_get ks n ≡ Some k
    → (vertex_eq.eq-value).it v k ≡ true → slice_get (map vertex_ref_view ks) n ≡ Some (vertex_ref_view v)
kept_same v ks n k e s =
    kept_at ks n k e ∙ ap Some (sym (vertex-same (vertex_ref_view v) (vertex_ref_view k) (sym (vertex_same v k) ∙ s)))
