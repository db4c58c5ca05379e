-- Equality of vertices and states, and what a hash of them is fed: their parts.
use Rattle.std.specs.Prelude.{◌≡◌, Bool, true, [], ◌++◌}
use Rattle.std.specs.Cmp.{IsEquivalence}
use Rattle.std.specs.Hash.{HashWrites}
use Rattle.std.specs.Hash as fed
use Rattle.std.proofs.Common.{ap, subst}
use Rattle.semver.specs.Parse.{Parts}
use Rattle.model.specs.Vertices.{Owner, the_root, version_of, Vertex, root, pkg, dep, feat, ask, State, absent, present}
use Rattle.model.specs.Vertices.{version, in_class, same_owner, same_vertex, same_state}
use Rattle.model.proofs.Same.{owner-same, owner-refl, vertex-same, vertex-refl, state-same, state-refl}
use Rattle.model.proofs.Tests.{one_test}
use Rattle.vertices.specs.Orders.{class_number}

abbrev pub version_fed : Parts → HashWrites
version_fed v = fed.u64 v.0 ++ (fed.u64 v.1 ++ (fed.u64 v.2 ++ (fed.str v.3 ++ fed.str v.4)))

abbrev pub owner_fed : Owner → HashWrites
owner_fed the_root = []
owner_fed (version_of n v) = fed.str n ++ version_fed v

abbrev pub vertex_fed : Vertex → HashWrites
vertex_fed root = []
vertex_fed (pkg n c) = fed.str n ++ fed.u64 (class_number c)
vertex_fed (dep o i) = owner_fed o ++ fed.usize i
vertex_fed (feat n c f) = fed.str n ++ (fed.u64 (class_number c) ++ fed.str f)
vertex_fed (ask n v i g) = fed.str n ++ (version_fed v ++ (fed.usize i ++ fed.str g))

abbrev pub state_fed : State → HashWrites
state_fed absent = fed.u8 0
state_fed present = fed.u8 1
state_fed (version v) = version_fed v
state_fed (in_class c) = fed.u64 (class_number c)

-- ---- the laws

module _ {X : Type 0} (eq : X → X → Bool) (same : (x y : X) → eq x y ≡ true → x ≡ y)
    (own : (x : X) → eq x x ≡ true) where
  pub equivalence : IsEquivalence eq
  equivalence = record {
    refl = own;
    symm = λ x y. one_test (eq x y) (eq y x) (λ e. subst (λ z. eq z x ≡ true) (same x y e) (own x))
        (λ e. subst (λ z. eq z y ≡ true) (same y x e) (own y));
    congr = λ x y z e. ap (λ w. eq w z) (same x y e);
  }

pub owner_equivalence : IsEquivalence same_owner
owner_equivalence = equivalence same_owner owner-same owner-refl

pub vertex_equivalence : IsEquivalence same_vertex
vertex_equivalence = equivalence same_vertex vertex-same vertex-refl

pub state_equivalence : IsEquivalence same_state
state_equivalence = equivalence same_state state-same state-refl

pub owner_alike : (x y : Owner) → same_owner x y ≡ true → owner_fed x ≡ owner_fed y
owner_alike x y e = ap owner_fed (owner-same x y e)

pub vertex_alike : (x y : Vertex) → same_vertex x y ≡ true → vertex_fed x ≡ vertex_fed y
vertex_alike x y e = ap vertex_fed (vertex-same x y e)

pub state_alike : (x y : State) → same_state x y ≡ true → state_fed x ≡ state_fed y
state_alike x y e = ap state_fed (state-same x y e)
