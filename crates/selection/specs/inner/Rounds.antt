-- What the rounds of the walk end with.
use Rattle.std.specs.Prelude.{◌≡◌, ℕ, List, Bool, map, length, Option, Some, None}
use Rattle.model.specs.Content.{Candidate, Content, Problem}
use Rattle.model.specs.Vertices.{Owner}
use Rattle.model.specs.Selected.{IsPreferred}
use Rattle.model.specs.Walk.{IsComplete, IsWalk}
use Rattle.facts.specs.inner.Graphs.{NodeView, node_views}
use Rattle.catalogue.specs.Stores.{CatalogueView}
use Rattle.facts.specs.inner.Built.{IsBuilt}
use Rattle.selection.specs.inner.Contents.{AreMetVersions, owners_of}
use Rattle.catalogue.specs.Problems.{preferred_in}
use Rattle.selection.specs.declared.rounds.Reached.{Reached}

-- of these the preferred walk can be built, and it is complete
pub record AreEnough (q : Problem) (preferred : List (List ℕ × List Candidate)) (owners : List Owner)
    (nodes : List NodeView) (is_here : List Bool) (are_enabled : List (List Bool)) : Type 0 where
  pub as_many : length nodes ≡ length owners
  pub walk : (content : Content) → IsBuilt owners nodes are_enabled q is_here content → IsWalk q preferred content
  pub complete : IsComplete q preferred

module _ (q : Problem) (index : CatalogueView) where
  pub record IsReached (r : Reached) : Type 0 where
    pub versions : AreMetVersions index r.versions.keys
    pub enough : AreEnough q (preferred_in index) (owners_of index r.versions.keys) (node_views r.nodes.items)
        r.facts.here.items (map (λ v. v.items) r.facts.enabled.items)

  -- there are such, but where no content is the walk, complete and a valid selection
  abbrev pub Reaches : Option Reached → Type 0
  Reaches (Some r) = IsReached r
  Reaches None = (content : Content) → IsPreferred q (preferred_in index) content → ⊥
