-- The packages of a lock as packages whose facts are asked for: what each brings, and where its dependencies lead.
use Rattle.std.specs.Prelude.{◌≡◌, ◌↔◌, ℕ, Bool, true, ◌||◌, List, map, Option, is_some}
use Rattle.model.specs.Summary.{Dependency}
use Rattle.model.specs.Content.{Package, Content, Problem, is_root, candidate_of, summary_of, last_serving}
use Rattle.model.specs.Selection.{IsRootAt}
use Rattle.facts.specs.inner.Graphs.{NodeView}
use Rattle.facts.specs.declared.node.Node.{Node}

-- by number, the target of each of these dependencies, where a package has this list
abbrev pub targets_in : Content → List ℕ → List Dependency → List (Option ℕ)
targets_in content list ds = map (λ d. last_serving content d list) ds

abbrev pub node_of : Problem → Content → Package → NodeView
node_of q content p =
    record { brings = summary_of q p; targets = targets_in content p.list (summary_of q p).dependencies; starts = true }

abbrev pub graph_of : Problem → Content → List NodeView
graph_of q content = map (node_of q content) content

-- whether a package is the root or a candidate
abbrev pub is_known : Problem → Package → Bool
is_known q p = is_root q p || is_some (candidate_of q p)

abbrev pub are_known : List Node → List Bool
are_known nodes = map (λ n. is_some n.brings) nodes

-- the root is at this place, and nowhere else
abbrev pub IsOnlyRoot : Problem → Content → ℕ → Type 0
IsOnlyRoot q content root = (n : ℕ) → IsRootAt q content n ↔ (n ≡ root)

abbrev pub HasNoRoot : Problem → Content → Type 0
HasNoRoot q content = (n : ℕ) → IsRootAt q content n → ⊥
