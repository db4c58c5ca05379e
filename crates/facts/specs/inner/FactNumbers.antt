-- The numbers of facts: each package has its own, one after another.
use Rattle.std.specs.Prelude.{◌≡◌, ◌+◌, ℕ, suc, Bool, false, List, [], ◌∷◌, ◌++◌, map, length}
use Rattle.std.specs.Prelude.{Option, slice_get, option_and_then, option_map}
use Rattle.std.specs.List.{filter, flat_map}
use Rattle.model.specs.Summary.{Summary, Dependency, Table, same_text}
use Rattle.features.specs.inner.Places.{place_of}
use Rattle.features.specs.Views.{dependency_view, brings_view}
use Rattle.facts.specs.declared.fact_numbers.Link.{Link}
use Rattle.facts.specs.declared.fact_numbers.FactNumbers.{FactNumbers}
use Rattle.facts.specs.inner.Graphs.{NodeView}

-- a dependency with the number of the fact that it is enabled, and the place to which it leads
pub record LinkView : Type 0 where
  pub dependency : Dependency
  pub enabled : ℕ
  pub target : Option ℕ

abbrev pub link_view : Link → LinkView
link_view l = record { dependency = dependency_view l.dependency.now; enabled = l.enabled; target = l.target }

abbrev pub link_views : List Link → List LinkView
link_views ls = map link_view ls

-- those that are called so
abbrev pub links_called : List ℕ → List LinkView → List LinkView
links_called d ls = filter (λ l. same_text d l.dependency.name) ls

-- the number of a feature of a table, where that of its first is k
abbrev pub number_in : ℕ → List ℕ → Table → Option ℕ
number_in k f table = option_map (λ i. k + i) (place_of f table)

pub record FactNumbersView : Type 0 where
  pub brings : Summary
  -- that it is here
  pub here : ℕ
  -- that a feature is on which it lacks
  pub lacks : ℕ
  -- that a feature is on which it has
  pub numbers : List ℕ → Option ℕ
  -- its dependencies by number, and those called so
  pub links : List LinkView
  pub called : List ℕ → List LinkView

abbrev pub numbers_view : FactNumbers → FactNumbersView
numbers_view p = record {
  brings = brings_view p.brings;
  here = p.here;
  lacks = p.lacks;
  numbers = λ f. number_in p.features f (brings_view p.brings).features;
  links = link_views p.links.items;
  called = λ d. links_called d (link_views p.called.items);
}

abbrev pub numbers_views : List FactNumbers → List FactNumbersView
numbers_views ps = map numbers_view ps

-- the dependencies with their numbers, where the first of them is dependency i and has the number k
abbrev pub links_from : ℕ → List (Option ℕ) → ℕ → List Dependency → List LinkView
links_from k targets i [] = []
links_from k targets i (d ∷ ds) =
    record { dependency = d; enabled = k; target = option_and_then (λ o. o) (slice_get targets i) }
    ∷ links_from (suc k) targets (suc i) ds

-- the numbers of a package's facts begin at k
pub record IsNumberedFrom (k : ℕ) (x : NodeView) (p : FactNumbersView) : Type 0 where
  pub brings : p.brings ≡ x.brings
  pub here : p.here ≡ k
  pub lacks : p.lacks ≡ suc k
  pub numbers : (f : List ℕ) → p.numbers f ≡ number_in (suc (suc k)) f x.brings.features
  pub links : p.links ≡ links_from (suc (suc k) + length x.brings.features) x.targets 0 x.brings.dependencies
  pub called : (d : List ℕ) → p.called d ≡ links_called d p.links

-- a flag for something that isn't marked
abbrev pub unmarked_for : {X : Type 0} → List X → List Bool
unmarked_for xs = map (λ x. false) xs

-- what is marked of a package's facts from the start
abbrev pub flags_of : NodeView → List Bool
flags_of x = x.starts ∷ false ∷ unmarked_for x.brings.features ++ unmarked_for x.brings.dependencies

-- the numbers of the packages' facts, one package after another from k on
abbrev pub AreNumberedFrom : ℕ → List NodeView → List FactNumbersView → Type 0
AreNumberedFrom k [] [] = Unit {0}
AreNumberedFrom k [] (p ∷ ps) = ⊥
AreNumberedFrom k (x ∷ xs) [] = ⊥
AreNumberedFrom k (x ∷ xs) (p ∷ ps) = IsNumberedFrom k x p × AreNumberedFrom (k + length (flags_of x)) xs ps

abbrev pub flags_of_all : List NodeView → List Bool
flags_of_all xs = flat_map flags_of xs
