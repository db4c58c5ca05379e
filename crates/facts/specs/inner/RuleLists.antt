-- The rules of features over the numbers of facts (Cargo book, "Features").
use Rattle.std.specs.Prelude.{ℕ, suc, Bool, not, ◌||◌, if◌then◌else◌, List, [], ◌∷◌, ◌++◌, map, Option, None, Some}
use Rattle.std.specs.Prelude.{nat_eq, slice_get, unwrap_or, option_and_then}
use Rattle.std.specs.List.{flat_map}
use Rattle.facts.specs.inner.Chains.{has}
use Rattle.facts.specs.declared.rule.Rule.{Rule}
use Rattle.model.specs.Summary.{Table, Entry, feature, dependency, dependency_feature, weak_feature, entries_at}
use Rattle.model.specs.Summary.{asked_of_target}
use Rattle.facts.specs.inner.FactNumbers.{LinkView, FactNumbersView}

-- a rule that needs one fact
abbrev pub one : ℕ → ℕ → Rule
one a g = record { first = a; second = a; gives = g }

abbrev pub both : ℕ → ℕ → ℕ → Rule
both a b g = record { first = a; second = b; gives = g }

-- the number of the fact that a feature is on at a package
abbrev pub number_on : FactNumbersView → List ℕ → ℕ
number_on p f = unwrap_or (p.numbers f) p.lacks

abbrev pub package_at : List FactNumbersView → Option ℕ → Option FactNumbersView
package_at ps target = option_and_then (λ t. slice_get ps t) target

-- facts ask a target for a feature
abbrev pub ask : ℕ → ℕ → Option FactNumbersView → List ℕ → List Rule
ask a b None g = []
ask a b (Some q) g = both a b (number_on q g) ∷ []

abbrev pub ask_features : ℕ → FactNumbersView → List (List ℕ) → List Rule
ask_features a q fs = flat_map (λ f. one a (number_on q f) ∷ []) fs

-- an enabled dependency brings its target, and asks it for features
abbrev pub arrive : LinkView → Option FactNumbersView → List Rule
arrive l None = []
arrive l (Some q) = one l.enabled q.here ∷ ask_features l.enabled q (asked_of_target l.dependency)

-- whether the package needs the dependency
abbrev pub is_needed : Bool → LinkView → Bool
is_needed is_root l = is_root || not l.dependency.optional

abbrev pub need : Bool → ℕ → LinkView → List Rule
need is_root here l = if is_needed is_root l then one here l.enabled ∷ [] else []

-- the dependencies are enabled
abbrev pub enable_all : ℕ → List LinkView → List Rule
enable_all a ls = flat_map (λ l. one a l.enabled ∷ []) ls

module _ (ps : List FactNumbersView) where
  abbrev pub link_rules : Bool → ℕ → LinkView → List Rule
  link_rules is_root here l = need is_root here l ++ arrive l (package_at ps l.target)

  -- each target is asked for a feature, whether or not its dependency is enabled, or only where it is
  abbrev pub ask_all : ℕ → List LinkView → List ℕ → List Rule
  ask_all a ls g = flat_map (λ l. ask a a (package_at ps l.target) g) ls

  abbrev pub ask_enabled : ℕ → List LinkView → List ℕ → List Rule
  ask_enabled a ls g = flat_map (λ l. ask a l.enabled (package_at ps l.target) g) ls

  -- an entry of a feature whose fact has the number a
  abbrev pub entry_rules : FactNumbersView → ℕ → Entry → List Rule
  entry_rules p a (feature g) = one a (number_on p g) ∷ []
  entry_rules p a (dependency d) = enable_all a (p.called d)
  entry_rules p a (dependency_feature d g) = enable_all a (p.called d) ++ ask_all a (p.called d) g
  entry_rules p a (weak_feature d g) = ask_enabled a (p.called d) g

  -- an entry of the root, which is here
  abbrev pub root_rules : FactNumbersView → Entry → List Rule
  root_rules p (feature g) = []
  root_rules p (dependency d) = []
  root_rules p (dependency_feature d g) = ask_all p.here (p.called d) g
  root_rules p (weak_feature d g) = ask_all p.here (p.called d) g

  abbrev pub root_entries : FactNumbersView → List Entry → List Rule
  root_entries p es = flat_map (root_rules p) es

  abbrev pub root_table : FactNumbersView → Table → List Rule
  root_table p table = flat_map (λ row. root_entries p row.1) table

  abbrev pub entries_rules : FactNumbersView → ℕ → List Entry → List Rule
  entries_rules p a es = flat_map (entry_rules p a) es

  -- a feature with its entries in the table
  abbrev pub feature_rules : FactNumbersView → Table → List ℕ → List Rule
  feature_rules p table f = entries_rules p (number_on p f) (unwrap_or (entries_at f table) [])

  abbrev pub features_rules : FactNumbersView → Table → List Rule
  features_rules p table = flat_map (λ row. feature_rules p table row.0) table

  abbrev pub table_rules : Bool → FactNumbersView → Table → List Rule
  table_rules is_root p table = features_rules p table ++ (if is_root then root_table p table else [])

  abbrev pub package_rules : Bool → FactNumbersView → List Rule
  package_rules is_root p = flat_map (link_rules is_root p.here) p.links ++ table_rules is_root p p.brings.features

  -- the rules of packages, where the first of them stands at place n
  abbrev pub rules_from : ℕ → ℕ → List FactNumbersView → List Rule
  rules_from root n [] = []
  rules_from root n (p ∷ qs) = package_rules (nat_eq n root) p ++ rules_from root (suc n) qs

abbrev pub all_rules : ℕ → List FactNumbersView → List Rule
all_rules root ps = rules_from ps root 0 ps

-- ---- the answers

-- which packages are here
abbrev pub here_flags : List Bool → List FactNumbersView → List Bool
here_flags marked ps = map (λ p. has marked p.here) ps

abbrev pub lacks_flags : List Bool → List FactNumbersView → List Bool
lacks_flags marked ps = map (λ p. has marked p.lacks) ps

abbrev pub link_flags : List Bool → List LinkView → List Bool
link_flags marked ls = map (λ l. has marked l.enabled) ls

abbrev pub enabled_flags : List Bool → List FactNumbersView → List (List Bool)
enabled_flags marked ps = map (λ p. link_flags marked p.links) ps
