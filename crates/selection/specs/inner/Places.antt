-- What is found of a lock and of each of its packages, and which fault of a package is the lowest.
use Rattle.std.specs.Prelude.{◌≡◌, ◌↔◌, ℕ, suc, Bool, true, false, not, is_some, if◌then◌else◌, List, [], ◌∷◌, ◌++◌}
use Rattle.std.specs.Prelude.{Option, Some, None, slice_get, map}
use Rattle.std.specs.Ordering.{is_eq, nat_cmp}
use Rattle.facts.specs.declared.rule.Rule.{Rule}
use Rattle.facts.specs.inner.Graphs.{node_views, flag_at, flag_in}
use Rattle.lockfile.specs.inner.Views.{package_views}
use Rattle.model.specs.Selection.{enabled, on, IsFact, IsReached}
use Rattle.model.specs.Content.{Content, Problem, summary_at}
use Rattle.model.specs.Summary.{has_feature}
use Rattle.model.specs.Verdict.{VerdictFault, not_candidate, two_in_class, unmet, no_feature, wrong_list, unreached}
use Rattle.model.specs.Verdict.{IsFreeOf}
use Rattle.model.specs.Order.{IsContent}
use Rattle.selection.specs.inner.Graphs.{graph_of, is_known, are_known, IsOnlyRoot, HasNoRoot}
use Rattle.selection.specs.declared.checked.Checked.{Checked}
use Rattle.selection.specs.declared.findings.Findings.{Findings}
use Rattle.selection.specs.declared.verdict.VerdictFault as said
use Rattle.selection.specs.declared.verdict.VerdictFault.TheVariants as fault

-- ---- lists

-- the rules "where this place is reached, so is each of its list"
abbrev pub rules_at : ℕ → List ℕ → List Rule
rules_at n list = map (λ t. record { first = n; second = n; gives = t }) list

-- those of packages, the first of which is at place n
abbrev pub rules_from : ℕ → Content → List Rule
rules_from n [] = []
rules_from n (p ∷ ps) = rules_at n p.list ++ rules_from (suc n) ps

-- ---- one package

-- whether it is free of a fault
abbrev pub is_free : Checked → VerdictFault → Bool
is_free k not_candidate = k.candidate
is_free k two_in_class = k.alone
is_free k unmet = k.met
is_free k no_feature = k.featured
is_free k wrong_list = k.listed
is_free k unreached = k.reached

-- the lowest fault that isn't ruled out, in the order of their numbers
abbrev pub lowest_of : Bool → Bool → Bool → Bool → Bool → Bool → Option VerdictFault
lowest_of false b c d e f = Some not_candidate
lowest_of true false c d e f = Some two_in_class
lowest_of true true false d e f = Some unmet
lowest_of true true true false e f = Some no_feature
lowest_of true true true true false f = Some wrong_list
lowest_of true true true true true false = Some unreached
lowest_of true true true true true true = None

abbrev pub lowest : Checked → Option VerdictFault
lowest k = lowest_of k.candidate k.alone k.met k.featured k.listed k.reached

-- the fault of the program
abbrev pub fault_of : VerdictFault → said.VerdictFault
fault_of not_candidate = fault.NotCandidate
fault_of two_in_class = fault.TwoInClass
fault_of unmet = fault.Unmet
fault_of no_feature = fault.NoFeature
fault_of wrong_list = fault.List
fault_of unreached = fault.Unreached

-- what is found is what holds of the package at this place
abbrev pub IsChecked : Problem → Content → ℕ → Checked → Type 0
IsChecked q content n k = (v : VerdictFault) → (is_free k v ≡ true) ↔ IsFreeOf q content v n

-- an enabled dependency has no target
abbrev pub AreMet : List Bool → List (Option ℕ) → Type 0
AreMet flags targets = (i : ℕ) → flag_at flags i ≡ true → slice_get targets i ≡ Some None → ⊥

-- where a dependency leads that is there
abbrev pub target_given : Option (Option ℕ) → Option ℕ
target_given None = None
target_given (Some o) = o

-- where a dependency leads that is enabled
abbrev pub enabled_target : List Bool → List (Option ℕ) → ℕ → Option ℕ
enabled_target flags targets n = if flag_at flags n then target_given (slice_get targets n) else None

-- whether a set has a place, that had it or not, with one place more
abbrev pub with_target : Option ℕ → ℕ → Bool → Bool
with_target None t was = was
with_target (Some x) t was = if is_eq (nat_cmp x t) then true else was

-- a dependency that is there has no target
abbrev pub is_missing : Option (Option ℕ) → Bool
is_missing None = false
is_missing (Some o) = not (is_some o)

-- an enabled dependency leads there
abbrev pub IsLedTo : List Bool → List (Option ℕ) → ℕ → Type 0
IsLedTo flags targets t = (i : ℕ) × (flag_at flags i ≡ true) × (slice_get targets i ≡ Some (Some t))

-- ---- all packages

abbrev pub content_in : Findings → Content
content_in f = package_views f.content.now

-- a feature is on that doesn't exist there
abbrev pub Lacks : Problem → Content → ℕ → Type 0
Lacks q content n = (g : List ℕ) × IsFact q content (on n g) × (has_feature (summary_at q content n).features g ≡ false)

-- what is found of a lock is what holds of it
pub record AreFindings (q : Problem) (f : Findings) : Type 0 where
  pub only_root : IsOnlyRoot q (content_in f) f.root
  pub graph_is : node_views f.nodes.items ≡ graph_of q (content_in f)
  pub known_is : are_known f.nodes.items ≡ map (is_known q) (content_in f)
  pub enabled_is : (n i : ℕ)
      → (flag_in (map (λ v. v.items) f.facts.enabled.items) n i ≡ true) ↔ IsFact q (content_in f) (enabled n i)
  pub lacks_is : (n : ℕ) → (flag_at f.facts.lacks.items n ≡ true) ↔ Lacks q (content_in f) n
  pub reached_is : (n : ℕ) → (flag_at f.reached.items n ≡ true) ↔ IsReached q (content_in f) n

-- what is found of a content, which has a root or has none
abbrev pub AreFound : Problem → Content → Option Findings → Type 0
AreFound q content None = IsContent content × HasNoRoot q content
AreFound q content (Some f) = IsContent content × (content_in f ≡ content) × AreFindings q f
