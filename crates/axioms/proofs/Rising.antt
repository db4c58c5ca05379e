-- Versions that are oldest first rise in the written order, and so do their states.
use Rattle.std.proofs.Common.{◌≡◌, Bool, List, [], ◌∷◌, map, filter, refl, ap}
use Rattle.std.specs.List.{All, AllByRecursion}
use Rattle.std.specs.List.Sorted.{IsStrictlySortedBy}
use Rattle.std.specs.Ordering.{ordering_then}
use Rattle.std.specs.declared.cmp.Ordering.TheVariants.{Less}
use Rattle.std.proofs.lemmas.List.Kept.{IsStrictlySortedBy-filter}
use Rattle.semver.specs.Eval.{precedence_cmp}
use Rattle.semver.specs.Identifiers.{parts_of, parts_text}
use Rattle.semver.specs.Parse.{Parts}
use Rattle.semver.specs.declared.Version.{Version}
use Rattle.model.specs.Order.{precedence, text_cmp, version_cmp}
use Rattle.model.specs.Vertices.{absent, version}
use Rattle.model.proofs.Lists.{all_first, all_rest, pairs_all, pairs_rest}
use Rattle.vertices.specs.Orders.{state_cmp}
use Rattle.lookups.specs.inner.Ranges.{AreRising, versions_with}

older : (v w : Parts) → precedence v w ≡ Less → version_cmp v w ≡ Less
older v w h = ap (λ o. ordering_then o (text_cmp (parts_text v) (parts_text w))) h

pub rising_parts : (vs : List Version) → AreRising vs → IsStrictlySortedBy version_cmp (map parts_of vs)
unfolding IsStrictlySortedBy
rising_parts [] h = tt
rising_parts (v ∷ vs) h = (
  later vs (pairs_all (λ v w. precedence_cmp v w ≡ Less) v vs h),
  rising_parts vs (pairs_rest (λ v w. precedence_cmp v w ≡ Less) v vs h),
)
  where
    later : (ws : List Version) → All (λ w. precedence_cmp v w ≡ Less) ws
        → AllByRecursion (λ p. version_cmp (parts_of v) p ≡ Less) (map parts_of ws)
    later [] a = tt
    later (w ∷ ws) a = (
      older (parts_of v) (parts_of w) (all_first (λ w. precedence_cmp v w ≡ Less) w ws a),
      later ws (all_rest (λ w. precedence_cmp v w ≡ Less) w ws a),
    )

states_rise : (ps : List Parts) → IsStrictlySortedBy version_cmp ps → IsStrictlySortedBy state_cmp (map version ps)
unfolding IsStrictlySortedBy
states_rise [] h = tt
states_rise (p ∷ ps) h = (later ps h.0, states_rise ps h.1)
  where
    later : (qs : List Parts) → AllByRecursion (λ q. version_cmp p q ≡ Less) qs
        → AllByRecursion (λ s. state_cmp (version p) s ≡ Less) (map version qs)
    later [] a = tt
    later (q ∷ qs) a = (a.0, later qs a.1)

-- the states of those that pass
pub those_rise : (t : Parts → Bool) (vs : List Version) → AreRising vs
    → IsStrictlySortedBy state_cmp (versions_with t (map parts_of vs))
those_rise t vs h = states_rise (filter t (map parts_of vs))
    (IsStrictlySortedBy-filter version_cmp t (map parts_of vs) (rising_parts vs h))

-- and `absent` before them
pub absent_first : (t : Parts → Bool) (vs : List Version) → AreRising vs
    → IsStrictlySortedBy state_cmp (absent ∷ versions_with t (map parts_of vs))
unfolding IsStrictlySortedBy
absent_first t vs h = (before (filter t (map parts_of vs)), those_rise t vs h)
  where
    before : (ps : List Parts) → AllByRecursion (λ s. state_cmp absent s ≡ Less) (map version ps)
    before [] = tt
    before (p ∷ ps) = (refl, before ps)
