-- The package that is found for an owner and its dependency is the one that the dependency leads to.
use Rattle.std.proofs.Common.{◌≡◌, ℕ, zero, suc, ◌<◌, Bool, true, false, cond, List, [], ◌∷◌, Bor, Option, Some, None}
use Rattle.std.proofs.Common.{find, length, slice_get, option_map, sym, ap, ◌∙◌}
use Rattle.std.specs.List.{All, AllPairs}
use Rattle.std.specs.Option.{option_and_then}
use Rattle.std.specs.Slice.{IsItemAt}
use Rattle.std.proofs.lemmas.List.{length-map}
use Rattle.std.proofs.lemmas.Option.{none-some, slice_get-map}
use Rattle.model.specs.Content as model
use Rattle.model.specs.Content.{Content, last_serving}
use Rattle.model.specs.Summary.{Dependency}
use Rattle.model.specs.Vertices.{Owner}
use Rattle.model.specs.Order.{IsContent}
use Rattle.model.proofs.Contents.{rising_at, within_at}
use Rattle.lockfile.specs.inner.Views.{package_view, package_views}
use Rattle.lockfile.specs.declared.package.Package.{Package}
use Rattle.catalogue.proofs.Rows.{item_at}
use Rattle.guiding.specs.inner.Found.{is_owner, led_to, served_by}
use Rattle.guiding.proofs.Owners.{find_seen}

-- what is found stands at a place
pub found_at : {X : Type 0} (t : X → Bool) (xs : List X) (x : X) → Some x ≡ find t xs
    → (n : ℕ) × (slice_get xs n ≡ Some x)
found_at t [] x e = absurd (none-some x (sym e))
found_at t (y ∷ xs) x e = by (λ h. found_at t xs x h) (t y) e
  where
    by : (Some x ≡ find t xs → (n : ℕ) × (slice_get xs n ≡ Some x)) → (b : Bool) → Some x ≡ cond b (Some y) (find t xs)
        → (n : ℕ) × (slice_get (y ∷ xs) n ≡ Some x)
    by rest true h = (zero, sym h)
    by rest false h = let r = rest h in (suc r.0, r.1)

module _ (packages : List Package) (o : Owner) (d : Dependency) where
  abbrev content : Content
  content = package_views packages

  abbrev by_owner : Option model.Package → Option model.Package
  by_owner r = option_and_then (λ (p : model.Package). served_by content d p.list) r

  abbrev by_place : Option ℕ → Option model.Package
  by_place r = option_and_then (slice_get content) r

  pub no_owner : None ≡ find (λ p. is_owner o (package_view p)) packages → None ≡ led_to content o d
  no_owner e = ap by_owner (ap (option_map package_view) e ∙ find_seen package_view (is_owner o) packages)

  at_owner : (p : Package) → Some p ≡ find (λ p. is_owner o (package_view p)) packages
      → served_by content d p.list.items ≡ led_to content o d
  at_owner p e = ap by_owner (ap (option_map package_view) e ∙ find_seen package_view (is_owner o) packages)

  pub no_place : (p : Package) → Some p ≡ find (λ p. is_owner o (package_view p)) packages
      → None ≡ last_serving content d p.list.items → None ≡ led_to content o d
  no_place p e f = ap by_place f ∙ at_owner p e

  pub at_place : (p : Package) (n : ℕ) (r : Option (Bor Package))
      → Some p ≡ find (λ p. is_owner o (package_view p)) packages
      → Some n ≡ last_serving content d p.list.items → IsItemAt packages n r
      → option_map (λ b. package_view b.now) r ≡ led_to content o d
  at_place p n r e f at =
      item_at package_view packages n r at ∙ sym (slice_get-map package_view packages n) ∙ ap by_place f ∙ at_owner p e

  -- the list of what is found is one of the content's
  module _ (formed : IsContent content) (p : Package)
      (e : Some p ≡ find (λ p. is_owner o (package_view p)) packages) where
    at : (n : ℕ) × (slice_get content n ≡ Some (package_view p))
    at = let r = found_at (λ p. is_owner o (package_view p)) packages p e in
        (r.0, slice_get-map package_view packages r.0 ∙ ap (option_map package_view) r.1)

    pub list_rises : AllPairs (λ i j. i < j) p.list.items
    list_rises = rising_at content formed at.0 (package_view p) at.1

    pub list_within : All (λ t. t < length packages) p.list.items
    list_within = let within =
        within_at content formed at.0 (package_view p) at.1 in rw (length-map packages package_view) at within
