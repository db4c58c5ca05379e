-- What a lock says is a content.
use Rattle.std.proofs.Common.{◌≡◌, ℕ, Bool, true, false, nat_lt, cond, List, [], ◌∷◌, length, Option, Some, None}
use Rattle.std.proofs.Common.{Result, Ok, Err, codes, refl, sym, ◌∙◌, subst}
use Rattle.std.specs.List.{AllByRecursion}
use Rattle.std.specs.List.Sorted.{IsStrictlySortedBy}
use Rattle.std.specs.Option.{ok_or, option_map_or}
use Rattle.std.specs.Ordering.{eq_by_cmp}
use Rattle.std.specs.Result.{result_ok}
use Rattle.toml.specs.Data.{as_array, as_table, get_member, Data, Items, no_items, item, Members}
use Rattle.semver.specs.Grammar.{IsValid}
use Rattle.semver.specs.Parse.{Parts, version_parts}
use Rattle.semver.specs.declared.error.Error.{Error}
use Rattle.semver.proofs.Grammar.{version_parts-sound}
use Rattle.features.specs.Names.{is_package_name}
use Rattle.model.specs.Content.{Content}
use Rattle.model.specs.Outcome.{◌>>=◌}
use Rattle.model.specs.Order.{IsContent, has_alike, in_order}
use Rattle.lockfile.specs.Locks.{Unlinked, version_known, text_at, checked, checked_version}
use Rattle.lockfile.specs.Locks.{plain_at, dependencies_at, unlinked_of, each_item, packages_at}
use Rattle.lockfile.specs.Locks.{unlinked_alike, unlinked_cmp, ordered_packages, locked_packages, lists_of, content_of}
use Rattle.lockfile.specs.Locks.{content_of_table, content_of_bytes, table_of_bytes, most_bytes}
use Rattle.lockfile.specs.inner.Search.{IsOrdered, IsRead}
use Rattle.lockfile.specs.declared.fault.LockFault.TheVariants.{LockShape, TooLarge}
use Rattle.lockfile.proofs.Contents.{bind-ok, ok-same, linked-content}
use Rattle.lockfile.proofs.PackageOrder.{package-eq, unlinked_total, locked-sorted}
use Rattle.model.proofs.Sorting.{has_alike-agrees, distinct-from_none, sorted-in_order}

-- ---- names and versions are what their texts read as

named : (text name : List ℕ) → (b : Bool) → is_package_name text ≡ b → checked is_package_name text ≡ Ok name
    → is_package_name name ≡ true
named text name true h e =
    let is : checked is_package_name text ≡ Ok text = rw h refl in
    let same : text ≡ name = ok-same text name (sym is ∙ e) in
    subst (λ t. is_package_name t ≡ true) same h
named text name false h e = let is : checked is_package_name text ≡ Err LockShape = rw h refl in cc

valid : (text : List ℕ) (v : Parts) → (r : Result Parts Error) → version_parts text ≡ r
    → ok_or (result_ok r) LockShape ≡ Ok v → IsValid v
valid text v (Ok w) h e =
    let same : w ≡ v = ok-same w v e in
    subst IsValid same (version_parts-sound text w h).1
valid text v (Err f) h e = cc

package-read : (d : Data) (u : Unlinked) → unlinked_of d ≡ Ok u → IsRead u.locked
unfolding unlinked_of
package-read d u e =
    let section = bind-ok (ok_or (as_table d) LockShape) _ u e in
    let name_text = bind-ok (text_at (codes "name") section.0) _ u section.2 in
    let name = bind-ok (checked is_package_name name_text.0) _ u name_text.2 in
    let version_text = bind-ok (text_at (codes "version") section.0) _ u name.2 in
    let version = bind-ok (checked_version version_text.0) _ u version_text.2 in
    let source = bind-ok (plain_at (codes "source") section.0) _ u version.2 in
    let checksum = bind-ok (plain_at (codes "checksum") section.0) _ u source.2 in
    let texts = bind-ok (dependencies_at section.0) _ u checksum.2 in
    let named_so : is_package_name name.0 ≡ true = named name_text.0 name.0 _ refl name.1 in
    let valid_so : IsValid version.0 = valid version_text.0 version.0 _ refl version.1 in
    subst (λ (w : Unlinked). IsRead w.locked)
    (ok-same (record {
      locked = record {
        name = name.0;
        version = version.0;
        source = source.0;
        checksum =
            checksum.0;
        list = [];
      };
      texts = texts.0;
    }) u texts.2)
    (named_so, valid_so)

packages-read : (items : Items) (us : List Unlinked) → each_item unlinked_of items ≡ Ok us
    → AllByRecursion (λ (u : Unlinked). IsRead u.locked) us
unfolding each_item
packages-read no_items us e = let none : [] ≡ us =
    ok-same [] us e in subst (AllByRecursion (λ (u : Unlinked). IsRead u.locked)) none tt
packages-read (item d rest) us e =
    let first = bind-ok (unlinked_of d) _ us e in
    let others = bind-ok (each_item unlinked_of rest) _ us first.2 in
    subst (AllByRecursion (λ (u : Unlinked). IsRead u.locked)) (ok-same (first.0 ∷ others.0) us others.2)
    (package-read d first.0 first.1, packages-read rest others.0 others.1)

array-read : (o : Option Data) (us : List Unlinked)
    → option_map_or (λ d. ok_or (as_array d) LockShape >>= each_item unlinked_of) o (Ok []) ≡ Ok us
    → AllByRecursion (λ (u : Unlinked). IsRead u.locked) us
array-read None us e = let none : [] ≡ us =
    ok-same [] us e in subst (AllByRecursion (λ (u : Unlinked). IsRead u.locked)) none tt
array-read (Some d) us e = let items =
    bind-ok (ok_or (as_array d) LockShape) (each_item unlinked_of) us e in packages-read items.0 us items.2

-- ---- the packages stand in order

in-order : (us os : List Unlinked) → AllByRecursion (λ (u : Unlinked). IsRead u.locked) us → (b : Bool)
    → has_alike unlinked_alike us ≡ b
    → ordered_packages us ≡ Ok os → IsOrdered (locked_packages os)
in-order us os r true h e = let is : ordered_packages us ≡ Err LockShape = rw h refl in cc
in-order us os r false h e =
    let is : ordered_packages us ≡ Ok (in_order unlinked_cmp us) = rw h refl in
    let same : in_order unlinked_cmp us ≡ os = ok-same (in_order unlinked_cmp us) os (sym is ∙ e) in
    let agrees = has_alike-agrees (λ (u : Unlinked). IsRead u.locked) unlinked_alike (eq_by_cmp unlinked_cmp)
    (λ u v k l. package-eq u.locked v.locked k l) us r in
    let sorted : IsStrictlySortedBy unlinked_cmp (in_order unlinked_cmp us)
    = sorted-in_order unlinked_total us (distinct-from_none (eq_by_cmp unlinked_cmp) us (sym agrees ∙ h)) in
    subst (λ ws. IsOrdered (locked_packages ws)) same (locked-sorted (in_order unlinked_cmp us) sorted)

-- ---- the whole lock

linked-said : (os : List Unlinked) (content : Content) → IsOrdered (locked_packages os)
    → content_of os ≡ Ok content → IsContent content
unfolding content_of
linked-said os content o e =
    let lists = bind-ok (lists_of (locked_packages os) os) _ content e in
    subst IsContent (ok-same _ content lists.2) (linked-content os lists.0 o lists.1)

table-said : (top : Members) (content : Content) → content_of_table top ≡ Ok content → IsContent content
unfolding content_of_table
table-said top content e =
    let known = bind-ok (version_known top) _ content e in
    let written = bind-ok (packages_at top) _ content known.2 in
    let ordered = bind-ok (ordered_packages written.0) _ content written.2 in
    linked-said ordered.0 content
    (in-order written.0 ordered.0
    (array-read (get_member (codes "package") top) written.0 written.1) _ refl ordered.1) ordered.2

pub said-content : (bytes : List ℕ) (content : Content) → content_of_bytes bytes ≡ Ok content → IsContent content
unfolding content_of_bytes
said-content bytes content = by (nat_lt most_bytes (length bytes))
  where
    by : (b : Bool) → cond b (Err TooLarge) (table_of_bytes bytes >>= content_of_table) ≡ Ok content → IsContent content
    by true e = cc
    by false e = let table =
        bind-ok (table_of_bytes bytes) content_of_table content e in table-said table.0 content table.2
