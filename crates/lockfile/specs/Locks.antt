-- What a lock says: a function of the bytes of a Cargo.lock (Cargo book, "Cargo.toml vs Cargo.lock"; TOML; SemVer
-- 2.0.0).
use Rattle.std.specs.Prelude.{ℕ, ◌+◌, ℤ, pos, negsuc, Bool, true, false, not, ◌&&◌, ◌||◌, ◌==◌, nat_le, nat_lt, nat_eq}
use Rattle.std.specs.Prelude.{if◌then◌else◌, List, [], ◌∷◌, ◌++◌, length, map, Option, Some, None, is_some, Result, Ok}
use Rattle.std.specs.Prelude.{Err, codes, option_and_then}
use Rattle.std.specs.List.{list_all, zip}
use Rattle.std.specs.Option.{ok_or, option_map_or, option_or}
use Rattle.std.specs.Result.{result_ok}
use Rattle.std.specs.Ordering.{nat_cmp}
use Rattle.std.specs.declared.cmp.Ordering.{Ordering}
use Rattle.toml.specs.Data.{Data, as_str, as_integer, as_array, as_table, get_member, Items, no_items, item, Members}
use Rattle.toml.specs.Parse.{parse_document}
use Rattle.semver.specs.Identifiers.{parts_text}
use Rattle.semver.specs.Parse.{Parts, version_parts}
use Rattle.model.specs.Outcome.{◌>>=◌, guard}
use Rattle.model.specs.Content.{of_utf8, Package, Content, same_version, same_option}
use Rattle.model.specs.Summary.{same_text}
use Rattle.model.specs.Order.{package_cmp, has_alike, in_order}
use Rattle.features.specs.Names.{is_package_name}
use Rattle.lockfile.specs.declared.fault.LockFault.{LockFault}
use Rattle.lockfile.specs.declared.fault.LockFault.TheVariants.{OutOfMemory, NotToml, LockVersion, LockShape, TooLarge}

-- the fault that says only that memory was wanting
abbrev pub wants_memory : LockFault → Bool
wants_memory OutOfMemory = true
wants_memory NotToml = false
wants_memory LockVersion = false
wants_memory LockShape = false
wants_memory TooLarge = false

-- ---- the shape of the table

-- the table that the bytes are
abbrev pub table_of_bytes : List ℕ → Result Members LockFault
table_of_bytes bytes = ok_or (of_utf8 parse_document bytes) NotToml

-- the versions of the format that are read: 1 to 4
abbrev pub is_known_version : ℤ → Bool
is_known_version (pos n) = nat_le 1 n && nat_le n 4
is_known_version (negsuc n) = false

-- `version`: absent, or a version of the format that is read
abbrev pub version_known : Members → Result (Unit {0}) LockFault
version_known top = option_map_or
    (λ d. ok_or (as_integer d) LockShape >>= λ n. guard (is_known_version n) LockVersion)
    (get_member (codes "version") top) (Ok tt)

-- the text at a key that has to be there
abbrev pub text_at : List ℕ → Members → Result (List ℕ) LockFault
text_at key section = ok_or (option_and_then as_str (get_member key section)) LockShape

-- a text that has to pass a test
abbrev pub checked : (List ℕ → Bool) → List ℕ → Result (List ℕ) LockFault
checked test text = if test text then Ok text else Err LockShape

-- a text that has to be a version
abbrev pub checked_version : List ℕ → Result Parts LockFault
checked_version text = ok_or (result_ok (version_parts text)) LockShape

-- a printable ASCII byte other than `"` and `\`
abbrev pub is_plain_byte : ℕ → Bool
is_plain_byte b = nat_le 32 b && (nat_le b 126 && (not (b == 34) && not (b == 92)))

-- `source` or `checksum`, which may be absent: a text of such bytes alone
abbrev pub plain_at : List ℕ → Members → Result (Option (List ℕ)) LockFault
plain_at key section = option_map_or
    (λ d. ok_or (as_str d) LockShape >>= λ text. checked (list_all is_plain_byte) text >>= λ plain. Ok (Some plain))
    (get_member key section) (Ok None)

-- what the items of an array say, as they stand there
unfoldable pub each_item : {A : Type 0} → (Data → Result A LockFault) → Items → Result (List A) LockFault
each_item read no_items = Ok []
each_item read (item d rest) = do
  first ← read d
  others ← each_item read rest
  Ok (first ∷ others)

-- `dependencies`, an array of texts, empty if absent
abbrev pub dependencies_at : Members → Result (List (List ℕ)) LockFault
dependencies_at section = option_map_or
    (λ d. ok_or (as_array d) LockShape >>= each_item (λ e. ok_or (as_str e) LockShape))
    (get_member (codes "dependencies") section) (Ok [])

-- a package with the texts of its dependencies: what these mean is still to be found, and its list is empty
pub record Unlinked : Type 0 where
  pub locked : Package
  pub texts : List (List ℕ)

-- one table of `package`
unfoldable pub unlinked_of : Data → Result Unlinked LockFault
unlinked_of d = do
  section ← ok_or (as_table d) LockShape
  name_text ← text_at (codes "name") section
  name ← checked is_package_name name_text
  version_text ← text_at (codes "version") section
  version ← checked_version version_text
  source ← plain_at (codes "source") section
  checksum ← plain_at (codes "checksum") section
  texts ← dependencies_at section
  Ok (record {
    locked =
        record { name = name; version = version; source = source; checksum = checksum; list = [] };
    texts = texts;
  })

-- `package`, none if absent
abbrev pub packages_at : Members → Result (List Unlinked) LockFault
packages_at top = option_map_or
    (λ d. ok_or (as_array d) LockShape >>= each_item unlinked_of) (get_member (codes "package") top) (Ok [])

-- ---- order, and what may stand once

-- two packages are alike if they agree in name, version and source
abbrev pub is_alike : Package → Package → Bool
is_alike p r = same_text p.name r.name && (same_version p.version r.version && same_option p.source r.source)

abbrev pub unlinked_alike : Unlinked → Unlinked → Bool
unlinked_alike p r = is_alike p.locked r.locked

abbrev pub unlinked_cmp : Unlinked → Unlinked → Ordering
unlinked_cmp p r = package_cmp p.locked r.locked

-- the packages in package order, no two alike
abbrev pub ordered_packages : List Unlinked → Result (List Unlinked) LockFault
ordered_packages ps = if has_alike unlinked_alike ps then Err LockShape else Ok (in_order unlinked_cmp ps)

-- ---- what a dependency text means

-- `name version`
abbrev pub version_form : Package → List ℕ
version_form p = p.name ++ (32 ∷ parts_text p.version)

-- `name version (source)`
abbrev pub source_form : Package → List ℕ → List ℕ
source_form p source = p.name ++ (32 ∷ (parts_text p.version ++ (32 ∷ (40 ∷ (source ++ (41 ∷ []))))))

-- a package has the forms `name`, `name version` and, where it has a source, `name version (source)`
abbrev pub is_form : List ℕ → Package → Bool
is_form text p = same_text text p.name || (same_text text (version_form p)
    || option_map_or (λ source. same_text text (source_form p source)) p.source false)

-- `name version` of a package without a source
abbrev pub is_form_without_source : List ℕ → Package → Bool
is_form_without_source text p = not (is_some p.source) && same_text text (version_form p)

-- the places of those that pass a test, the first place being n
abbrev pub places_from : {X : Type 0} → ℕ → (X → Bool) → List X → List ℕ
places_from n test [] = []
places_from n test (x ∷ xs) = if test x then n ∷ places_from (n + 1) test xs else places_from (n + 1) test xs

abbrev pub places : {X : Type 0} → (X → Bool) → List X → List ℕ
places test xs = places_from 0 test xs

-- the one place, if there is just one
abbrev pub only : List ℕ → Option ℕ
only (i ∷ []) = Some i
only _ = None

-- The place that a text means: of the one package of which it is a form. A `name version` that fits several packages
-- means the one without a source.
abbrev pub place_meant : Content → List ℕ → Option ℕ
place_meant content text =
    option_or (only (places (is_form text) content)) (only (places (is_form_without_source text) content))

unfoldable pub places_meant : Content → List (List ℕ) → Result (List ℕ) LockFault
places_meant content [] = Ok []
places_meant content (text ∷ texts) = do
  first ← ok_or (place_meant content text) LockShape
  others ← places_meant content texts
  Ok (first ∷ others)

-- the places lowest first, none twice
abbrev pub ordered_places : List ℕ → Result (List ℕ) LockFault
ordered_places ns = if has_alike nat_eq ns then Err LockShape else Ok (in_order nat_cmp ns)

-- the list of a package that has these texts
abbrev pub list_of : Content → List (List ℕ) → Result (List ℕ) LockFault
list_of content texts = places_meant content texts >>= ordered_places

unfoldable pub lists_of : Content → List Unlinked → Result (List (List ℕ)) LockFault
lists_of content [] = Ok []
lists_of content (p ∷ ps) = do
  first ← list_of content p.texts
  others ← lists_of content ps
  Ok (first ∷ others)

-- ---- the whole lock

abbrev pub locked_packages : List Unlinked → Content
locked_packages ps = map (λ p. p.locked) ps

-- a package with its list
abbrev pub linked : Unlinked × List ℕ → Package
linked p = record (p.0.locked) { list = p.1 }

-- what packages in order say, once each text means a package
unfoldable pub content_of : List Unlinked → Result Content LockFault
content_of ps = do
  lists ← lists_of (locked_packages ps) ps
  Ok (map linked (zip ps lists))

unfoldable pub content_of_table : Members → Result Content LockFault
content_of_table top = do
  known ← version_known top
  written ← packages_at top
  ordered ← ordered_packages written
  content_of ordered

-- 64 MiB
abbrev pub most_bytes : ℕ
most_bytes = 67108864

-- the content that the bytes of a lock say, or their fault
unfoldable pub content_of_bytes : List ℕ → Result Content LockFault
content_of_bytes bytes =
    if nat_lt most_bytes (length bytes) then Err TooLarge else (table_of_bytes bytes >>= content_of_table)
