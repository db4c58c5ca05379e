-- What a manifest says of its package, and of the workspace that it may belong to (Cargo book, "The Manifest Format"
-- and "Workspaces").
use Rattle.std.specs.Prelude.{ℕ, Bool, true, false, if◌then◌else◌, List, [], Option, Some, None, Ok, Err, codes}
use Rattle.std.specs.Prelude.{option_and_then}
use Rattle.std.specs.Option.{option_map_or}
use Rattle.std.specs.Result.{result_ok, result_unwrap_or}
use Rattle.toml.specs.Text.{has_items}
use Rattle.toml.specs.Data.{Data, as_str, as_array, as_table, get_member, Members}
use Rattle.semver.specs.Parse.{Parts, version_parts}
use Rattle.model.specs.Outcome.{◌>>=◌}
use Rattle.classes.specs.Classes.{rust_version_of}
use Rattle.tables.specs.Rows.{has_rows}
use Rattle.manifest.specs.Values.{Shaped, wanted, or_absent, text_of, table_of, has_key, package_name_of}
use Rattle.manifest.specs.declared.fault.ManifestFault.TheVariants.{Shape}
use Rattle.manifest.specs.declared.fault.Part.{Part}
use Rattle.manifest.specs.declared.fault.Part.TheVariants as part

pub record PackageView : Type 0 where
  pub name : List ℕ
  pub version : Parts
  pub rust_version : Option (ℕ × ℕ × ℕ)

-- a table with the key `workspace`: what it stands for is the workspace's
abbrev pub is_inherited : Option Members → Bool
is_inherited o = option_map_or (has_key (codes "workspace")) o false

-- what a key of `[package]` says, or none where the workspace says it
abbrev pub own_or_inherited : {A : Type 0} → (Data → Shaped A) → Data → Shaped (Option A)
own_or_inherited read d = if is_inherited (as_table d) then Ok None else (read d >>= λ a. Ok (Some a))

abbrev pub name_in : Data → Shaped (List ℕ)
name_in d = text_of part.Package d >>= package_name_of part.Package

-- `package.name`, which is required
unfoldable pub name_of : Members → Shaped (Option (List ℕ))
name_of section = wanted part.Package (get_member (codes "name") section) >>= own_or_inherited name_in

abbrev pub version_in : Data → Shaped Parts
version_in d = text_of part.Package d >>= λ text. wanted part.Package (result_ok (version_parts text))

-- `package.version`, 0.0.0 where it is absent
unfoldable pub version_of : Members → Shaped (Option Parts)
version_of section =
    or_absent (Some (0, 0, 0, [], [])) (own_or_inherited version_in) (get_member (codes "version") section)

-- `package.rust-version`: what is no Rust version counts as absent
abbrev pub rust_version_in : Members → Option (ℕ × ℕ × ℕ)
rust_version_in section =
    option_and_then rust_version_of (option_and_then as_str (get_member (codes "rust-version") section))

-- a package with its own name and version
abbrev pub package_with : Option (List ℕ) → Option Parts → Option (ℕ × ℕ × ℕ) → Option PackageView
package_with (Some name) (Some version) rust_version =
    Some (record { name = name; version = version; rust_version = rust_version })
package_with _ _ _ = None

unfoldable pub package_in : Members → Shaped (Option PackageView)
package_in section = do
  name ← name_of section
  version ← version_of section
  Ok (package_with name version (rust_version_in section))

abbrev pub list_has_items : Data → Shaped Bool
list_has_items d = wanted part.Workspace (as_array d) >>= λ ds. Ok (has_items ds)

-- whether a workspace has members
abbrev pub members_at : Members → Shaped Bool
members_at t = or_absent false list_has_items (get_member (codes "members") t)

-- whether `[workspace]` has members
abbrev pub workspace_of : Members → Shaped Bool
workspace_of top = or_absent false (λ d. table_of part.Workspace d >>= members_at) (get_member (codes "workspace") top)

-- whether a table is there and isn't empty
abbrev pub is_written : Part → List ℕ → Members → Shaped Bool
is_written p key top = or_absent false (λ d. table_of p d >>= λ t. Ok (has_rows t)) (get_member key top)

-- without `[package]` there has to be a workspace with members
abbrev pub package_at : Shaped Bool → Option Data → Shaped (Option PackageView)
package_at members None = if result_unwrap_or members false then Ok None else Err (Shape part.Package)
package_at members (Some d) = table_of part.Package d >>= package_in

-- `[package]`, or none where its name or version is left to a workspace, or where it is absent beside a workspace with
-- members
unfoldable pub package_of : Members → Shaped (Option PackageView)
package_of top = package_at (workspace_of top) (get_member (codes "package") top)
