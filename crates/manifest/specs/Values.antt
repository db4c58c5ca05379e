-- Values and keys in the tables of a manifest (Cargo book, "The Manifest Format"; TOML).
use Rattle.std.specs.Prelude.{ℕ, Bool, if◌then◌else◌, List, [], ◌∷◌, Option, Some, None, Result, Ok, Err, is_some}
use Rattle.std.specs.Option.{ok_or}
use Rattle.toml.specs.Data.{Data, as_str, as_bool, as_table, get_member, Members, no_members, member}
use Rattle.model.specs.Outcome.{◌>>=◌}
use Rattle.features.specs.Names.{is_package_name, is_feature_name}
use Rattle.manifest.specs.declared.fault.ManifestFault.{ManifestFault}
use Rattle.manifest.specs.declared.fault.ManifestFault.TheVariants.{Shape}
use Rattle.manifest.specs.declared.fault.Part.{Part}

-- what is read, or the part that has another shape
abbrev pub Shaped : Type 0 → Type 0
Shaped A = Result A ManifestFault

-- what a value of the wanted kind says: any other has the wrong shape
abbrev pub wanted : {A : Type 0} → Part → Option A → Shaped A
wanted p o = ok_or o (Shape p)

-- what a key says that means something where it is absent, too
abbrev pub or_absent : {A : Type 0} → A → (Data → Shaped A) → Option Data → Shaped A
or_absent absent read None = Ok absent
or_absent absent read (Some d) = read d

-- what the members of a table say, by the bytes of their keys: a table of TOML has its keys in this order, each once
unfoldable pub each_member : {A : Type 0} → (List ℕ → Data → Shaped A) → Members → Shaped (List A)
each_member read no_members = Ok []
each_member read (member key d rest) = do
  first ← read key d
  others ← each_member read rest
  Ok (first ∷ others)

abbrev pub text_of : Part → Data → Shaped (List ℕ)
text_of p d = wanted p (as_str d)

abbrev pub flag_of : Part → Data → Shaped Bool
flag_of p d = wanted p (as_bool d)

abbrev pub table_of : Part → Data → Shaped Members
table_of p d = wanted p (as_table d)

abbrev pub has_key : List ℕ → Members → Bool
has_key key t = is_some (get_member key t)

-- one of two spellings, of which only one may stand
abbrev pub one_of : Part → Option Data → Option Data → Shaped (Option Data)
one_of p (Some d) (Some e) = Err (Shape p)
one_of p (Some d) None = Ok (Some d)
one_of p None o = Ok o

-- the value at a key with a dash, which may be spelled with an underscore
abbrev pub either_at : Part → List ℕ → List ℕ → Members → Shaped (Option Data)
either_at p dashed underscored t = one_of p (get_member dashed t) (get_member underscored t)

-- a text that has to be a name
abbrev pub package_name_of : Part → List ℕ → Shaped (List ℕ)
package_name_of p text = if is_package_name text then Ok text else Err (Shape p)

abbrev pub feature_name_of : Part → List ℕ → Shaped (List ℕ)
feature_name_of p text = if is_feature_name text then Ok text else Err (Shape p)
