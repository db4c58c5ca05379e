-- Where something stands in a manifest, and what stands there (TOML; Cargo book, "The Manifest Format").
use Rattle.std.specs.Prelude.{ℕ, List, Option, Some, None, codes, if◌then◌else◌, option_copied, option_and_then}
use Rattle.toml.specs.Data.{Data, Members, get, at, get_member}
use Rattle.model.specs.Summary.{same_text}
use Rattle.manifest_faults.specs.declared.place.Place.{Place}

-- what stands at a key of a value, or the value where no key is named
abbrev pub below : Option (List ℕ) → Option Data → Option Data
below None d = d
below (Some key) d = option_and_then (get key) d

-- what stands at a place of a list, or the value where no place is named
abbrev pub numbered : Option ℕ → Option Data → Option Data
numbered None d = d
numbered (Some n) d = option_and_then (at n) d

-- a table of the manifest: at its top, or of a target
abbrev pub section_value : Option (List ℕ) → List ℕ → Members → Option Data
section_value None section top = get_member section top
section_value (Some target) section top =
    below (Some section) (below (Some target) (get_member (codes "target") top))

-- what stands at the name of a place, or its whole table
abbrev pub named_value : Place → Members → Option Data
named_value p top = below (option_copied p.name) (section_value (option_copied p.target) p.section.now top)

-- what stands at a place
abbrev pub value_at : Place → Members → Option Data
value_at p top = numbered p.item (below (option_copied p.key) (named_value p top))

-- the spelling with underscores of a key that has two
abbrev pub underscored : List ℕ → Option (List ℕ)
underscored key = if same_text key (codes "dev-dependencies") then Some (codes "dev_dependencies")
    else if same_text key (codes "build-dependencies") then Some (codes "build_dependencies")
    else if same_text key (codes "default-features") then Some (codes "default_features")
    else None

-- a table called so instead, and what stands at a key that is called so instead
abbrev pub table_twin : Option (List ℕ) → Place → Members → Option Data
table_twin None p top = None
table_twin (Some twin) p top = section_value (option_copied p.target) twin top

abbrev pub key_twin : Option (List ℕ) → Place → Members → Option Data
key_twin None p top = None
key_twin (Some twin) p top = below (Some twin) (named_value p top)

abbrev pub twin_below : Option (List ℕ) → Place → Members → Option Data
twin_below None p top = table_twin (underscored p.section.now) p top
twin_below (Some key) p top = key_twin (underscored key) p top

-- what stands at the other spelling of the last key of a place
abbrev pub twin_at : Place → Members → Option Data
twin_at p top = twin_below (option_copied p.key) p top
