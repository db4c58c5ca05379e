-- The source of a run: the text of `--source`, or that of crates.io.
use Rattle.std.specs.Prelude.{◌≡◌, ℕ, true, false, List, Option, unwrap_or, codes}
use Rattle.catalogue.specs.Sources.{is_source}
use Rattle.commands.specs.Endings.{bad_source, ending_view}
use Rattle.commands.specs.declared.ending.Ending.{Ending}

abbrev pub source_text : Option (List ℕ) → List ℕ
source_text text = unwrap_or text (codes "registry+https://github.com/rust-lang/crates.io-index")

abbrev pub IsSource : Option (List ℕ) → List ℕ → Type 0
IsSource text source = (source ≡ source_text text) × (is_source source ≡ true)

-- a text that is none ends a run before any file is read
abbrev pub IsBadSource : Option (List ℕ) → Ending → Type 0
IsBadSource text ending = (ending_view ending ≡ bad_source) × (is_source (source_text text) ≡ false)
