-- What words ask of the program, by the meaning that `clap` gives them: a command, each of whose options stands at most
-- once.
use Rattle.std.specs.Prelude.{Bool, true, false, nat_lt, List, [], ◌∷◌, length, if◌then◌else◌, Option, Some, None}
use Rattle.std.specs.Prelude.{option_map, option_and_then, codes}
use Rattle.clap.specs.Words.{App, Kinds, Row, Rule, Text, fault_of, first_of, new_app, new_rule, subcommand_of}
use Rattle.clap.specs.Words.{with_rule, with_subcommand}
use Rattle.clap.specs.Simple.{on_top}
use Rattle.clap.specs.declared.builder.action.ArgAction.TheVariants.{Set, SetTrue}
use Rattle.model.specs.Summary.{same_text}

-- a command with the texts of its options
pub data WordsView : Type 0 where
  resolve : (manifest index : Text) (lock source proof : Option Text) (rust_first : Bool) → WordsView
  verify : (manifest index lock : Text) (source : Option Text) → WordsView
  check : (manifest index : Text) (lock source : Option Text) (proof : Text) → WordsView
  explain : (proof : Text) → WordsView

-- ---- the commands and their options

-- `--NAME VALUE`
abbrev pub option : Text → Rule
option name = record (new_rule name) { long = Some name; action = Some Set }

abbrev pub required : Rule → Rule
required r = record r { required = true }

-- its value has a name of its own in the help
abbrev pub with_value_name : Rule → Rule
with_value_name r = record r { value_names = 1 }

-- `--NAME`
abbrev pub flag : Text → Rule
flag name = record (new_rule name) { long = Some name; action = Some SetTrue }

abbrev pub manifest_option : Rule
manifest_option = required (option (codes "manifest"))

abbrev pub index_option : Rule
index_option = with_value_name (required (option (codes "index")))

abbrev pub lock_option : Rule
lock_option = option (codes "lock")

abbrev pub source_option : Rule
source_option = with_value_name (option (codes "source"))

abbrev pub proof_option : Rule
proof_option = option (codes "proof")

abbrev pub rust_first_flag : Rule
rust_first_flag = flag (codes "rust-first")

abbrev pub with_rules : App → List Rule → App
with_rules a [] = a
with_rules a (r ∷ rs) = with_rules (with_rule a r) rs

abbrev pub resolve_app : App
resolve_app = with_rules (new_app (codes "resolve"))
    (manifest_option ∷ index_option ∷ lock_option ∷ source_option ∷ proof_option ∷ rust_first_flag ∷ [])

abbrev pub verify_app : App
verify_app =
    with_rules (new_app (codes "verify")) (manifest_option ∷ index_option ∷ required lock_option ∷ source_option ∷ [])

abbrev pub check_app : App
check_app = with_rules (new_app (codes "check"))
    (manifest_option ∷ index_option ∷ lock_option ∷ required proof_option ∷ source_option ∷ [])

abbrev pub explain_app : App
explain_app = with_rules (new_app (codes "explain")) (required proof_option ∷ [])

-- one command has to be named; the version can be asked for
abbrev pub bare_app : App
bare_app = on_top (λ s. record s { subcommand_required = true; has_version = true }) (new_app (codes "relock"))

-- the whole program
abbrev pub relock_app : App
relock_app =
    with_subcommand (with_subcommand (with_subcommand (with_subcommand bare_app resolve_app.top) verify_app.top)
    check_app.top) explain_app.top

-- ---- what the options say

abbrev pub is_set : Option Text → Bool
is_set None = false
is_set (Some value) = same_text value (codes "true")

abbrev pub resolve_of : List Row → Option WordsView
resolve_of rows = option_and_then (λ m. option_map (λ i.
    resolve m i (first_of (codes "lock") rows) (first_of (codes "source") rows) (first_of (codes "proof") rows)
    (is_set (first_of (codes "rust-first") rows)))
    (first_of (codes "index") rows)) (first_of (codes "manifest") rows)

abbrev pub verify_of : List Row → Option WordsView
verify_of rows =
    option_and_then (λ m. option_and_then (λ i. option_map (λ l. verify m i l (first_of (codes "source") rows))
    (first_of (codes "lock") rows)) (first_of (codes "index") rows)) (first_of (codes "manifest") rows)

abbrev pub check_of : List Row → Option WordsView
check_of rows = option_and_then (λ m. option_and_then
    (λ i. option_map (λ p. check m i (first_of (codes "lock") rows) (first_of (codes "source") rows) p)
    (first_of (codes "proof") rows)) (first_of (codes "index") rows)) (first_of (codes "manifest") rows)

abbrev pub explain_of : List Row → Option WordsView
explain_of rows = option_map explain (first_of (codes "proof") rows)

abbrev pub command_of : Text × List Row → Option WordsView
command_of p =
    if same_text p.0 (codes "resolve") then resolve_of p.1
    else if same_text p.0 (codes "verify") then verify_of p.1
    else if same_text p.0 (codes "check") then check_of p.1
    else if same_text p.0 (codes "explain") then explain_of p.1
    else None

-- a bare name asks for help
abbrev pub or_help : List Text → List Text
or_help words = if nat_lt 1 (length words) then words else codes "relock" ∷ codes "--help" ∷ []

-- the command and the options that `clap` gives these words
unfoldable pub parsed : List Text → Option WordsView
parsed words = option_and_then command_of (subcommand_of relock_app words)

-- the command and the options that the words give, the program's name first
abbrev pub asked : List Text → Option WordsView
asked words = parsed (or_help words)

-- the kinds of error that `clap` gives these words; none where it takes them
unfoldable pub faults : List Text → Kinds
faults words = fault_of relock_app words
