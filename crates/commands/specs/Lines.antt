-- The lines that a run prints and the statuses that it ends with (docs/FORMATS.md retells them; all are this project's
-- own).
use Rattle.std.specs.Prelude.{◌≡◌, ℕ, Bool, true, false, ◌&&◌, List, [], ◌∷◌, ◌++◌, map, Option, Result, Ok, Err, codes}
use Rattle.std.specs.Prelude.{decimal, string_bytes}
use Rattle.std.specs.Io.KnownBytes.{Appends}
use Rattle.checker.specs.declared.outcome.Check.{Check}
use Rattle.checker.specs.declared.outcome.Check.TheVariants.{Proves, Refused}
use Rattle.index_lines.specs.Reasons.{reason_text}
use Rattle.index_reader.specs.declared.skip.Skip.{Skip}
use Rattle.selection.specs.declared.verdict.Verdict.{Verdict}
use Rattle.selection.specs.declared.verdict.Verdict.TheVariants.{Valid, Invalid}
use Rattle.resolver.specs.declared.resolving.Answer.{Answer}
use Rattle.resolver.specs.declared.resolving.Answer.TheVariants.{Lock, Unsolvable}
use Rattle.commands.specs.Endings.{ending_text, ending_view}
use Rattle.commands.specs.declared.ending.Ending.{Ending}

abbrev pub line_of : List ℕ → List ℕ
line_of text = text ++ 10 ∷ []

-- ---- statuses

abbrev pub verdict_status : Verdict → ℕ
verdict_status Valid = 0
verdict_status (Invalid fault name version) = 1

abbrev pub check_status : Check → ℕ
check_status Proves = 0
check_status (Refused step reason) = 1

-- ---- locks and skipped lines

-- `skip NAME line N S3 NewerFormat`
abbrev pub skip_line : Skip → List ℕ
skip_line s =
    line_of (codes "skip " ++ (s.name ++ (codes " line " ++ (decimal s.line ++ (codes " " ++ reason_text s.reason)))))

abbrev pub skips_of : Answer → List Skip
skips_of (Lock bytes kept skips) = skips.items
skips_of (Unsolvable derivation text skips) = skips.items

-- ---- what is written where

-- a lock goes to standard output, and a refusal leaves that as it was
abbrev pub IsPrinted : Option (List ℕ) → Option (List ℕ) → Answer → ℕ → Type 0
IsPrinted old new (Lock bytes kept skips) status = (status ≡ 0) × Appends old new bytes.items
IsPrinted old new (Unsolvable derivation text skips) status = (status ≡ 1) × (new ≡ old)

-- the status of a run: that of the answer, or 2
abbrev pub status_of : Result ℕ Ending → ℕ
status_of (Ok status) = status
status_of (Err ending) = 2

-- ---- what is told on standard error

-- a skipped line each, and then the explanation of a refusal, unless its derivation couldn't be kept
abbrev pub explained_of : Answer → Result ℕ Ending → List (List ℕ)
explained_of (Lock bytes kept skips) given = []
explained_of (Unsolvable derivation text skips) (Ok status) = string_bytes text ∷ []
explained_of (Unsolvable derivation text skips) (Err ending) = []

abbrev pub told_of : Answer → Result ℕ Ending → List (List ℕ)
told_of answer given = map skip_line (skips_of answer) ++ explained_of answer given

-- why there is no answer, which comes last
abbrev pub ending_of : Result ℕ Ending → List (List ℕ)
ending_of (Ok status) = []
ending_of (Err ending) = line_of (ending_text (ending_view ending)) ∷ []

-- a stream before, bytes that couldn't all be written to it, and the stream after
abbrev pub Fails : Type 0 → Type 1
Fails E = E → List ℕ → E → Type 0

module _ {E : Type 0} (contents : E → Option (List ℕ)) (fails : Fails E) where
  -- a write of a text, and whether all of it was written: it stands at the end, or the write failed
  abbrev pub Puts : E → List ℕ → Bool → E → Type 0
  Puts old text true new = Appends (contents old) (contents new) text
  Puts old text false new = fails old text new

  -- Each of the texts is written, in order, whatever became of those before it, and nothing else is; and whether all
  -- were written.
  abbrev pub Tells : E → List (List ℕ) → Bool → E → Type 0
  Tells old [] told new = (told ≡ true) × (new ≡ old)
  Tells old (text ∷ texts) told new = (mid : E) × (is_told others : Bool) × Puts old text is_told mid
      × Tells mid texts others new × (told ≡ (is_told && others))
