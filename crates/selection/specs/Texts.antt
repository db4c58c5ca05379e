-- How verdicts and faults are printed (all are this project's own).
use Rattle.std.specs.Prelude.{ℕ, List, ◌++◌, codes}
use Rattle.semver.specs.Identifiers.{version_text}
use Rattle.selection.specs.declared.verdict.VerdictFault as said
use Rattle.selection.specs.declared.verdict.VerdictFault.TheVariants as fault
use Rattle.selection.specs.declared.verdict.Verdict.{Verdict}
use Rattle.selection.specs.declared.verdict.Verdict.TheVariants.{Valid, Invalid}

-- the number and the name of each

abbrev pub fault_text : said.VerdictFault → List ℕ
fault_text fault.Root = codes "V1 Root"
fault_text fault.NotCandidate = codes "V2 NotCandidate"
fault_text fault.TwoInClass = codes "V3 TwoInClass"
fault_text fault.Unmet = codes "V4 Unmet"
fault_text fault.NoFeature = codes "V5 NoFeature"
fault_text fault.List = codes "V6 List"
fault_text fault.Unreached = codes "V7 Unreached"

-- `valid`, or `invalid V6 List at NAME VERSION`
abbrev pub verdict_text : Verdict → List ℕ
verdict_text Valid = codes "valid"
verdict_text (Invalid fault name version) =
    codes "invalid " ++ (fault_text fault ++ (codes " at " ++ (name ++ (codes " " ++ version_text version))))
