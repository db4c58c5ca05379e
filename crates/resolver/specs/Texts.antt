-- How faults are printed: the number and the name of each, and what it is about (all are this project's own).
use Rattle.std.specs.Prelude.{ℕ, List, ◌++◌, codes, string_bytes}
use Rattle.semver.specs.Identifiers.{version_text}
use Rattle.manifest.specs.Faults.{part_name, source_name, table_fault_code}
use Rattle.catalogue.specs.Faults.{limit_text}
use Rattle.derivations.specs.Faults as derivation
use Rattle.resolver.specs.declared.fault.Fault.{Fault}
use Rattle.resolver.specs.declared.fault.Fault.TheVariants as fault
use Rattle.resolver.specs.declared.fault.TooLarge.{TooLarge}
use Rattle.resolver.specs.declared.fault.TooLarge.TheVariants as large
use Rattle.resolver.specs.declared.fault.CheckFault.{CheckFault}
use Rattle.resolver.specs.declared.fault.CheckFault.TheVariants.{Input, Proof}

abbrev pub large_text : TooLarge → List ℕ
large_text large.Manifest = codes "manifest"
large_text large.Lock = codes "lock"
large_text (large.Index limit) = limit_text limit

abbrev pub fault_text : Fault → List ℕ
fault_text fault.OutOfMemory = codes "fault 1 OutOfMemory"
fault_text fault.ManifestNotToml = codes "fault 2 ManifestNotToml"
fault_text (fault.ManifestShape part) = codes "fault 3 ManifestShape " ++ part_name part
fault_text (fault.UnsupportedSource kind) = codes "fault 4 UnsupportedSource " ++ source_name kind
fault_text (fault.BadRequirement name) = codes "fault 5 BadRequirement at " ++ name
fault_text (fault.RootFeature f feature) =
    codes "fault 6 RootFeature " ++ (table_fault_code f ++ (codes " at " ++ feature))
fault_text fault.LockNotToml = codes "fault 7 LockNotToml"
fault_text fault.LockVersion = codes "fault 8 LockVersion"
fault_text fault.LockShape = codes "fault 9 LockShape"
fault_text (fault.FolderFailed path) = codes "fault 10 FolderFailed at " ++ string_bytes path
fault_text (fault.TooLarge which) = codes "fault 11 TooLarge " ++ large_text which
fault_text (fault.ChecksumChanged name version) =
    codes "fault 12 ChecksumChanged at " ++ (name ++ (codes " " ++ version_text version))
fault_text fault.NotReadBack = codes "fault 14 NotReadBack"

abbrev pub check_fault_text : CheckFault → List ℕ
check_fault_text (Input f) = fault_text f
check_fault_text (Proof f) = codes "fault " ++ derivation.fault_text f
