-- What a search for the part of a manifest that has a fault may give.
use Rattle.std.specs.Prelude.{◌≡◌, true, Option, Result, IfOk, IfSome}
use Rattle.std.specs.declared.alloc.AllocError.{AllocError}
use Rattle.toml.specs.View.{table_view}
use Rattle.manifest_faults.specs.inner.Blame.{is_blamed}
use Rattle.manifest_faults.specs.declared.why.Culprit.{Culprit}
use Rattle.manifest_faults.specs.declared.sought.Sought.{Sought}

-- a part that has the fault which is sought, or nothing
abbrev pub IsFound : Sought → Result (Option Culprit) AllocError → Type 0
IsFound s found =
    IfOk found (λ o. IfSome o (λ c. is_blamed s.fault.now (table_view s.top.now) c.place c.why ≡ true))
