-- The exit status of each end of a run.
use Rattle.std.specs.Prelude.{ℕ}
use Rattle.refusals.specs.declared.status.Status.{Status}
use Rattle.refusals.specs.declared.status.Status.TheVariants.{Done, AuditNo, Usage, BadInput, Limit, ReadFault, WriteFault, Memory}

abbrev pub status_code : Status → ℕ
status_code Done = 0
status_code AuditNo = 1
status_code Usage = 2
status_code BadInput = 3
status_code Limit = 4
status_code ReadFault = 5
status_code WriteFault = 6
status_code Memory = 7
