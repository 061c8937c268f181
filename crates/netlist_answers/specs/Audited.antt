-- What is audited as it was read, and how an audit ends.
use Rattle.audit.specs.declared.verdict.Verdict.{Verdict}
use Rattle.audit.specs.declared.verdict.Verdict.TheVariants.{Yes, No}
use Rattle.fault_secure.specs.Logic.{Logic, Loose, Network, States}
use Rattle.netlist_answers.specs.declared.auditing.AuditSource.{AuditSource}
use Rattle.netlist_answers.specs.declared.auditing.AuditSource.TheVariants as source
use Rattle.refusals.specs.declared.ending.Ending.{Ending}
use Rattle.refusals.specs.declared.ending.Ending.TheVariants.{Finished, Rejected}

-- the logic of a source that was read
abbrev pub logic_in : AuditSource → Logic
logic_in (source.Network net) = Network net.circuit
logic_in (source.Machine machine) = States machine.table
logic_in (source.Loose loose) = Loose loose.value.circuit loose.free.circuit

-- how an audit ends with a verdict
abbrev pub ending_of : Verdict → Ending
ending_of Yes = Finished
ending_of (No reason) = Rejected
