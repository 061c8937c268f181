use Rattle.register_laws.proofs.PartRuns.{secure_for_the_whole, fault_secure_for_the_whole, alarm_secure_for_the_whole}
use Rattle.register_laws.proofs.parts.secure_for_the_whole.Goals as goal

pub returns : goal.returns
returns c = record { cells = secure_for_the_whole; faults = fault_secure_for_the_whole; alarms = alarm_secure_for_the_whole }
