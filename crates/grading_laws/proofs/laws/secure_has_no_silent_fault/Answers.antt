use Rattle.grading_laws.proofs.NoSilent.{fault_secure_has_no_silent, cell_secure_has_no_silent, alarm_secure_has_no_silent, register_secure_has_no_silent, register_alarm_secure_has_no_silent}
use Rattle.grading_laws.proofs.laws.secure_has_no_silent_fault.Goals as goal

pub returns : goal.returns
returns c = record {
  faults = fault_secure_has_no_silent;
  cells = cell_secure_has_no_silent;
  alarms = alarm_secure_has_no_silent;
  registers = register_secure_has_no_silent;
  register_alarms = register_alarm_secure_has_no_silent;
}
