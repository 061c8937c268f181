use Rattle.register_laws.proofs.MappedRegisters.{register_alarm_secure_for_faults}
use Rattle.register_laws.proofs.mapped.alarm_secure_registers_show_faults.Goals as goal

pub returns : goal.returns
returns c = record { alarmed = register_alarm_secure_for_faults }
