use Rattle.register_laws.proofs.MappedRegisters.{mapped_registers_are_alarm_secure}
use Rattle.register_laws.proofs.mapped.mapped_registers_are_alarm_secure.Goals as goal

pub returns : goal.returns
returns c = record { secure = mapped_registers_are_alarm_secure }
