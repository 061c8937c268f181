use Rattle.register_laws.proofs.MappedRegisters.{register_secure_is_alarm_secure}
use Rattle.register_laws.proofs.mapped.register_secure_is_alarm_secure.Goals as goal

pub returns : goal.returns
returns c = record { secure = register_secure_is_alarm_secure }
