use Rattle.point_laws.proofs.MappedAlarms.{mapped_is_block_alarm_secure}
use Rattle.point_laws.proofs.mapped.mapped_is_block_alarm_secure.Goals as goal

pub returns : goal.returns
returns c = record { secure = mapped_is_block_alarm_secure }
