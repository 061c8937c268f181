use Rattle.module_join.proofs.Joined.{join_is_fault_secure_for_sources}
use Rattle.module_join.proofs.joining.joins_are_fault_secure_for_sources.Goals as goal

pub returns : goal.returns
returns c = record { secure = join_is_fault_secure_for_sources }
