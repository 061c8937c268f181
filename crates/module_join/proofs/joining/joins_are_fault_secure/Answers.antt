use Rattle.module_join.proofs.Joined.{join_is_fault_secure}
use Rattle.module_join.proofs.joining.joins_are_fault_secure.Goals as goal

pub returns : goal.returns
returns c = record { secure = join_is_fault_secure }
