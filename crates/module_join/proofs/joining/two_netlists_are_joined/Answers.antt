use Rattle.module_join.proofs.TwoJoined.{two_are_joined}
use Rattle.module_join.proofs.joining.two_netlists_are_joined.Goals as goal

pub returns : goal.returns
returns c = record { joined = two_are_joined }
