-- The small joint, as the check computes it.
use Rattle.std.proofs.Common.{refl}
use Rattle.module_join.specs.TwoJoined.{TwoAreJoined}

pub two_are_joined : TwoAreJoined
two_are_joined = refl
