use Rattle.std.proofs.Common.{arith}
use Rattle.structure_audit.proofs.pairs.first_pair.Goals as goal

pub returns : goal.returns
returns c = record { first = λ a b s. c.loop-second.invariant a b (let w = s.within in omega arith) s }
