use Rattle.std.proofs.Common.{arith}
use Rattle.state_code.proofs.words.least_weight.Goals as goal

pub returns-clause-many : goal.returns-clause-many
returns-clause-many c = λ none. c.loop-m.invariant 6 (omega arith) (omega arith)
