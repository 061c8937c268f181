use Rattle.std.proofs.Common.{◌∙◌}
use Rattle.code_checkers.proofs.SameGate.{with_gate_alike}
use Rattle.code_checkers.proofs.shared.write.Goals as goal

pub returns-clause-gates : goal.returns-clause-gates
returns-clause-gates c = c.in_ok-there.ensures.keys ∙ with_gate_alike c.args.shared.now.gates.keys c.args.gate
