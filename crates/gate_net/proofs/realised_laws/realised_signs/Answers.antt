use Rattle.gate_net.proofs.Signs.{root_signs, plan_unate, lines_negate}
use Rattle.gate_net.proofs.realised_laws.realised_signs.Goals as goal

pub returns : goal.returns
returns c = record { roots = root_signs; unate = plan_unate; lines = lines_negate }
