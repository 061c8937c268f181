use Rattle.std.proofs.Common.{arith}
use Rattle.machine_lines.proofs.checks.checks_of.Goals as goal

pub returns-in-Berger-clause-few : goal.returns-in-Berger-clause-few
returns-in-Berger-clause-few c = omega (arith, c.berger_width.ensures.least.1 7 (omega arith))
