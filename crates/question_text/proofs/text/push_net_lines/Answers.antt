use Rattle.std.proofs.Common.{arith}
use Rattle.std.proofs.lemmas.Grind.{common_steps}
use Rattle.question_text.proofs.TextLines.{net_lines_next}
use Rattle.question_text.proofs.text.push_net_lines.Goals as goal

pub loop-place-preserved : goal.loop-place-preserved
loop-place-preserved c =
    grind (arith, common_steps, net_lines_next)
