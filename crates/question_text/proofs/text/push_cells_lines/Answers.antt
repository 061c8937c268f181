use Rattle.std.proofs.Common.{arith}
use Rattle.std.proofs.lemmas.Grind.{common_steps}
use Rattle.question_text.proofs.TextLines.{cells_lines_next}
use Rattle.question_text.proofs.text.push_cells_lines.Goals as goal

pub loop-place-preserved : goal.loop-place-preserved
loop-place-preserved c =
    grind (arith, common_steps, cells_lines_next)
