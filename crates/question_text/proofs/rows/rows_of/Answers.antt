use Rattle.std.proofs.Common.{arith}
use Rattle.std.proofs.lemmas.Grind.{common_steps}
use Rattle.question_text.proofs.Once.{after_clauses-written}
use Rattle.question_text.proofs.rows.rows_of.Goals as goal

pub returns : goal.returns
returns c = grind (arith, common_steps, after_clauses-written)
