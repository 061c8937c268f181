use Rattle.std.proofs.Common.{arith}
use Rattle.std.proofs.lemmas.Grind.{common_steps}
use Rattle.question_text.proofs.Once.{after_clauses-append}
use Rattle.question_text.proofs.gates.push_or.Goals as goal

pub returns : goal.returns
returns c = grind (arith, common_steps, after_clauses-append)
