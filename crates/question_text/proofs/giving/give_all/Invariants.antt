-- The clauses from the index on are left.
use Rattle.std.proofs.Common.{drop}
use Rattle.question_text.proofs.Given.{IsLeft}
use Rattle.question_text.proofs.giving.give_all.Given as goal

abbrev pub invariant-loop-clause : goal.invariant-loop-clause
invariant-loop-clause l = IsLeft l.initial.checker l.clauses l.checker (drop l.clause-index l.clauses)
