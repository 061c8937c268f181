use Rattle.std.proofs.Common.{◌≡◌, take}
use Rattle.exact_question.specs.Rows.{once}
use Rattle.question_text.proofs.clauses.each_once.Given as goal

abbrev pub invariant-loop-it : goal.invariant-loop-it
invariant-loop-it l =
    l.made ≡ once (take l.it-index l.literals)
