use Rattle.std.proofs.Common.{◌≡◌}
use Rattle.question_text.specs.Nodes.{first_numbers}
use Rattle.question_text.proofs.tables.first_numbers.Given as goal

abbrev pub invariant-loop-number : goal.invariant-loop-number
invariant-loop-number l =
    l.list ≡ first_numbers l.number
