use Rattle.std.proofs.Common.{◌≡◌, ◌+◌, ◌++◌, drop}
use Rattle.question_text.specs.Covers.{row_literals, wide}
use Rattle.question_text.proofs.covers.row_literals.Given as goal

abbrev pub invariant-loop-row : goal.invariant-loop-row
invariant-loop-row l =
    record { literals : l.made ++ row_literals l.numbers l.at (drop l.row-index l.rows) ≡ row_literals l.numbers l.first l.rows; room : l.at + wide (drop l.row-index l.rows) ≡ l.first + wide l.rows }
