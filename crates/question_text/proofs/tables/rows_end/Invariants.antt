use Rattle.std.proofs.Common.{◌≡◌, ◌+◌, drop}
use Rattle.question_text.specs.Covers.{wide}
use Rattle.question_text.proofs.tables.rows_end.Given as goal

abbrev pub invariant-loop-row : goal.invariant-loop-row
invariant-loop-row l =
    l.at + wide (drop l.row-index l.rows) ≡ l.first + wide l.rows
