use Rattle.std.proofs.Common.{◌≡◌, ◌+◌, drop}
use Rattle.question_text.specs.Gates.{after_clauses}
use Rattle.question_text.specs.Covers.{rows_gates, wide}
use Rattle.question_text.proofs.covers.push_rows.Given as goal

abbrev pub invariant-loop-row : goal.invariant-loop-row
invariant-loop-row l =
    record { written : after_clauses l.out (rows_gates l.numbers l.at (drop l.row-index l.rows)) ≡ after_clauses l.initial.out (rows_gates l.numbers l.first l.rows); room : l.at + wide (drop l.row-index l.rows) ≡ l.first + wide l.rows }
