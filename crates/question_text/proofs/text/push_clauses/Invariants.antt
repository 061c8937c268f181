use Rattle.std.proofs.Common.{◌≡◌, ◌++◌, drop}
use Rattle.std.specs.List.{flat_map}
use Rattle.question_text.specs.Text.{clause_line}
use Rattle.question_text.proofs.text.push_clauses.Given as goal

abbrev pub invariant-loop-clause : goal.invariant-loop-clause
invariant-loop-clause l =
    l.out ++ flat_map clause_line (drop l.clause-index l.clauses) ≡ l.initial.out ++ flat_map clause_line l.clauses
