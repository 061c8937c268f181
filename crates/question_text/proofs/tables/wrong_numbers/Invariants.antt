use Rattle.std.proofs.Common.{◌≡◌, ◌++◌, map, drop}
use Rattle.question_text.proofs.tables.wrong_numbers.Given as goal

abbrev pub invariant-loop-cell : goal.invariant-loop-cell
invariant-loop-cell l =
    l.list ++ map (λ c. c.net) (drop l.cell-index l.cells) ≡ l.initial.list ++ map (λ c. c.net) l.cells
