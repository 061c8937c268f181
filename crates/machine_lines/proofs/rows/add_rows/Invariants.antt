use Rattle.std.proofs.Common.{map, take}
use Rattle.machine_lines.specs.Cases.{AddsCases, row_word}
use Rattle.machine_lines.proofs.rows.add_rows.Given as goal

-- the cases of the rows so far
abbrev pub invariant-loop-place : goal.invariant-loop-place
invariant-loop-place l = AddsCases l.widths l.fn.cases l.cases l.decoded (take l.place l.lines) (map (row_word l.code l.widths l.codes.words.words) (take l.place l.rows))
