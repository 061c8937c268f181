-- What was written so far is the lines of these first rows.
use Rattle.std.proofs.Common.{◌≡◌, ◌++◌}
use Rattle.std.specs.List.{flat_map}
use Rattle.machine_maker.specs.Drawn.{drawn_rows}
use Rattle.machine_maker.specs.MadeText.{row_line}
use Rattle.machine_maker.proofs.making.push_rows.Given as goal

abbrev pub invariant-loop-place : goal.invariant-loop-place
invariant-loop-place l = record {
  text : l.text ≡ l.initial.text ++ flat_map row_line (drawn_rows l.place l.initial.rng).0;
  left : l.rng ≡ (drawn_rows l.place l.initial.rng).1;
}
