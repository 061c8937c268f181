-- What was drawn so far is what these first characters are.
use Rattle.std.proofs.Common.{◌≡◌, ◌++◌}
use Rattle.machine_maker.specs.Drawn.{characters}
use Rattle.machine_maker.proofs.drawing.push_characters.Given as goal

abbrev pub invariant-loop-place : goal.invariant-loop-place
invariant-loop-place l = record {
  text : l.text ≡ l.initial.text ++ (characters l._place l.initial.rng).0;
  left : l.rng ≡ (characters l._place l.initial.rng).1;
}
