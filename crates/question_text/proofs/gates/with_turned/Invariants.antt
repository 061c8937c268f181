use Rattle.std.proofs.Common.{◌≡◌, ◌++◌, map, drop}
use Rattle.question_text.specs.Gates.{turned}
use Rattle.question_text.proofs.gates.with_turned.Given as goal

abbrev pub invariant-loop-it : goal.invariant-loop-it
invariant-loop-it l =
    l.clause ++ map turned (drop l.it-index l.literals) ≡ l.initial.clause ++ map turned l.literals
