-- The lines that are left have the first fault of all.
use Rattle.std.proofs.Common.{◌≡◌, List, drop}
use Rattle.refutations.specs.declared.literal.Literal.{Literal}
use Rattle.refutations.specs.Checking.{IsSound}
use Rattle.refutation_text.specs.Following.{lines_fault}
use Rattle.refutation_text.proofs.following.follow_lines.Given as goal

abbrev pub invariant-loop-line : goal.invariant-loop-line
invariant-loop-line l = record {
  fault : lines_fault l.fn.checker (drop l.from l.lines) ≡ lines_fault l.checker (drop l.line l.lines);
  sound : (formula : List (List Literal)) → IsSound formula l.fn.checker → IsSound formula l.checker;
}
