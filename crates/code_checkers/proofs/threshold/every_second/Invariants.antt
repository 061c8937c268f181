use Rattle.std.proofs.Common.{◌≡◌, ◌+◌, ◌-◌, ◌≤◌, ◌++◌, true, length, drop}
use Rattle.code_checkers.specs.Threshold.{every_second}
use Rattle.code_checkers.proofs.threshold.every_second.Given as goal

-- the items taken so far and every second one of the rest are every second one
abbrev pub invariant-loop-place : goal.invariant-loop-place
invariant-loop-place l = record {
  made : l.half.items ++ every_second true (drop l.place l.items) ≡ every_second true (drop l.start l.items);
  place : l.place ≤ length l.items + 1;
}

abbrev pub decreases-loop-place : goal.decreases-loop-place
decreases-loop-place l = length l.items - l.place
