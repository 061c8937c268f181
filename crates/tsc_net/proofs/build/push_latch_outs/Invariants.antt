-- What is there, then what the latches that are left give.
use Rattle.std.proofs.Common.{◌≡◌, ◌++◌, drop, map}
use Rattle.tsc_net.proofs.build.push_latch_outs.Given as goal

abbrev pub invariant-loop-latch : goal.invariant-loop-latch
invariant-loop-latch l = l.driven ++ map (λ x. x.out) (drop l.latch-index l.latches) ≡ l.fn.driven ++ map (λ x. x.out) l.latches
