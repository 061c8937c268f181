use Rattle.std.proofs.Common.{◌≡◌, ◌+◌, drop, map}
use Rattle.tsc_net.specs.NetlistOf.{named_latches}
use Rattle.blif_write.specs.Layout.{clocked_latch_line}
use Rattle.blif_write.specs.RegisterText.{clock_words}
use Rattle.blif_write.specs.Steps.{after_lines}
use Rattle.blif_write.proofs.latches.push_latches.Given as goal

abbrev pub invariant-loop-place : goal.invariant-loop-place
invariant-loop-place l =
    after_lines l.out (map (clocked_latch_line (clock_words l.clock)) (named_latches l.net.names (l.net.circuit.inputs + l.place) (drop l.place l.net.circuit.latches))) ≡ after_lines l.initial.out (map (clocked_latch_line (clock_words l.clock)) (named_latches l.net.names l.net.circuit.inputs l.net.circuit.latches))
