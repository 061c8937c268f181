-- The source allows the first outputs.
use Rattle.std.proofs.Common.{ℕ, ◌<◌}
use Rattle.tsc_bits.specs.Bits.{bits_of}
use Rattle.fault_secure.specs.Circuit.{bit}
use Rattle.fault_secure.specs.Logic.{inputs_of}
use Rattle.tsc_net.specs.SourceView.{logic_of}
use Rattle.behaviour_audit.specs.Breaks.{AllowsBit}
use Rattle.behaviour_audit.proofs.outputs.first_wrong.Given as goal

abbrev pub invariant-loop-place : goal.invariant-loop-place
invariant-loop-place l =
    (k : ℕ) → k < l.place → AllowsBit (logic_of l.source) l.version l.point.state (bits_of (inputs_of (logic_of l.source)) l.point.input) k (bit l.outputs k)
