-- The twin of a source is within the bound on covers.
use Rattle.std.proofs.Common.{ℕ, zero, suc, ◌+◌, ◌*◌, ◌^◌, ◌<◌, ◌≤◌, Bool, true, false, List, length, arith}
use Rattle.tsc_net.specs.NetlistOf.{NetlistOf}
use Rattle.fault_secure.specs.Circuit.{Circuit}
use Rattle.fault_secure.specs.CodePlan.{CodePlan}
use Rattle.blif_read.specs.declared.clocks.Clock.{Clock}
use Rattle.std.proofs.Common.{Option}
use Rattle.parity_synth.proofs.Bounded.{square_large}
use Rattle.register_synth.specs.Kept.{IsKeptRegister}
use Rattle.register_synth.proofs.FewCovers.{those_few}
use Rattle.twin_synth.specs.TwinNetlist.{IsTwinNetlist, watched_of}
use Rattle.tsc_synth.specs.CoverBound.{twin_bound, watch_bound}

-- what the watch costs is within its share
watch_few : (watching : Bool) (registers : List ℕ) (latches : ℕ) → length registers ≤ latches → 2 * watched_of watching registers ≤ watch_bound watching latches
watch_few false registers latches few = omega arith
watch_few true registers zero few = omega arith
watch_few true registers (suc more) few = omega arith

-- the nodes of a twin are within its bound
pub twin_few : (S : NetlistOf) (clock : Option Clock) (watching : Bool) (N : NetlistOf) (P : CodePlan) (watch : List ℕ) → IsTwinNetlist S clock watching N P watch
    → length N.circuit.nodes ≤ twin_bound watching S.circuit
twin_few S clock watching N P watch is =
    omega (
      arith,
      is.few,
      watch_few watching is.registers (length S.circuit.latches)
          (those_few (IsKeptRegister S.circuit) (length S.circuit.latches) is.registers is.kept.each_register (λ k h. (is.kept.each_register.sound k h).0)),
      square_large (length S.circuit.outputs),
    )
