-- Networks that have a duplex netlist, and the gates of its checker.
use Rattle.std.specs.Prelude.{◌≡◌, ◌+◌, ◌*◌, ◌≤◌, length}
use Rattle.fault_secure.specs.Size.{network_size}
use Rattle.tsc_bits.specs.Lists.{AreApart}
use Rattle.tsc_net.specs.NetlistOf.{NetlistOf, IsBuilt}
use Rattle.tsc_net.specs.Order.{fan_ins, evaluation_order, IsOrder}
use Rattle.parity_code.specs.FirstFit.{AreFirstFit, first_fit_groups}
use Rattle.code_checkers.specs.GateList.{GateList, IsCheckerOf}
use Rattle.code_checkers.specs.Within.{ReadsWord}
use Rattle.parity_synth.specs.CheckedNet.{plan_of}
use Rattle.duplex_synth.specs.DuplexNet.{duplex_checks}

-- a small network without latches, of at most 64 outputs at different nets, its evaluation order, its first-fit groups, and the gates of the
-- checker over them
pub record IsDuplexable (S : NetlistOf) (made : GateList) : Type 0 where
  pub checked : IsBuilt S
  pub none : length S.circuit.latches ≡ 0
  pub few : length S.circuit.outputs ≤ 64
  pub once : AreApart S.circuit.outputs
  pub small : S.circuit.inputs + 3 * network_size S.circuit ≤ 1048576
  pub order : IsOrder (fan_ins S.circuit) (evaluation_order (fan_ins S.circuit))
  pub fit : AreFirstFit S.circuit (first_fit_groups S.circuit)
  pub gates : IsCheckerOf (plan_of S.circuit (duplex_checks S.circuit) 0 0) made
  pub words : ReadsWord (plan_of S.circuit (duplex_checks S.circuit) 0 0) made
