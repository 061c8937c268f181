-- Lines of gates that compute the outputs of a network, and after them the checks of a code.
use Rattle.std.specs.Prelude.{◌≡◌, ℕ, ◌-◌, Bool, List, ◌++◌, map, take, drop, length, All}
use Rattle.tsc_bits.specs.Bits.{bits_of}
use Rattle.fault_secure.specs.Circuit.{Circuit, bit}
use Rattle.fault_secure.specs.StuckAt.StuckAt.{NoFault}
use Rattle.fault_secure.specs.Settle.{Settles}
use Rattle.fault_secure.specs.declared.code.Code.{Code}
use Rattle.fault_secure.specs.declared.code.Code.TheVariants.{Parity, Berger, MOutOfN}
use Rattle.mofn_code.specs.CheckBits.{check_bits}
use Rattle.fault_secure.specs.CodePlan.{IsUnorderedCode}
use Rattle.tsc_bits.specs.Counting.{zeros}
use Rattle.gate_net.specs.declared.line.Line.{Line}
use Rattle.gate_net.specs.Gates.{GateNetwork, meanings, line_values}
use Rattle.gate_net.specs.Growth.{ComputesAll}
use Rattle.gate_net.specs.Realised.{NegatesInputs}
use Rattle.tsc_bits.specs.Thermometer.{thermo}

-- the network grew, and the checks say how many of the outputs are 0: in binary, or as a thermometer
abbrev pub ComputesChecks : Code → GateNetwork → GateNetwork → List Line → List Line → Type 0
ComputesChecks Parity old new outputs checks = ⊥
ComputesChecks Berger old new outputs checks = ComputesAll old new (λ x s. bits_of (length checks) (zeros (line_values old x s outputs))) checks
ComputesChecks MOutOfN old new outputs checks = ComputesAll old new (λ x s. thermo (length outputs) (zeros (line_values old x s outputs))) checks

-- the lines are those of the outputs, and after them those of their checks
pub record AreWordLines (code : Code) (old new : GateNetwork) (outputs word : List Line) : Type 0 where
  pub checks : List Line
  pub joined : word ≡ outputs ++ checks
  pub computes : ComputesChecks code old new outputs checks

-- the lines mean signals that negate only inputs: first those that have the values of the outputs of the network C, and after
-- them those that have the values of these outputs' checks, whatever the inputs and the state bits
pub record AreUnateLines (C : Circuit) (code : Code) (G : GateNetwork) (lines : List Line) : Type 0 where
  pub unordered : IsUnorderedCode code
  pub negate : All NegatesInputs (meanings G lines)
  pub answers : (x s t : ℕ → Bool) (v : List Bool) → Settles C NoFault x t v → take (length C.outputs) (line_values G x s lines) ≡ map (bit v) C.outputs
  pub checks : (x s : ℕ → Bool) → drop (length C.outputs) (line_values G x s lines)
      ≡ check_bits code (length lines - length C.outputs) (take (length C.outputs) (line_values G x s lines))
