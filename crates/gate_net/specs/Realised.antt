-- Gates that stand in a netlist: nets that realise signals, by nodes that are exactly the gates.
use Rattle.std.specs.Prelude.{◌≡◌, ℕ, ◌<◌, ◌≤◌, ◌⊎◌, true, List, [], ◌∷◌, length, IsFalse}
use Rattle.std.specs.List.{AllZip}
use Rattle.tsc_cover.specs.Cover.{CoverTable, zero_cover, wrong_sign}
use Rattle.tsc_cover.specs.Gates.{buf_cover, not_cover, and_cover, or_cover, xor_cover}
use Rattle.fault_secure.specs.Circuit.{Circuit, node, node_net, latch_net, pin_net, gate}
use Rattle.gate_net.specs.Signal.{Signal}
use Rattle.gate_net.specs.Signal.Signal.{Zero, One, Input, State, Not, And, Or, Xor}

-- the constant 1: an on-set without pins, with one row
abbrev pub one_cover : CoverTable
one_cover = record { width = 0; on = true; rows = [] ∷ [] }

-- a node before place hi drives the net, and it is the gate with this cover over these nets
pub record IsGateBefore (N : Circuit) (hi net : ℕ) (cover : CoverTable) (reads : List ℕ) : Type 0 where
  pub driver : ℕ
  pub is_node : driver < length N.nodes
  pub before : driver < hi
  pub drives : net ≡ node_net N driver
  pub is_gate : node N driver ≡ gate cover reads

-- the net realises the signal: it is the input, the latch's net, or a gate before place hi over nets that realise the operands
abbrev pub RealisesBefore : Circuit → ℕ → Signal → ℕ → Type 0
RealisesBefore N hi Zero net = IsGateBefore N hi net zero_cover []
RealisesBefore N hi One net = IsGateBefore N hi net one_cover []
RealisesBefore N hi (Input i) net = (i < N.inputs) × (net ≡ i)
RealisesBefore N hi (State i) net = (i < length N.latches) × (net ≡ latch_net N i)
RealisesBefore N hi (Not a) net = (m : ℕ) × IsGateBefore N hi net not_cover (m ∷ []) × RealisesBefore N hi a m
RealisesBefore N hi (And a b) net = (m n : ℕ) × IsGateBefore N hi net and_cover (m ∷ (n ∷ [])) × RealisesBefore N hi a m × RealisesBefore N hi b n
RealisesBefore N hi (Or a b) net = (m n : ℕ) × IsGateBefore N hi net or_cover (m ∷ (n ∷ [])) × RealisesBefore N hi a m × RealisesBefore N hi b n
RealisesBefore N hi (Xor a b) net = (m n : ℕ) × IsGateBefore N hi net xor_cover (m ∷ (n ∷ [])) × RealisesBefore N hi a m × RealisesBefore N hi b n

-- a net of its own for the signal: a Buf before place hi over a net that realises it
abbrev pub RealisesByBuf : Circuit → ℕ → Signal → ℕ → Type 0
RealisesByBuf N hi signal net = (m : ℕ) × IsGateBefore N hi net buf_cover (m ∷ []) × RealisesBefore N hi signal m

-- the net of a root realises its signal, itself or by a Buf
abbrev pub RealisesRoot : Circuit → ℕ → Signal → ℕ → Type 0
RealisesRoot N hi signal net = RealisesBefore N hi signal net ⊎ RealisesByBuf N hi signal net

-- there is a net for each signal, and it realises it
abbrev pub AllRealise : Circuit → ℕ → List Signal → List ℕ → Type 0
AllRealise N hi signals nets = AllZip (RealisesRoot N hi) signals nets

-- the signal is the bit of an input
abbrev pub IsInputBit : Signal → Type 0
IsInputBit (Input i) = Unit {0}
IsInputBit _ = ⊥

-- the signal negates only inputs: each Not is over an input, and there is no Xor
abbrev pub NegatesInputs : Signal → Type 0
NegatesInputs (Not a) = IsInputBit a
NegatesInputs (And a b) = NegatesInputs a × NegatesInputs b
NegatesInputs (Or a b) = NegatesInputs a × NegatesInputs b
NegatesInputs (Xor a b) = ⊥
NegatesInputs _ = Unit {0}

-- no pin of the node that reads another net than an input has the wrong sign
abbrev pub HasRightSigns : Circuit → ℕ → Type 0
HasRightSigns N q = (pin : ℕ) → pin < length (node N q).reads → N.inputs ≤ pin_net N q pin → IsFalse (wrong_sign (node N q).cover pin)
