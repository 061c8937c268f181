-- Gates that negate only inputs, and gates of one kind.
use Rattle.std.specs.Prelude.{◌≡◌, Bool, true, false, List, All}
use Rattle.gate_net.specs.declared.gate.Gate.{Gate}
use Rattle.gate_net.specs.declared.gate.Gate.TheVariants as gate
use Rattle.gate_net.specs.Gates.{GateNetwork, gate_at}

-- the gate is the constant 0
abbrev pub is_zero : Gate → Bool
is_zero gate.Zero = true
is_zero _ = false

-- the gate is an input
abbrev pub is_input : Gate → Bool
is_input (gate.Input i) = true
is_input _ = false

-- the gate is a bit of the state
abbrev pub is_state : Gate → Bool
is_state (gate.State i) = true
is_state _ = false

-- the gate is a Not or an Xor
abbrev pub is_negation : Gate → Bool
is_negation (gate.Not a) = true
is_negation (gate.Xor a b) = true
is_negation _ = false

-- none of the gates passes the test
abbrev pub HasNo : (Gate → Bool) → List Gate → Type 0
HasNo test gates = All (λ g. test g ≡ false) gates

-- the gate is no Xor, and where it is a Not it reads an input
abbrev pub negates_inputs : List Gate → Gate → Bool
negates_inputs gates (gate.Not a) = is_input (gate_at gates a.number)
negates_inputs gates (gate.Xor a b) = false
negates_inputs gates _ = true

-- negations stand only at inputs
abbrev pub NegatesOnlyInputs : GateNetwork → Type 0
NegatesOnlyInputs G = All (λ g. negates_inputs G.gates g ≡ true) G.gates
