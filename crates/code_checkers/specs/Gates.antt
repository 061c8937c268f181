-- Lists of gates: each place means a signal, and each gate reads earlier places.
use Rattle.std.specs.Prelude.{ℕ, ◌<◌, List, [], ◌∷◌, ◌++◌, length, slice_index_or}
use Rattle.code_checkers.specs.declared.gate.CheckGate.{CheckGate}
use Rattle.code_checkers.specs.declared.gate.CheckGate.TheVariants as gate
use Rattle.code_checkers.specs.Signal.{Signal}
use Rattle.code_checkers.specs.Signal.Signal.{Word, Buf, Not, And, Or, Xor}

-- the gate at a place of a list of gates
abbrev pub gate_at : List CheckGate → ℕ → CheckGate
gate_at gates place = slice_index_or gates place (gate.Word 0)

-- the signal at a place of a list of signals
abbrev pub signal_at : List Signal → ℕ → Signal
signal_at signals place = slice_index_or signals place (Word 0)

-- the signal of a gate over those of the places before it
abbrev pub signal_of : List Signal → CheckGate → Signal
signal_of signals (gate.Word place) = Word place
signal_of signals (gate.Buf a) = Buf (signal_at signals a)
signal_of signals (gate.Not a) = Not (signal_at signals a)
signal_of signals (gate.And a b) = And (signal_at signals a) (signal_at signals b)
signal_of signals (gate.Or a b) = Or (signal_at signals a) (signal_at signals b)
signal_of signals (gate.Xor a b) = Xor (signal_at signals a) (signal_at signals b)

abbrev pub signals_from : List Signal → List CheckGate → List Signal
signals_from signals [] = signals
signals_from signals (g ∷ gates) = signals_from (signals ++ signal_of signals g ∷ []) gates

-- the signals of the places of a list of gates
abbrev pub signals_of : List CheckGate → List Signal
signals_of gates = signals_from [] gates

-- the signal that a place of a list of gates means
abbrev pub meaning : List CheckGate → ℕ → Signal
meaning gates place = signal_at (signals_of gates) place

-- the gate reads places below this number
abbrev pub ReadsBelow : ℕ → CheckGate → Type 0
ReadsBelow n (gate.Word place) = Unit {0}
ReadsBelow n (gate.Buf a) = a < n
ReadsBelow n (gate.Not a) = a < n
ReadsBelow n (gate.And a b) = (a < n) × (b < n)
ReadsBelow n (gate.Or a b) = (a < n) × (b < n)
ReadsBelow n (gate.Xor a b) = (a < n) × (b < n)

-- each gate reads earlier places
abbrev pub AreOrdered : List CheckGate → Type 0
AreOrdered gates = (place : ℕ) → place < length gates → ReadsBelow place (slice_index_or gates place (gate.Word 0))
