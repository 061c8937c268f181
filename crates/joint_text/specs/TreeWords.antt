-- Gates that read only places of a word of some length.
use Rattle.std.specs.Prelude.{ℕ, ◌<◌, List, length, slice_index_or}
use Rattle.code_checkers.specs.declared.gate.CheckGate.{CheckGate}
use Rattle.code_checkers.specs.declared.gate.CheckGate.TheVariants as gate

-- the gate is no place of the word, or one of so many
abbrev pub IsWithin : ℕ → CheckGate → Type 0
IsWithin places (gate.Word place) = place < places
IsWithin places _ = Unit {0}

abbrev pub AreWithin : ℕ → List CheckGate → Type 0
AreWithin places gates = (k : ℕ) → k < length gates → IsWithin places (slice_index_or gates k (gate.Word 0))
