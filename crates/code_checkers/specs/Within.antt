-- Signals that read only places of a word of some length.
use Rattle.std.specs.Prelude.{◌≡◌, ℕ, ◌+◌, ◌<◌, length, slice_index_or}
use Rattle.fault_secure.specs.CodePlan.{CodePlan}
use Rattle.code_checkers.specs.declared.gate.CheckGate.TheVariants as gate
use Rattle.code_checkers.specs.Signal.{Signal}
use Rattle.code_checkers.specs.Signal.Signal.{Word, Buf, Not, And, Or, Xor}
use Rattle.code_checkers.specs.GateList.{GateList}

-- each place that the signal reads is below this length
abbrev pub IsWithin : ℕ → Signal → Type 0
IsWithin n (Word place) = place < n
IsWithin n (Buf a) = IsWithin n a
IsWithin n (Not a) = IsWithin n a
IsWithin n (And a b) = IsWithin n a × IsWithin n b
IsWithin n (Or a b) = IsWithin n a × IsWithin n b
IsWithin n (Xor a b) = IsWithin n a × IsWithin n b

-- the gates read only places of the plan's word
abbrev pub ReadsWord : CodePlan → GateList → Type 0
ReadsWord P made = (place word : ℕ) → place < length made.gates → slice_index_or made.gates place (gate.Word 0) ≡ gate.Word word → word < P.outputs + length P.checks + P.latches
