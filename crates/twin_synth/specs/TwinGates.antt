-- The gates of a twin's checker: which places of the word they stand for.
use Rattle.std.specs.Prelude.{◌≡◌, ℕ, ◌<◌, length, slice_index_or}
use Rattle.code_checkers.specs.declared.gate.CheckGate.TheVariants as gate
use Rattle.code_checkers.specs.GateList.{GateList}

-- the gates stand for places of the word below this length alone
abbrev pub StandWithin : ℕ → GateList → Type 0
StandWithin n made = (place word : ℕ) → place < length made.gates → slice_index_or made.gates place (gate.Word 0) ≡ gate.Word word → word < n
