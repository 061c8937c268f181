-- How large a unate netlist gets: the gates of its word, and the bound on its covers.
use Rattle.std.specs.Prelude.{ℕ, ◌+◌, ◌*◌, ◌^◌, length}
use Rattle.fault_secure.specs.Circuit.{Circuit}
use Rattle.fault_secure.specs.Size.{network_size}

-- the most gates that the checks of so many outputs take, under either code
abbrev pub check_gates : ℕ → ℕ
check_gates outputs = outputs * outputs + 13 * outputs

-- the most gates that a network and its checks take with negations only at inputs: two for each input, and six for any other gate
abbrev pub word_gates : Circuit → ℕ
word_gates C = 2 * C.inputs + 12 * network_size C + 6 * check_gates (length C.outputs)

-- the bound on covers: four times what four copies of the network, its inputs and a checker take
abbrev pub unate_bound : Circuit → ℕ
unate_bound C = 4 * (4 * network_size C + C.inputs + 16 * (length C.outputs + 1) ^ 2)
