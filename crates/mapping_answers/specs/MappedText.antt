-- The line of an answer: `yes`, or `no` and its first reason.
use Rattle.std.specs.Prelude.{ℕ, List, [], ◌∷◌, ◌++◌, codes}
use Rattle.fault_secure.specs.Circuit.{node_net}
use Rattle.tsc_net.specs.Names.{text_at}
use Rattle.tsc_net.specs.NetlistOf.{NetlistOf}
use Rattle.mapping_audit.specs.declared.reason.MappedReason.{MappedReason}
use Rattle.mapping_audit.specs.declared.reason.MappedReason.TheVariants.{Inputs, Latches, Outputs, Net, NoBlock, NoPin, NoCover}
use Rattle.netlist_answers.specs.VerdictText.{number_word, value_word}

-- a blank and the name of the net that the node at a place drives
abbrev pub node_word : NetlistOf → ℕ → List ℕ
node_word net place = 32 ∷ text_at net.names (node_net net.circuit place)

-- a reason in words: nodes of the first netlist, and gates of the second, are told by the names of the nets that they drive
abbrev pub reason_words : NetlistOf → NetlistOf → MappedReason → List ℕ
reason_words N G Inputs = codes "inputs"
reason_words N G Latches = codes "latches"
reason_words N G Outputs = codes "outputs"
reason_words N G (Net node) = codes "net" ++ node_word N node
reason_words N G (NoBlock gate) = codes "block" ++ node_word G gate
reason_words N G (NoPin gate pin) = codes "pin" ++ (node_word G gate ++ number_word pin)
reason_words N G (NoCover node value width) = codes "cover" ++ (node_word N node ++ value_word width value)

-- the line of a no
abbrev pub no_text : NetlistOf → NetlistOf → MappedReason → List ℕ
no_text N G reason = codes "no " ++ (reason_words N G reason ++ 10 ∷ [])

-- the line of a yes
abbrev pub yes_text : List ℕ
yes_text = codes "yes" ++ 10 ∷ []
