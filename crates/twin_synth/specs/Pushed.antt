-- What is pushed to a netlist by numbers: latches and nodes of a source, over other nets, and names.
use Rattle.std.specs.Prelude.{ℕ, ◌+◌, List, [], ◌∷◌, ◌++◌, map, slice_index, Option, None, Some}
use Rattle.std.specs.List.{range_with_len}
use Rattle.fault_secure.specs.Circuit.{Circuit, LatchOf, NodeOf, latch, node}
use Rattle.tsc_net.specs.Names.{text_at}
use Rattle.tsc_net.specs.NetlistOf.{NetlistOf}
use Rattle.tsc_net.specs.Parts.{fresh_text, free_number}

-- the latches of a source at some places, where the net n is to be the one at place n of a list
abbrev pub latch_over : List ℕ → LatchOf → LatchOf
latch_over numbers l = record { reads = slice_index numbers l.reads; init = l.init }

abbrev pub latches_over : Circuit → List ℕ → List ℕ → List LatchOf
latches_over C numbers places = map (λ l. latch_over numbers (latch C l)) places

-- its nodes at some places, over those nets
abbrev pub node_over : List ℕ → NodeOf → NodeOf
node_over numbers n = record { reads = map (slice_index numbers) n.reads; cover = n.cover }

abbrev pub nodes_over : Circuit → List ℕ → List ℕ → List NodeOf
nodes_over C numbers places = map (λ j. node_over numbers (node C j)) places

-- the names of some nets of a source, counted from a net on
abbrev pub names_from : NetlistOf → ℕ → List ℕ → List (List ℕ)
names_from S first places = map (λ place. text_at S.names (first + place)) places

-- the words that no fresh name may begin like, beside the names of the source: the control of its clock, where it has one
abbrev pub control_words : Option (List ℕ) → List (List ℕ)
control_words None = []
control_words (Some control) = control ∷ []

-- the number of the fresh names: the least such that no name of the source, nor the control, begins as they do
abbrev pub fresh_number : NetlistOf → Option (List ℕ) → ℕ
fresh_number S control = free_number (S.names ++ control_words control)

-- fresh names with a number, so many of them, from this count on
abbrev pub fresh_from : ℕ → ℕ → ℕ → List (List ℕ)
fresh_from number first count = map (fresh_text number) (range_with_len first count)
