-- Why parts are no netlist: the first fault, by names.
use Rattle.std.specs.Prelude.{◌≡◌, ℕ, List, [], ◌∷◌, ◌++◌, map, if◌then◌else◌, Option, Some, None}
use Rattle.fault_secure.specs.Circuit.{node_net}
use Rattle.tsc_net.specs.Named.{Named}
use Rattle.tsc_net.specs.Names.{has_text, text_at}
use Rattle.tsc_net.specs.NetlistOf.{drivers, circuit_of}
use Rattle.tsc_net.specs.Order.{fan_ins, has_whole_order, ring}
use Rattle.tsc_net.specs.declared.net_error.NetError.{NetError}
use Rattle.tsc_net.specs.declared.net_error.NetError.TheVariants.{Twice, Undriven, NoOutputs, Cycle, Memory}

-- the first text that stands among the earlier ones or those seen before
abbrev pub repeat_after : List (List ℕ) → List (List ℕ) → Option (List ℕ)
repeat_after seen [] = None
repeat_after seen (text ∷ texts) = if has_text seen text then Some text else repeat_after (seen ++ text ∷ []) texts

-- the first text that stands among the earlier ones
abbrev pub first_repeat : List (List ℕ) → Option (List ℕ)
first_repeat texts = repeat_after [] texts

-- the first text that isn't driven
abbrev pub first_missing : List (List ℕ) → List (List ℕ) → Option (List ℕ)
first_missing driven [] = None
first_missing driven (text ∷ texts) = if has_text driven text then first_missing driven texts else Some text

-- all texts of the lists
abbrev pub joined : List (List (List ℕ)) → List (List ℕ)
joined [] = []
joined (texts ∷ lists) = texts ++ joined lists

-- what is read: by the nodes, pin by pin, by the latches, and as outputs
abbrev pub reads_of : Named → List (List ℕ)
reads_of N = (joined (map (λ n. n.reads) N.nodes) ++ map (λ l. l.reads) N.latches) ++ N.outputs

-- the fault that this name stands twice, where there is one
abbrev pub twice : Option (List ℕ) → Option NetError
twice None = None
twice (Some text) = Some (Twice text)

-- the fault that nothing drives this name, where there is one
abbrev pub undriven : Option (List ℕ) → Option NetError
undriven None = None
undriven (Some text) = Some (Undriven text)

-- the fault that there is no output, where the list is empty
abbrev pub no_outputs : List (List ℕ) → Option NetError
no_outputs [] = Some NoOutputs
no_outputs (text ∷ texts) = None

-- the names of the nets that a ring's nodes drive
abbrev pub ring_of : Named → List (List ℕ)
ring_of N = map (λ j. text_at (drivers N) (node_net (circuit_of N) j)) (ring (fan_ins (circuit_of N)))

-- the fault of a ring, with the names of its nets, where not each node has its place in the order
abbrev pub cycle : Named → Option NetError
cycle N = if has_whole_order (fan_ins (circuit_of N)) then None else Some (Cycle (ring_of N))

-- the first fault of a list
abbrev pub first_fault : List (Option NetError) → Option NetError
first_fault [] = None
first_fault (None ∷ faults) = first_fault faults
first_fault (Some fault ∷ faults) = Some fault

-- the fault of a netlist by names: a name driven twice, an output twice, a name that nothing drives, no output, a ring
abbrev pub fault_of : Named → Option NetError
fault_of N = first_fault (
    twice (first_repeat (drivers N)) ∷ twice (first_repeat N.outputs) ∷ undriven (first_missing (drivers N) (reads_of N))
    ∷ no_outputs N.outputs ∷ cycle N ∷ [])

-- the parts are refused by this: it is their fault; want of memory is free
abbrev pub IsRefusedFor : Named → NetError → Type 0
IsRefusedFor N (Twice net) = fault_of N ≡ Some (Twice net)
IsRefusedFor N (Undriven net) = fault_of N ≡ Some (Undriven net)
IsRefusedFor N NoOutputs = fault_of N ≡ Some NoOutputs
IsRefusedFor N (Cycle nets) = fault_of N ≡ Some (Cycle nets)
IsRefusedFor N (Memory error) = Unit {0}
