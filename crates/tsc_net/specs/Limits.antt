-- The limit on what a netlist holds.
use Rattle.std.specs.Prelude.{ℕ, ◌+◌}

-- the most nets of a netlist in a text: 1,024 inputs, 32,768 latches, and nodes
abbrev pub most_nets : ℕ
most_nets = 1024 + 32768 + 1048576
