-- The texts of a table's netlists that are functions of the network of its values: their plans have version 2.
use Rattle.std.specs.Prelude.{ℕ, List}
use Rattle.tsc_net.specs.NetlistOf.{NetlistOf}
use Rattle.structure_laws.specs.LooseSource.{with_version}
use Rattle.blif_write.specs.Layout.{netlist_text}
use Rattle.parity_synth.specs.ParityNet.{parity_netlist, parity_plan}
use Rattle.duplex_synth.specs.DuplexNet.{duplex_netlist, duplex_plan}

-- under parity
abbrev pub loose_parity_text : NetlistOf → List ℕ
loose_parity_text values = netlist_text (parity_netlist values) (with_version 2 (parity_plan values.circuit))

-- and over one shared copy
abbrev pub loose_duplex_text : NetlistOf → List ℕ
loose_duplex_text values = netlist_text (duplex_netlist values) (with_version 2 (duplex_plan values.circuit))
