-- The parts are sound, and the netlist answers where outputs are free.
use Rattle.std.proofs.Common.{ap, ◌∙◌}
use Rattle.tsc_net.specs.NetlistOf.{netlist_of}
use Rattle.pla_read.specs.Shaped.{table_as}
use Rattle.pla_read.proofs.Collected.{free_net_of, free_parts_sound, wide_table}
use Rattle.pla_read.proofs.networks.free_net.Goals as goal

pub built-requires : goal.built-requires
built-requires c = record {
  sound = free_parts_sound c.args.names.now.inputs c.args.names.now.outputs (table_as c.args.table.now) c.requires.inputs c.requires.outputs c.requires.some _
      c.in_ok-add_frees.ensures.frees;
}

pub returns : goal.returns
returns c = record {
  net = c.in_ok-net.ensures.exact ∙ ap netlist_of c.in_ok-add_frees.ensures.frees.named;
  frees = free_net_of c.args.names.now.inputs c.args.names.now.outputs (table_as c.args.table.now) c.requires.inputs c.requires.outputs c.requires.some _
      c.in_ok-net.net c.in_ok-add_frees.ensures.frees (wide_table c.args.table.now) c.requires.fit.few_inputs c.requires.fit.few_outputs
      c.in_ok-net.ensures.exact c.nets-nets.ensures.checked;
}
