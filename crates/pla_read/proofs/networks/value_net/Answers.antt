-- The parts are sound, and the netlist answers the values.
use Rattle.std.proofs.Common.{sym, ap, ◌∙◌, subst}
use Rattle.tsc_net.specs.NetlistOf.{netlist_of}
use Rattle.net_building.specs.Sound.{IsSound}
use Rattle.pla_read.specs.Shaped.{table_as}
use Rattle.pla_read.proofs.Collected.{value_net_of, wide_table}
use Rattle.pla_read.proofs.ValueNet.{value_sound}
use Rattle.pla_read.proofs.networks.value_net.Goals as goal

pub built-requires : goal.built-requires
built-requires c = record {
  sound = subst IsSound (sym c.in_ok-add_values.ensures.values)
      (value_sound c.args.names.now.inputs c.args.names.now.outputs (table_as c.args.table.now) c.requires.inputs c.requires.outputs c.requires.distinct c.requires.some);
}

pub returns-clause-answers : goal.returns-clause-answers
returns-clause-answers c =
    value_net_of c.args.names.now.inputs c.args.names.now.outputs (table_as c.args.table.now) c.requires.inputs c.requires.outputs c.requires.some
    c.in_ok-net.net c.requires.distinct (wide_table c.args.table.now)
    (c.in_ok-net.ensures.exact ∙ ap netlist_of c.in_ok-add_values.ensures.values) c.nets-nets.ensures.checked
