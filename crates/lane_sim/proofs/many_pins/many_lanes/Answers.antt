use Rattle.std.proofs.Common.{ap, ◌∙◌, arith}
use Rattle.fault_secure.specs.StuckAt.{NoFault}
use Rattle.tsc_net.specs.Fault.{stuck_at_or_none}
use Rattle.lane_sim.specs.FlatRows.{rows_in}
use Rattle.lane_sim.specs.Gate.{gate_bit}
use Rattle.lane_sim.proofs.KernelLemmas.{gate_free}
use Rattle.lane_sim.proofs.LaneLemmas.{lanes_fit}
use Rattle.lane_sim.proofs.many_pins.many_lanes.Goals as goal

pub free_lanes-requires : goal.free_lanes-requires
free_lanes-requires c =
    let rows = c.rows_of.ensures in
    (lanes_fit 16 (omega arith), (omega arith, (rows.inside, rows.operands c.args.words.now c.args.block.now c.requires.operands)))

pub returns-then-is_elsewhere : goal.returns-then-is_elsewhere
returns-then-is_elsewhere c =
    let words = c.args.words.now in
    let block = c.args.block.now in
    let gate = c.args.gate in
    record {
      lanes = record {
        sized = c.free_lanes.ensures.lanes.sized;
        lanes = λ p inside.
            c.free_lanes.ensures.lanes.lanes p inside
            ∙ ap (gate_bit NoFault 0 words block p gate.on) c.rows_of.ensures.rows
            ∙ gate_free c.args.driver c.args.first (stuck_at_or_none c.args.fault) words block p c.requires.sources
            (c.is_elsewhere.ensures.elsewhere c.if-is_elsewhere.true) gate.on (rows_in c.args.flat.now gate.place) c.requires.operands;
      };
    }

pub held_lanes-requires : goal.held_lanes-requires
held_lanes-requires c =
    let rows = c.rows_of.ensures in
    (lanes_fit 16 (omega arith), (omega arith, (rows.inside, rows.operands c.args.words.now c.args.block.now c.requires.operands)))

pub returns : goal.returns
returns c =
    let words = c.args.words.now in
    let block = c.args.block.now in
    record {
      lanes = record {
        sized = c.held_lanes.ensures.lanes.sized;
        lanes = λ p inside.
            c.held_lanes.ensures.lanes.lanes p inside
            ∙ ap (gate_bit (stuck_at_or_none c.args.fault) c.args.driver words block p c.args.gate.on) c.rows_of.ensures.rows;
      };
    }
