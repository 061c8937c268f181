use Rattle.std.proofs.Common.{◌≤◌, ◌+◌, ◌*◌, ap, ◌∙◌, subst}
use Rattle.fault_secure.specs.Logic.{Logic, inputs_of, outputs_count}
use Rattle.code_lanes.specs.Lanes.{column}
use Rattle.tsc_net.specs.SourceView.{logic_of}
use Rattle.behaviour_audit.proofs.PointsLemmas.{loose_allows_at, network_allows, machine_allows_at}
use Rattle.behaviour_audit.proofs.output_lanes.wrong_outputs.Goals as goal
use Rattle.lane_sim.specs.Places.{point_at}

pub wrong_answers-requires : goal.wrong_answers-requires
wrong_answers-requires c =
    let same = ap logic_of c.in-Machine.is in
    record {
      few = subst (λ (L : Logic). inputs_of L ≤ 20) same c.requires.inputs;
      whole = c.requires.whole;
      sized = c.requires.sized ∙ ap outputs_count same;
    }

pub returns-in-Machine-clause-allowed : goal.returns-in-Machine-clause-allowed
returns-in-Machine-clause-allowed c = λ k few zero_ shows.
    machine_allows_at (logic_of c.args.source.now) c.in-Machine.machine.now.table (c.args.base + k) (ap logic_of c.in-Machine.is) c.args.version (column k c.args.outputs.now)
    (c.wrong_answers.ensures.allowed k few zero_)

pub returns-in-Network-reference-clause-allowed : goal.returns-in-Network-reference-clause-allowed
returns-in-Network-reference-clause-allowed c = λ k few zero_ shows.
    let M = logic_of c.args.source.now in
    let point = point_at (inputs_of M) (c.args.base + k) in
    network_allows M c.in-Network.net.now.circuit c.args.reference.now c.in-Network-reference.watch c.args.version (c.args.word * 64 + k) point (column k c.args.outputs.now)
    (column k c.read_output_lanes.new.lanes) (ap logic_of c.in-Network.is) c.in-Network-reference.is (c.read_output_lanes.ensures.outputs k point few)
    (c.differing.ensures.same k few zero_ ∙ ap (column k) c.as_slice.ensures.whole) shows

pub returns-in-Loose-reference-clause-allowed : goal.returns-in-Loose-reference-clause-allowed
returns-in-Loose-reference-clause-allowed c = λ k few zero_ shows.
    let M = logic_of c.args.source.now in
    let point = point_at (inputs_of M) (c.args.base + k) in
    let loose = c.in-Loose.loose.now in
    loose_allows_at M loose.value.circuit loose.free.circuit c.args.reference.now c.in-Loose-reference.watches c.args.version (c.args.word * 64 + k) point (column k c.args.outputs.now)
    (ap logic_of c.in-Loose.is) c.in-Loose-reference.is (c.wrong_where_bound.ensures.allowed k point few zero_) shows
