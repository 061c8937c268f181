use Rattle.std.proofs.Common.{ℕ, ◌+◌, ◌*◌, false, sym, ap, ◌∙◌}
use Rattle.fault_secure.specs.Circuit.{bit}
use Rattle.tsc_net.specs.PlanView.{net_numbers}
use Rattle.code_lanes.specs.Lanes.{column}
use Rattle.behaviour_audit.specs.Points.{input_of}
use Rattle.behaviour_audit.proofs.WatchLemmas.{read_shown, column_shown}
use Rattle.behaviour_audit.proofs.reading.read_output_lanes.Goals as goal
use Rattle.tsc_net.proofs.NetNumbers.{are_watched}

pub read_lanes-requires-clause-watched : goal.read_lanes-requires-clause-watched
read_lanes-requires-clause-watched c =
    let watch = c.args.watch.now in
    are_watched watch.bench.watched c.as_slice.result.now (c.requires.watch.watched ∙ ap net_numbers (sym c.as_slice.ensures.whole))

pub returns-clause-outputs : goal.returns-clause-outputs
returns-clause-outputs c = λ k point few shows.
    let watch = c.args.watch.now in
    let C = c.args.net.now.circuit in
    let slot : ℕ = c.args.word * 64 + k in
    let nets = c.as_slice.result.now in
    record {
      valuation = shows.valuation;
      settles = shows.settles;
      only = shows.only;
      are = read_shown C (bit (input_of C.inputs point)) (λ _. false) watch.bench slot nets C.outputs (column k c.read_lanes.new.lanes)
          (c.requires.watch.watched ∙ ap net_numbers (sym c.as_slice.ensures.whole)) (ap net_numbers c.as_slice.ensures.whole ∙ c.requires.nets) shows
          (column_shown watch.bench c.args.word k nets c.read_lanes.new.lanes few c.read_lanes.ensures.lanes);
    }
