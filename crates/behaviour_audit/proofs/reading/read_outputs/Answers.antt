use Rattle.std.proofs.Common.{false, sym, ap, ◌∙◌}
use Rattle.fault_secure.specs.Circuit.{bit}
use Rattle.tsc_net.specs.PlanView.{net_numbers}
use Rattle.behaviour_audit.specs.Points.{input_of}
use Rattle.behaviour_audit.proofs.WatchLemmas.{read_shown}
use Rattle.behaviour_audit.proofs.reading.read_outputs.Goals as goal
use Rattle.tsc_net.proofs.NetNumbers.{are_watched}

pub read_nets-requires-clause-watched : goal.read_nets-requires-clause-watched
read_nets-requires-clause-watched c =
    let watch = c.args.watch.now in
    are_watched watch.bench.watched c.as_slice.result.now (c.requires.watch.watched ∙ ap net_numbers (sym c.as_slice.ensures.whole))

pub returns-clause-outputs : goal.returns-clause-outputs
returns-clause-outputs c =
    let watch = c.args.watch.now in
    let C = c.args.net.now.circuit in
    let shows = c.requires.shows in
    record {
      valuation = shows.valuation;
      settles = shows.settles;
      only = shows.only;
      are = read_shown C (bit (input_of C.inputs c.args.point)) (λ _. false) watch.bench c.args.slot c.as_slice.result.now C.outputs c.read_nets.new.bits
          (c.requires.watch.watched ∙ ap net_numbers (sym c.as_slice.ensures.whole)) (ap net_numbers c.as_slice.ensures.whole ∙ c.requires.nets) shows c.read_nets.ensures.bits;
    }
