use Rattle.std.proofs.Common.{ℕ, ◌+◌, ◌*◌, sym, ap, ◌∙◌}
use Rattle.fault_secure.specs.Circuit.{bit}
use Rattle.fault_secure.specs.CodePlan.{monitored}
use Rattle.tsc_net.specs.PlanView.{net_numbers}
use Rattle.code_lanes.specs.Lanes.{column}
use Rattle.behaviour_audit.specs.Points.{input_of}
use Rattle.behaviour_audit.proofs.WatchLemmas.{read_shown, column_shown}
use Rattle.behaviour_audit.proofs.StepLemmas.{has_word}
use Rattle.behaviour_audit.proofs.reading.read_words.Goals as goal
use Rattle.tsc_net.proofs.NetNumbers.{are_watched}

pub read_lanes-requires-clause-watched : goal.read_lanes-requires-clause-watched
read_lanes-requires-clause-watched c =
    let watch = c.args.watch.now in
    are_watched watch.bench.watched c.as_slice.result.now (c.requires.watch.watched ∙ ap net_numbers (sym c.as_slice.ensures.whole))

pub returns-clause-words : goal.returns-clause-words
returns-clause-words c = λ k point few step.
    let watch = c.args.watch.now in
    let N = c.args.net.now.circuit in
    let P = c.args.plan.now in
    let slot : ℕ = c.args.word * 64 + k in
    let nets = c.as_slice.result.now in
    has_word N P watch.bench slot point (column k c.read_lanes.new.lanes) step
    (read_shown N (bit (input_of N.inputs point)) (bit step.word) watch.bench slot nets (monitored N P) (column k c.read_lanes.new.lanes)
    (c.requires.watch.watched ∙ ap net_numbers (sym c.as_slice.ensures.whole)) (ap net_numbers c.as_slice.ensures.whole ∙ c.requires.nets) step.shows
    (column_shown watch.bench c.args.word k nets c.read_lanes.new.lanes few c.read_lanes.ensures.lanes))
