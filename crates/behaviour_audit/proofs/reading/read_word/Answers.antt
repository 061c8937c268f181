use Rattle.std.proofs.Common.{sym, ap, ◌∙◌}
use Rattle.fault_secure.specs.Circuit.{bit}
use Rattle.fault_secure.specs.CodePlan.{monitored}
use Rattle.tsc_net.specs.PlanView.{net_numbers}
use Rattle.behaviour_audit.specs.Points.{input_of}
use Rattle.behaviour_audit.proofs.WatchLemmas.{read_shown}
use Rattle.behaviour_audit.proofs.StepLemmas.{has_word}
use Rattle.behaviour_audit.proofs.reading.read_word.Goals as goal
use Rattle.tsc_net.proofs.NetNumbers.{are_watched}

pub read_nets-requires-clause-watched : goal.read_nets-requires-clause-watched
read_nets-requires-clause-watched c =
    let watch = c.args.watch.now in
    are_watched watch.bench.watched c.as_slice.result.now (c.requires.watch.watched ∙ ap net_numbers (sym c.as_slice.ensures.whole))

pub returns-clause-word : goal.returns-clause-word
returns-clause-word c =
    let watch = c.args.watch.now in
    let N = c.args.net.now.circuit in
    let P = c.args.plan.now in
    let point = c.args.point in
    let step = c.requires.shows in
    has_word N P watch.bench c.args.slot point c.read_nets.new.bits step
    (read_shown N (bit (input_of N.inputs point)) (bit step.word) watch.bench c.args.slot c.as_slice.result.now (monitored N P) c.read_nets.new.bits
    (c.requires.watch.watched ∙ ap net_numbers (sym c.as_slice.ensures.whole)) (ap net_numbers c.as_slice.ensures.whole ∙ c.requires.nets) step.shows c.read_nets.ensures.bits)
