use Rattle.monitored_nets.proofs.WordWithin.{word_within}
use Rattle.behaviour_audit.proofs.opening.watch_monitored.Goals as goal

pub watch_of-requires-clause-watched : goal.watch_of-requires-clause-watched
watch_of-requires-clause-watched c =
    word_within c.args.net.now.circuit c.args.plan.now c.in_ok-watched.watched c.requires.plan c.nets-checked.ensures.checked.closed c.in_ok-watched.ensures.nets
