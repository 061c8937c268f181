use Rattle.monitored_nets.proofs.WordWithin.{word_within}
use Rattle.monitored_nets.proofs.marks.function_marks.Goals as goal

pub cone_marks-requires : goal.cone_marks-requires
cone_marks-requires c = record { nets = word_within c.args.net.now.circuit c.args.plan.now c.args.word.now c.requires.plan c.nets-nets.ensures.checked.closed c.requires.word }
