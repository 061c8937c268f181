-- The netlist, whose nodes with their rows are at most as many as the lines.
use Rattle.std.proofs.Common.{◌≤◌, sym, subst, arith}
use Rattle.tsc_net.specs.NetlistOf.{NetlistOf}
use Rattle.question_answers.specs.Sizes.{most_lines, size_of}
use Rattle.question_answers.proofs.Replies.{one_over}
use Rattle.question_answers.proofs.Sized.{size_from}
use Rattle.question_answers.proofs.asking.question_behind.Goals as goal

pub question_read-requires-clause-small : goal.question_read-requires-clause-small
question_read-requires-clause-small c =
    let P : NetlistOf → Type 0 = λ n. size_of n.circuit.nodes ≤ most_lines in
    subst P (sym c.in_ok-read.ensures.net) (omega (arith, size_from c.args.lines.now c.args.from, c.requires.few))

pub returns-in-Ok-clause-answers : goal.returns-in-Ok-clause-answers
returns-in-Ok-clause-answers c =
    one_over c.in-Ok.reply c.args.source.now c.in_ok-read.read.net _ c.in_ok-read.read.plan _ c.in_ok-read.ensures.net c.in_ok-read.ensures.plan c.in-Ok.ensures.answers
