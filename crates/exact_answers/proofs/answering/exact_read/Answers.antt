-- The verdict, and the reply that says it.
use Rattle.netlist_answers.specs.Audited.{logic_in}
use Rattle.exact_answers.proofs.ExactLemmas.{reply_of}
use Rattle.exact_answers.proofs.answering.exact_read.Goals as goal

pub returns-in-Ok-clause-answers : goal.returns-in-Ok-clause-answers
returns-in-Ok-clause-answers c =
    reply_of (logic_in c.args.source.now) c.args.read.now.net c.args.read.now.plan c.in_ok-verdict.verdict c.in-Ok.reply.ending c.in-Ok.reply.bytes
    c.in_ok-verdict.ensures.verdict c.in_ok-verdict.ensures.secure c.in-Ok.ensures.text c.in-Ok.ensures.ending
