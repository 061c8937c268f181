-- The verdict, and the reply that says it; or that rows are spent.
use Rattle.wide_answers.proofs.WideLemmas.{reply_of, stops_so}
use Rattle.wide_answers.proofs.answering.answer_on.Goals as goal

pub returns-in-Ok-reply_of-clause-answers : goal.returns-in-Ok-reply_of-clause-answers
returns-in-Ok-reply_of-clause-answers c =
    let read = c.args.read.now in
    reply_of c.args.rows read.source.circuit read.net read.plan c.in-Ok.verdict c.in-Ok-reply_of.reply.ending c.in-Ok-reply_of.reply.bytes
    c.in-Ok.ensures.verdict c.in-Ok.ensures.secure c.in-Ok-reply_of.ensures.text c.in-Ok-reply_of.ensures.ending

pub returns-in-Err-clause-stopped : goal.returns-in-Err-clause-stopped
returns-in-Err-clause-stopped c =
    let read = c.args.read.now in
    stops_so c.args.rows read.source.circuit read.net read.plan c.in-Err.error c.refusal_by.result c.refusal_by.ensures.refusal c.in-Err.ensures.spent
