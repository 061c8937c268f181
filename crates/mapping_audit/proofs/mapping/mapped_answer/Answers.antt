use Rattle.mapping_audit.proofs.Showing.{shown_of}
use Rattle.mapping_audit.proofs.mapping.mapped_answer.Goals as goal

pub returns-clause-shown : goal.returns-clause-shown
returns-clause-shown c = shown_of c.args.plain.now c.args.mapped.now c.in_ok-answer.answer c.in_ok-answer.ensures.answer
