use Rattle.std.proofs.Common.{subst}
use Rattle.audit.specs.Conditions.{IsCheckerStep}
use Rattle.wide_audit.proofs.Verdicts.{accepted, first_of_checker}
use Rattle.wide_audit.proofs.auditing.following_verdict.Goals as goal

pub checker_reason-requires-clause-rails : goal.checker_reason-requires-clause-rails
checker_reason-requires-clause-rails c = c.requires.structure.structure.0

pub checker_reason-requires-clause-reads : goal.checker_reason-requires-clause-reads
checker_reason-requires-clause-reads c = c.requires.structure.structure.1

pub returns-in-Ok-Some-clause-verdict : goal.returns-in-Ok-Some-clause-verdict
returns-in-Ok-Some-clause-verdict c =
    let N = c.args.asked.now.net.now.circuit in
    let P = c.args.asked.now.plan.now in
    first_of_checker c.args.asked.now.rows c.args.asked.now.source.now.circuit N P c.in-Ok-Some.why c.requires.functions c.requires.structure c.requires.follows
    (subst (IsCheckerStep N P) c.in-Ok-Some.field-0-is c.in-Ok-Some.ensures.answer)

pub returns-in-Ok-None-clause-verdict : goal.returns-in-Ok-None-clause-verdict
returns-in-Ok-None-clause-verdict c =
    let N = c.args.asked.now.net.now.circuit in
    let P = c.args.asked.now.plan.now in
    accepted c.args.asked.now.rows c.args.asked.now.source.now.circuit N P c.requires.functions c.requires.structure c.requires.follows (subst (IsCheckerStep N P) c.in-Ok-None.field-0-is c.in-Ok-None.ensures.answer)
