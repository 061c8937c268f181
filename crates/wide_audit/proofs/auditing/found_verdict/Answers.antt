use Rattle.std.proofs.Common.{subst}
use Rattle.wide_audit.specs.Points.{IsPointAnswer}
use Rattle.wide_audit.proofs.auditing.found_verdict.Goals as goal

pub pointed_verdict-requires-clause-sized : goal.pointed_verdict-requires-clause-sized
pointed_verdict-requires-clause-sized c = (subst (IsPointAnswer c.args.asked.now.source.now.circuit c.args.asked.now.net.now.circuit c.args.asked.now.plan.now) c.in-Some.is c.requires.found).0

pub pointed_verdict-requires-clause-point : goal.pointed_verdict-requires-clause-point
pointed_verdict-requires-clause-point c = (subst (IsPointAnswer c.args.asked.now.source.now.circuit c.args.asked.now.net.now.circuit c.args.asked.now.plan.now) c.in-Some.is c.requires.found).1

pub following_verdict-requires-clause-follows : goal.following_verdict-requires-clause-follows
following_verdict-requires-clause-follows c = subst (IsPointAnswer c.args.asked.now.source.now.circuit c.args.asked.now.net.now.circuit c.args.asked.now.plan.now) c.in-None.is c.requires.found
