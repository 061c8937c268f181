-- What the verdict says where it is yes.
use Rattle.std.proofs.Common.{subst}
use Rattle.fault_secure.specs.Logic.{Logic}
use Rattle.exact_audit.specs.ExactLaws.{IsAlarmSecureWhereYes}
use Rattle.netlist_answers.specs.Audited.{logic_in}
use Rattle.exact_answers.proofs.ExactLemmas.{shown_where_yes}
use Rattle.exact_answers.proofs.answering.exact_on.Goals as goal

pub returns-in-Ok-clause-secure : goal.returns-in-Ok-clause-secure
returns-in-Ok-clause-secure c =
    let N = c.args.read.now.net in
    let P = c.args.read.now.plan in
    let A : Logic → Type 0 = λ M. IsAlarmSecureWhereYes M N.circuit P c.in-Ok.verdict in
    shown_where_yes (logic_in c.args.source.now) N P c.in-Ok.verdict (subst A c.meaning_of.ensures.logic c.in-Ok.ensures.secure)
