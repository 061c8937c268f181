use Rattle.std.proofs.Common.{subst}
use Rattle.audit.specs.Conditions.{IsStructureStep}
use Rattle.wide_audit.proofs.Verdicts.{first_of_structure}
use Rattle.wide_audit.proofs.auditing.fitting_verdict.Goals as goal

pub returns-in-Ok-Some-clause-verdict : goal.returns-in-Ok-Some-clause-verdict
returns-in-Ok-Some-clause-verdict c =
    let N = c.args.asked.now.net.now.circuit in
    let P = c.args.asked.now.plan.now in
    first_of_structure c.args.asked.now.rows c.args.asked.now.source.now.circuit N P c.in-Ok-Some.why c.requires.fits (subst (IsStructureStep N P) c.in-Ok-Some.field-0-is c.in-Ok-Some.ensures.answer)

pub structured_verdict-requires : goal.structured_verdict-requires
structured_verdict-requires c = record {
  structure = record { fits = c.requires.fits; structure = subst (IsStructureStep c.args.asked.now.net.now.circuit c.args.asked.now.plan.now) c.in-Ok-None.field-0-is c.in-Ok-None.ensures.answer };
}
