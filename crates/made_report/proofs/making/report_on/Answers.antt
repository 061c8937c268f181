-- The netlist, the verdict, the lines.
use Rattle.std.proofs.Common.{◌≤◌, arith}
use Rattle.std.proofs.lemmas.Result.{err_from_is_err_and}
use Rattle.fault_secure.specs.declared.code.Code.TheVariants.{Berger}
use Rattle.fault_secure.specs.Logic.{States}
use Rattle.netlist_answers.specs.Refused.{audit_points_refusal, has_too_many_audit_points}
use Rattle.answers.specs.Refused.{limits_refusal}
use Rattle.made_report.proofs.MadeLemmas.{checks_are, few_latches, few_nets, kept_bound, kept_states, latches_are}
use Rattle.text_sections.proofs.SectionLemmas.{refused_later}
use Rattle.made_report.proofs.making.report_on.Goals as goal

pub verdict_on-requires-clause-latches : goal.verdict_on-requires-clause-latches
verdict_on-requires-clause-latches c =
    let M = c.args.source.now.machine.table in
    let made = c.in_ok-made.made in
    few_latches M c.args.source.now.inputs c.args.source.now.outputs made.net made.plan c.in_ok-made.ensures.exact
    (kept_states M c.in_ok-made.ensures.fits) c.in_ok-made.ensures.secure.structure.plan_of.latches

pub verdict_on-requires-clause-nets : goal.verdict_on-requires-clause-nets
verdict_on-requires-clause-nets c =
    let M = c.args.source.now.machine.table in
    let made = c.in_ok-made.made in
    let few_inputs : M.inputs ≤ 64 = (let same = c.inputs-inputs.ensures.inputs in let few = c.inputs-inputs.ensures.few in omega (arith, same, few)) in
    let latches = few_latches M c.args.source.now.inputs c.args.source.now.outputs made.net made.plan c.in_ok-made.ensures.exact
    (kept_states M c.in_ok-made.ensures.fits) c.in_ok-made.ensures.secure.structure.plan_of.latches in
    let covers = c.in_ok-made.ensures.covers in
    let bound = kept_bound M c.in_ok-made.ensures.fits in
    few_nets M c.args.source.now.inputs c.args.source.now.outputs made.net made.plan c.in_ok-made.ensures.exact few_inputs latches (omega (arith, covers, bound))

pub returns-in_err-verdict-clause-refused : goal.returns-in_err-verdict-clause-refused
returns-in_err-verdict-clause-refused c =
    let M = c.args.source.now.machine.table in
    let p = err_from_is_err_and c.from_residual-in_err-verdict.result c.from_residual-in_err-verdict.ensures.1 in rw (p.1, p.2) (
    refused_later (limits_refusal Berger M) (audit_points_refusal (has_too_many_audit_points (States M))) c.in_err-verdict.field-0.0
    c.in_ok-made.ensures.fits c.in_err-verdict.ensures.refused)

pub written_report-requires-clause-checks : goal.written_report-requires-clause-checks
written_report-requires-clause-checks c =
    let M = c.args.source.now.machine.table in
    let made = c.in_ok-made.made in
    let same = c.outputs-outputs.ensures.outputs in
    let some = c.outputs-outputs.ensures.some in
    let few = c.outputs-outputs.ensures.few in
    checks_are M c.args.source.now.inputs c.args.source.now.outputs made.net made.plan c.in_ok-made.ensures.exact c.in_ok-made.ensures.code
    (omega (arith, same, some)) (omega (arith, same, few))

pub written_report-requires-clause-latches : goal.written_report-requires-clause-latches
written_report-requires-clause-latches c =
    let M = c.args.source.now.machine.table in
    let made = c.in_ok-made.made in
    latches_are M c.args.source.now.inputs c.args.source.now.outputs made.net made.plan c.in_ok-made.ensures.exact
    (kept_states M c.in_ok-made.ensures.fits) c.in_ok-made.ensures.secure.structure.plan_of.latches

pub written_report-requires-clause-bound : goal.written_report-requires-clause-bound
written_report-requires-clause-bound c = kept_bound c.args.source.now.machine.table c.in_ok-made.ensures.fits
