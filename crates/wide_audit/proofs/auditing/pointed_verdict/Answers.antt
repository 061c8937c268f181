use Rattle.std.proofs.Common.{Bool, List, sym, ap, ◌∙◌, subst}
use Rattle.wide_audit.specs.WideVerdict.{IsWideReason}
use Rattle.wide_audit.specs.Points.{reason_of}
use Rattle.wide_audit.proofs.Verdicts.{pointed}
use Rattle.wide_audit.proofs.auditing.pointed_verdict.Goals as goal

pub returns-in-Ok-clause-verdict : goal.returns-in-Ok-clause-verdict
returns-in-Ok-clause-verdict c =
    let S = c.args.asked.now.source.now.circuit in
    let N = c.args.asked.now.net.now.circuit in
    let P = c.args.asked.now.plan.now in
    let same = c.in-Ok.ensures.same ∙ c.deref.ensures.value in
    subst (IsWideReason c.args.asked.now.rows S N P) (ap (λ (input : List Bool). reason_of input c.args.point.output) (sym same) ∙ sym c.named.ensures.reason)
    (pointed c.args.asked.now.rows S N P c.args.point.input.items c.args.point.output c.requires.functions c.requires.structure c.requires.sized c.requires.point)
