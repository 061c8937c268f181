use Rattle.std.proofs.Common.{Some, ap, sym, ◌∙◌, arith}
use Rattle.blif_read.proofs.NextLine.{next_line}
use Rattle.blif_read.proofs.PlanWalk.{first_here, first_later}
use Rattle.blif_read.proofs.plan_names.first_unknown.Goals as goal

pub returns-then-has_unknown : goal.returns-then-has_unknown
returns-then-has_unknown c =
    let step = next_line c.args.section.now c.loop-place.place c.line-line.result (omega arith) c.line-line.ensures.line in
    let here = first_here c.args.net.now.names _ _ _ step (sym c.has_unknown.ensures.unknown ∙ c.if-has_unknown.true) in
    record { line = ap Some c.number.ensures.number ∙ sym (c.loop-place.invariant ∙ here) }

pub loop-place-preserved : goal.loop-place-preserved
loop-place-preserved c =
    let step = next_line c.args.section.now c.loop-place.place c.line-line.result (omega arith) c.line-line.ensures.line in
    c.loop-place.invariant ∙ first_later c.args.net.now.names _ _ _ step (sym c.has_unknown.ensures.unknown ∙ c.if-has_unknown.false)
