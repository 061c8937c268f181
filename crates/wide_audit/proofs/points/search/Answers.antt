use Rattle.std.proofs.Common.{sym, ◌∙◌, subst}
use Rattle.fault_secure.specs.CodePlan.{IsWellMade}
use Rattle.wide_audit.proofs.Valuations.{the_valuation, valuations}
use Rattle.wide_audit.proofs.Searched.{searched}
use Rattle.wide_audit.proofs.points.search.Goals as goal

pub returns-in-Ok-first_wrong-clause-point : goal.returns-in-Ok-first_wrong-clause-point
returns-in-Ok-first_wrong-clause-point c =
    let S = c.args.asked.now.source.now.circuit in
    let N = c.args.asked.now.net.now.circuit in
    let here = c.order-source.ensures.acyclic in
    let there = c.order-order.ensures.acyclic in
    searched S N c.args.asked.now.plan.now c.args.asked.now.no_latch c.requires.latches c.requires.same_inputs (sym c.requires.outputs) c.args.asked.now.of (subst IsWellMade c.plan.view_is c.plan.invariant.well_made) here there
    c.wide_rows.new.diagrams c.in-Ok.found.word c.in-Ok.found.outputs.items c.in-Ok-first_wrong.point (c.wide_rows.ensures.grown.inputs ∙ c.requires.inputs)
    (c.in-Ok.ensures.rows (the_valuation S here) (the_valuation N there) (valuations S here) (valuations N there)) c.in-Ok-first_wrong.ensures.first
