use Rattle.std.proofs.Common.{sym, arith}
use Rattle.wide_audit.proofs.Verdicts.{latched, no_verdict}
use Rattle.wide_audit.proofs.auditing.structured_verdict.Goals as goal

pub returns-then-has_latches-clause-verdict : goal.returns-then-has_latches-clause-verdict
returns-then-has_latches-clause-verdict c =
    latched c.args.asked.now.rows c.args.asked.now.source.now.circuit c.args.asked.now.net.now.circuit c.args.asked.now.plan.now c.requires.structure (c.has_latches.ensures.some c.if-has_latches.true)

pub wrong_point-requires-clause-latches : goal.wrong_point-requires-clause-latches
wrong_point-requires-clause-latches c = c.has_latches.ensures.none c.if-has_latches.false

pub wrong_point-requires-clause-inputs : goal.wrong_point-requires-clause-inputs
wrong_point-requires-clause-inputs c = omega (arith, c.args.asked.now.inputs, c.requires.structure.fits.inputs)

pub wrong_point-requires-clause-same_inputs : goal.wrong_point-requires-clause-same_inputs
wrong_point-requires-clause-same_inputs c = sym c.requires.structure.fits.inputs

pub wrong_point-requires-clause-outputs : goal.wrong_point-requires-clause-outputs
wrong_point-requires-clause-outputs c = sym c.requires.structure.fits.outputs

pub found_verdict-requires-clause-functions : goal.found_verdict-requires-clause-functions
found_verdict-requires-clause-functions c = record { no_latch = c.has_latches.ensures.none c.if-has_latches.false; few = c.in-Ok.ensures.few }

pub returns-in-Err-clause-spent : goal.returns-in-Err-clause-spent
returns-in-Err-clause-spent c =
    no_verdict c.args.asked.now.rows c.args.asked.now.source.now.circuit c.args.asked.now.net.now.circuit c.args.asked.now.plan.now c.in-Err.e c.requires.structure (c.has_latches.ensures.none c.if-has_latches.false)
    c.order-source.ensures.acyclic c.order-order.ensures.acyclic c.in-Err.ensures.spent
