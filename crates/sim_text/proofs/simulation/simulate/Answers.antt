use Rattle.tsc_net.specs.Fault.{stuck_at_or_none}
use Rattle.sim_text.proofs.LineLemmas.{untouched, run_ends}
use Rattle.sim_text.proofs.simulation.simulate.Goals as goal

pub returns-in-Err-NotListed-clause-run : goal.returns-in-Err-NotListed-clause-run
returns-in-Err-NotListed-clause-run g c =
    untouched c.args.net.now.circuit c.args.plan.now (stuck_at_or_none c.args.fault) c.args.when c.args.steps.now _ c.nets-checked.ensures.checked.acyclic

pub returns-in-Err-Memory-clause-run : goal.returns-in-Err-Memory-clause-run
returns-in-Err-Memory-clause-run g c =
    untouched c.args.net.now.circuit c.args.plan.now (stuck_at_or_none c.args.fault) c.args.when c.args.steps.now _ c.nets-checked.ensures.checked.acyclic

pub returns-clause-run : goal.returns-clause-run
returns-clause-run g c =
    run_ends c.args.net.now.circuit c.args.plan.now (stuck_at_or_none c.args.fault) c.args.when c.in-Ok.sim c.args.steps.now c.nets-checked.ensures.checked.acyclic c.in-Ok.ensures.opened
    _ _ c.print_lines-ended.result c.print_lines-ended.ensures.run
