-- The verdict is yes, as it is of each netlist that is self-checking and has its source's counts.
use Rattle.fault_secure.specs.Logic.{States}
use Rattle.audit.specs.declared.verdict.Verdict.TheVariants.{Yes}
use Rattle.made_report.proofs.MadeLemmas.{machine_fits}
use Rattle.made_report.proofs.making.verdict_on.Goals as goal

pub returns-in-Ok-clause-yes : goal.returns-in-Ok-clause-yes
returns-in-Ok-clause-yes c =
    let M = c.args.source.now.machine.table in
    let N = c.args.net.now.circuit in
    let P = c.args.plan.now in
    let fits = machine_fits M c.args.source.now.inputs c.args.source.now.outputs c.args.net.now P c.requires.exact in
    let accepted = c.self_checking_is_accepted.ensures.accepted (States M) N P c.requires.secure fits in
    c.verdict_is_determined.ensures.one (States M) N P c.in-Ok.verdict Yes c.requires.secure.structure.plan_of c.requires.secure.structure.well_made
    c.in-Ok.ensures.verdict accepted
