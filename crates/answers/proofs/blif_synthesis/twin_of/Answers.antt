use Rattle.tsc_net.specs.PlanView.{net_numbers}
use Rattle.answers.proofs.TwinLemmas.{tellable, twin_for}
use Rattle.answers.proofs.blif_synthesis.twin_of.Goals as goal

pub returns-in-Ok-clause-secure : goal.returns-in-Ok-clause-secure
returns-in-Ok-clause-secure c =
    let source = c.args.source.now in
    let made = c.in-Ok.made in
    twin_for source.net source.clock c.args.watching made.net made.plan (net_numbers made.watch) c.in-Ok.ensures.exact c.in-Ok.ensures.covers

pub returns-in-Ok-clause-tellable : goal.returns-in-Ok-clause-tellable
returns-in-Ok-clause-tellable c =
    let source = c.args.source.now in
    let made = c.in-Ok.made in
    tellable source.net source.clock c.args.watching made.net made.plan (net_numbers made.watch) c.in-Ok.ensures.exact
    c.nets-source_nets.ensures.checked c.requires.tellable c.nets-made_nets.ensures.checked
