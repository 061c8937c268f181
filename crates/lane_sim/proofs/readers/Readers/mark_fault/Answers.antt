use Rattle.std.proofs.Common.{Option, subst}
use Rattle.tsc_net.specs.Fault.{stuck_at, stuck_at_or_none}
use Rattle.tsc_net.specs.declared.fault.Fault.{Fault}
use Rattle.lane_sim.specs.Again.{IsAtNets}
use Rattle.lane_sim.proofs.ReaderLemmas.{site_is_net}
use Rattle.lane_sim.proofs.readers.Readers.mark_fault.Goals as goal

pub mark_site-requires-clause-site : goal.mark_site-requires-clause-site
mark_site-requires-clause-site c =
    let C = c.args.net.now.circuit in
    site_is_net C (stuck_at c.in-Some.fault) c.site_of.result
    (subst (λ (o : Option Fault). IsAtNets C (stuck_at_or_none o)) c.in-Some.is c.requires.fault) c.site_of.ensures.site
