use Rattle.synth_ways.specs.declared.way.Way.TheVariants.{Duplex}
use Rattle.tsc_synth.specs.CoverBound.{cover_bound}
use Rattle.tsc_synth.proofs.WayBounds.{few_enough, shared_network}
use Rattle.tsc_synth.proofs.ResultSteps.{through}
use Rattle.tsc_synth.proofs.synthesis.duplex.Goals as goal
use Rattle.tsc_net.proofs.ResultLemmas.{on_ok}

pub returns-clause-covers : goal.returns-clause-covers
returns-clause-covers c =
    through c.duplex_netlist.result c.map_err-2.result _ _ _
    (λ s few. few) c.duplex_netlist.ensures.few c.map_err-2.ensures.cases c.map_err-2.ensures.variant

pub returns-clause-fits : goal.returns-clause-fits
returns-clause-fits c =
    on_ok c.map_err-2.result _ (few_enough (cover_bound Duplex c.args.source.now.circuit) c.bound_over-bound.result c.bound_over-bound.ensures.bound c.if-bound-gt-MOST_COVERS.false)

pub duplex_netlist-requires-clause-small : goal.duplex_netlist-requires-clause-small
duplex_netlist-requires-clause-small c = shared_network c.args.source.now.circuit c.bound_over-bound.result c.bound_over-bound.ensures.bound c.if-bound-gt-MOST_COVERS.false
