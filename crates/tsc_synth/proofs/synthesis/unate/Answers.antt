use Rattle.std.proofs.Common.{ℕ, ◌-◌, ◌≤◌, ◌^◌, length, sym, subst}
use Rattle.tsc_synth.specs.CoverBound.{bound_over, cover_bound}
use Rattle.tsc_synth.proofs.WayBounds.{few_enough, four_copies, small_network, unate_bound}
use Rattle.tsc_synth.proofs.ResultSteps.{through}
use Rattle.tsc_synth.proofs.synthesis.unate.Goals as goal
use Rattle.tsc_net.proofs.ResultLemmas.{on_ok}

pub returns-clause-covers : goal.returns-clause-covers
returns-clause-covers c =
    through c.unate_netlist.result c.map_err.result _ _ _
    (λ s few. subst (λ (copies : ℕ). length s.net.circuit.nodes ≤ bound_over copies c.args.source.now.circuit) (sym (four_copies c.args.way c.args.source.now.circuit c.requires.unordered)) few)
    c.unate_netlist.ensures.few c.map_err.ensures.cases c.map_err.ensures.variant

pub returns-clause-fits : goal.returns-clause-fits
returns-clause-fits c =
    let bound = unate_bound c.args.way c.args.source.now.circuit c.bound_over-bound.result (2 ^ 64 - 1) c.requires.unordered c.bound_over-bound.ensures.bound in
    on_ok c.map_err.result _ (few_enough (cover_bound c.args.way c.args.source.now.circuit) c.bound_over-bound.result bound c.if-bound-gt-MOST_COVERS.false)

pub unate_netlist-requires-clause-small : goal.unate_netlist-requires-clause-small
unate_netlist-requires-clause-small c = small_network c.args.source.now.circuit c.bound_over-bound.result c.bound_over-bound.ensures.bound c.if-bound-gt-MOST_COVERS.false
