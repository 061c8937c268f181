use Rattle.std.proofs.Common.{◌≡◌, ℕ, List, ◌+◌, ◌-◌, ◌≤◌, ◌^◌, length, Ok, refl, subst}
use Rattle.synth_ways.specs.declared.way.Way.TheVariants.{Parity}
use Rattle.parity_code.specs.FirstFit.{first_fit_groups}
use Rattle.tsc_synth.specs.CoverBound.{bound_over, cover_bound}
use Rattle.tsc_synth.proofs.WayBounds.{few_enough, parity_bound, small_copies}
use Rattle.tsc_synth.proofs.ResultSteps.{passed, through}
use Rattle.tsc_synth.proofs.synthesis.parity.Goals as goal
use Rattle.tsc_net.proofs.ResultLemmas.{on_ok}

pub returns-clause-covers : goal.returns-clause-covers
returns-clause-covers c =
    let are : c.in_ok-grouping.grouping ≡ first_fit_groups c.args.source.now.circuit
    = passed c.groups.result (Ok c.in_ok-grouping.grouping) c.in_ok-grouping.grouping _ _ c.groups.ensures.computed c.in_ok-grouping.ensures.cases c.in_ok-grouping.ensures.variant refl in
    through c.parity_netlist.result c.map_err-2.result _ _ _
    (λ s few. subst (λ (groups : List (List ℕ)). length s.net.circuit.nodes ≤ bound_over (length groups + 2) c.args.source.now.circuit) are few)
    c.parity_netlist.ensures.few c.map_err-2.ensures.cases c.map_err-2.ensures.variant

pub returns-clause-fits : goal.returns-clause-fits
returns-clause-fits c =
    let are : c.in_ok-grouping.grouping ≡ first_fit_groups c.args.source.now.circuit
    = passed c.groups.result (Ok c.in_ok-grouping.grouping) c.in_ok-grouping.grouping _ _ c.groups.ensures.computed c.in_ok-grouping.ensures.cases c.in_ok-grouping.ensures.variant refl in
    let bound = parity_bound c.args.source.now.circuit c.in_ok-grouping.grouping c.len.result c.saturating_add.result c.bound_over-bound.result (2 ^ 64 - 1) are c.len.ensures.count c.saturating_add.ensures c.bound_over-bound.ensures.bound in
    on_ok c.map_err-2.result _ (few_enough (cover_bound Parity c.args.source.now.circuit) c.bound_over-bound.result bound c.if-bound-gt-MOST_COVERS.false)

pub parity_netlist-requires-clause-small : goal.parity_netlist-requires-clause-small
parity_netlist-requires-clause-small c =
    let are : c.in_ok-grouping.grouping ≡ first_fit_groups c.args.source.now.circuit
    = passed c.groups.result (Ok c.in_ok-grouping.grouping) c.in_ok-grouping.grouping _ _ c.groups.ensures.computed c.in_ok-grouping.ensures.cases c.in_ok-grouping.ensures.variant refl in
    let bound = parity_bound c.args.source.now.circuit c.in_ok-grouping.grouping c.len.result c.saturating_add.result c.bound_over-bound.result (2 ^ 64 - 1) are c.len.ensures.count c.saturating_add.ensures c.bound_over-bound.ensures.bound in
    small_copies c.args.source.now.circuit c.in_ok-grouping.grouping c.bound_over-bound.result are bound c.if-bound-gt-MOST_COVERS.false
