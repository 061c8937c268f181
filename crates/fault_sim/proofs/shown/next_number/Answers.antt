use Rattle.std.proofs.Common.{ap, ◌∙◌}
use Rattle.fault_secure.specs.CodePlan.{next_nets}
use Rattle.tsc_net.specs.PlanView.{net_numbers}
use Rattle.fault_sim.specs.Sim.{point_bit}
use Rattle.fault_sim.proofs.ShownLemmas.{next_are_watched, next_numbers, number_of}
use Rattle.fault_sim.proofs.shown.next_number.Goals as goal

pub number_at-requires-clause-watched : goal.number_at-requires-clause-watched
number_at-requires-clause-watched c =
    let bench = c.args.bench.now in
    let shown = c.args.shown.now in
    next_are_watched bench.circuit shown.plan.now bench.watched c.requires.watched c.deref.result.now
    (ap net_numbers (c.deref.ensures.value ∙ c.requires.shown.next) ∙ next_numbers bench.circuit shown.latches.items c.requires.shown.latches)

pub returns : goal.returns
returns c =
    let bench = c.args.bench.now in
    let shown = c.args.shown.now in
    record {
      next = c.number_at.ensures.number
          ∙ number_of (point_bit bench c.args.point) c.deref.result.now (next_nets bench.circuit)
          (ap net_numbers (c.deref.ensures.value ∙ c.requires.shown.next) ∙ next_numbers bench.circuit shown.latches.items c.requires.shown.latches);
    }
