use Rattle.std.proofs.Common.{take, ap, ◌∙◌}
use Rattle.fault_secure.specs.CodePlan.{CodePlan}
use Rattle.tsc_net.specs.PlanView.{net_numbers}
use Rattle.fault_sim.specs.Sim.{point_bit}
use Rattle.fault_sim.proofs.ShownLemmas.{outputs_are_watched, checks_are_watched, number_of, rail1_is_watched, rail2_is_watched}
use Rattle.fault_sim.proofs.shown.view_of.Goals as goal

pub rails_of-rail1-requires-clause-first : goal.rails_of-rail1-requires-clause-first
rails_of-rail1-requires-clause-first c = rail1_is_watched c.args.bench.now.circuit c.args.shown.now.plan.now c.args.bench.now.watched c.requires.watched

pub rails_of-rail1-requires-clause-second : goal.rails_of-rail1-requires-clause-second
rails_of-rail1-requires-clause-second c = rail2_is_watched c.args.bench.now.circuit c.args.shown.now.plan.now c.args.bench.now.watched c.requires.watched

pub number_at-requires-clause-watched : goal.number_at-requires-clause-watched
number_at-requires-clause-watched c =
    let bench = c.args.bench.now in
    outputs_are_watched bench.circuit c.args.shown.now.plan.now bench.watched c.requires.watched c.deref.result.now
    (ap net_numbers c.deref.ensures.value ∙ c.requires.shown.outputs)

pub number_at-requires-2-clause-watched : goal.number_at-requires-2-clause-watched
number_at-requires-2-clause-watched c =
    let bench = c.args.bench.now in
    checks_are_watched bench.circuit c.args.shown.now.plan.now bench.watched c.requires.watched c.as_slice.result.now
    (ap net_numbers c.as_slice.ensures.whole ∙ ap (λ (P : CodePlan). P.checks) c.plan.view_is)

pub returns : goal.returns
returns c =
    let bench = c.args.bench.now in
    let shown = c.args.shown.now in
    let N = bench.circuit in
    record {
      view = record {
        outputs = c.number_at.ensures.number
            ∙ number_of (point_bit bench c.args.point) c.deref.result.now (take shown.plan.now.outputs N.outputs) (ap net_numbers c.deref.ensures.value ∙ c.requires.shown.outputs);
        checks = c.number_at-2.ensures.number
            ∙ number_of (point_bit bench c.args.point) c.as_slice.result.now shown.plan.now.checks (ap net_numbers c.as_slice.ensures.whole ∙ ap (λ (P : CodePlan). P.checks) c.plan.view_is);
        rail1 = c.rails_of-rail1.ensures.first;
        rail2 = c.rails_of-rail1.ensures.second;
      };
    }
