-- Which plans have their nets in a circuit.
use Rattle.std.proofs.Common.{ℕ, ◌+◌, ◌<◌, [], length, arith}
use Rattle.std.proofs.lemmas.List.Elements.{All-weaker}
use Rattle.fault_secure.specs.Circuit.{Circuit, nets}
use Rattle.fault_secure.specs.CodePlan.{CodePlan, IsPlanOf}
use Rattle.fault_sim.specs.PlanNets.{HasPlanNets}

-- a plan of a circuit has its nets there
pub plan_nets : (N : Circuit) (P : CodePlan) → IsPlanOf N P → HasPlanNets N P
plan_nets N P of_net = record { outputs = of_net.outputs; rail1 = of_net.rail1; rail2 = of_net.rail2; checks = of_net.checks; rails = of_net.rails }

-- so has a plan of the circuit with its registers as further inputs, whose nets have the same numbers
pub opened_plan_nets : (N : Circuit) (P : CodePlan) → IsPlanOf (record N { inputs = N.inputs + length N.latches; latches = [] }) P → HasPlanNets N P
opened_plan_nets N P of_opened =
    let nets_same : (net : ℕ) → net < nets (record N { inputs = N.inputs + length N.latches; latches = [] }) → net < nets N = λ net h. omega (arith, h) in
    record {
      outputs = of_opened.outputs;
      rail1 = of_opened.rail1;
      rail2 = of_opened.rail2;
      checks = All-weaker (λ net. net < nets (record N { inputs = N.inputs + length N.latches; latches = [] })) (λ net. net < nets N) nets_same P.checks of_opened.checks;
      rails = (nets_same P.rail1 of_opened.rails.0, nets_same P.rail2 of_opened.rails.1);
    }
