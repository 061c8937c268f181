-- The monitored nets, as a list of nets, are nets of the circuit.
use Rattle.std.proofs.Common.{◌≡◌, ◌<◌, List, All}
use Rattle.fault_secure.specs.Circuit.{Circuit, nets}
use Rattle.fault_secure.specs.Closed.{IsClosed}
use Rattle.fault_secure.specs.CodePlan.{CodePlan, monitored, IsPlanOf}
use Rattle.fault_secure.proofs.PlanSizes.{monitored_within}
use Rattle.tsc_net.specs.PlanView.{net_numbers}
use Rattle.tsc_net.specs.declared.ids.NetId.{NetId}
use Rattle.net_cones.proofs.ConeNets.{numbers_below}

-- each monitored net of a closed netlist with a plan of it is one of its nets
pub word_within : (N : Circuit) (P : CodePlan) (word : List NetId) → IsPlanOf N P → IsClosed N → net_numbers word ≡ monitored N P → All (λ net. net.number < nets N) word
word_within N P word plan closed is = numbers_below (nets N) (monitored N P) word (monitored_within N P closed plan) is
