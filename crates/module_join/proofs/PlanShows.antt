-- Which plans show a circuit.
use Rattle.std.proofs.Common.{◌≡◌, Bool, true, false, arith}
use Rattle.fault_secure.specs.Circuit.{Circuit, nets}
use Rattle.blif_read.specs.PlanText.{seen_circuit}
use Rattle.blif_read.specs.RegisterFault.{lists_states}
use Rattle.blif_read.specs.declared.kinds.Kind.TheVariants.{Source, Registers, Netlist, AnyPlan, Unplanned}
use Rattle.module_join.specs.JoinLaws.{PlanShows, SeenPlanShows, ReadPlanShows}

-- a plan of the circuit
pub plan_shows : PlanShows
plan_shows N P is = record { outputs = is.outputs; rails = is.rails }

-- where registers are further inputs, the circuit has as many nets
seen_nets : (lists : Bool) (N : Circuit) → nets (seen_circuit lists N) ≡ nets N
seen_nets true N = omega arith
seen_nets false N = omega arith

-- a plan of the circuit as a plan sees it
pub seen_plan_shows : SeenPlanShows
seen_plan_shows lists N P is =
    let rails = is.rails in
    let low = rails.0 in
    let high = rails.1 in
    record { outputs = is.outputs; rails = (omega (arith, seen_nets lists N), omega (arith, seen_nets lists N)) }

-- the plan that is read with a netlist
pub read_plan_shows : ReadPlanShows
read_plan_shows Source lines net P is = plan_shows net.circuit P is
read_plan_shows Registers lines net P is = plan_shows net.circuit P is
read_plan_shows Netlist lines net P is = plan_shows net.circuit P is
read_plan_shows AnyPlan lines net P is = seen_plan_shows (lists_states lines) net.circuit P is
read_plan_shows Unplanned lines net P is = plan_shows net.circuit P is
