-- The plan of a netlist that lists its states is one of its circuit.
use Rattle.std.proofs.Common.{◌≡◌, List, Option, IfSome, subst}
use Rattle.tsc_text.specs.TextLine.{TextLine}
use Rattle.fault_secure.specs.CodePlan.{CodePlan, IsPlanOf}
use Rattle.tsc_net.specs.NetlistOf.{NetlistOf}
use Rattle.blif_read.specs.Denotes.{plan_circuit}
use Rattle.blif_read.specs.declared.kinds.Kind.{Kind}
use Rattle.blif_read.specs.declared.kinds.Kind.TheVariants.{Netlist}

pub plan_listed : (kind : Kind) (lines : List TextLine) (net : NetlistOf) (plan : Option CodePlan) → kind ≡ Netlist
    → IfSome plan (IsPlanOf (plan_circuit kind lines net)) → IfSome plan (IsPlanOf net.circuit)
plan_listed kind lines net plan is of_net = subst (λ (k : Kind). IfSome plan (IsPlanOf (plan_circuit k lines net))) is of_net
