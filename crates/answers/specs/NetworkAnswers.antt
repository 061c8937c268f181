-- What a synthesis answers to a network.
use Rattle.std.specs.Prelude.{◌≡◌, ◌≤◌, ℕ, List, length, None}
use Rattle.synth_ways.specs.declared.way.Way.{Way}
use Rattle.synth_ways.specs.Ways.{way_code}
use Rattle.fault_secure.specs.CodePlan.{CodePlan}
use Rattle.fault_secure.specs.Logic.{Network}
use Rattle.fault_secure.specs.FaultSecure.{IsFaultSecure}
use Rattle.fault_secure.specs.CellSecure.{IsCellSecure}
use Rattle.tsc_net.specs.NetlistOf.{NetlistOf}
use Rattle.blif_read.specs.declared.kinds.Kind.TheVariants.{Netlist}
use Rattle.blif_write.specs.Layout.{netlist_text}
use Rattle.code_checkers.specs.SelfChecking.{IsSelfChecking}
use Rattle.tsc_synth.specs.WayNetlist.{IsNetlistOf}
use Rattle.tsc_synth.specs.CoverBound.{cover_bound}
use Rattle.text_sections.specs.Denoted.{netlist_in, plan_in}
use Rattle.text_sections.specs.Refused.{text_refusal}

-- a netlist with its plan is what a way of synthesis makes of the network: within the bound on covers, of sound structure and following
-- it, and so secure for it, whichever one cell fails in any way, and whichever one listed fault is present at any steps
pub record IsSecureFor (way : Way) (source net : NetlistOf) (plan : CodePlan) : Type 0 where
  pub coded : plan.code ≡ way_code way
  pub exact : IsNetlistOf way source net plan
  pub covers : length net.circuit.nodes ≤ cover_bound way source.circuit
  pub checking : IsSelfChecking (Network source.circuit) net.circuit plan
  pub cells : IsCellSecure (Network source.circuit) net.circuit plan
  pub secure : IsFaultSecure (Network source.circuit) net.circuit plan

-- nothing refuses the answer as a netlist; it is exactly the text of the netlist and the plan that it denotes; and they are secure for
-- the network that the text denotes
pub record IsSynthesis (way : Way) (text answer : List ℕ) : Type 0 where
  pub readable : text_refusal Netlist answer ≡ None
  pub written : answer ≡ netlist_text (netlist_in answer) (plan_in answer)
  pub secure : IsSecureFor way (netlist_in text) (netlist_in answer) (plan_in answer)
