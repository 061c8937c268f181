-- What a section denotes, and why it is refused.
use Rattle.std.specs.Prelude.{◌≡◌, List, Option, None, Some}
use Rattle.fault_secure.specs.Circuit.{Circuit}
use Rattle.fault_secure.specs.CodePlan.{CodePlan}
use Rattle.tsc_net.specs.NetlistOf.{NetlistOf, named_of, netlist_of}
use Rattle.tsc_text.specs.TextLine.{TextLine}
use Rattle.blif_read.specs.NamedText.{named_text}
use Rattle.blif_read.specs.PlanText.{code_line, plan_with, seen_circuit, seen_net}
use Rattle.blif_read.specs.PlanFault.{plan_refusal}
use Rattle.blif_read.specs.RegisterFault.{any_plan_refusal, clock_refusal, lists_states}
use Rattle.blif_read.specs.Clocks.{used_clock}
use Rattle.blif_read.specs.Refusal.{first_refusal, netlist_refusal}
use Rattle.blif_read.specs.declared.kinds.Kind.{Kind}
use Rattle.blif_read.specs.declared.kinds.Kind.TheVariants.{Source, Registers, Netlist, AnyPlan, Unplanned}
use Rattle.blif_read.specs.declared.error.BlifError.{BlifError}

-- the plan that lines state for a netlist, where they have a code line
abbrev pub plan_at : Option TextLine → List TextLine → NetlistOf → Option CodePlan
plan_at None lines net = None
plan_at (Some head) lines net = Some (plan_with head lines net)

-- the plan of the lines: a source has none, and of a netlist without a plan none is read. Where no states are listed, it is that of the
-- netlist with its registers as further inputs
abbrev pub plan_text : Kind → List TextLine → NetlistOf → Option CodePlan
plan_text Source lines net = None
plan_text Registers lines net = None
plan_text Unplanned lines net = None
plan_text Netlist lines net = plan_at (code_line lines) lines net
plan_text AnyPlan lines net = plan_at (code_line lines) lines (seen_net (lists_states lines) net)

-- the circuit of which the plan of a section is: where no states are listed, that with registers as further inputs
abbrev pub plan_circuit : Kind → List TextLine → NetlistOf → Circuit
plan_circuit AnyPlan lines net = seen_circuit (lists_states lines) net.circuit
plan_circuit kind lines net = net.circuit

-- the lines denote the netlist, as a source, and with the plan as a netlist
pub record DenotesSource (lines : List TextLine) (net : NetlistOf) : Type 0 where
  pub named : named_of net ≡ named_text lines

pub record DenotesNetlist (lines : List TextLine) (net : NetlistOf) (plan : CodePlan) : Type 0 where
  pub named : named_of net ≡ named_text lines
  pub planned : plan_text Netlist lines net ≡ Some plan

-- the refusal of a plan, where one is read, and of the clock of registers
abbrev pub refusal_of_plan : Kind → List TextLine → Option BlifError
refusal_of_plan Source lines = None
refusal_of_plan Registers lines = clock_refusal (used_clock lines)
refusal_of_plan Unplanned lines = None
refusal_of_plan Netlist lines = plan_refusal lines (netlist_of (named_text lines))
refusal_of_plan AnyPlan lines = any_plan_refusal lines (netlist_of (named_text lines))

-- the refusal of a section: of a line, of its netlist, of its plan or its clock. It has a reading where there is none
abbrev pub refusal : Kind → List TextLine → Option BlifError
refusal kind lines = first_refusal (netlist_refusal kind lines) (refusal_of_plan kind lines)
