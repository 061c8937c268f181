-- A fault that words name, in a netlist, and the run under it.
use Rattle.std.specs.Prelude.{◌≡◌, ℕ, Bool, false, List, [], Option, None, Some, option_map}
use Rattle.tsc_text.specs.TextLine.{TextLine}
use Rattle.fault_secure.specs.Circuit.{Circuit}
use Rattle.fault_secure.specs.CodePlan.{CodePlan}
use Rattle.tsc_net.specs.Names.{find_text}
use Rattle.tsc_net.specs.NetlistOf.{NetlistOf}
use Rattle.fault_secure.specs.StuckAt.{StuckAt, NoFault, Stem, Pin}
use Rattle.tsc_net.specs.declared.when.Span.{Span}
use Rattle.fault_sim.specs.Sim.{is_none_or_listed}
use Rattle.sim_text.specs.Printed.{IsRunText}
use Rattle.commands.specs.declared.sim_words.SimFault.{SimFault}
use Rattle.commands.specs.declared.sim_words.SimFault.TheVariants.{NoFault as NoNamedFault, Stem as NamedStem, Pin as NamedPin}
use Rattle.sim_text.specs.StepLines.{all_steps}

-- the fault with its net's number, where the netlist has a net of the name
abbrev pub place_of : NetlistOf → SimFault → Option StuckAt
place_of net NoNamedFault = Some NoFault
place_of net (NamedStem name held when) = option_map (λ at. Stem at held) (find_text net.names name)
place_of net (NamedPin name index held when) = option_map (λ at. Pin at index held) (find_text net.names name)

-- no fault, or one on the list; a name that is no net's is none
abbrev pub is_some_listed : Circuit → Option StuckAt → Bool
is_some_listed N None = false
is_some_listed N (Some stuck) = is_none_or_listed N stuck

-- no fault is named, or one on the netlist's list; a fault at a name that is no net's is not on it
abbrev pub is_place_listed : NetlistOf → SimFault → Bool
is_place_listed net fault = is_some_listed net.circuit (place_of net fault)

-- the steps at which the fault is present
abbrev pub steps_of : SimFault → List Span
steps_of NoNamedFault = []
steps_of (NamedStem name held when) = when
steps_of (NamedPin name index held when) = when

-- the answer has the lines of the netlist's run over the step lines, the fault present at its steps
pub record IsRunOf (fault : SimFault) (net : NetlistOf) (plan : CodePlan) (steps : List TextLine) (answer : List ℕ) : Type 0 where
  pub stuck : StuckAt
  pub placed : place_of net fault ≡ Some stuck
  pub run : IsRunText net.circuit plan stuck (steps_of fault) (all_steps net.circuit.inputs steps) answer
