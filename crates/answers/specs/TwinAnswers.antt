-- What a synthesis of two copies answers to a source, with registers or without.
use Rattle.std.specs.Prelude.{◌≡◌, ◌<◌, ◌≤◌, ℕ, Bool, List, length, Option}
use Rattle.fault_secure.specs.CodePlan.{CodePlan}
use Rattle.tsc_net.specs.NetlistOf.{NetlistOf}
use Rattle.synth_ways.specs.declared.way.Way.TheVariants.{Duplex}
use Rattle.blif_read.specs.declared.clocks.Clock.{Clock}
use Rattle.blif_write.specs.RegisterText.{lists_of, register_plan_lines, register_text}
use Rattle.blif_write.specs.Told.{TellsRegisters}
use Rattle.register_laws.specs.RegisterSecure.{IsRegisterSecure, IsRegisterFaultSecure}
use Rattle.twin_synth.specs.TwinNetlist.{IsTwinNetlist, register_plan}
use Rattle.tsc_synth.specs.CoverBound.{twin_bound}
use Rattle.text_sections.specs.Denoted.{clock_in, netlist_in}
use Rattle.answers.specs.NetworkAnswers.{IsSynthesis}

-- a netlist, a plan of it, and what is watched are the twin of what is kept of a source, within the bound on covers. So the netlist is secure
-- for this source: against any one failing cell, and against each listed fault at any steps
pub record IsTwinFor (watching : Bool) (source : NetlistOf) (clock : Option Clock) (net : NetlistOf) (plan : CodePlan) (watch : List ℕ) : Type 0 where
  pub twin : IsTwinNetlist source clock watching net plan watch
  pub covers : length net.circuit.nodes ≤ twin_bound watching source.circuit
  pub cells : IsRegisterSecure source.circuit net.circuit (register_plan (length net.circuit.latches) plan watch)
  pub secure : IsRegisterFaultSecure source.circuit net.circuit (register_plan (length net.circuit.latches) plan watch)

-- the answer is the text of a netlist with a plan, what is watched of it, and the clock that the text denotes; its lines, read again, are those of
-- these, and denote the netlist with its clock; and the netlist with its plan is secure for the source that the text denotes
pub record IsRegisterSynthesis (watching : Bool) (text answer : List ℕ) : Type 0 where
  pub net : NetlistOf
  pub plan : CodePlan
  pub watch : List ℕ
  pub written : answer ≡ register_text (clock_in text) net plan (lists_of watch)
  pub told : TellsRegisters (clock_in text) answer net (register_plan_lines net plan (lists_of watch))
  pub secure : IsTwinFor watching (netlist_in text) (clock_in text) net plan watch

-- of a source without registers it is the answer that `duplex` gives to a network; else it is that of one with registers
pub record IsTwinAnswer (watching : Bool) (text answer : List ℕ) : Type 0 where
  pub network : length (netlist_in text).circuit.latches ≡ 0 → IsSynthesis Duplex text answer
  pub registers : 0 < length (netlist_in text).circuit.latches → IsRegisterSynthesis watching text answer
