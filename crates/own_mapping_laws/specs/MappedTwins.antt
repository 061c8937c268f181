-- A mapping of what a synthesis of two copies answered: the statement of the law.
use Rattle.std.specs.Prelude.{◌≡◌, ℕ, Bool, List, length, slice_index}
use Rattle.fault_secure.specs.Circuit.{Circuit}
use Rattle.tsc_net.specs.NetlistOf.{NetlistOf}
use Rattle.register_laws.specs.RegisterPlan.{RegisterPlan}
use Rattle.register_laws.specs.RegisterSecure.{IsRegisterSecure}
use Rattle.register_laws.specs.RegisterMapping.{IsRegisterAlarmFaultSecure, IsRegisterBlockAlarmSecure, moved_registers}
use Rattle.mapping_reading.specs.NamedMapping.{moved_by_name}
use Rattle.mapping_reading.specs.Pins.{at_of}
use Rattle.mapping_reading.specs.ReadMapping.{some_block}
use Rattle.twin_synth.specs.TwinNetlist.{register_plan}
use Rattle.text_sections.specs.Denoted.{netlist_in}
use Rattle.mapping_answers.specs.MappedReply.{IsMappingOf}
use Rattle.mapping_answers.specs.MappedSections.{mapped_in}
use Rattle.answers.specs.TwinAnswers.{IsRegisterSynthesis}

-- G, a mapping of N by these blocks, is secure for the source S: against any one failing cell, any gates of one block that fail at once, and
-- each listed fault at any steps
pub record IsMappedSecure (S N G : Circuit) (block : ℕ → ℕ) (P : RegisterPlan) : Type 0 where
  pub cells : IsRegisterSecure S G P
  pub blocks : IsRegisterBlockAlarmSecure S N G block P
  pub faults : IsRegisterAlarmFaultSecure S G P

-- a plan of N and what is watched, where nets went by their names
abbrev pub moved_by_names : NetlistOf → NetlistOf → RegisterPlan → RegisterPlan
moved_by_names N G P = moved_registers (at_of G.circuit (moved_by_name N G)) P

-- let a text begin with the netlist that a synthesis of two copies answered to a source with registers, and let the netlist after it be a
-- mapping of that, as a yes of `audit mapped` says. Then the mapped netlist is secure for the source
abbrev pub MappedTwinsAreSecure : Type 0
MappedTwinsAreSecure = (watching : Bool) (source answer text : List ℕ) (twin : IsRegisterSynthesis watching source answer)
    → netlist_in text ≡ netlist_in answer → (is : IsMappingOf (netlist_in text) (mapped_in text))
    → IsMappedSecure (netlist_in source).circuit (netlist_in text).circuit (mapped_in text).circuit
    (some_block (netlist_in text).circuit (slice_index is.reads.blocks))
    (moved_by_names (netlist_in text) (mapped_in text) (register_plan (length twin.net.circuit.latches) twin.plan twin.watch))
