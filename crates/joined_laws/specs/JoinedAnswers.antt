-- A text has one joint; and what syntheses answered, one after another, is joined: the statements of the laws.
use Rattle.std.specs.Prelude.{◌≡◌, ℕ, zero, suc, ◌<◌, ◌≤◌, List, [], length, slice_index_or, Option, None, Some}
use Rattle.std.specs.List.{concat}
use Rattle.tsc_text.specs.Lines.{lines_of}
use Rattle.fault_secure.specs.Logic.{Logic}
use Rattle.register_joints.specs.PartSource.{PartSource, Logical, Registers}
use Rattle.joint_laws.specs.JointSecure.{IsJointCellSecure, IsJointFaultSecure}
use Rattle.joint_text.specs.JointTextLaws.{TellsJoint}
use Rattle.commands.specs.declared.command.Command.{Command}
use Rattle.commands.specs.declared.command.Command.TheVariants.{SynthBlif, SynthWatched, SynthKiss, SynthPla, Join}
use Rattle.synth_ways.specs.declared.way.Way.{Way}
use Rattle.synth_ways.specs.declared.way.Way.TheVariants.{Parity, Duplex, Berger, MOutOfN}
use Rattle.commands.specs.declared.source_format.SourceFormat.TheVariants.{Blif, Kiss, Pla}
use Rattle.module_join.specs.JoinLaws.{planned}
use Rattle.module_join.specs.JoinParts.{planned_as}
use Rattle.module_join.specs.JointNet.{PlannedOf}
use Rattle.text_sections.specs.Denoted.{first_lines, netlist_in, source_in}
use Rattle.part_reading.specs.Parts.{planned_of}
use Rattle.joint_answers.specs.JointParts.{joint_refusal, parts_in}
use Rattle.answers.specs.Commands.{IsAnswer, refusal_of}

-- a text has at most one joint
abbrev pub OneJoint : Type 0
OneJoint = (text answer other : List ℕ) → IsAnswer Join text answer → IsAnswer Join text other → answer ≡ other

-- the source that a text denotes for a synthesis of two copies, with so many registers: a network, or a circuit with registers
abbrev pub twin_source : ℕ → List ℕ → PartSource
twin_source zero text = Logical (source_in Blif text)
twin_source (suc more) text = Registers (netlist_in text).circuit

-- the source that a text denotes for a way of synthesis
abbrev pub network_source : Way → List ℕ → PartSource
network_source Parity text = Logical (source_in Blif text)
network_source Duplex text = twin_source (length (netlist_in text).circuit.latches) text
network_source Berger text = Logical (source_in Blif text)
network_source MOutOfN text = Logical (source_in Blif text)

-- the source that a text denotes for a synthesis
abbrev pub synthesis_source : Command → List ℕ → Option PartSource
synthesis_source (SynthBlif way) text = Some (network_source way text)
synthesis_source SynthWatched text = Some (twin_source (length (netlist_in text).circuit.latches) text)
synthesis_source (SynthKiss code) text = Some (Logical (source_in Kiss text))
synthesis_source (SynthPla way) text = Some (Logical (source_in Pla text))
synthesis_source _ text = None

-- the answer is that of a synthesis to a text, which denotes this source
pub record IsMadeFor (source : PartSource) (answer : List ℕ) : Type 0 where
  pub command : Command
  pub text : List ℕ
  pub denoted : synthesis_source command text ≡ Some source
  pub answers : IsAnswer command text answer

-- the part of a joint that an answer denotes: its netlist, its plan, which may list no states, and its clock
abbrev pub part_of : List ℕ → PlannedOf
part_of answer = planned_as (planned_of (first_lines (lines_of answer)))

-- answers one after another are refused for nothing but the limits of their joint; the parts are what the answers denote, in their order;
-- and whatever is answered to them denotes a joint that is secure for these sources
pub record AreJoined (M : ℕ → Logic) (answers : List (List ℕ)) : Type 0 where
  pub refused : refusal_of Join (concat answers) ≡ joint_refusal (parts_in (concat answers))
  pub counted : length (parts_in (concat answers)) ≡ length answers
  pub parts : (i : ℕ) → i < length answers → planned (parts_in (concat answers)) i ≡ part_of (slice_index_or answers i [])
  pub cells : (joint : List ℕ) → IsAnswer Join (concat answers) joint → TellsJoint joint (parts_in (concat answers)) (IsJointCellSecure M)
  pub secure : (joint : List ℕ) → IsAnswer Join (concat answers) joint → TellsJoint joint (parts_in (concat answers)) (IsJointFaultSecure M)

-- so are the answers of 1 to 64 syntheses of logic, for their sources
abbrev pub AnswersAreJoined : Type 0
AnswersAreJoined = (M : ℕ → Logic) (answers : List (List ℕ)) → 0 < length answers → length answers ≤ 64
    → ((i : ℕ) → i < length answers → IsMadeFor (Logical (M i)) (slice_index_or answers i [])) → AreJoined M answers
