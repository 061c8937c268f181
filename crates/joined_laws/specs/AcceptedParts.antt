-- A joint of netlists that were accepted, whoever wrote them: the statement of the law.
use Rattle.std.specs.Prelude.{◌≡◌, ℕ, ◌<◌, List, length, Option, Some}
use Rattle.tsc_net.specs.declared.planned.PlannedNetlist.{PlannedNetlist}
use Rattle.register_joints.specs.PartSource.{PartSource, Logical}
use Rattle.register_joints.specs.SourcesSecure.{IsCellSecureForSources, IsFaultSecureForSources}
use Rattle.joint_text.specs.JointTextLaws.{TellsJoint}
use Rattle.commands.specs.declared.command.Command.{Command}
use Rattle.commands.specs.declared.command.Command.TheVariants.{Audit, AuditWide, AuditExact, Join}
use Rattle.commands.specs.declared.source_format.SourceFormat.TheVariants.{Blif}
use Rattle.module_join.specs.JoinLaws.{planned}
use Rattle.module_join.specs.JointNet.{PlannedOf}
use Rattle.text_sections.specs.Denoted.{second_netlist_in, second_plan_in, source_in}
use Rattle.joint_answers.specs.JointParts.{parts_in}
use Rattle.answers.specs.Commands.{IsAnswer}
use Rattle.joined_laws.specs.JoinedAnswers.{part_of, synthesis_source}

-- the source for which a command answers of a netlist: that of an audit, a wide or an exact one too, and that of a synthesis
abbrev pub answered_source : Command → List ℕ → Option PartSource
answered_source (Audit format) text = Some (Logical (source_in format text))
answered_source (AuditWide rows) text = Some (Logical (source_in Blif text))
answered_source (AuditExact format) text = Some (Logical (source_in format text))
answered_source command text = synthesis_source command text

-- the netlist with its plan of a part
abbrev pub planned_net : PlannedOf → PlannedNetlist
planned_net part = record { net = part.net; plan = part.plan }

-- the netlist with its plan of which it does: the one after the source that is audited, and the one that a synthesis answers
abbrev pub answered_part : Command → List ℕ → List ℕ → PlannedNetlist
answered_part (Audit format) text answer = record { net = second_netlist_in format text; plan = second_plan_in format text }
answered_part (AuditWide rows) text answer = record { net = second_netlist_in Blif text; plan = second_plan_in Blif text }
answered_part (AuditExact format) text answer = record { net = second_netlist_in format text; plan = second_plan_in format text }
answered_part command text answer = planned_net (part_of answer)

-- the netlist with its plan is accepted for a source: the answer `yes` of an audit, of a wide or of an exact one, is right for them, or it is what a
-- synthesis answers, also to a source with registers. Which clock its latches have doesn't matter
pub record IsAcceptedFor (source : PartSource) (part : PlannedOf) : Type 0 where
  pub command : Command
  pub text : List ℕ
  pub answer : List ℕ
  pub denoted : answered_source command text ≡ Some source
  pub is_part : answered_part command text answer ≡ planned_net part
  pub answers : IsAnswer command text answer

-- a joint of such parts is secure for their sources, whichever one cell fails in any way, and whichever one listed fault is present at any
-- steps
pub record IsSecureJoint (source : ℕ → PartSource) (text joint : List ℕ) : Type 0 where
  pub cells : TellsJoint joint (parts_in text) (IsCellSecureForSources source)
  pub secure : TellsJoint joint (parts_in text) (IsFaultSecureForSources source)

-- whatever `join` answers to a text each of whose netlists is accepted for a source is so for these sources
abbrev pub AcceptedPartsAreJoined : Type 0
AcceptedPartsAreJoined = (source : ℕ → PartSource) (text joint : List ℕ) → IsAnswer Join text joint
    → ((i : ℕ) → i < length (parts_in text) → IsAcceptedFor (source i) (planned (parts_in text) i)) → IsSecureJoint source text joint
