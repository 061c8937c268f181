-- A joint of netlists that were accepted, whoever wrote them.
use Rattle.std.proofs.Common.{◌≡◌, ℕ, zero, suc, refl, ◌<◌, Bool, true, false, List, length, None, Option, IfSome, sym, subst, arith}
use Rattle.fault_secure.specs.CodePlan.{CodePlan}
use Rattle.fault_secure.specs.CellSecure.{IsCellSecure}
use Rattle.fault_secure.specs.Logic.{Logic}
use Rattle.tsc_net.specs.declared.planned.PlannedNetlist.{PlannedNetlist}
use Rattle.point_laws.specs.Heard.{IsAlarmSecure}
use Rattle.point_laws.proofs.Heard.{cell_secure_is_alarm_secure}
use Rattle.blif_read.specs.declared.kinds.Kind.TheVariants.{Netlist}
use Rattle.register_joints.specs.PartSource.{IsPartSecure, Logical, PartSource}
use Rattle.register_joints.proofs.JoinedParts.{source_cells_cover_faults}
use Rattle.module_join.specs.JointNet.{PlannedOf, joint}
use Rattle.module_join.specs.JoinLaws.{planned}
use Rattle.commands.specs.declared.command.Command.{Command}
use Rattle.commands.specs.declared.command.Command.TheVariants.{SynthBlif, SynthWatched, SynthKiss, SynthPla, Audit, AuditWide, AuditExact}
use Rattle.synth_ways.specs.declared.way.Way.{Way}
use Rattle.synth_ways.specs.declared.way.Way.TheVariants.{Parity, Duplex, Berger, MOutOfN}
use Rattle.text_sections.specs.Denoted.{netlist_in, plan_in}
use Rattle.text_sections.specs.Refused.{text_refusal}
use Rattle.joint_answers.specs.JointParts.{parts_in}
use Rattle.answers.specs.Commands.{IsAnswer}
use Rattle.answers.specs.Answers.{IsBlifSynthesis}
use Rattle.answers.specs.TwinAnswers.{IsTwinAnswer}
use Rattle.joined_laws.specs.JoinedAnswers.{network_source, part_of, twin_source}
use Rattle.joined_laws.specs.AcceptedParts.{AcceptedPartsAreJoined, IsAcceptedFor, answered_part, answered_source, planned_net}
use Rattle.joined_laws.proofs.ListedPlans.{same_plan}
use Rattle.joined_laws.proofs.RegisterParts.{registers_are_part}

-- what is accepted is secure for its source, as a part
abbrev IsSecurePart : PartSource → PlannedNetlist → Type 0
IsSecurePart source p = IsPartSecure source p.net.circuit p.plan

-- ---- an answer whose plan lists its states, or that has no registers: its plan is the same where it may list none

of_logic : (M : Logic) (answer : List ℕ) → text_refusal Netlist answer ≡ None → IsCellSecure M (netlist_in answer).circuit (plan_in answer)
    → IsSecurePart (Logical M) (planned_net (part_of answer))
of_logic M answer readable cells =
    let N = (netlist_in answer).circuit in
    subst (λ (P : CodePlan). IsAlarmSecure M N P) (sym (same_plan answer readable)) (cell_secure_is_alarm_secure M N (plan_in answer) cells)

-- of two copies: of a network, or of a circuit with registers
of_twin : (watching : Bool) (latches : ℕ) (text answer : List ℕ) → latches ≡ length (netlist_in text).circuit.latches → IsTwinAnswer watching text answer
    → IsSecurePart (twin_source latches text) (planned_net (part_of answer))
of_twin watching zero text answer count is = let made = is.network (sym count) in of_logic _ answer made.readable made.secure.cells
of_twin watching (suc more) text answer count is =
    let some : 0 < length (netlist_in text).circuit.latches = omega (arith, count) in
    registers_are_part watching text answer (is.registers some)

of_way : (way : Way) (text answer : List ℕ) → IsBlifSynthesis way text answer → IsSecurePart (network_source way text) (planned_net (part_of answer))
of_way Parity text answer is = of_logic _ answer is.readable is.secure.cells
of_way Duplex text answer is = of_twin false (length (netlist_in text).circuit.latches) text answer refl is
of_way Berger text answer is = of_logic _ answer is.readable is.secure.cells
of_way MOutOfN text answer is = of_logic _ answer is.readable is.secure.cells

-- ---- whatever is accepted

of_answer : (command : Command) (text answer : List ℕ) → IsAnswer command text answer
    → IfSome (answered_source command text) (λ source. IsSecurePart source (answered_part command text answer))
of_answer (Audit format) text answer is = cell_secure_is_alarm_secure _ _ _ is.cells
of_answer (AuditWide rows) text answer is = cell_secure_is_alarm_secure _ _ _ is.cells
of_answer (AuditExact format) text answer is = is.secure
of_answer (SynthBlif way) text answer is = of_way way text answer is
of_answer SynthWatched text answer is = of_twin true (length (netlist_in text).circuit.latches) text answer refl is
of_answer (SynthKiss code) text answer is = of_logic _ answer is.readable is.secure.cells
of_answer (SynthPla way) text answer is = of_logic _ answer is.readable is.secure.cells
of_answer command text answer is = tt

accepted : (source : PartSource) (p : PlannedOf) → IsAcceptedFor source p → IsPartSecure source p.net.circuit p.plan
accepted source p is =
    let P : Option PartSource → Type 0 = λ given. IfSome given (λ s. IsSecurePart s (answered_part is.command is.text is.answer)) in
    subst (IsSecurePart source) is.is_part (subst P is.denoted (of_answer is.command is.text is.answer is.answers))

pub accepted_parts_are_joined : AcceptedPartsAreJoined
accepted_parts_are_joined source text answer reply are =
    let cells = reply.cells_for_sources source (λ i inside. accepted (source i) (planned (parts_in text) i) (are i inside)) in
    record {
      cells = cells;
      secure = record {
        tells = cells.tells;
        is_joint = cells.is_joint;
        circuit = cells.circuit;
        secure = source_cells_cover_faults source (joint (parts_in text)) cells.is_joint.acyclic cells.secure;
      };
    }
