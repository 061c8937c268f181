-- What is refused of a text of a network, a netlist and a refutation: the first refusal, in order. There is no limit of points. The
-- refutation is looked at only where the question is asked.
use Rattle.std.specs.Prelude.{ℕ, ◌==◌, Bool, ◌&&◌, List, length, drop, nat_lt, Option, None, Some, if◌then◌else◌}
use Rattle.fault_secure.specs.Circuit.{Circuit}
use Rattle.fault_secure.specs.CodePlan.{CodePlan}
use Rattle.fault_secure.specs.Exposing.{listed_states}
use Rattle.fault_secure.specs.Logic.{Logic, Network, inputs_of, outputs_count, states_of}
use Rattle.tsc_text.specs.Bytes.{bad_line}
use Rattle.tsc_text.specs.Lines.{lines_of}
use Rattle.tsc_text.specs.TextLine.{TextLine}
use Rattle.blif_read.specs.PlanText.{is_parity}
use Rattle.refutation_text.specs.Following.{fault_of}
use Rattle.refutation_text.specs.declared.fault.RefutationFault.{RefutationFault}
use Rattle.question_text.specs.Giving.{question_state}
use Rattle.refusals.specs.declared.text_refusal.TextRefusal.{TextRefusal}
use Rattle.refusals.specs.declared.text_refusal.TextRefusal.TheVariants.{NoNetlist, Refutation}
use Rattle.commands.specs.declared.source_format.SourceFormat.TheVariants.{Blif}
use Rattle.text_sections.specs.Denoted.{behind_source, first_net, net_from, plan_from, section_from}
use Rattle.text_sections.specs.Refused.{byte_refusal, first_of, netlist_section_refusal, source_refusal}

-- whether the netlist has as many inputs, outputs and states as the source
abbrev pub fits_source : Logic → Circuit → CodePlan → Bool
fits_source M N P = N.inputs == inputs_of M && (P.outputs == outputs_count M && listed_states P == states_of M)

-- whether the question is asked: the netlist fits the network, has no latch, and its plan's code is parity
abbrev pub fits_question : Circuit → Circuit → CodePlan → Bool
fits_question C N P = fits_source (Network C) N P && (length N.latches == 0 && is_parity P.code)

-- the first fault of the lines of a refutation, followed with the clauses of the question
abbrev pub question_fault : Circuit → Circuit → CodePlan → List TextLine → Option RefutationFault
question_fault C N P refutation = fault_of (question_state C N P) refutation

-- a refutation with this fault
abbrev pub fault_refusal : Option RefutationFault → Option TextRefusal
fault_refusal None = None
fault_refusal (Some fault) = Some (Refutation fault)

-- the refutation of the question of a network and a netlist with its plan; where the question isn't asked, nothing refuses it
abbrev pub refutation_refusal : Circuit → Circuit → CodePlan → List TextLine → Option TextRefusal
refutation_refusal C N P refutation = if fits_question C N P then fault_refusal (question_fault C N P refutation) else None

-- the lines after the netlist that stands from a place on: the refutation
abbrev pub refutation_after : List TextLine → ℕ → List TextLine
refutation_after lines from = drop (section_from lines from).next lines

-- the lines from a place on, after a network: the netlist, then the refutation after it; none where there is no line, a plan line neither
abbrev pub proof_refusal_from : Circuit → List TextLine → ℕ → Option TextRefusal
proof_refusal_from C lines from =
    if nat_lt from (length lines)
    then first_of (netlist_section_refusal lines from) (refutation_refusal C (net_from lines from).circuit (plan_from lines from) (refutation_after lines from))
    else Some NoNetlist

-- the lines of a text: the network, then what stands after it
abbrev pub proof_lines_refusal : List TextLine → Option TextRefusal
proof_lines_refusal lines = first_of (source_refusal Blif lines) (proof_refusal_from (first_net lines).circuit lines (behind_source Blif lines))

-- a text: its bytes, then its lines
abbrev pub proof_refusal : List ℕ → Option TextRefusal
proof_refusal text = first_of (byte_refusal (bad_line text)) (proof_lines_refusal (lines_of text))
