-- What a command on a netlist refuses of a text: the first refusal, in order.
use Rattle.std.specs.Prelude.{ℕ, Bool, true, false, List, nat_lt, Option, None, Some}
use Rattle.tsc_text.specs.Bytes.{bad_line}
use Rattle.tsc_text.specs.Lines.{lines_of}
use Rattle.tsc_text.specs.TextLine.{TextLine}
use Rattle.tsc_net.specs.NetlistOf.{NetlistOf}
use Rattle.audit.specs.Verdict.{audit_points}
use Rattle.fault_secure.specs.Logic.{Logic}
use Rattle.fault_secure.specs.Circuit.{Circuit}
use Rattle.fault_secure.specs.CodePlan.{CodePlan}
use Rattle.blif_read.specs.declared.kinds.Kind.TheVariants.{AnyPlan}
use Rattle.refusals.specs.declared.limit.Limit.TheVariants.{Points, AuditPoints}
use Rattle.refusals.specs.declared.text_refusal.TextRefusal.{TextRefusal}
use Rattle.refusals.specs.declared.text_refusal.TextRefusal.TheVariants.{NotListed, StepShape, TooMany}
use Rattle.commands.specs.declared.sim_words.SimFault.{SimFault}
use Rattle.commands.specs.declared.source_format.SourceFormat.{SourceFormat}
use Rattle.text_sections.specs.Denoted.{behind_source, first_net, lines_behind, netlist_in, plan_in, source_of}
use Rattle.netlist_answers.specs.Simulated.{is_place_listed}
use Rattle.sim_text.specs.StepLines.{first_misshapen}
use Rattle.text_sections.specs.Refused.{byte_refusal, first_of, first_refusal, netlist_refusal, netlist_text_refusal, source_refusal}
use Rattle.fault_secure.specs.Exposing.{point_count}

-- there are more than 65,536 points, a listed state and an input each
abbrev pub has_too_many_points : Circuit → CodePlan → Bool
has_too_many_points N P = nat_lt 65536 (point_count N P)

-- a netlist with more points than are tried
abbrev pub points_refusal : Bool → Option TextRefusal
points_refusal true = Some (TooMany Points)
points_refusal false = None

-- a netlist whose points are tried: its text, then the number of its points
abbrev pub vectors_refusal : List ℕ → Option TextRefusal
vectors_refusal text = first_of (netlist_text_refusal text) (points_refusal (has_too_many_points (netlist_in text).circuit (plan_in text)))

-- a fault that is not on the list
abbrev pub place_refusal : Bool → Option TextRefusal
place_refusal true = None
place_refusal false = Some NotListed

-- a line that is no step's
abbrev pub shape_refusal : Option ℕ → Option TextRefusal
shape_refusal None = None
shape_refusal (Some line) = Some (StepShape line)

-- a run of a netlist over step lines: its fault, then the lines in order
abbrev pub run_refusal : SimFault → NetlistOf → List TextLine → Option TextRefusal
run_refusal fault net steps = first_of (place_refusal (is_place_listed net fault)) (shape_refusal (first_misshapen net.circuit.inputs steps))

-- the lines of a text as a netlist, whose plan may list no states, with step lines after it: the netlist, then the run
abbrev pub sim_lines_refusal : SimFault → List TextLine → Option TextRefusal
sim_lines_refusal fault lines = first_of (first_refusal AnyPlan lines) (run_refusal fault (first_net lines) (lines_behind lines))

-- a text as a netlist with step lines after it: its bytes, then its lines
abbrev pub sim_refusal : SimFault → List ℕ → Option TextRefusal
sim_refusal fault text = first_of (byte_refusal (bad_line text)) (sim_lines_refusal fault (lines_of text))

-- there are more than 1,048,576 points of the source, a state and an input each
abbrev pub has_too_many_audit_points : Logic → Bool
has_too_many_audit_points M = nat_lt 1048576 (audit_points M)

-- a source with more points than are tried in an audit
abbrev pub audit_points_refusal : Bool → Option TextRefusal
audit_points_refusal true = Some (TooMany AuditPoints)
audit_points_refusal false = None

-- lines from a place on that are audited against a source: the netlist, then the number of the source's points
abbrev pub audit_behind_refusal : List TextLine → ℕ → Logic → Option TextRefusal
audit_behind_refusal lines from M = first_of (netlist_refusal lines from) (audit_points_refusal (has_too_many_audit_points M))

-- lines that are audited: the source, then the netlist after it
abbrev pub audit_lines_refusal : SourceFormat → List TextLine → Option TextRefusal
audit_lines_refusal format lines =
    first_of (source_refusal format lines) (audit_behind_refusal lines (behind_source format lines) (source_of format lines))

-- a text that is audited: its bytes, then its lines
abbrev pub audit_refusal : SourceFormat → List ℕ → Option TextRefusal
audit_refusal format text = first_of (byte_refusal (bad_line text)) (audit_lines_refusal format (lines_of text))
