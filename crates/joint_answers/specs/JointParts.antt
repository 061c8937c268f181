-- A text as netlists one after another that are joined: what it denotes, and what is refused of it.
use Rattle.std.specs.Prelude.{ℕ, Bool, true, false, List, Option, None, Some}
use Rattle.tsc_text.specs.Bytes.{bad_line}
use Rattle.tsc_text.specs.Lines.{lines_of}
use Rattle.tsc_text.specs.TextLine.{TextLine}
use Rattle.module_join.specs.JointNet.{PlannedOf}
use Rattle.module_join.specs.JoinLimits.{has_too_many_inputs, has_too_many_nodes}
use Rattle.module_join.specs.JoinParts.{parts_as}
use Rattle.refusals.specs.declared.limit.Limit.TheVariants.{Covers, JointInputs}
use Rattle.refusals.specs.declared.text_refusal.TextRefusal.{TextRefusal}
use Rattle.refusals.specs.declared.text_refusal.TextRefusal.TheVariants.{TooMany}
use Rattle.text_sections.specs.Refused.{byte_refusal, first_of}
use Rattle.part_reading.specs.PartRefusal.{parts_refusal}
use Rattle.part_reading.specs.Parts.{parts_of}

-- the netlists, with their plans and their clocks, that a text denotes
abbrev pub parts_in : List ℕ → List PlannedOf
parts_in text = parts_as (parts_of (lines_of text))

-- netlists whose inputs have too many names together
abbrev pub inputs_refusal : Bool → Option TextRefusal
inputs_refusal true = Some (TooMany JointInputs)
inputs_refusal false = None

-- netlists whose joint would have too many nodes
abbrev pub nodes_refusal : Bool → Option TextRefusal
nodes_refusal true = Some (TooMany Covers)
nodes_refusal false = None

-- netlists whose joint would pass a limit: its inputs, then its nodes
abbrev pub joint_refusal : List PlannedOf → Option TextRefusal
joint_refusal parts = first_of (inputs_refusal (has_too_many_inputs parts)) (nodes_refusal (has_too_many_nodes parts))

-- the lines of a text: the netlists, then the limits of their joint
abbrev pub join_lines_refusal : List TextLine → Option TextRefusal
join_lines_refusal lines = first_of (parts_refusal lines) (joint_refusal (parts_as (parts_of lines)))

-- a text: its bytes, then its lines
abbrev pub join_refusal : List ℕ → Option TextRefusal
join_refusal text = first_of (byte_refusal (bad_line text)) (join_lines_refusal (lines_of text))
