-- The plan of a text, by names: what its plan lines state.
use Rattle.std.specs.Prelude.{ℕ, ◌+◌, ◌-◌, Bool, true, false, ◌==◌, if◌then◌else◌, List, [], ◌∷◌, codes, map, count_by, length, Option, None, Some, slice_index_or, take, position}
use Rattle.std.specs.Str.{bytes_eq}
use Rattle.std.specs.List.{flat_map}
use Rattle.std.specs.Option.{unwrap_or}
use Rattle.fault_secure.specs.Circuit.{Circuit}
use Rattle.fault_secure.specs.CodePlan.{CodePlan}
use Rattle.tsc_net.specs.Names.{find_text}
use Rattle.tsc_net.specs.NetlistOf.{NetlistOf}
use Rattle.fault_secure.specs.declared.code.Code.{Code}
use Rattle.fault_secure.specs.declared.code.Code.TheVariants.{Parity, Berger, MOutOfN}
use Rattle.tsc_text.specs.TextLine.{TextLine, the_word}
use Rattle.blif_read.specs.LineKind.{names_of, pins_of, net_of}
use Rattle.blif_read.specs.PlanLines.{plan_kind}
use Rattle.blif_read.specs.declared.plan_lines.PlanKind.{PlanKind}
use Rattle.blif_read.specs.declared.plan_lines.PlanKind.TheVariants.{GroupLine, CheckLine, StateLine, WatchLine, OtherLine}

-- the kind of a line in a plan; one that is no plan line has none of its kinds
abbrev pub kind_in_plan : TextLine → PlanKind
kind_in_plan line = if line.is_plan then plan_kind (the_word line 0) else OtherLine

-- the first plan line, which names the code
abbrev pub code_line : List TextLine → Option TextLine
code_line [] = None
code_line (line ∷ lines) = if line.is_plan then Some line else code_line lines

-- its version and its code
abbrev pub version_of : TextLine → ℕ
version_of line = if bytes_eq (the_word line 0) (codes "1") then 1 else 2

-- the code of a word: `parity`, `berger`, and m-out-of-n where it is neither
abbrev pub code_named : List ℕ → Code
code_named word = if bytes_eq word (codes "parity") then Parity else (if bytes_eq word (codes "berger") then Berger else MOutOfN)

-- the code that the line names
abbrev pub code_in : TextLine → Code
code_in line = code_named (the_word line 1)

-- the nets that a plan line of this kind names
abbrev pub names_at : PlanKind → TextLine → List (List ℕ)
names_at GroupLine line = names_of line
names_at CheckLine line = names_of line
names_at WatchLine line = names_of line
names_at _ line = []

-- the outputs that a group names, and the check net that ends its line
abbrev pub group_outputs_at : PlanKind → TextLine → List (List (List ℕ))
group_outputs_at GroupLine line = pins_of line ∷ []
group_outputs_at _ line = []

-- the check net that ends the line of a group
abbrev pub group_check_at : PlanKind → TextLine → List (List ℕ)
group_check_at GroupLine line = net_of line ∷ []
group_check_at _ line = []

-- the names of checks
abbrev pub checks_at : PlanKind → TextLine → List (List ℕ)
checks_at CheckLine line = names_of line
checks_at _ line = []

-- the word of a state
abbrev pub state_at : PlanKind → TextLine → List (List ℕ)
state_at StateLine line = the_word line 1 ∷ []
state_at _ line = []

-- the kind is that of a check line
abbrev pub is_check_line : PlanKind → Bool
is_check_line CheckLine = true
is_check_line _ = false

-- the outputs of each group, the check of each group, the names of the check lines, and the words of the states, in order
abbrev pub group_outputs : List TextLine → List (List (List ℕ))
group_outputs lines = flat_map (λ line. group_outputs_at (kind_in_plan line) line) lines

-- the check of each group, in order
abbrev pub group_checks : List TextLine → List (List ℕ)
group_checks lines = flat_map (λ line. group_check_at (kind_in_plan line) line) lines

-- the names of the check lines, in order
abbrev pub check_names : List TextLine → List (List ℕ)
check_names lines = flat_map (λ line. checks_at (kind_in_plan line) line) lines

-- the words of the states, in order
abbrev pub state_words : List TextLine → List (List ℕ)
state_words lines = flat_map (λ line. state_at (kind_in_plan line) line) lines

-- the kind is that of a group line
abbrev pub is_group_line : PlanKind → Bool
is_group_line GroupLine = true
is_group_line _ = false

-- how many group lines and how many check lines there are
abbrev pub group_lines : List TextLine → ℕ
group_lines lines = count_by (λ line. is_group_line (kind_in_plan line)) lines

-- how many check lines there are
abbrev pub check_lines : List TextLine → ℕ
check_lines lines = count_by (λ line. is_check_line (kind_in_plan line)) lines

-- the kind is that of a watch line
abbrev pub is_watch_line : PlanKind → Bool
is_watch_line WatchLine = true
is_watch_line _ = false

-- how many watch lines there are
abbrev pub watch_lines : List TextLine → ℕ
watch_lines lines = count_by (λ line. is_watch_line (kind_in_plan line)) lines

-- the first watch line
abbrev pub first_watch : List TextLine → Option TextLine
first_watch [] = None
first_watch (line ∷ lines) = if is_watch_line (kind_in_plan line) then Some line else first_watch lines

-- the bits of a state's word, and how many of them are 1
abbrev pub bits_of_word : List ℕ → List Bool
bits_of_word word = map (λ character. character == 49) word

-- how many bits of a state's word are 1
abbrev pub ones_of_word : List ℕ → ℕ
ones_of_word word = count_by (λ character. character == 49) word

-- the number of ones of the first state; 0 without states
abbrev pub weight_of : List (List ℕ) → ℕ
weight_of [] = 0
weight_of (word ∷ words) = ones_of_word word

-- the code is parity
abbrev pub is_parity : Code → Bool
is_parity Parity = true
is_parity _ = false

-- the circuit as a plan sees it: to one that lists no states, registers are further inputs. Nets keep their numbers
abbrev pub seen_circuit : Bool → Circuit → Circuit
seen_circuit lists C = record C {
  inputs = if lists then C.inputs else C.inputs + length C.latches;
  latches = if lists then C.latches else [];
}

-- the netlist as a plan sees it
abbrev pub seen_net : Bool → NetlistOf → NetlistOf
seen_net lists net = record net { circuit = seen_circuit lists net.circuit }

-- the number of the source's outputs: those of the netlist without the two rails
abbrev pub source_outputs : NetlistOf → ℕ
source_outputs net = length net.circuit.outputs - 2

-- the net of a name, and its place among the source's outputs, which is their number where it is none of them
abbrev pub net_named : NetlistOf → List ℕ → ℕ
net_named net name = unwrap_or (find_text net.names name) 0

-- the place of a name's net among the source's outputs, and their number where it is none of them
abbrev pub output_place : NetlistOf → List ℕ → ℕ
output_place net name = unwrap_or (position (λ output. output == net_named net name) (take (source_outputs net) net.circuit.outputs)) (source_outputs net)

-- the groups as places of outputs, under parity
abbrev pub groups_for : Code → NetlistOf → List TextLine → List (List ℕ)
groups_for Parity net lines = map (λ names. map (output_place net) names) (group_outputs lines)
groups_for Berger net lines = []
groups_for MOutOfN net lines = []

-- the names of the checks: under parity those of the groups
abbrev pub checks_for : Code → List TextLine → List (List ℕ)
checks_for Parity lines = group_checks lines
checks_for Berger lines = check_names lines
checks_for MOutOfN lines = check_names lines

-- the plan that the lines with this code line state for a netlist
abbrev pub plan_with : TextLine → List TextLine → NetlistOf → CodePlan
plan_with head lines net = record {
  version = version_of head;
  code = code_in head;
  outputs = source_outputs net;
  checks = map (net_named net) (checks_for (code_in head) lines);
  groups = groups_for (code_in head) net lines;
  latches = length net.circuit.latches;
  weight = weight_of (state_words lines);
  states = map bits_of_word (state_words lines);
  rail1 = slice_index_or net.circuit.outputs (source_outputs net) 0;
  rail2 = slice_index_or net.circuit.outputs (source_outputs net + 1) 0;
}
