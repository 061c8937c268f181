-- Why a plan is refused once its netlist is there.
use Rattle.std.specs.Prelude.{ℕ, zero, suc, ◌*◌, ◌^◌, Bool, true, false, not, ◌&&◌, ◌==◌, if◌then◌else◌, List, [], ◌∷◌, count_by, length, nat_le, nat_lt, Option, None, Some}
use Rattle.std.specs.List.{list_all, list_any}
use Rattle.std.specs.Option.{is_some}
use Rattle.fault_secure.specs.CodePlan.{concat_places}
use Rattle.tsc_net.specs.Names.{find_text}
use Rattle.tsc_net.specs.NetlistOf.{NetlistOf}
use Rattle.tsc_net.specs.NetFault.{first_repeat}
use Rattle.fault_secure.specs.declared.code.Code.{Code}
use Rattle.fault_secure.specs.declared.code.Code.TheVariants.{Parity, Berger, MOutOfN}
use Rattle.tsc_text.specs.TextLine.{TextLine}
use Rattle.blif_read.specs.PlanText.{kind_in_plan, code_line, code_in, names_at, group_lines, check_lines, state_words, ones_of_word, weight_of, source_outputs, groups_for, checks_for}
use Rattle.blif_read.specs.declared.error.BlifError.{BlifError}
use Rattle.blif_read.specs.declared.error.BlifError.TheVariants.{PlanShape, NoPlan, PlanName}

-- the number of the first line that names what is no net
abbrev pub first_unknown : List (List ℕ) → List TextLine → Option ℕ
first_unknown nets [] = None
first_unknown nets (line ∷ lines) =
    if list_any (λ name. not (is_some (find_text nets name))) (names_at (kind_in_plan line) line) then Some line.number else first_unknown nets lines

-- each place below `count` stands there once
abbrev pub each_once : List ℕ → ℕ → Bool
each_once places zero = true
each_once places (suc count) = (count_by (λ other. count == other) places == 1) && each_once places count

-- the groups share out that many outputs: each stands in them once, and nothing else does
abbrev pub are_parts : ℕ → List (List ℕ) → Bool
are_parts outputs groups =
    (length (concat_places groups) == outputs && list_all (λ place. nat_lt place outputs) (concat_places groups)) && each_once (concat_places groups) outputs

-- that many checks are the least that count to that many outputs
abbrev pub is_width : ℕ → ℕ → Bool
is_width outputs zero = false
is_width outputs (suc width) = nat_le (2 ^ width) outputs && nat_lt outputs (2 * 2 ^ width)

-- the lines fit the code: under parity groups alone, else one check line alone with as many names as the code has checks
abbrev pub has_lines_for : Code → List TextLine → Bool
has_lines_for Parity lines = check_lines lines == 0
has_lines_for Berger lines = group_lines lines == 0 && check_lines lines == 1
has_lines_for MOutOfN lines = group_lines lines == 0 && check_lines lines == 1

-- under parity the groups share out the outputs; under another code there are as many checks as it has for so many outputs
abbrev pub has_checks_for : Code → ℕ → List (List ℕ) → ℕ → Bool
has_checks_for Parity outputs groups checks = are_parts outputs groups
has_checks_for Berger outputs groups checks = is_width outputs checks
has_checks_for MOutOfN outputs groups checks = checks == outputs

-- the plan lines fit the code, and so do the groups or the checks that they name
abbrev pub fits_code : Code → NetlistOf → List TextLine → Bool
fits_code code net lines =
    has_lines_for code lines && has_checks_for code (source_outputs net) (groups_for code net lines) (length (checks_for code lines))

-- the words have one bit per latch and all the same number of ones
abbrev pub are_alike : ℕ → ℕ → List (List ℕ) → Bool
are_alike latches weight words = list_all (λ word. length word == latches && ones_of_word word == weight) words

-- there is no text
abbrev pub is_none : Option (List ℕ) → Bool
is_none None = true
is_none (Some text) = false

-- there are no words
abbrev pub is_empty : List (List ℕ) → Bool
is_empty [] = true
is_empty (word ∷ words) = false

-- without latches there is no state; else there are states, alike, different, with some ones and some zeros
abbrev pub fits_latches : ℕ → List (List ℕ) → Bool
fits_latches latches words =
    if latches == 0 then is_empty words
    else (((nat_lt 0 (weight_of words) && nat_lt (weight_of words) latches) && are_alike latches (weight_of words) words) && is_none (first_repeat words))

-- the plan keeps its rules: from 1 to 64 outputs and two rails, at most 64 latches, lines that fit the code, states that fit the latches
abbrev pub is_right : Code → List TextLine → NetlistOf → Bool
is_right code lines net =
    ((nat_le 3 (length net.circuit.outputs) && nat_le (length net.circuit.outputs) 66) && nat_le (length net.circuit.latches) 64)
    && (fits_code code net lines && fits_latches (length net.circuit.latches) (state_words lines))

-- the refusal of a plan that breaks a rule, at the line that names its code
abbrev pub shape_refusal : TextLine → List TextLine → NetlistOf → Option BlifError
shape_refusal head lines net = if is_right (code_in head) lines net then None else Some (PlanShape head.number)

-- the refusal of a name that is no net, at this line, and the later refusal where there is none
abbrev pub name_refusal : Option ℕ → Option BlifError → Option BlifError
name_refusal None later = later
name_refusal (Some line) later = Some (PlanName line)

-- the refusal of a plan: no plan line, and else a name that is no net, and else a broken rule
abbrev pub head_refusal : Option TextLine → List TextLine → NetlistOf → Option BlifError
head_refusal None lines net = Some NoPlan
head_refusal (Some head) lines net = name_refusal (first_unknown net.names lines) (shape_refusal head lines net)

-- the refusal of the plan of lines that have no fault, whose netlist is there: no plan, a name that is no net, a broken rule
abbrev pub plan_refusal : List TextLine → NetlistOf → Option BlifError
plan_refusal lines net = head_refusal (code_line lines) lines net
