-- The layout of a netlist with its plan: which lines it has, and the words of each. A plan line begins with `#tsc`, which isn't one of its words.
use Rattle.std.specs.Prelude.{ℕ, ◌+◌, Bool, true, false, List, [], ◌∷◌, ◌++◌, map, codes}
use Rattle.std.specs.List.{flat_map}
use Rattle.tsc_cover.specs.Cover.{Literal, CoverTable}
use Rattle.tsc_cover.specs.Text.{text_of_literals}
use Rattle.fault_secure.specs.declared.code.Code.{Code}
use Rattle.fault_secure.specs.declared.code.Code.TheVariants.{Parity, Berger, MOutOfN}
use Rattle.fault_secure.specs.CodePlan.{CodePlan}
use Rattle.tsc_net.specs.Named.{Named, NamedLatch, NamedNode}
use Rattle.tsc_net.specs.NetlistOf.{NetlistOf, named_of}
use Rattle.tsc_text.specs.Written.{WrittenLine, text_of, line_of_words}
use Rattle.blif_write.specs.NamedPlan.{NamedPlan, named_plan}

-- a bit as a character
abbrev pub bit_character : Bool → ℕ
bit_character true = 49
bit_character false = 48

-- bits as a word
abbrev pub word_of_bits : List Bool → List ℕ
word_of_bits bits = map bit_character bits

-- a plan line of these words
abbrev pub plan_line_of : List (List ℕ) → WrittenLine
plan_line_of words = record { is_plan = true; words = words }

-- `.model NAME`
abbrev pub model_line : List ℕ → WrittenLine
model_line name = line_of_words (codes ".model" ∷ name ∷ [])

-- `.inputs NAMES`
abbrev pub inputs_line : List (List ℕ) → WrittenLine
inputs_line names = line_of_words (codes ".inputs" ∷ names)

-- `.outputs NAMES`, the last two of which are the rails
abbrev pub outputs_line : List (List ℕ) → WrittenLine
outputs_line names = line_of_words (codes ".outputs" ∷ names)

-- the word for a code
abbrev pub code_word : Code → List ℕ
code_word Parity = codes "parity"
code_word Berger = codes "berger"
code_word MOutOfN = codes "mofn"

-- the digit of a version, which is 1 or 2
abbrev pub version_word : ℕ → List ℕ
version_word version = (version + 48) ∷ []

-- `#tsc VERSION CODE`
abbrev pub code_line : ℕ → Code → WrittenLine
code_line version code = plan_line_of (version_word version ∷ code_word code ∷ [])

-- `#tsc group OUTPUTS CHECK`
abbrev pub group_line : List (List ℕ) → WrittenLine
group_line names = plan_line_of (codes "group" ∷ names)

-- `#tsc check CHECKS`
abbrev pub check_line : List (List ℕ) → WrittenLine
check_line names = plan_line_of (codes "check" ∷ names)

-- `#tsc state WORD`
abbrev pub state_line : List Bool → WrittenLine
state_line bits = plan_line_of (codes "state" ∷ word_of_bits bits ∷ [])

-- the lines that name the checks: for parity one line per group, else one line
abbrev pub check_lines : Code → NamedPlan → List WrittenLine
check_lines Parity P = map group_line P.groups
check_lines Berger P = check_line P.checks ∷ []
check_lines MOutOfN P = check_line P.checks ∷ []

-- the code line, and the lines that name the checks
abbrev pub code_lines : NamedPlan → List WrittenLine
code_lines P = code_line P.version P.code ∷ check_lines P.code P

-- the plan lines
abbrev pub plan_lines : NamedPlan → List WrittenLine
plan_lines P = code_lines P ++ map state_line P.states

-- `.latch READS OUT CLOCK INIT`, where the words of the clock are its type and its control, or none
abbrev pub clocked_latch_line : List (List ℕ) → NamedLatch → WrittenLine
clocked_latch_line clock l = line_of_words (codes ".latch" ∷ l.reads ∷ l.out ∷ (clock ++ (bit_character l.init ∷ []) ∷ []))

-- `.latch READS OUT INIT`
abbrev pub latch_line : NamedLatch → WrittenLine
latch_line l = clocked_latch_line [] l

-- `.names PINS NET`
abbrev pub names_line : NamedNode → WrittenLine
names_line n = line_of_words (codes ".names" ∷ (n.reads ++ n.out ∷ []))

-- a row: its characters, where it has a pin, and the bit of the set
abbrev pub row_line : Bool → List Literal → WrittenLine
row_line on [] = line_of_words ((bit_character on ∷ []) ∷ [])
row_line on (l ∷ row) = line_of_words (text_of_literals (l ∷ row) ∷ (bit_character on ∷ []) ∷ [])

-- the rows of a cover
abbrev pub row_lines : CoverTable → List WrittenLine
row_lines c = map (row_line c.on) c.rows

-- a node: `.names` and its rows
abbrev pub node_lines : NamedNode → List WrittenLine
node_lines n = names_line n ∷ row_lines n.cover

-- `.end`
abbrev pub end_line : WrittenLine
end_line = line_of_words (codes ".end" ∷ [])

-- the lines before the plan
abbrev pub head_lines : Named → List WrittenLine
head_lines N = model_line N.model ∷ inputs_line N.inputs ∷ outputs_line N.outputs ∷ []

-- the lines before `.end`, with plan lines after the head, or with none, and with the words of a clock in the lines of latches
abbrev pub clocked_section : List (List ℕ) → Named → List WrittenLine → List WrittenLine
clocked_section clock N plan = ((head_lines N ++ plan) ++ map (clocked_latch_line clock) N.latches) ++ flat_map node_lines N.nodes

-- those without a clock
abbrev pub section_with : Named → List WrittenLine → List WrittenLine
section_with N plan = clocked_section [] N plan

-- those of a netlist with its plan
abbrev pub section_lines : Named → NamedPlan → List WrittenLine
section_lines N P = section_with N (plan_lines P)

-- all lines
abbrev pub clocked_layout : List (List ℕ) → Named → List WrittenLine → List WrittenLine
clocked_layout clock N plan = clocked_section clock N plan ++ end_line ∷ []

-- those without a clock
abbrev pub layout_with : Named → List WrittenLine → List WrittenLine
layout_with N plan = clocked_layout [] N plan

-- all lines of a netlist with its plan
abbrev pub layout : Named → NamedPlan → List WrittenLine
layout N P = layout_with N (plan_lines P)

-- the text of a netlist with plan lines, or with none, and with the words of a clock
abbrev pub clocked_text : List (List ℕ) → NetlistOf → List WrittenLine → List ℕ
clocked_text clock net plan = text_of (clocked_layout clock (named_of net) plan)

-- the text without a clock
abbrev pub text_with : NetlistOf → List WrittenLine → List ℕ
text_with net plan = clocked_text [] net plan

-- the text of a netlist with its plan
abbrev pub netlist_text : NetlistOf → CodePlan → List ℕ
netlist_text net P = text_with net (plan_lines (named_plan net P))
