-- The text of a netlist with registers: with a clock, or without one, and with what is watched.
use Rattle.std.specs.Prelude.{ℕ, ◌+◌, List, [], ◌∷◌, ◌++◌, map, length, codes, Option, None, Some}
use Rattle.fault_secure.specs.Circuit.{Circuit}
use Rattle.fault_secure.specs.CodePlan.{CodePlan}
use Rattle.tsc_net.specs.NetlistOf.{NetlistOf, names_of}
use Rattle.tsc_text.specs.Written.{WrittenLine}
use Rattle.blif_read.specs.declared.clocks.Clock.{Clock}
use Rattle.blif_read.specs.declared.clocks.Edge.{Edge}
use Rattle.blif_read.specs.declared.clocks.Edge.TheVariants.{Rising, Falling}
use Rattle.blif_write.specs.Layout.{plan_line_of, code_lines, clocked_text}
use Rattle.blif_write.specs.NamedPlan.{named_plan}

-- the type of an edge
abbrev pub type_word : Edge → List ℕ
type_word Rising = codes "re"
type_word Falling = codes "fe"

-- what stands before INIT in the line of a latch: the type and the control of the clock, where there is one
abbrev pub clock_words : Option Clock → List (List ℕ)
clock_words None = []
clock_words (Some clock) = type_word clock.edge ∷ clock.control ∷ []

-- `#tsc watch NETS CHECK`
abbrev pub watch_line : List (List ℕ) → WrittenLine
watch_line names = plan_line_of (codes "watch" ∷ names)

-- a line for each list of watched nets
abbrev pub watch_lines : NetlistOf → List (List ℕ) → List WrittenLine
watch_lines net watches = map (λ watched. watch_line (names_of net.names watched)) watches

-- the plan lines of a netlist with registers: the code line, the lines that name the checks, and those of what is watched. They have no state
-- word, and nothing of them depends on those of the plan
abbrev pub register_plan_lines : NetlistOf → CodePlan → List (List ℕ) → List WrittenLine
register_plan_lines net plan watches = code_lines (named_plan net plan) ++ watch_lines net watches

-- the text of a netlist with a plan and with these lists of watched nets
abbrev pub register_text : Option Clock → NetlistOf → CodePlan → List (List ℕ) → List ℕ
register_text clock net plan watches = clocked_text (clock_words clock) net (register_plan_lines net plan watches)

-- one list of nets, or none where nothing is watched
abbrev pub lists_of : List ℕ → List (List ℕ)
lists_of [] = []
lists_of (net ∷ nets) = (net ∷ nets) ∷ []

-- the circuit with its registers as further inputs: its nets have the same numbers
abbrev pub registers_as_inputs : Circuit → Circuit
registers_as_inputs C = record C { inputs = C.inputs + length C.latches; latches = [] }
