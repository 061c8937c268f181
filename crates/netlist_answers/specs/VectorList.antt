-- The list of test vectors: one line per listed fault of a netlist, how many of the faults are testable, and whether all are.
use Rattle.std.specs.Prelude.{ℕ, ◌-◌, ◌==◌, if◌then◌else◌, List, [], ◌∷◌, ◌++◌, codes, length, count_by, Option, None, Some}
use Rattle.std.specs.Fmt.{decimal}
use Rattle.std.specs.Option.{is_some}
use Rattle.tsc_bits.specs.Bits.{bits_of}
use Rattle.fault_secure.specs.Listed.{listed_faults}
use Rattle.fault_secure.specs.StuckAt.{StuckAt}
use Rattle.tsc_net.specs.NetlistOf.{NetlistOf}
use Rattle.sim_text.specs.StepLine.{bits_word}
use Rattle.lane_sim.specs.declared.point.Point.{Point}
use Rattle.netlist_answers.specs.FaultList.{fault_words}

-- ` at STATE INPUT`: the state as a number, the input as a word of its bits, `.` where there is none
abbrev pub point_end : ℕ → Point → List ℕ
point_end inputs point = codes " at " ++ (decimal point.state ++ (32 ∷ bits_word (bits_of inputs point.input)))

-- the first exposing point of a fault, or ` untestable`
abbrev pub test_end : ℕ → Option Point → List ℕ
test_end inputs None = codes " untestable"
test_end inputs (Some point) = point_end inputs point

-- the line of a fault with its test
abbrev pub vector_line : NetlistOf → StuckAt → Option Point → List ℕ
vector_line net fault test = fault_words net.names fault ++ (test_end net.circuit.inputs test ++ 10 ∷ [])

-- the lines of faults, each with its test
abbrev pub vector_lines : NetlistOf → List StuckAt → List (Option Point) → List ℕ
vector_lines net [] tests = []
vector_lines net (fault ∷ faults) [] = []
vector_lines net (fault ∷ faults) (test ∷ tests) = vector_line net fault test ++ vector_lines net faults tests

-- how many faults have an exposing point
abbrev pub testable : List (Option Point) → ℕ
testable tests = count_by is_some tests

-- how many faults have no exposing point
abbrev pub untestable : List (Option Point) → ℕ
untestable tests = length tests - testable tests

-- `testable T untestable U`
abbrev pub counts_line : ℕ → ℕ → List ℕ
counts_line some none = codes "testable " ++ (decimal some ++ (codes " untestable " ++ (decimal none ++ 10 ∷ [])))

-- `self-testing yes` where no fault is untestable, else `self-testing no`
abbrev pub verdict_line : ℕ → List ℕ
verdict_line none = if none == 0 then codes "self-testing yes" ++ 10 ∷ [] else codes "self-testing no" ++ 10 ∷ []

-- the two lines at the end
abbrev pub last_lines : List (Option Point) → List ℕ
last_lines tests = counts_line (testable tests) (untestable tests) ++ verdict_line (untestable tests)

-- the line of each listed fault, in order, with its test, and the two lines at the end
abbrev pub vector_list : NetlistOf → List (Option Point) → List ℕ
vector_list net tests = vector_lines net (listed_faults net.circuit) tests ++ last_lines tests
