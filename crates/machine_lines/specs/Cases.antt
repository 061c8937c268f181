-- The cases of a machine: what is asked of the state and the inputs, and the word that is answered there.
use Rattle.std.specs.Prelude.{◌≡◌, ℕ, ◌+◌, ◌*◌, ◌<◌, ◌≤◌, Bool, ◌&&◌, ◌||◌, List, ◌++◌, map, take, length, count_by, slice_index_or, All}
use Rattle.std.specs.List.{list_any, range_with_len, sum_by}
use Rattle.tsc_bits.specs.Bits.{bits_of}
use Rattle.fault_secure.specs.Circuit.{bit}
use Rattle.mofn_code.specs.CheckBits.{check_bits}
use Rattle.fault_secure.specs.declared.code.Code.{Code}
use Rattle.fault_secure.specs.Logic.{StateTable}
use Rattle.tsc_net.specs.declared.machine.MachineRow.{MachineRow}
use Rattle.gate_net.specs.declared.line.Line.{Line}
use Rattle.gate_net.specs.Gates.{GateNetwork, IsLine, AreLines, line_value, line_values}
use Rattle.state_code.specs.Lines.{rows_at}
use Rattle.tsc_bits.specs.Counting.{some_both}
use Rattle.machine_lines.specs.declared.cases.Case.{Case}
use Rattle.machine_lines.specs.declared.widths.Widths.{Widths}
use Rattle.machine_lines.specs.MachineLines.{answer_word}

-- the word of these outputs and this next state
abbrev pub word_of : Code → ℕ → ℕ → List ℕ → List Bool → ℕ → List Bool
word_of code checks n words ys next = (ys ++ check_bits code checks ys) ++ bits_of n (slice_index_or words next 0)

-- the word of what a row of numbers answers
abbrev pub row_word : Code → Widths → List ℕ → MachineRow → List Bool
row_word code W words row = word_of code W.checks W.bits words (bits_of W.outputs row.outputs) row.next

-- the word of what a case answers
abbrev pub case_word : Widths → Case → List Bool
case_word W case = (bits_of W.outputs case.outputs ++ bits_of W.checks case.check) ++ bits_of W.bits case.next

-- the case answers with a 1 at the place
abbrev pub has_one : Widths → ℕ → Case → Bool
has_one W place case = bit (case_word W case) place

-- the case stands: the line of its state and that of its row are both 1
abbrev pub stands : GateNetwork → (ℕ → Bool) → (ℕ → Bool) → Case → Bool
stands G x s case = line_value G x s case.decoded && line_value G x s case.line

-- some case stands that answers with a 1 at the place
abbrev pub some_case : Widths → GateNetwork → (ℕ → Bool) → (ℕ → Bool) → ℕ → List Case → Bool
some_case W G x s place cases = list_any (λ case. has_one W place case && stands G x s case) cases

-- the line of the case's state and that of its row are the network's
abbrev pub IsCaseOf : GateNetwork → Case → Type 0
IsCaseOf G case = IsLine G case.decoded × IsLine G case.line

abbrev pub AreCases : GateNetwork → List Case → Type 0
AreCases G cases = All (IsCaseOf G) cases

-- the rows of the first so many states, where a row of every state counts once per state
abbrev pub rows_before : StateTable → ℕ → ℕ
rows_before M states = sum_by (λ q. length (rows_at M q)) (take states (range_with_len 0 M.states))

-- what the choices at the first so many places of a word add at most: two gates for each case with a 1 there
abbrev pub choices_before : Widths → List Case → ℕ → ℕ
choices_before W cases places = sum_by (λ place. 2 * count_by (has_one W place) cases) (take places (range_with_len 0 (W.outputs + W.checks + W.bits)))

-- cases of a state with this line were added: they have these lines and answer with these words, so that some of them stands
-- with a 1 where the state's line is 1 and so is the line of a word with a 1. There are as many as words
pub record AddsCases (W : Widths) (old new : List Case) (decoded : Line) (lines : List Line) (words : List (List Bool)) : Type 0 where
  pub within : (G : GateNetwork) → AreCases G old → IsLine G decoded → AreLines G lines → AreCases G new
  pub value : (G : GateNetwork) (x s : ℕ → Bool) (place : ℕ) → some_case W G x s place new
      ≡ (some_case W G x s place old || (line_value G x s decoded && some_both (line_values G x s lines) (map (λ word. bit word place) words)))
  pub count : length new ≡ length old + length words
  pub ones : (place : ℕ) → count_by (has_one W place) new ≤ count_by (has_one W place) old + length words

-- the gates grew by the lines of a state's rows, and its cases were added: some of them stands with a 1 at a place where the
-- state's line is 1 and the state's answer has a 1 there. There are as many as rows, and one more, which has no output that is 1
pub record AddsState (code : Code) (W : Widths) (words : List ℕ) (M : StateTable) (q : ℕ) (decoded : Line) (a b : GateNetwork) (old new : List Case) : Type 0 where
  pub within : AreCases b new
  pub value : (x : List Bool) (s : ℕ → Bool) (place : ℕ) → some_case W b (bit x) s place new
      ≡ (some_case W a (bit x) s place old || (line_value a (bit x) s decoded && bit (answer_word code W.checks W.bits words M x q) place))
  pub count : length new ≡ length old + length (rows_at M q) + 1
  pub ones : (place : ℕ) → place < W.outputs → count_by (has_one W place) new ≤ count_by (has_one W place) old + length (rows_at M q)
