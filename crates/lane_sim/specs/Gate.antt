-- What a gate has at a point, from the lanes of the points and those of the rows.
use Rattle.std.specs.Prelude.{◌≢◌, ℕ, ◌+◌, ◌*◌, ◌/◌, ◌≤◌, Bool, true, false, List, length, All}
use Rattle.std.specs.List.{list_any, list_all}
use Rattle.tsc_bits.specs.Bits.{same}
use Rattle.fault_secure.specs.StuckAt.{StuckAt, NoFault, Stem, Pin, on_stem, on_pin}
use Rattle.lane_sim.specs.Points.{source_bit}
use Rattle.lane_sim.specs.declared.gate.Operand.{Operand}
use Rattle.lane_sim.specs.declared.gate.Operand.TheVariants.{Points, Row}
use Rattle.lane_sim.specs.declared.gate.Term.{Term}
use Rattle.lane_sim.specs.declared.gate.ListRange.{ListRange}
use Rattle.lane_sim.specs.Spans.{piece}

-- the operand of this number, of the rows or of the points' lanes
abbrev pub operand_in : Bool → ℕ → Operand
operand_in true number = Row number
operand_in false number = Points number

-- the operand whose words start at this place; each takes sixteen words
abbrev pub operand_at : Bool → ℕ → Operand
operand_at in_rows start = operand_in in_rows (start / 16)

-- whether it is a row, and the number of the net or of the row
abbrev pub is_in_rows : Operand → Bool
is_in_rows (Points net) = false
is_in_rows (Row row) = true

abbrev pub number_of : Operand → ℕ
number_of (Points net) = net
number_of (Row row) = row

-- where the lanes are at the pin that a term reads, and the term of a pin
abbrev pub term_operand : Term → Operand
term_operand term = operand_in term.in_rows term.number

abbrev pub term_at : Operand → ℕ → Bool → Term
term_at operand pin wants = record { number = number_of operand; in_rows = is_in_rows operand; pin = pin; wants = wants }

-- the operand is one of the points' lanes, or one of the rows
abbrev pub IsOperand : List ℕ → List ℕ → Operand → Type 0
IsOperand words block (Points net) = net * 16 + 16 ≤ length words
IsOperand words block (Row row) = row * 16 + 16 ≤ length block

-- the operands of all terms are
abbrev pub HaveOperands : List ℕ → List ℕ → List (List Term) → Type 0
HaveOperands words block terms = All (All (λ term. IsOperand words block (term_operand term))) terms

-- the bit of an operand at a point; the stem of an input or a latch output may be held
abbrev pub operand_bit : StuckAt → List ℕ → List ℕ → ℕ → Operand → Bool
operand_bit f words block p (Points net) = on_stem f net (source_bit words net p)
operand_bit f words block p (Row row) = source_bit block row p

-- whether the pin of a term reads the bit that the term wants; the node drives the net `driver`
abbrev pub term_bit : StuckAt → ℕ → List ℕ → List ℕ → ℕ → Term → Bool
term_bit f driver words block p term = same term.wants (on_pin f driver term.pin (operand_bit f words block p (term_operand term)))

-- whether each term of a row passes
abbrev pub each_bit : StuckAt → ℕ → List ℕ → List ℕ → ℕ → List Term → Bool
each_bit f driver words block p terms = list_all (term_bit f driver words block p) terms

-- whether each term of some row passes
abbrev pub some_bit : StuckAt → ℕ → List ℕ → List ℕ → ℕ → List (List Term) → Bool
some_bit f driver words block p terms = list_any (each_bit f driver words block p) terms

-- whether each term of some row passes, where the rows are spans of a list of terms
abbrev pub span_bit : StuckAt → ℕ → List ℕ → List ℕ → ℕ → List Term → List ListRange → Bool
span_bit f driver words block p terms spans = list_any (λ span. each_bit f driver words block p (piece terms span)) spans

-- the operands of the terms in all spans are
abbrev pub SpansHaveOperands : List ℕ → List ℕ → List Term → List ListRange → Type 0
SpansHaveOperands words block terms spans = All (λ span. All (λ term. IsOperand words block (term_operand term)) (piece terms span)) spans

-- what the node drives: whether some row matches where the rows are the on-set, else whether none does; its stem may be held
abbrev pub gate_bit : StuckAt → ℕ → List ℕ → List ℕ → ℕ → Bool → List (List Term) → Bool
gate_bit f driver words block p on terms = on_stem f driver (same on (some_bit f driver words block p terms))

-- the fault is at no input or latch output, and neither at the node that drives the net nor at its pins; `first` is the net of the first node
abbrev pub IsElsewhere : ℕ → ℕ → StuckAt → Type 0
IsElsewhere driver first NoFault = Unit {0}
IsElsewhere driver first (Stem at held) = (first ≤ at) × (at ≢ driver)
IsElsewhere driver first (Pin at index held) = at ≢ driver
