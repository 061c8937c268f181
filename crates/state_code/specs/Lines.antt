-- What the lines of a machine's gates are 1 for.
use Rattle.std.specs.Prelude.{ℕ, ◌+◌, ◌*◌, Bool, true, false, not, ◌&&◌, ◌||◌, List, [], ◌∷◌, map, filter, count_by}
use Rattle.std.specs.List.{range_with_len, list_any}
use Rattle.tsc_bits.specs.Bits.{bits_of}
use Rattle.tsc_cover.specs.Cover.{Literal, accepts}
use Rattle.tsc_cover.specs.Row.{literals_of}
use Rattle.tsc_net.specs.declared.machine.MachineRow.{MachineRow}
use Rattle.fault_secure.specs.Logic.{StateTable, Transition, starts_at}
use Rattle.gate_net.specs.declared.line.Line.{Line}
use Rattle.gate_net.specs.declared.gate.Gate.{Gate}
use Rattle.gate_net.specs.declared.gate.Gate.TheVariants as gate
use Rattle.gate_net.specs.Gates.{GateNetwork, gate_at}
use Rattle.gate_net.specs.Growth.{Grows, added_gates}
use Rattle.gate_net.specs.Negations.{is_zero, is_state, HasNo, NegatesOnlyInputs}

-- the network grew, and no gate that came passes the test
pub record GrowsWithout (test : Gate → Bool) (old new : GateNetwork) : Type 0 where
  pub grows : Grows old new
  pub none : HasNo test (added_gates old new)

-- the network grew, no gate that came is a bit of the state, and where negations stood only at inputs they still do
pub record GrowsOverInputs (old new : GateNetwork) : Type 0 where
  pub grows : Grows old new
  pub none : HasNo is_state (added_gates old new)
  pub signs : NegatesOnlyInputs old → NegatesOnlyInputs new

-- the gate is neither an And nor a bit of the state nor the constant 1
abbrev pub foreign_to_decode : Gate → Bool
foreign_to_decode (gate.And a b) = false
foreign_to_decode (gate.State i) = false
foreign_to_decode gate.One = false
foreign_to_decode _ = true

-- the gate is neither an And nor an Or nor the constant 0
abbrev pub foreign_to_select : Gate → Bool
foreign_to_select (gate.And a b) = false
foreign_to_select (gate.Or a b) = false
foreign_to_select gate.Zero = false
foreign_to_select _ = true

-- the first n bits of the state
abbrev pub first_bits : ℕ → (ℕ → Bool) → List Bool
first_bits n s = map s (range_with_len 0 n)

-- each bit that is 1 in the word is 1 among the bits
abbrev pub has_ones : List Bool → List Bool → Bool
has_ones [] bits = true
has_ones (w ∷ word) [] = true
has_ones (w ∷ word) (b ∷ bits) = (not w || b) && has_ones word bits

-- at the state bits s, all that are 1 in the word of n bits are 1
abbrev pub decoded : ℕ → (ℕ → Bool) → ℕ → Bool
decoded n s word = has_ones (bits_of n word) (first_bits n s)

-- the line's gate isn't the constant 0
abbrev pub isnt_zero : GateNetwork → Line → Bool
isnt_zero G line = not (is_zero (gate_at G.gates line.number))

-- how many gates a choice over these lines adds at most: two for each that isn't the constant 0; over no line, that constant
abbrev pub select_gates : GateNetwork → List Line → ℕ
select_gates G [] = 1
select_gates G (line ∷ lines) = 2 * count_by (isnt_zero G) (line ∷ lines)

-- the literals, of which the first asks for input number i, let the input bits pass
abbrev pub passes : ℕ → List Literal → (ℕ → Bool) → Bool
passes i [] x = true
passes i (l ∷ row) x = accepts l (x i) && passes (i + 1) row x

-- the rows that may answer at a state, in text order: its own, and those of every state
abbrev pub rows_at : StateTable → ℕ → List Transition
rows_at M q = filter (λ row. starts_at row.from q) M.rows

-- for each row that may answer at a state, whether it matches the input bits
abbrev pub matches : StateTable → ℕ → (ℕ → Bool) → List Bool
matches M q x = map (λ row. passes 0 row.input x) (rows_at M q)

-- none of the bits is 1
abbrev pub none_of : List Bool → Bool
none_of bits = not (list_any (λ b. b) bits)

-- the row of numbers may answer at a state
abbrev pub may_answer : ℕ → MachineRow → Bool
may_answer q row = starts_at row.from q

-- the same as `matches`, over rows of numbers with so many inputs
abbrev pub matching : ℕ → ℕ → List MachineRow → (ℕ → Bool) → List Bool
matching inputs q rows x = map (λ row. passes 0 (literals_of inputs row.input) x) (filter (may_answer q) rows)
