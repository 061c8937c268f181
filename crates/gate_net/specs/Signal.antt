-- Signals: what a line of gates computes from the bits of inputs and the bits of a state, as an expression.
use Rattle.std.specs.Prelude.{ℕ, Bool, true, false, not, ◌&&◌, ◌||◌, List, map}
use Rattle.tsc_bits.specs.Counting.{differ}

-- a constant, the bit of an input, a bit of the state, or a gate over signals
pub data Signal : Type 0 where
  Zero : Signal
  One : Signal
  Input : ℕ → Signal
  State : ℕ → Signal
  Not : Signal → Signal
  And : Signal → Signal → Signal
  Or : Signal → Signal → Signal
  Xor : Signal → Signal → Signal

-- the value of a signal with the input bits x and the state bits s
abbrev pub value : (ℕ → Bool) → (ℕ → Bool) → Signal → Bool
value x s Zero = false
value x s One = true
value x s (Input i) = x i
value x s (State i) = s i
value x s (Not a) = not (value x s a)
value x s (And a b) = value x s a && value x s b
value x s (Or a b) = value x s a || value x s b
value x s (Xor a b) = differ (value x s a) (value x s b)

-- the values of a list of signals
abbrev pub values : (ℕ → Bool) → (ℕ → Bool) → List Signal → List Bool
values x s signals = map (value x s) signals
