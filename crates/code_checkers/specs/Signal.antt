-- Signals: what a gate of a checker computes from the bits of a monitored word, as an expression.
use Rattle.std.specs.Prelude.{ℕ, zero, suc, ◌+◌, Bool, not, ◌&&◌, ◌||◌, List, [], ◌∷◌}
use Rattle.fault_secure.specs.Circuit.{bit}
use Rattle.tsc_bits.specs.Counting.{differ}

-- the bit at a place of the word, or a gate over signals
pub data Signal : Type 0 where
  Word : ℕ → Signal
  Buf : Signal → Signal
  Not : Signal → Signal
  And : Signal → Signal → Signal
  Or : Signal → Signal → Signal
  Xor : Signal → Signal → Signal

-- the value of a signal on a word
abbrev pub value : List Bool → Signal → Bool
value w (Word place) = bit w place
value w (Buf a) = value w a
value w (Not a) = not (value w a)
value w (And a b) = value w a && value w b
value w (Or a b) = value w a || value w b
value w (Xor a b) = differ (value w a) (value w b)

-- two signals that differ where all is well: a two-rail pair
pub record Pair : Type 0 where
  pub first : Signal
  pub second : Signal

-- the two signals of a pair have different bits on a word
abbrev pub pair_differs : List Bool → Pair → Bool
pair_differs w p = differ (value w p.first) (value w p.second)

-- the places of a word from `place` on, so many of them
abbrev pub words_from : ℕ → ℕ → List Signal
words_from place zero = []
words_from place (suc count) = Word place ∷ words_from (place + 1) count

-- a chain of gates of one kind over signals, from the left; the chain of one is itself
abbrev pub chain_from : (Signal → Signal → Signal) → Signal → List Signal → Signal
chain_from gate made [] = made
chain_from gate made (a ∷ signals) = chain_from gate (gate made a) signals

-- the chain of gates over signals, from the left; without signals it is the first bit of the word
abbrev pub chain : (Signal → Signal → Signal) → List Signal → Signal
chain gate [] = Word 0
chain gate (a ∷ signals) = chain_from gate a signals
