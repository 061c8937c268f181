-- The walk of a signal: each signal once, operands from left to right before the gate.
use Rattle.std.specs.Prelude.{◌≡◌, ℕ, ◌<◌, ◌==◌, Bool, false, ◌&&◌, if◌then◌else◌, List, [], ◌∷◌, ◌++◌, length, slice_index_or, Option, Some, None}
use Rattle.std.specs.List.{list_any}
use Rattle.code_checkers.specs.declared.gate.CheckGate.{CheckGate}
use Rattle.code_checkers.specs.declared.gate.CheckGate.TheVariants as gate
use Rattle.code_checkers.specs.Signal.{Signal}
use Rattle.code_checkers.specs.Signal.Signal.{Word, Buf, Not, And, Or, Xor}
use Rattle.code_checkers.specs.Gates.{AreOrdered, signals_of, meaning}
use Rattle.code_checkers.specs.Draft.{IsAdded}

-- the two signals are the same
abbrev pub same_signal : Signal → Signal → Bool
same_signal (Word a) (Word b) = a == b
same_signal (Buf a) (Buf b) = same_signal a b
same_signal (Not a) (Not b) = same_signal a b
same_signal (And a b) (And c d) = same_signal a c && same_signal b d
same_signal (Or a b) (Or c d) = same_signal a c && same_signal b d
same_signal (Xor a b) (Xor c d) = same_signal a c && same_signal b d
same_signal _ _ = false

-- the signals with one more, where it isn't among them
abbrev pub with_signal : List Signal → Signal → List Signal
with_signal signals s = if list_any (same_signal s) signals then signals else signals ++ s ∷ []

-- a walk over a signal, after what was walked before
abbrev pub walk : Signal → List Signal → List Signal
walk (Word place) signals = with_signal signals (Word place)
walk (Buf a) signals = with_signal (walk a signals) (Buf a)
walk (Not a) signals = with_signal (walk a signals) (Not a)
walk (And a b) signals = with_signal (walk b (walk a signals)) (And a b)
walk (Or a b) signals = with_signal (walk b (walk a signals)) (Or a b)
walk (Xor a b) signals = with_signal (walk b (walk a signals)) (Xor a b)

-- the two gates are the same
abbrev pub same_gate : CheckGate → CheckGate → Bool
same_gate (gate.Word a) (gate.Word b) = a == b
same_gate (gate.Buf a) (gate.Buf b) = a == b
same_gate (gate.Not a) (gate.Not b) = a == b
same_gate (gate.And a b) (gate.And c d) = (a == c) && (b == d)
same_gate (gate.Or a b) (gate.Or c d) = (a == c) && (b == d)
same_gate (gate.Xor a b) (gate.Xor c d) = (a == c) && (b == d)
same_gate _ _ = false

-- the gates with one more, where it isn't among them
abbrev pub with_gate : List CheckGate → CheckGate → List CheckGate
with_gate gates g = if list_any (same_gate g) gates then gates else gates ++ g ∷ []

-- what was written while a draft was visited: gates that read earlier ones, each signal once; and where a place of the
-- draft was visited, the place of its signal
pub record IsSharing (draft gates : List CheckGate) (places : List (Option ℕ)) : Type 0 where
  pub sized : length places ≡ length draft
  pub ordered : AreOrdered gates
  pub distinct : (i j : ℕ) → i < length gates → j < length gates → meaning gates i ≡ meaning gates j → i ≡ j
  pub noted : (place there : ℕ) → place < length places → slice_index_or places place None ≡ Some there → (there < length gates) × (meaning gates there ≡ meaning draft place)

-- a place of the draft was visited: what was written is a walk over its signal, which stands at a place there
pub record IsVisit (draft old new : List CheckGate) (place there : ℕ) : Type 0 where
  pub walked : signals_of new ≡ walk (meaning draft place) (signals_of old)
  pub added : IsAdded old new (meaning draft place) there
