-- Negation normal form: signals whose negations stand only at inputs and state bits, and that have no exclusive or.
use Rattle.gate_net.specs.Signal.{Signal}
use Rattle.gate_net.specs.Signal.Signal.{Zero, One, Input, State, Not, And, Or, Xor}

-- a signal's positive phase, which has its value, and its negative phase, which has the other value
pub record TwoPhases : Type 0 where
  pub positive : Signal
  pub negative : Signal

-- both phases of a signal, by the laws of De Morgan and the covers of an exclusive or
abbrev pub phases_of : Signal → TwoPhases
phases_of Zero = record { positive = Zero; negative = One }
phases_of One = record { positive = One; negative = Zero }
phases_of (Input i) = record { positive = Input i; negative = Not (Input i) }
phases_of (State i) = record { positive = State i; negative = Not (State i) }
phases_of (Not a) = record { positive = (phases_of a).negative; negative = (phases_of a).positive }
phases_of (And a b) = record {
  positive = And (phases_of a).positive (phases_of b).positive;
  negative = Or (phases_of a).negative (phases_of b).negative;
}
phases_of (Or a b) = record {
  positive = Or (phases_of a).positive (phases_of b).positive;
  negative = And (phases_of a).negative (phases_of b).negative;
}
phases_of (Xor a b) = record {
  positive = Or (And (phases_of a).positive (phases_of b).negative) (And (phases_of a).negative (phases_of b).positive);
  negative = Or (And (phases_of a).positive (phases_of b).positive) (And (phases_of a).negative (phases_of b).negative);
}
