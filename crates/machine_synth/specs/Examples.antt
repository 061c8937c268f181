-- The bound of a small machine and of one of ordinary size.
use Rattle.std.specs.Prelude.{◌≡◌, ℕ, ◌*◌, ◌%◌, true, [], ◌∷◌, map, Some, refl}
use Rattle.std.specs.List.{range_with_len}
use Rattle.fault_secure.specs.declared.code.Code.TheVariants.{Berger, MOutOfN}
use Rattle.fault_secure.specs.Logic.{StateTable, Transition}
use Rattle.machine_synth.specs.MachineBound.{check_count, state_weight, machine_bound}

-- a row of a state, of which only its counts matter here
row_of : ℕ → Transition
row_of q = record { input = []; from = Some q; next = 0; named = true; outputs = []; care = [] }

-- two states with two rows each, one input, one output
two_states : StateTable
two_states = record { inputs = 1; outputs = 1; states = 2; reset = 0; rows = map row_of (0 ∷ 0 ∷ 1 ∷ 1 ∷ []) }

bound-two : machine_bound two_states MOutOfN ≡ 668
unfolding two_states row_of
bound-two = refl

-- a controller: 7 inputs, 19 outputs, 48 states, 115 rows
controller : StateTable
controller = record { inputs = 7; outputs = 19; states = 48; reset = 0; rows = map (λ r. row_of (r % 48)) (range_with_len 0 115) }

-- it has five checks under the Berger code, and eight latches
checks-controller : check_count Berger 19 ≡ 5
checks-controller = refl

weight-controller : 2 * state_weight 48 ≡ 8
weight-controller = refl

bound-controller : machine_bound controller Berger ≡ 41980
unfolding controller row_of
bound-controller = refl
