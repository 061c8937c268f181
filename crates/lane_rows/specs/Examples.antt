-- Small answers of a synthesis, with peaks that can be counted by hand.
use Rattle.std.specs.Prelude.{◌≡◌, ℕ, List, [], ◌∷◌, map, refl}
use Rattle.tsc_cover.specs.Cover.{zero_cover}
use Rattle.fault_secure.specs.Circuit.{Circuit, gate}
use Rattle.lane_rows.specs.Alive.{peak}

-- two inputs, the nets 0 and 1, and nodes that read these nets
abbrev pub over_two_inputs : List (List ℕ) → List ℕ → Circuit
over_two_inputs reads outputs = record { inputs = 2; latches = []; nodes = map (gate zero_cover) reads; outputs = outputs }

-- y of a and b, its copy, the copy's complement, the rails of y and of the complement
abbrev pub and_answer : Circuit
and_answer = over_two_inputs ((0 ∷ 1 ∷ []) ∷ (0 ∷ 1 ∷ []) ∷ (3 ∷ []) ∷ (2 ∷ []) ∷ (4 ∷ []) ∷ []) (2 ∷ 5 ∷ 6 ∷ [])

-- y of n, which is of a and b; the copy of y before that of n, and its complement; the rails of y and of the complement
abbrev pub reversed_answer : Circuit
reversed_answer =
    over_two_inputs ((3 ∷ []) ∷ (0 ∷ 1 ∷ []) ∷ (5 ∷ []) ∷ (0 ∷ 1 ∷ []) ∷ (4 ∷ []) ∷ (2 ∷ []) ∷ (6 ∷ []) ∷ []) (2 ∷ 7 ∷ 8 ∷ [])

-- with both rails watched
pub peak-and_rails : peak and_answer (5 ∷ 6 ∷ []) ≡ 3
peak-and_rails = refl

pub peak-reversed_rails : peak reversed_answer (7 ∷ 8 ∷ []) ≡ 3
peak-reversed_rails = refl

-- with the first input watched too, and where it is watched twice
pub peak-reversed_input : peak reversed_answer (7 ∷ 8 ∷ 0 ∷ []) ≡ 4
peak-reversed_input = refl

pub peak-reversed_twice : peak reversed_answer (0 ∷ 7 ∷ 8 ∷ 0 ∷ []) ≡ 4
peak-reversed_twice = refl

-- with nothing watched, and without nodes
pub peak-and_alone : peak and_answer [] ≡ 3
peak-and_alone = refl

pub peak-inputs_alone : peak (over_two_inputs [] (1 ∷ [])) (1 ∷ 1 ∷ []) ≡ 1
peak-inputs_alone = refl
