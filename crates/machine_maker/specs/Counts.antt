-- What is counted of a state table over all its points, a state and an input each.
use Rattle.std.specs.Prelude.{ℕ, zero, suc, ◌+◌, ◌*◌, ◌^◌, ◌==◌, cond}
use Rattle.tsc_bits.specs.Bits.{bits_of}
use Rattle.tsc_bits.specs.Counting.{ones}
use Rattle.fault_secure.specs.Logic.{StateTable, answering, next_of_rows, outputs_of_rows}

-- the sum of f over the numbers below n
unfoldable pub sum_below : (ℕ → ℕ) → ℕ → ℕ
sum_below f zero = 0
sum_below f (suc n) = sum_below f n + f n

-- the sum of f over all points
abbrev pub sum_of_points : StateTable → (ℕ → ℕ → ℕ) → ℕ
sum_of_points M f = sum_below (λ state. sum_below (f state) (2 ^ M.inputs)) M.states

-- how many of the chosen outputs are 1 at a point
abbrev pub ones_at : StateTable → ℕ → ℕ → ℕ
ones_at M state input = ones (outputs_of_rows M (answering M state (bits_of M.inputs input)))

-- 1 where the chosen next state of a point is the reset state, else 0
abbrev pub resets_at : StateTable → ℕ → ℕ → ℕ
resets_at M state input = cond (next_of_rows M (answering M state (bits_of M.inputs input)) == M.reset) 1 0

-- how many output bits are 1 over all points
abbrev pub output_ones : StateTable → ℕ
output_ones M = sum_of_points M (ones_at M)

-- at how many points the next state is the reset state
abbrev pub resets : StateTable → ℕ
resets M = sum_of_points M (resets_at M)

-- how many points there are
abbrev pub points : StateTable → ℕ
points M = M.states * 2 ^ M.inputs
