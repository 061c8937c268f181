-- The first digits are those of the sum, and what is carried is added to the others.
use Rattle.std.proofs.Common.{◌≡◌, ℕ, false}
use Rattle.tsc_bits.specs.Bits.{bit_worth}
use Rattle.tsc_bits.specs.Counting.{add_carry}
use Rattle.code_lanes.specs.Lanes.{column}
use Rattle.code_lanes.proofs.CountLemmas.{carried_to}
use Rattle.code_lanes.proofs.counting.count_lane.Given as goal

abbrev pub invariant-loop-digit : goal.invariant-loop-digit
invariant-loop-digit l = (k : ℕ) → carried_to k l.digits l.digit-index l.carry ≡ add_carry false (bit_worth k l.fn.lane) (column k l.fn.digits)
