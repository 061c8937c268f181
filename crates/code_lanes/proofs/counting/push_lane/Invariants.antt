-- The first digits are those that were pushed, then comes what is moved, and then the digits that weren't reached yet.
use Rattle.std.proofs.Common.{◌≡◌, ◌++◌, ◌∷◌, take, drop}
use Rattle.code_lanes.proofs.counting.push_lane.Given as goal

abbrev pub invariant-loop-digit : goal.invariant-loop-digit
invariant-loop-digit l = take l.digit-index l.digits ++ l.moved ∷ drop l.digit-index l.digits ≡ l.fn.lane ∷ l.fn.digits
