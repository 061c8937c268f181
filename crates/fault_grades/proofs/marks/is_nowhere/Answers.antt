use Rattle.std.proofs.Common.{◌≡◌, ℕ, ◌<◌, true, false, List, None, inl, inr, arith}
use Rattle.std.proofs.lemmas.Bool.{cases_Bool}
use Rattle.lane_sim.specs.First.{IsFirstIn}
use Rattle.lane_sim.specs.Lanes.{lane_bit}
use Rattle.fault_grades.proofs.marks.is_nowhere.Goals as goal

nowhere : (lanes : List ℕ) → IsFirstIn (λ p. lane_bit lanes p ≡ true) 0 1024 None → (lane : ℕ) → lane < 1024 → lane_bit lanes lane ≡ false
nowhere lanes none lane inside = elim (cases_Bool (lane_bit lanes lane)) [
  | inl is ↦ absurd (none lane (omega arith) inside is)
  | inr is ↦ is
]

pub returns-in-None : goal.returns-in-None
returns-in-None c = record { none = λ is. nowhere c.args.lanes c.in-None.ensures.first }
