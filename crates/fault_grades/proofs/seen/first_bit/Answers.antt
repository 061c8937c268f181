use Rattle.std.proofs.Common.{lit<, ◌∙◌}
use Rattle.fault_grades.proofs.seen.first_bit.Goals as goal

pub returns : goal.returns
returns c = record { bit = c.bit_at.ensures.bit ∙ c.lanes.ensures.lanes.lanes 0 (lit< tt) }
