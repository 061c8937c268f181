use Rattle.std.proofs.Common.{inr}
use Rattle.code_lanes.proofs.LaneLemmas.{same_bit}
use Rattle.behaviour_audit.proofs.LaneLemmas.{free_or_same}
use Rattle.behaviour_audit.proofs.lanes.differing_bits.Goals as goal

pub returns-then-version-eq2 : goal.returns-then-version-eq2
returns-then-version-eq2 c = record {
  bound = λ k few zero_.
      free_or_same c.args.version k c.args.lane c.args.chosen c.args.free c.negated.result c.if-version-eq2.true (c.negated.ensures.bits k few) zero_;
}

pub returns-else-version-eq2 : goal.returns-else-version-eq2
returns-else-version-eq2 c = record { bound = λ k few zero_. inr ((same_bit k c.args.lane c.args.chosen).0 zero_) }
