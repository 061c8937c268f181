use Rattle.std.proofs.Common.{ℕ, Option, ◌+◌, ◌/◌, ◌^◌, ◌∙◌, sym, ap}
use Rattle.fault_secure.specs.Logic.{starts_at}
use Rattle.lane_sim.proofs.LaneLemmas.{bit_of_ones}
use Rattle.behaviour_audit.proofs.row_lanes.started_by.Goals as goal

pub returns-in-None : goal.returns-in-None
returns-in-None c = record {
  bits = λ k few. bit_of_ones k few ∙ ap (λ (from : Option ℕ). starts_at from ((c.args.base + k) / 2 ^ c.args.inputs)) (sym c.in-None.is);
}
