use Rattle.std.proofs.Common.{◌+◌, List, ℕ, cond, nat_lt, false, ap, ◌∙◌, arith}
use Rattle.std.proofs.lemmas.List.{with_items_is}
use Rattle.tsc_bits.specs.Bits.{bits_of}
use Rattle.tsc_bits.proofs.Bits.{length-bits_of}
use Rattle.fault_secure.specs.Circuit.{bit}
use Rattle.lane_sim.specs.Points.{PointsState, source_bit}
use Rattle.lane_sim.proofs.PointLemmas.{state_of_point}
use Rattle.lane_sim.proofs.points.Points.put_numbered.Goals as goal

pub returns-clause-state : goal.returns-clause-state
returns-clause-state c = λ k.
    let inputs = c.self.inside.inputs in
    let latches = c.self.inside.latches in
    let sized = length-bits_of latches c.args.state in
    ap (λ (words : List ℕ). cond (nat_lt k latches) (source_bit words (inputs + k) c.args.place) false) (with_items_is c.self.inside.words c.put_numbered_point.new.words (omega arith))
    ∙ state_of_point inputs latches c.args.place (bits_of latches c.args.state) c.put_numbered_point.new.words sized
    (λ l inside. c.put_numbered_point.ensures.state l (omega (arith, sized))) k
    ∙ ap (λ (s : PointsState). bit (bits_of s.latches c.args.state) k) c.self.view_is
