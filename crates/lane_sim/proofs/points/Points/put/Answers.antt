use Rattle.std.proofs.Common.{◌≡◌, ◌+◌, List, ℕ, length, cond, nat_lt, false, sym, ap, ◌∙◌, arith}
use Rattle.std.proofs.lemmas.List.{with_items_is}
use Rattle.lane_sim.specs.Points.{PointsState, source_bit}
use Rattle.lane_sim.proofs.PointLemmas.{state_of_point}
use Rattle.lane_sim.proofs.points.Points.put.Goals as goal

pub returns-clause-state : goal.returns-clause-state
returns-clause-state c = λ k.
    let inputs = c.self.inside.inputs in
    let latches = c.self.inside.latches in
    let sized : length c.args.state.now ≡ latches = c.requires.state ∙ sym (ap (λ (s : PointsState). s.latches) c.self.view_is) in
    ap (λ (words : List ℕ). cond (nat_lt k latches) (source_bit words (inputs + k) c.args.place) false) (with_items_is c.self.inside.words c.put_point.new.words (omega arith))
    ∙ state_of_point inputs latches c.args.place c.args.state.now c.put_point.new.words sized c.put_point.ensures.state k
