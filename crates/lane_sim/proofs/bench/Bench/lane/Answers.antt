use Rattle.std.proofs.Common.{◌≡◌, true, ap, sym, ◌∙◌, subst}
use Rattle.std.specs.Prelude.{IsSome}
use Rattle.tsc_net.specs.Order.{has_place}
use Rattle.lane_sim.specs.Bench.{BenchState, lane_of}
use Rattle.lane_sim.specs.RowBlock.{row_words}
use Rattle.lane_sim.proofs.BenchLemmas.{lane_is_row}
use Rattle.lane_sim.proofs.bench.Bench.lane.Goals as goal

pub returns-clause-lane : goal.returns-clause-lane
returns-clause-lane c =
    let inside = c.self.inside in
    let net = c.args.net.number in
    let watched = subst (λ (s : BenchState). has_place s.watched net ≡ true) (sym c.self.view_is) c.requires.watched in
    let some = subst (λ (s : BenchState). IsSome s.lanes) (sym c.self.view_is) c.requires.settled in
    c.row-2.ensures.words
    ∙ ap (row_words inside.block) c.row.ensures.row
    ∙ sym (lane_is_row inside.program inside.block inside.settled net watched some)
    ∙ ap (λ (s : BenchState). lane_of s net) c.self.view_is
