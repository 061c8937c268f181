-- One net more is released.
use Rattle.std.proofs.Common.{◌≡◌, ◌∙◌, subst, refl, ℕ, ◌+◌, ◌<◌, nat_lt, Bool, length, take, slice_index, slice_index_or, arith, []}
use Rattle.std.proofs.lemmas.List.{take_all}
use Rattle.tsc_net.specs.PlanView.{net_numbers}
use Rattle.tsc_net.specs.declared.ids.NetId.{NetId}
use Rattle.lane_rows.specs.Holding.{IsHolding}
use Rattle.lane_rows.proofs.HoldingLemmas.{holding_of, less}
use Rattle.lane_rows.proofs.ReleasedLemmas.{left_of, left_of_none, left_of_more}
use Rattle.lane_rows.proofs.row_table.RowTable.release_each.Goals as goal

pub loop-net-init : goal.loop-net-init
loop-net-init c = record {
  rows = refl;
  count = refl;
  holding = λ live h. holding_of _ _ _ _ live (left_of live [] c.args.ends.now c.args.place) (left_of_none live c.args.ends.now c.args.place) h;
}

pub loop-net-preserved : goal.loop-net-preserved
loop-net-preserved c =
    let nets = c.args.nets.now in
    let i = c.loop-net.net-index in
    record {
      rows = c.in_ok-release.ensures.rows ∙ c.loop-net.invariant.rows;
      count = c.in_ok-release.ensures.count ∙ c.loop-net.invariant.count;
      holding = λ live h.
          let before : i < length nets = omega arith in
          let so_far : ℕ → Bool = left_of live (net_numbers (take i nets)) c.args.ends.now c.args.place in
          let d : NetId = record { number = 0 } in
          let net = (slice_index_or nets i d).number in
          holding_of c.release.new.self.rows.items c.release.new.self.held.items c.release.new.self.free.items c.release.new.self.count
          (less so_far net (nat_lt c.args.place (slice_index c.args.ends.now net)))
          (left_of live (net_numbers (take (i + 1) nets)) c.args.ends.now c.args.place)
          (λ other. left_of_more live nets c.args.ends.now c.args.place i d other before)
          (c.in_ok-release.ensures.holding so_far (c.loop-net.invariant.holding live h));
    }

pub returns-clause-holding : goal.returns-clause-holding
returns-clause-holding c live h =
    let all : take c.loop-net.net-index c.args.nets.now ≡ c.args.nets.now = take_all c.loop-net.net-index c.args.nets.now (omega arith) in
    subst (λ nets. IsHolding c.loop-net.self.rows.items c.loop-net.self.held.items c.loop-net.self.free.items c.loop-net.self.count (left_of live (net_numbers nets) c.args.ends.now c.args.place)) all
    (c.loop-net.invariant.holding live h)
