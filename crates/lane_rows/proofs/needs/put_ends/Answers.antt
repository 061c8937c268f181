-- The watched nets after those that nodes read.
use Rattle.std.proofs.Common.{◌∙◌, ap, ◌+◌, ◌<◌, length, slice_index, if◌then◌else◌, arith}
use Rattle.tsc_net.specs.Order.{fan_ins, evaluation_order, has_place}
use Rattle.tsc_net.specs.PlanView.{net_numbers}
use Rattle.lane_rows.proofs.NeedsLemmas.{all_needed}
use Rattle.lane_rows.proofs.needs.put_ends.Goals as goal

pub returns : goal.returns
returns c =
    let C = c.args.net.now.circuit in
    let order = evaluation_order (fan_ins C) in
    record {
      until = all_needed C order (net_numbers c.args.watch.now) c.put_reads.new.ends c.put_each.new.numbers c.put_reads.ensures.until
          (λ net h.
          let here : net < length c.put_reads.new.ends = omega (arith, h, c.put_reads.auto.ends, c.requires.sized) in
          c.put_each.ensures.each net here
          ∙ ap (λ n. if has_place (net_numbers c.args.watch.now) net then n + 1 else slice_index c.put_reads.new.ends net)
          (ap length c.order.ensures.order));
    }
