use Rattle.std.proofs.Common.{length, ◌∙◌, arith}
use Rattle.net_building.proofs.FreshSteps.{fresh_more, fresh_counted, fresh_named, fresh_first, fresh_distinct, number_more}
use Rattle.net_building.proofs.fresh_names.add_fresh_names.Goals as goal

pub loop-place-preserved : goal.loop-place-preserved
loop-place-preserved c =
    let loop = c.loop-place.invariant in
    let made = c.in_ok-name.ensures in
    record {
      left = fresh_more c.args.parts.now c.loop-place.parts c.fresh.new.self c.args.count c.loop-place.place (omega (arith, c.loop-place-test.true)) loop.left made.ok;
      numbers = number_more c.loop-place.names c.push.new.self c.in_ok-name.name (length c.args.parts.now.names) c.loop-place.place loop.numbers (made.number ∙ loop.counted) c.in_ok-push.ensures.ok;
      counted = (let more = fresh_counted c.loop-place.parts c.fresh.new.self made.ok in omega (arith, more, loop.counted));
      named = fresh_named c.loop-place.parts c.fresh.new.self made.ok ∙ loop.named;
      first = fresh_first (length c.args.parts.now.names) c.loop-place.parts c.fresh.new.self made.ok (omega (arith, loop.counted)) ∙ loop.first;
      distinct = λ numbering. fresh_distinct c.loop-place.parts c.fresh.new.self made.ok made.is_new (loop.distinct numbering);
    }
