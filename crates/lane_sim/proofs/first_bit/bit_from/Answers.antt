use Rattle.std.proofs.Common.{◌<◌, ◌/◌, ◌^◌, arith}
use Rattle.lane_sim.proofs.FirstLemmas.{none_set, first_set}
use Rattle.lane_sim.proofs.first_bit.bit_from.Goals as goal

pub returns-then-rest-eq0 : goal.returns-then-rest-eq0
returns-then-rest-eq0 c = record { first = none_set c.args.word c.args.from c.if-rest-eq0.true }

pub returns-else-rest-eq0 : goal.returns-else-rest-eq0
returns-else-rest-eq0 c =
    let some : 0 < c.args.word / 2 ^ c.args.from = omega (arith, c.if-rest-eq0.false) in
    record { first = first_set c.args.word c.args.from (omega arith) c.requires.from some }
