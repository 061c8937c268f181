use Rattle.std.specs.Prelude.{◌==◌, length}
use Rattle.std.proofs.Common.{ap}
use Rattle.tsc_bits.proofs.Counting.{shifted}
use Rattle.berger_code.proofs.Steps.{counted_one}
use Rattle.berger_code.proofs.counter.count_one.Goals as goal

pub returns-clause-added : goal.returns-clause-added
returns-clause-added c =
    counted_one c.args.gates.now c.zero_line.new.gates c.add_carry.new.gates c.args.bits.now c.in_ok-next.next.items c.args.output c.in_ok-carry.carry _ _
    c.requires.bits (ap (λ k. c.args.number == k) (shifted (length c.args.bits.now) c.requires.small)) c.in_ok-carry.ensures.zero c.in_ok-next.ensures.added
