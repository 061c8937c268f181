use Rattle.std.proofs.Common.{arith}
use Rattle.blif_write.proofs.Pins.{bits-step}
use Rattle.blif_write.proofs.plan_lines.push_bits.Goals as goal

pub loop-pin-preserved : goal.loop-pin-preserved
loop-pin-preserved c =
    let step = bits-step c.loop-pin.out c.args.width c.loop-pin.pin c.args.word (omega arith) in
    cc (c.in_ok-push.ensures.ok, c.bit_byte.ensures.character, c.bit_at.ensures.bit)
