use Rattle.std.specs.Prelude.{ℕ, Bool}
use Rattle.std.proofs.Common.{ap, ◌∙◌, arith}
use Rattle.gate_net.specs.declared.line.Line.{Line}
use Rattle.gate_net.specs.Gates.{line_value, line_values}
use Rattle.gate_net.proofs.Kept.{bits_pushed}
use Rattle.tsc_bits.specs.Counting.{add_carry}
use Rattle.berger_code.proofs.Steps.{carry_more, carry_longer, carry_kept}
use Rattle.berger_code.proofs.counter.add_carry.Goals as goal
use Rattle.berger_code.proofs.counter.add_carry.Goals.{then-longer+in_ok-push-2, else-longer}

pub loop-bit-preserved : goal.loop-bit-preserved
loop-bit-preserved c =
    let start = c.args.gates.now in
    let here = c.loop-bit.gates in
    let none : Line = record { number = 0 } in
    let before = c.loop-bit.invariant in
    let made = c.in_ok-made.ensures in
    let pushed = bits_pushed start here c.half_adder.new.gates c.loop-bit.next.items c.push.new.self.items c.in_ok-made.made.sum _ before.grows before.within made.sum c.in_ok-push.ensures.items in
    record {
      made = carry_more start here c.half_adder.new.gates c.args.bits.now c.loop-bit.next.items c.push.new.self.items c.loop-bit.carried c.in_ok-made.made.sum c.in_ok-made.made.carry none c.args.longer
          (λ x s. add_carry c.args.longer (line_value start x s c.args.carry) (line_values start x s c.args.bits.now)) c.loop-bit.bit-index
          before.grows c.requires.bits before.within c.loop-bit-test.true before.made made.sum made.carry c.in_ok-push.ensures.items;
      within = pushed.within;
      carried = made.carry.within;
      grows = pushed.grows;
      few = omega (arith, before.few, made.few);
    }

pub returns-clause-added : goal.returns-clause-added
returns-clause-added c =
    let start = c.args.gates.now in
    let here = c.loop-bit.gates in
    let before = c.loop-bit.invariant in
    let sum = λ (x s : ℕ → Bool). add_carry c.args.longer (line_value start x s c.args.carry) (line_values start x s c.args.bits.now) in
    elim c.if-longer.branch [
      | then-longer+in_ok-push-2 w ↦
          carry_longer start here c.args.bits.now c.loop-bit.next.items c.if-longer.next.items c.loop-bit.carried c.args.longer sum c.loop-bit.bit-index
          before.grows before.within before.carried c.loop-bit-test.false w.if-longer.true before.made (ap (λ v. v.items) w.next-is ∙ w.in_ok-push-2.ensures.items)
      | else-longer w ↦
          carry_kept start here c.args.bits.now c.loop-bit.next.items c.if-longer.next.items c.loop-bit.carried c.args.longer sum c.loop-bit.bit-index
          before.grows before.within c.loop-bit-test.false w.if-longer.false before.made (ap (λ v. v.items) w.next-is)
    ]
