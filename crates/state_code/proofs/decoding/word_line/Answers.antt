use Rattle.std.proofs.Common.{◌∙◌, refl, arith}
use Rattle.gate_net.specs.declared.line.Line.{Line}
use Rattle.state_code.specs.Lines.{foreign_to_decode}
use Rattle.state_code.proofs.Without.{without_twice}
use Rattle.state_code.proofs.Decoded.{word_step}
use Rattle.state_code.proofs.decoding.word_line.Goals as goal

pub returns-in_err-made-clause-grown : goal.returns-in_err-made-clause-grown
returns-in_err-made-clause-grown c = without_twice foreign_to_decode c.args.gates.now c.loop-place.gates c.with_bit.new.gates c.loop-place.invariant.grown c.in_err-made.ensures.grown

pub loop-place-preserved : goal.loop-place-preserved
loop-place-preserved c =
    let start = c.args.gates.now in
    let here = c.loop-place.gates in
    let new = c.with_bit.new.gates in
    let none : Line = record { number = 0 } in
    let before = c.loop-place.invariant in
    let made = c.in_ok-made.ensures.computes in
    record {
      value = λ x s.
          word_step start here new c.args.bits.now c.args.width c.args.word c.loop-place.place c.loop-place.made c.in_ok-made.made none x s before.grown.grows c.requires.bits c.requires.sized c.loop-place-test.true (made.value x s)
          ∙ before.value x s;
      within = made.within;
      grown = without_twice foreign_to_decode start here new before.grown c.in_ok-made.ensures.grown;
      few = omega (arith, before.few, c.in_ok-made.ensures.few);
    }

pub returns-in-None-clause-grown : goal.returns-in-None-clause-grown
returns-in-None-clause-grown c = without_twice foreign_to_decode c.args.gates.now c.loop-place.gates c.add.new.gates c.loop-place.invariant.grown (c.add.ensures.grown foreign_to_decode refl)
