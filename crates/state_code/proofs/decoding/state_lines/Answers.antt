use Rattle.std.proofs.Common.{refl, arith}
use Rattle.std.proofs.lemmas.List.{length_push}
use Rattle.state_code.specs.Lines.{foreign_to_decode}
use Rattle.state_code.proofs.Without.{without_twice}
use Rattle.state_code.proofs.Decoded.{state_pushed}
use Rattle.state_code.proofs.decoding.state_lines.Goals as goal

pub returns-in_err-line-clause-grown : goal.returns-in_err-line-clause-grown
returns-in_err-line-clause-grown c = without_twice foreign_to_decode c.args.gates.now c.loop-i.gates c.add.new.gates c.loop-i.invariant.grown (c.add.ensures.grown foreign_to_decode refl)

pub returns-in_err-push-clause-grown : goal.returns-in_err-push-clause-grown
returns-in_err-push-clause-grown c = without_twice foreign_to_decode c.args.gates.now c.loop-i.gates c.add.new.gates c.loop-i.invariant.grown (c.add.ensures.grown foreign_to_decode refl)

pub loop-i-preserved : goal.loop-i-preserved
loop-i-preserved c =
    let before = c.loop-i.invariant in
    let pushed = state_pushed c.args.gates.now c.loop-i.gates c.add.new.gates c.loop-i.lines c.push.new.self c.loop-i.i c.in_ok-line.line before.grown.grows before.within before.values c.in_ok-line.ensures.added c.in_ok-push.ensures.ok in
    record {
      values = pushed.values;
      within = pushed.within;
      count = grind (arith, c.in_ok-push.ensures.ok, before.count, length_push);
      grown = without_twice foreign_to_decode c.args.gates.now c.loop-i.gates c.add.new.gates before.grown (c.add.ensures.grown foreign_to_decode refl);
      few = omega (arith, before.few, c.add.ensures.few);
    }
