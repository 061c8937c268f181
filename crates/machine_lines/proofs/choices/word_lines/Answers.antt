use Rattle.std.proofs.Common.{arith}
use Rattle.gate_net.specs.Negations.{is_negation}
use Rattle.state_code.proofs.Without.{without_twice}
use Rattle.machine_lines.proofs.Choosing.{choices_more, place_pushed}
use Rattle.machine_lines.proofs.choices.word_lines.Goals as goal

pub choice-requires-clause-room : goal.choice-requires-clause-room
choice-requires-clause-room c =
    let more = choices_more c.args.widths c.args.cases.now c.loop-place.place c.loop-place-test.true in
    omega (arith, more.0, more.1, c.loop-place.invariant.few, c.requires.room)

pub returns-in_err-line-clause-grown : goal.returns-in_err-line-clause-grown
returns-in_err-line-clause-grown c = without_twice is_negation c.args.gates.now c.loop-place.gates c.choice.new.gates c.loop-place.invariant.grown c.choice.ensures.grown

pub returns-in_err-line-clause-few : goal.returns-in_err-line-clause-few
returns-in_err-line-clause-few c =
    let more = choices_more c.args.widths c.args.cases.now c.loop-place.place c.loop-place-test.true in
    omega (arith, more.0, more.1, c.loop-place.invariant.few, c.choice.ensures.few)

pub returns-in_err-push-clause-grown : goal.returns-in_err-push-clause-grown
returns-in_err-push-clause-grown c = without_twice is_negation c.args.gates.now c.loop-place.gates c.choice.new.gates c.loop-place.invariant.grown c.choice.ensures.grown

pub returns-in_err-push-clause-few : goal.returns-in_err-push-clause-few
returns-in_err-push-clause-few c =
    let more = choices_more c.args.widths c.args.cases.now c.loop-place.place c.loop-place-test.true in
    omega (arith, more.0, more.1, c.loop-place.invariant.few, c.choice.ensures.few)

pub loop-place-preserved : goal.loop-place-preserved
loop-place-preserved c =
    let before = c.loop-place.invariant in
    let more = choices_more c.args.widths c.args.cases.now c.loop-place.place c.loop-place-test.true in
    let pushed = place_pushed c.args.widths c.args.gates.now c.loop-place.gates c.choice.new.gates c.args.cases.now c.loop-place.word c.push.new.self c.loop-place.place c.in_ok-line.line
    before.grown.grows c.requires.cases before.within before.values c.in_ok-line.ensures.computes c.in_ok-push.ensures.ok in
    record {
      values = pushed.values;
      within = pushed.within;
      grown = without_twice is_negation c.args.gates.now c.loop-place.gates c.choice.new.gates before.grown c.choice.ensures.grown;
      few = omega (arith, more.0, before.few, c.choice.ensures.few);
    }
