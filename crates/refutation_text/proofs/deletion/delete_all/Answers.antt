use Rattle.std.proofs.Common.{◌≡◌, true, sym, ◌∙◌, arith}
use Rattle.refutation_text.proofs.Steps.{alive_more, without_more}
use Rattle.refutation_text.proofs.deletion.delete_all.Goals as goal

pub returns-then-not-delete-clause-sound : goal.returns-then-not-delete-clause-sound
returns-then-not-delete-clause-sound c = λ formula sound. c.delete.ensures.sound formula (c.loop-number.invariant.sound formula sound)

pub loop-number-preserved : goal.loop-number-preserved
loop-number-preserved c =
    let was : c.delete.result ≡ true = grind arith in
    record {
      alive = c.loop-number.invariant.alive
          ∙ alive_more c.loop-number.checker c.delete.new.self c.args.numbers.now c.loop-number.number-index c.loop-number-test.true c.delete.ensures.deleted
          (sym c.delete.ensures.was ∙ was);
      after = c.loop-number.invariant.after
          ∙ without_more c.loop-number.checker c.delete.new.self c.args.numbers.now c.loop-number.number-index c.loop-number-test.true c.delete.ensures.deleted;
      sound = λ formula sound. c.delete.ensures.sound formula (c.loop-number.invariant.sound formula sound);
    }
