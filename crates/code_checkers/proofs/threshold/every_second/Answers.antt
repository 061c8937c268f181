use Rattle.std.proofs.Common.{◌+◌, ◌∙◌, ◌++◌, true, refl, ap, drop, get_or, arith}
use Rattle.code_checkers.specs.Threshold.{every_second}
use Rattle.code_checkers.proofs.Loops.{second_step}
use Rattle.code_checkers.proofs.threshold.every_second.Goals as goal

pub loop-place-preserved : goal.loop-place-preserved
loop-place-preserved c =
    let items = c.args.items.now in
    let i = c.loop-place.place in
    record {
      made =
          ap (λ half. half ++ every_second true (drop (i + 2) items)) c.in_ok-push.ensures.items
          ∙ second_step c.loop-place.half.items items (every_second true (drop c.args.start items)) (get_or items i 0) 0 i c.loop-place-test.true refl c.loop-place.invariant.made;
      place = omega arith;
    }
