use Rattle.std.proofs.Common.{◌+◌, ◌-◌, ◌∙◌, ◌++◌, ap, arith}
use Rattle.code_checkers.specs.Signal.{words_from}
use Rattle.code_checkers.specs.Signal.Signal.{Word}
use Rattle.code_checkers.specs.Draft.{meanings}
use Rattle.code_checkers.proofs.Kept.{signals_pushed}
use Rattle.code_checkers.proofs.Loops.{words_step}
use Rattle.code_checkers.proofs.word_places.words.Goals as goal

pub loop-offset-preserved : goal.loop-offset-preserved
loop-offset-preserved c =
    let pushed = signals_pushed c.args.draft.now c.loop-offset.draft c.add.new.self c.loop-offset.places.items c.push.new.self.items c.in_ok-made.made (Word (c.args.first + c.loop-offset.offset))
    c.loop-offset.invariant.keeps c.loop-offset.invariant.within c.in_ok-made.ensures.added c.in_ok-push.ensures.items in
    record {
      made =
          ap (λ made. made ++ words_from (c.args.first + (c.loop-offset.offset + 1)) (c.args.count - (c.loop-offset.offset + 1))) pushed.mean
          ∙ words_step (meanings c.loop-offset.draft c.loop-offset.places.items) (words_from c.args.first c.args.count) c.args.first c.loop-offset.offset c.args.count (omega arith) c.loop-offset.invariant.made;
      within = pushed.within;
      keeps = pushed.keeps;
    }
