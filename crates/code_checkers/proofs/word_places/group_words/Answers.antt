use Rattle.std.proofs.Common.{◌+◌, ◌∙◌, ◌++◌, map, drop, get_or, refl, ap}
use Rattle.code_checkers.specs.Signal.Signal.{Word}
use Rattle.code_checkers.specs.Draft.{meanings}
use Rattle.code_checkers.proofs.Kept.{signals_pushed}
use Rattle.code_checkers.proofs.Loops.{group_step}
use Rattle.code_checkers.proofs.word_places.group_words.Goals as goal

pub loop-word-preserved : goal.loop-word-preserved
loop-word-preserved c =
    let group = c.args.group.now in
    let i = c.loop-word.word-index in
    let x = get_or group i 0 in
    let pushed = signals_pushed c.args.draft.now c.loop-word.draft c.add.new.self c.loop-word.places.items c.push.new.self.items c.in_ok-made.made (Word x)
    c.loop-word.invariant.keeps c.loop-word.invariant.within c.in_ok-made.ensures.added c.in_ok-push.ensures.items in
    record {
      made =
          ap (λ made. made ++ map Word (drop (i + 1) group)) pushed.mean
          ∙ group_step (meanings c.loop-word.draft c.loop-word.places.items) (map Word group) group i x 0 c.loop-word-test.true refl c.loop-word.invariant.made;
      within = pushed.within;
      keeps = pushed.keeps;
    }
