use Rattle.std.proofs.Common.{◌+◌, ◌*◌, ◌-◌, ◌∙◌, ◌++◌, ap, arith}
use Rattle.code_checkers.specs.Signal.{Pair}
use Rattle.code_checkers.specs.Signal.Signal.{Word}
use Rattle.code_checkers.specs.Draft.{pairs_at}
use Rattle.code_checkers.specs.Tree.{word_pairs}
use Rattle.code_checkers.proofs.Kept.{pairs_pushed}
use Rattle.code_checkers.proofs.Loops.{word_pairs_step}
use Rattle.code_checkers.proofs.pair_tree.word_pairs.Goals as goal

pub loop-k-preserved : goal.loop-k-preserved
loop-k-preserved c =
    let pair : Pair = record { first = Word (2 * c.loop-k.k); second = Word (2 * c.loop-k.k + 1) } in
    let pushed = pairs_pushed c.args.draft.now c.loop-k.draft c.word_pair.new.draft c.loop-k.pairs.items c.push.new.self.items c.in_ok-made.made pair
    c.loop-k.invariant.keeps c.loop-k.invariant.within c.in_ok-made.ensures.added c.in_ok-push.ensures.items in
    record {
      made =
          ap (λ made. made ++ word_pairs (2 * (c.loop-k.k + 1)) (c.args.count - (c.loop-k.k + 1))) pushed.mean
          ∙ word_pairs_step (pairs_at c.loop-k.draft c.loop-k.pairs.items) (word_pairs 0 c.args.count) c.loop-k.k c.args.count (omega arith) c.loop-k.invariant.made;
      within = pushed.within;
      keeps = pushed.keeps;
    }
