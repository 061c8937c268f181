use Rattle.std.proofs.Common.{◌+◌, ℕ, List, sym, subst, arith}
use Rattle.code_checkers.specs.Signal.{words_from}
use Rattle.code_checkers.specs.Draft.{AreAdded}
use Rattle.code_checkers.proofs.Stretches.{length-words_added, stretches_added}
use Rattle.code_checkers.proofs.pairs.stretch_pair.Goals as goal

pub threshold_pair-requires-clause-most : goal.threshold_pair-requires-clause-most
threshold_pair-requires-clause-most c =
    omega (
      arith,
      length-words_added c.args.draft.now c.words.new.draft c.args.place c.args.first c.in_ok-firsts.firsts.items c.in_ok-firsts.ensures.added,
      length-words_added c.words.new.draft c.words-2.new.draft (c.args.place + c.args.first) c.args.second c.in_ok-seconds.seconds.items c.in_ok-seconds.ensures.added,
    )

pub threshold_pair-requires-clause-small : goal.threshold_pair-requires-clause-small
threshold_pair-requires-clause-small c =
    omega (
      arith,
      length-words_added c.args.draft.now c.words.new.draft c.args.place c.args.first c.in_ok-firsts.firsts.items c.in_ok-firsts.ensures.added,
      length-words_added c.words.new.draft c.words-2.new.draft (c.args.place + c.args.first) c.args.second c.in_ok-seconds.seconds.items c.in_ok-seconds.ensures.added,
    )

pub returns : goal.returns
returns c =
    let a = c.args.draft.now in
    let b = c.words.new.draft in
    let d = c.words-2.new.draft in
    let one = subst (λ (places : List ℕ). AreAdded a b (words_from c.args.place c.args.first) places) (sym c.deref.ensures.value) c.in_ok-firsts.ensures.added in
    let other = subst (λ (places : List ℕ). AreAdded b d (words_from (c.args.place + c.args.first) c.args.second) places) (sym c.deref-2.ensures.value) c.in_ok-seconds.ensures.added in
    record { added = stretches_added a b d c.threshold_pair.new.draft c.args.place c.args.first c.args.second c.args.m c.deref.result.now c.deref-2.result.now c.in_ok-pair.pair one other c.in_ok-pair.ensures.added }
