use Rattle.std.proofs.Common.{◌∙◌, ℕ, List, sym, subst, arith}
use Rattle.code_checkers.specs.Signal.{words_from}
use Rattle.code_checkers.specs.Draft.{AreAdded}
use Rattle.code_checkers.proofs.Stretches.{length-words_added, berger_added}
use Rattle.code_checkers.proofs.pairs.berger_pairs.Goals as goal

pub count_zeros-requires-clause-small : goal.count_zeros-requires-clause-small
count_zeros-requires-clause-small c =
    omega (arith, length-words_added c.args.draft.now c.words.new.draft 0 c.args.outputs c.in_ok-items.items.items c.in_ok-items.ensures.added)

pub returns : goal.returns
returns c =
    let a = c.args.draft.now in
    let b = c.words.new.draft in
    let d = c.count_zeros.new.draft in
    let one = subst (λ (places : List ℕ). AreAdded a b (words_from 0 c.args.outputs) places) (sym c.deref.ensures.value) c.in_ok-items.ensures.added in
    record {
      added = berger_added a b d c.count_pairs.new.draft c.args.outputs c.deref.result.now c.in_ok-bits.bits.items c.deref-2.result.now c.in_ok-pairs.pairs.items one c.in_ok-bits.ensures.added
          (c.deref-2.ensures.value ∙ c.reverse.ensures.items) c.in_ok-pairs.ensures.added;
    }
