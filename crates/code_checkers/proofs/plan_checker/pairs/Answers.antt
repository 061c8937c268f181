use Rattle.std.proofs.Common.{◌∙◌, ◌++◌, ap, arith}
use Rattle.code_checkers.specs.Checker.{code_pairs_over, state_pairs}
use Rattle.code_checkers.proofs.SizedWords.{some_pairs}
use Rattle.code_checkers.proofs.Stretches.{pairs_joined, length-pairs_added}
use Rattle.code_checkers.proofs.plan_checker.pairs.Goals as goal

pub returns-clause-added : goal.returns-clause-added
returns-clause-added c =
    let S = c.args.sizes in
    pairs_joined c.args.draft.now c.code_pairs.new.draft c.state_pairs.new.draft (code_pairs_over S.code S _) (state_pairs _ S.latches S.weight) c.in_ok-pairs.pairs.items c.in_ok-more.more.items
    c.extend_from_slice.new.self.items c.in_ok-pairs.ensures.added c.in_ok-more.ensures.added (c.in_ok-extend_from_slice.ensures.items ∙ ap (λ more. c.in_ok-pairs.pairs.items ++ more) c.deref.ensures.value)

pub returns-clause-some : goal.returns-clause-some
returns-clause-some c = omega (arith, length-pairs_added _ _ _ c.extend_from_slice.new.self.items (returns-clause-added c), some_pairs c.args.sizes _ c.requires.plan)
