use Rattle.std.proofs.Common.{◌≡◌, ap, ◌∙◌, subst, length, arith}
use Rattle.std.proofs.lemmas.List.{drop_all}
use Rattle.refutations.specs.declared.reduction.Reduction.{Reduction}
use Rattle.refutations.specs.declared.reduction.Reduction.TheVariants.{False}
use Rattle.refutations.specs.Steps.{reduced as reduced_from}
use Rattle.refutations.specs.Checking.{ForcesWithin}
use Rattle.refutations.proofs.Soundness.{forced_within}
use Rattle.refutations.proofs.reduction.reduced.Goals as goal

pub returns-clause-forced : goal.returns-clause-forced
returns-clause-forced c =
    let all : reduced_from c.args.known.now False c.args.literals.now ≡ c.loop-literal.found =
    c.loop-literal.invariant ∙ ap (reduced_from c.args.known.now c.loop-literal.found) (drop_all c.loop-literal.literal-index c.args.literals.now (omega (arith, c.loop-literal-test.false))) in
    subst (λ (r : Reduction). ForcesWithin (length c.args.known.now) r) all (forced_within (length c.args.known.now) c.args.known.now False c.args.literals.now tt c.requires.within)
