-- What the first literals leave is gone on with.
use Rattle.std.proofs.Common.{◌≡◌, drop}
use Rattle.refutations.specs.declared.reduction.Reduction.TheVariants.{False}
use Rattle.refutations.specs.Steps.{reduced}
use Rattle.refutations.proofs.reduction.reduced.Given as goal

abbrev pub invariant-loop-literal : goal.invariant-loop-literal
invariant-loop-literal l = reduced l.known False l.literals ≡ reduced l.known l.found (drop l.literal-index l.literals)
