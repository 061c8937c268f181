use Rattle.std.proofs.Common.{refl, arith}
use Rattle.vectors.proofs.PlaceLemmas.{many_inputs}
use Rattle.vectors.proofs.counting.count_of.Goals as goal

pub returns-then-inputs-gt16-clause-none : goal.returns-then-inputs-gt16-clause-none
returns-then-inputs-gt16-clause-none c = (λ _. many_inputs c.args.states c.args.inputs (omega (arith, c.requires.some)) (omega (arith, c.if-inputs-gt16.true)), λ _. refl)
