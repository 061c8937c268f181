use Rattle.std.specs.Prelude.{refl}
use Rattle.state_code.specs.Lines.{foreign_to_decode}
use Rattle.state_code.proofs.decoding.with_bit.Goals as goal

pub returns-in_err-line-clause-grown : goal.returns-in_err-line-clause-grown
returns-in_err-line-clause-grown c = c.both.ensures.grown foreign_to_decode (λ a b. refl)

pub returns-clause-grown : goal.returns-clause-grown
returns-clause-grown c = c.both.ensures.grown foreign_to_decode (λ a b. refl)
