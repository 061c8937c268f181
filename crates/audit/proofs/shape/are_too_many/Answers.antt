use Rattle.std.proofs.Common.{◌<◌, arith}
use Rattle.std.proofs.lemmas.Bool.{lt-ltb}
use Rattle.audit.proofs.Points.{many_inputs}
use Rattle.audit.proofs.shape.are_too_many.Goals as goal

pub returns-then-inputs-gt20-clause-many : goal.returns-then-inputs-gt20-clause-many
returns-then-inputs-gt20-clause-many c =
    let many : 20 < c.args.inputs = omega (arith, c.if-inputs-gt20.true) in
    (λ _. many_inputs c.args.states c.args.inputs (omega (arith, c.requires.some)) many, λ _. lt-ltb 20 c.args.inputs many)
