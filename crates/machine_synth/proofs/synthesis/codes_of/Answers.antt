use Rattle.std.proofs.Common.{subst}
use Rattle.state_code.specs.Words.{IsLeastWeight}
use Rattle.machine_synth.proofs.Plans.{most_bits}
use Rattle.machine_synth.proofs.synthesis.codes_of.Goals as goal

pub returns-in-Ok-clause-most : goal.returns-in-Ok-clause-most
returns-in-Ok-clause-most c =
    most_bits c.args.machine.now.table.states c.in-Ok.codes.n c.in-Ok.codes.m c.requires.few
    (subst (λ n. IsLeastWeight n c.in-Ok.codes.m) c.states.ensures.states c.in-Ok.ensures.least) c.in-Ok.ensures.half
