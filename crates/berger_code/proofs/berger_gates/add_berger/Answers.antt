use Rattle.std.specs.Prelude.{List, reverse}
use Rattle.std.proofs.Common.{subst, ap, ◌∙◌}
use Rattle.gate_net.specs.declared.line.Line.{Line}
use Rattle.berger_code.specs.Counter.{CountsZeros}
use Rattle.berger_code.proofs.Steps.{counts_are_check}
use Rattle.berger_code.proofs.berger_gates.add_berger.Goals as goal

pub returns-clause-checks : goal.returns-clause-checks
returns-clause-checks c =
    counts_are_check c.args.gates.now c.count_zeros.new.gates c.args.outputs.now c.in_ok-bits.bits.items c.in_ok-checks.checks
    (subst (λ (lines : List Line). CountsZeros c.args.gates.now c.count_zeros.new.gates lines c.in_ok-bits.bits.items) c.as_slice.ensures.whole c.in_ok-bits.ensures.counted)
    (c.in_ok-checks.ensures.turned ∙ ap reverse c.deref.ensures.value)
