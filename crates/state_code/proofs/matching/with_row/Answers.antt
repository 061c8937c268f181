use Rattle.std.proofs.Common.{ℕ, Bool, sym, ◌∙◌}
use Rattle.tsc_cover.specs.Row.{literals_of}
use Rattle.fault_secure.specs.Logic.{starts_at}
use Rattle.state_code.specs.Lines.{passes}
use Rattle.state_code.proofs.OverInputs.{over_twice}
use Rattle.state_code.proofs.Matched.{failed_made}
use Rattle.state_code.proofs.matching.with_row.Goals as goal

pub returns-in_err-line-clause-grown : goal.returns-in_err-line-clause-grown
returns-in_err-line-clause-grown c = over_twice c.args.gates.now c.failing_line.new.gates c.both.new.gates c.in_ok-missed.ensures.grown c.both.ensures.over_inputs

pub returns-clause-computes : goal.returns-clause-computes
returns-clause-computes c =
    failed_made c.args.gates.now c.failing_line.new.gates c.both.new.gates c.args.made c.in_ok-missed.missed c.in_ok-line.line (starts_at c.args.row.now.from c.args.state) (λ (x : ℕ → Bool). passes 0 (literals_of c.args.inputs c.args.row.now.input) x)
    c.requires.made c.in_ok-missed.ensures.computes c.in_ok-line.ensures.computes (sym c.starts_at.ensures.starts ∙ c.if-not-starts_at.false)

pub returns-clause-grown : goal.returns-clause-grown
returns-clause-grown c = over_twice c.args.gates.now c.failing_line.new.gates c.both.new.gates c.in_ok-missed.ensures.grown c.both.ensures.over_inputs
