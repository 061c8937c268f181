use Rattle.std.proofs.Common.{ℕ, Bool, sym, ◌∙◌}
use Rattle.tsc_cover.specs.Row.{literals_of}
use Rattle.fault_secure.specs.Logic.{starts_at}
use Rattle.state_code.specs.Lines.{passes}
use Rattle.state_code.proofs.Matched.{row_added}
use Rattle.state_code.proofs.matching.add_row.Goals as goal

pub returns-clause-lines : goal.returns-clause-lines
returns-clause-lines c =
    row_added c.args.gates.now c.row_line.new.gates c.args.lines.now c.push.new.self c.in_ok-line.line (starts_at c.args.row.now.from c.args.state) (λ (x : ℕ → Bool). passes 0 (literals_of c.args.inputs c.args.row.now.input) x)
    c.requires.lines c.in_ok-line.ensures.computes c.in_ok-push.ensures.ok (sym c.starts_at.ensures.starts ∙ c.if-not-starts_at.false)
