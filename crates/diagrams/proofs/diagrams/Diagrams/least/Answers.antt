use Rattle.std.proofs.Common.{ℕ, ◌∙◌, sym, ap}
use Rattle.diagrams.specs.Least.{least_from}
use Rattle.diagrams.proofs.LeastLemmas.{least_of_row, dead_has_none}
use Rattle.diagrams.proofs.diagrams.Diagrams.least.Goals as goal

pub returns-then-row-end-clause-none : goal.returns-then-row-end-clause-none
returns-then-row-end-clause-none c = λ x sized.
    dead_has_none c.args.self.now.inputs c.args.self.now.rows c.len-rows.ensures.diagram c.args.wanted c.args.row x (c.if-row-end.true ∙ c.dead_row-end.ensures.dead) sized

pub returns-in-Ok-clause-least : goal.returns-in-Ok-clause-least
returns-in-Ok-clause-least c =
    least_of_row c.args.self.now.inputs c.args.self.now.rows c.len-rows.ensures.diagram c.args.wanted c.args.row _ c.requires.row (λ e. c.if-row-end.false (e ∙ sym c.dead_row-end.ensures.dead))
    (c.in-Ok.ensures.path ∙ ap (λ (end : ℕ). least_from c.args.self.now.rows end c.args.self.now.inputs 0 c.args.row) c.dead_row-end.ensures.dead)
