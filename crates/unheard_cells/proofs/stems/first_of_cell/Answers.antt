use Rattle.std.proofs.Common.{arith}
use Rattle.unheard_cells.proofs.LaneLemmas.{none_unheard}
use Rattle.unheard_cells.proofs.stems.first_of_cell.Goals as goal

pub returns-then-span-clause-first : goal.returns-then-span-clause-first
returns-then-span-clause-first c = λ held p below there.
    none_unheard c.args.net.now.circuit c.args.plan.now c.args.trial.now.points c.order-order.ensures.acyclic p (omega (arith, below, c.requires.many)) c.args.cell.number held
    c.span_of-span.result c.requires.cell c.span_of-span.ensures.span (omega arith) there
