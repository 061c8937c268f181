use Rattle.std.proofs.Common.{add-one, sym, subst, arith}
use Rattle.diagrams.specs.Building.{DiagramState, AreMade}
use Rattle.diagrams.proofs.Growing.{AreMade-refl}
use Rattle.diagrams.proofs.Sound.{row_stands}
use Rattle.diagrams.proofs.diagrams.Diagrams.node.Goals as goal

pub returns-in-Some-clause-stands : goal.returns-in-Some-clause-stands
returns-in-Some-clause-stands c =
    row_stands c.args.self.now (record { input = c.args.input; low = c.args.low; high = c.args.high }) _ c.len-rows.ensures.diagram
    (record { input = c.requires.input; low = rw add-one at c.requires.low; high = rw add-one at c.requires.high; differ = c.if-low-high.false }) c.in-Some.ensures.found

pub returns-in_err-map_err-clause-made : goal.returns-in_err-map_err-clause-made
returns-in_err-map_err-clause-made c = λ fs needed.
    subst (λ (s : DiagramState). AreMade c.args.self.now s fs) (sym c.widen.ensures.same)
    (AreMade-refl c.args.self.now fs c.len-rows.ensures.diagram (omega (arith, c.len-rows.ensures.len, c.len-rows.ensures.within)))
