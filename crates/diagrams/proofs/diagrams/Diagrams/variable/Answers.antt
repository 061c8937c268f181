use Rattle.std.proofs.Common.{arith}
use Rattle.diagrams.proofs.CofactorLemmas.{of_one-same}
use Rattle.diagrams.proofs.Shortcuts.{constant_is_at, choice-constants}
use Rattle.diagrams.proofs.Waits.{made_alone, stands_same}
use Rattle.diagrams.proofs.diagrams.Diagrams.variable.Goals as goal

pub node-requires-clause-low : goal.node-requires-clause-low
node-requires-clause-low c = constant_is_at c.args.self.now.inputs c.args.self.now.rows _ 0 c.len-rows.ensures.diagram (omega arith) (omega (arith, c.requires.input))

pub node-requires-clause-high : goal.node-requires-clause-high
node-requires-clause-high c = constant_is_at c.args.self.now.inputs c.args.self.now.rows _ 1 c.len-rows.ensures.diagram (omega arith) (omega (arith, c.requires.input))

pub returns-in-Ok-clause-made : goal.returns-in-Ok-clause-made
returns-in-Ok-clause-made c = λ fs needed.
    c.in-Ok.ensures.made fs (of_one-same _ fs _ _ needed (choice-constants c.args.self.now.inputs c.args.self.now.rows c.args.input c.len-rows.ensures.diagram))

pub returns-in-Err-clause-made : goal.returns-in-Err-clause-made
returns-in-Err-clause-made c = λ fs needed.
    c.in-Err.ensures.made fs (of_one-same _ fs _ _ needed (choice-constants c.args.self.now.inputs c.args.self.now.rows c.args.input c.len-rows.ensures.diagram))

pub returns-in-Err-clause-short : goal.returns-in-Err-clause-short
returns-in-Err-clause-short c = λ spent fs needed.
    c.in-Err.ensures.short spent fs (of_one-same _ fs _ _ needed (choice-constants c.args.self.now.inputs c.args.self.now.rows c.args.input c.len-rows.ensures.diagram))

pub returns-in-Ok-clause-stands : goal.returns-in-Ok-clause-stands
returns-in-Ok-clause-stands c =
    let made = made_alone c.args.self.now c.node.new.self _ c.in-Ok.ensures.made in
    stands_same c.node.new.self _ _ c.args.self.now.inputs _ made.inputs (choice-constants c.args.self.now.inputs c.args.self.now.rows c.args.input c.len-rows.ensures.diagram) c.in-Ok.ensures.stands
