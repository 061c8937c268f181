use Rattle.std.proofs.Common.{◌≡◌, Some, nat_eq, arith}
use Rattle.std.specs.HashMap.{get}
use Rattle.std.proofs.lemmas.Grind.{common_steps}
use Rattle.diagrams.specs.DecisionRows.{word_of}
use Rattle.diagrams.proofs.Sound.{found_row}
use Rattle.diagrams.proofs.diagrams.Diagrams.find.Goals as goal

pub returns-clause-found : goal.returns-clause-found
returns-clause-found c =
    let decides = rw (← c.self.view_is) at c.requires.decides in
    let found : get nat_eq c.self.inside.index (word_of c.args.decision) ≡ Some c.in_ok-row.row.now = first_of (cc, grind (arith, common_steps)) in
    rw (← c.self.view_is) (found_row _ _ _ _ _ c.args.decision _ c.self.invariant decides found)
