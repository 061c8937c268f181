use Rattle.std.proofs.Common.{All, sym, subst}
use Rattle.diagrams.specs.Building.{DiagramState, IsRight}
use Rattle.diagrams.proofs.Sound.{replaced, all_right}
use Rattle.diagrams.proofs.diagrams.Diagrams.widen.Goals as goal

pub invariant_of-self : goal.invariant_of-self
invariant_of-self c =
    let state : DiagramState = record { inputs = c.self.inside.inputs; room = c.self.inside.rows.room; rows = c.self.inside.rows.rows } in
    let all = subst (All (IsRight state.inputs state.rows)) (sym c.as_slice.ensures.value) (all_right _ _ _ _ _ c.self.invariant) in
    replaced _ _ _ _ _ _ c.self.invariant c.in_ok-self-inside.ensures.some (c.in_ok-self-inside.ensures.right state c.self.invariant.diagram all)
