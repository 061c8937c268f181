-- What the search for a wrong point answers, over the rows of where the rails and the outputs differ.
use Rattle.std.proofs.Common.{◌≡◌, ℕ, ◌<◌, List, length, slice_index, Option, Some, None, subst}
use Rattle.fault_secure.specs.Circuit.{Circuit}
use Rattle.fault_secure.specs.Settle.{Acyclic}
use Rattle.fault_secure.specs.CodePlan.{CodePlan, IsWellMade, IsPlanOf}
use Rattle.diagrams.specs.Cofactors.{Function}
use Rattle.diagrams.specs.Building.{DiagramState, StandsFor}
use Rattle.wide_diagrams.specs.Wide.{rails_differ, output_differs, AreWideRows}
use Rattle.wide_audit.specs.declared.wrong.WrongPoint.{WrongPoint}
use Rattle.wide_audit.specs.FirstWrong.{IsFirstWrong}
use Rattle.wide_audit.specs.Points.{IsPointAnswer}
use Rattle.wide_audit.proofs.Valuations.{the_valuation, valuations}
use Rattle.wide_audit.proofs.WrongPoints.{point_answers, follows}

module _ (S N : Circuit) (P : CodePlan) (source : length S.latches ≡ 0) (latches : length N.latches ≡ 0) (inputs : S.inputs ≡ N.inputs) (outputs : P.outputs ≡ length S.outputs) (plan : IsPlanOf N P)
    (made : IsWellMade P) (acyclic_source : Acyclic S) (acyclic : Acyclic N) where
  answered : (found : Option WrongPoint) →
      IsFirstWrong N.inputs (rails_differ N (the_valuation N acyclic) P) (output_differs S (the_valuation S acyclic_source) N (the_valuation N acyclic) P) P.outputs found → IsPointAnswer S N P found
  answered None right = follows S (the_valuation S acyclic_source) N (the_valuation N acyclic) P source latches inputs outputs plan made acyclic_source acyclic (valuations S acyclic_source) (valuations N acyclic) right
  answered (Some point) wrong = (
    wrong.sized,
    point_answers S (the_valuation S acyclic_source) N (the_valuation N acyclic) P source latches inputs outputs plan made acyclic_source acyclic (valuations S acyclic_source) (valuations N acyclic)
        point.input.items point.output wrong,
  )

  pub searched : (state : DiagramState) (word : ℕ) (rows : List ℕ) (found : Option WrongPoint) → state.inputs ≡ N.inputs →
      AreWideRows state S (the_valuation S acyclic_source) N (the_valuation N acyclic) P word rows →
      ((rails : Function) (differs : ℕ → Function) → StandsFor state rails word → ((place : ℕ) → place < length rows → StandsFor state (differs place) (slice_index rows place)) → IsFirstWrong state.inputs rails differs (length rows) found) →
      IsPointAnswer S N P found
  searched state word rows found same are first =
      let v = the_valuation N acyclic in
      let differs = output_differs S (the_valuation S acyclic_source) N v P in
      answered found
      (subst (λ (n : ℕ). IsFirstWrong n (rails_differ N v P) differs P.outputs found) same
      (subst (λ (n : ℕ). IsFirstWrong state.inputs (rails_differ N v P) differs n found) are.sized
      (first (rails_differ N v P) differs are.rails (λ place below. are.differ place (subst (λ (n : ℕ). place < n) are.sized below)))))
