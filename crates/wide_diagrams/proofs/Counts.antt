-- Where all functions are built there are at most as many different cofactors as rows, and where rows are short there are more.
use Rattle.std.proofs.Common.{◌≡◌, ℕ, ◌<◌, ◌≤◌, Bool, Result, Ok, Err, OnOk, List, ◌∷◌, length, ap, ◌∙◌, arith}
use Rattle.fault_secure.specs.Circuit.{Circuit}
use Rattle.fault_secure.specs.CodePlan.{CodePlan}
use Rattle.diagrams.specs.Cofactors.{Function, cofactor_count}
use Rattle.diagrams.specs.Building.{DiagramState, constants, no_input, any_input}
use Rattle.diagrams.proofs.CountLemmas.{rows_counted, rows_short}
use Rattle.circuit_diagrams.specs.Steps.{AreBuilt, AreAdded, AreShortOf}
use Rattle.circuit_diagrams.specs.Stated.{AreValuations}
use Rattle.circuit_diagrams.proofs.Adding.{all_kept, have_rows}
use Rattle.wide_diagrams.specs.Wide.{stated_count, NeedAtMost}

module _ (old new : DiagramState) (fs : List Function) (n : ℕ) (begun : old.rows ≡ constants old.inputs) (inputs : old.inputs ≡ n) (added : AreAdded old new fs) where
  same_count : cofactor_count new.inputs (no_input ∷ any_input ∷ fs) ≡ cofactor_count n (no_input ∷ any_input ∷ fs)
  same_count = ap (λ (k : ℕ). cofactor_count k (no_input ∷ any_input ∷ fs)) (added.grown.inputs ∙ inputs)

  pub at_most : AreBuilt new fs → cofactor_count n (no_input ∷ any_input ∷ fs) ≤ old.room
  at_most built =
      let count = rows_counted old new fs begun (added.made fs (all_kept old.inputs fs)) (have_rows new fs built) in
      few (length new.rows) (cofactor_count n (no_input ∷ any_input ∷ fs)) new.room old.room (count ∙ same_count) added.grown.within added.grown.room
    where
      few : (rows count room had : ℕ) → rows ≡ count → rows ≤ room → room ≡ had → count ≤ had
      few rows count room had a b e = omega arith

  pub more_than : AreShortOf old new fs → old.room < cofactor_count n (no_input ∷ any_input ∷ fs)
  more_than short =
      let more = rows_short old new fs begun (added.made fs (all_kept old.inputs fs)) (short fs (all_kept old.inputs fs)) in
      many (cofactor_count new.inputs (no_input ∷ any_input ∷ fs)) (cofactor_count n (no_input ∷ any_input ∷ fs)) new.room old.room same_count more added.grown.room
    where
      many : (new_count count room had : ℕ) → new_count ≡ count → room < new_count → room ≡ had → had < count
      many new_count count room had e a b = omega arith

-- what an answer says for all valuations
pub few_where_ok : {T E : Type 0} (r : Result T E) (rows : ℕ) (S N : Circuit) (P : CodePlan) →
    ((vs v : List Bool → List Bool) → AreValuations S vs → AreValuations N v → OnOk r (stated_count S vs N v P ≤ rows)) → OnOk r (NeedAtMost rows S N P)
few_where_ok (Ok x) rows S N P each = λ vs v vals_source vals. each vs v vals_source vals
few_where_ok (Err e) rows S N P each = tt
