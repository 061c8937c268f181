-- Batches of steps.
use Rattle.std.proofs.Common.{◌≡◌, ℕ, ◌+◌, ◌<◌, Bool, List, [], ◌++◌, length, drop, take, get_or, All, sym, ap, ◌∙◌}
use Rattle.std.proofs.lemmas.List.{drop-drop, take-append-drop}
use Rattle.std.proofs.lemmas.List.Elements.{All-get_or}
use Rattle.sim_text.specs.Batches.{FitsEach}

-- ---- the inputs of a batch

-- a list that stands in a batch, and the step that is read into it
pub fits_step : (lists xs : List (List Bool)) (place step : ℕ) (d : List Bool) → All (FitsEach xs) lists → place < length lists → step < length xs
    → length (get_or lists place d) ≡ length (get_or xs step [])
fits_step lists xs place step d fits inside below = All-get_or (FitsEach xs) lists place d inside fits step below

-- a step fits where another list did
pub fits_on : (lists xs : List (List Bool)) (place step : ℕ) → All (FitsEach xs) lists → place < length lists → step < length xs → FitsEach xs (get_or xs step [])
fits_on lists xs place step fits inside below k within =
    sym (fits_step lists xs place step [] fits inside below) ∙ fits_step lists xs place k [] fits inside within

-- steps from a place on, and those after them
pub steps_apart : (xs ys : List (List Bool)) (first : ℕ) → ys ≡ take (length ys) (drop first xs) → drop first xs ≡ ys ++ drop (first + length ys) xs
steps_apart xs ys first are =
    sym (take-append-drop (length ys) (drop first xs))
    ∙ (ap (λ (front : List (List Bool)). front ++ drop (length ys) (drop first xs)) (sym are)
    ∙ ap (λ (rest : List (List Bool)). ys ++ rest) (drop-drop (length ys) first xs))
