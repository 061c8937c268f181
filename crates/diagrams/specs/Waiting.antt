-- Operations that wait for their halves: a stack in place of a recursion.
use Rattle.std.specs.Prelude.{◌≡◌, ℕ, zero, suc, ◌+◌, ◌-◌, ◌<◌, min, true, false, if◌then◌else◌, List, [], ◌∷◌, length, sum_by}
use Rattle.diagrams.specs.declared.decision.Decision.{Decision}
use Rattle.diagrams.specs.declared.memo.Operation.{Operation}
use Rattle.diagrams.specs.declared.waiting.Waiting.{Waiting}
use Rattle.diagrams.specs.declared.waiting.Task.{Task}
use Rattle.diagrams.specs.declared.waiting.Task.TheVariants.{Build, Built}
use Rattle.diagrams.specs.declared.waiting.Next.{Next}
use Rattle.diagrams.specs.declared.waiting.Next.TheVariants.{Go, Done}
use Rattle.diagrams.specs.Decisions.{row, step, IsAt}
use Rattle.diagrams.specs.Building.{DiagramState, combined_rows, StandsFor}

-- the first or the second row of a wait, with its input fixed as in the half that it waits for
abbrev pub first_half : List Decision → Waiting → ℕ
first_half rows w = step rows w.level w.first w.has_low

abbrev pub second_half : List Decision → Waiting → ℕ
second_half rows w = step rows w.level w.second w.has_low

-- two rows wait for what the operation makes of their halves at an input that both decide at the earliest: for the low half, or, where that is there, for the high one
pub record IsWaiting (state : DiagramState) (operation : Operation) (w : Waiting) : Type 0 where
  pub inside : w.level < state.inputs
  pub first : IsAt state.rows w.level w.first
  pub second : IsAt state.rows w.level w.second
  pub low : w.has_low ≡ true → StandsFor state (combined_rows operation state.rows (step state.rows w.level w.first false) (step state.rows w.level w.second false)) w.low

-- the rows f and g wait at the bottom of the stack, each next wait for the half of the one below it, and the last for the rows a and b
abbrev pub Wait : DiagramState → Operation → List Waiting → ℕ → ℕ → ℕ → ℕ → Type 0
Wait state operation [] f g a b = (f ≡ a) × (g ≡ b)
Wait state operation (w ∷ ws) f g a b =
    (f ≡ w.first) × (g ≡ w.second) × IsWaiting state operation w × Wait state operation ws (first_half state.rows w) (second_half state.rows w) a b

-- two rows are there to be combined, or the row of what they make is
abbrev pub IsFor : DiagramState → Operation → ℕ → ℕ → Task → Type 0
IsFor state operation a b (Build first second) = (a ≡ first) × (b ≡ second) × (a < length state.rows) × (b < length state.rows)
IsFor state operation a b (Built r) = StandsFor state (combined_rows operation state.rows a b) r

-- the task is what the stack waits for
pub record IsUnderWay (state : DiagramState) (operation : Operation) (f g : ℕ) (waits : List Waiting) (task : Task) : Type 0 where
  pub a : ℕ
  pub b : ℕ
  pub wait : Wait state operation waits f g a b
  pub for : IsFor state operation a b task

-- the next task is what the stack waits for; or the row is that of what the rows f and g make
abbrev pub IsNext : DiagramState → Operation → ℕ → ℕ → List Waiting → Next → Type 0
IsNext state operation f g waits (Go task) = IsUnderWay state operation f g waits task
IsNext state operation f g waits (Done r) = StandsFor state (combined_rows operation state.rows f g) r

-- how many steps are enough for rows that decide the last so many inputs
unfoldable pub cost : ℕ → ℕ
cost zero = 2
cost (suc n) = 2 + (cost n + cost n)

abbrev pub wait_cost : ℕ → Waiting → ℕ
wait_cost inputs w = if w.has_low then 1 else 1 + cost (inputs - suc w.level)

abbrev pub task_cost : DiagramState → Task → ℕ
task_cost state (Build first second) = cost (state.inputs - min (row state.rows first).input (row state.rows second).input)
task_cost state (Built r) = 1

-- how many steps are enough for a task and what waits for it
abbrev pub work : DiagramState → List Waiting → Task → ℕ
work state waits task = sum_by (wait_cost state.inputs) waits + task_cost state task

abbrev pub work_left : DiagramState → List Waiting → Next → ℕ
work_left state waits (Go task) = work state waits task
work_left state waits (Done r) = 0
