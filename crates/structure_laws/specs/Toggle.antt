-- A small machine, as a guard that the definitions can be met. It has two states, of which each 1 at the input leads to the other,
-- an output that repeats the input, and the 1-out-of-2 code over the output and its check, and over the state.
use Rattle.std.specs.Prelude.{ℕ, Bool, true, false, List, [], ◌∷◌, Some}
use Rattle.tsc_cover.specs.Cover.{Literal, Free, Wants, CoverTable}
use Rattle.fault_secure.specs.declared.code.Code.TheVariants.{MOutOfN}
use Rattle.fault_secure.specs.Circuit.{Circuit}
use Rattle.fault_secure.specs.CodePlan.{CodePlan}
use Rattle.fault_secure.specs.Logic.{Logic, States, Transition}
use Rattle.fault_secure.specs.FaultSecure.{IsFaultSecure}
use Rattle.fault_secure.specs.CellSecure.{IsCellSecure}
use Rattle.structure_laws.specs.FailingCell.{FailsBeyondStuckAt}

-- a row of the state table (the row for 1 stands before that for 0): in this state, at this input, to this state, with this output
abbrev pub turn : ℕ → Bool → ℕ → Transition
turn from i next = record { input = Wants i ∷ []; from = Some from; next = next; named = true; outputs = i ∷ []; care = true ∷ [] }

abbrev pub toggle_source : Logic
toggle_source = States (record {
  inputs = 1;
  outputs = 1;
  states = 2;
  reset = 0;
  rows = turn 0 true 1 ∷ turn 0 false 0 ∷ turn 1 true 0 ∷ turn 1 false 1 ∷ [];
})

abbrev pub on_set : ℕ → List (List Literal) → CoverTable
on_set width rows = record { width = width; on = true; rows = rows }

abbrev pub repeats : CoverTable
repeats = on_set 1 ((Wants true ∷ []) ∷ [])

abbrev pub negates : CoverTable
negates = on_set 1 ((Wants false ∷ []) ∷ [])

-- the first where the input is 0, else the second
abbrev pub keeps : CoverTable
keeps = on_set 3 ((Wants true ∷ Free ∷ Wants false ∷ []) ∷ (Free ∷ Wants true ∷ Wants true ∷ []) ∷ [])

-- the second where the input is 0, else the first
abbrev pub turns : CoverTable
turns = on_set 3 ((Free ∷ Wants true ∷ Wants false ∷ []) ∷ (Wants true ∷ Free ∷ Wants true ∷ []) ∷ [])

-- the rails of two pairs: of the first's bits with the second's, in order and crosswise
abbrev pub straight : CoverTable
straight = on_set 4 ((Wants true ∷ Free ∷ Wants true ∷ Free ∷ []) ∷ (Free ∷ Wants true ∷ Free ∷ Wants true ∷ []) ∷ [])

abbrev pub crossed : CoverTable
crossed = on_set 4 ((Wants true ∷ Free ∷ Free ∷ Wants true ∷ []) ∷ (Free ∷ Wants true ∷ Wants true ∷ Free ∷ []) ∷ [])

-- nets: 0 the input, 1 and 2 the latch outputs, 3 the output, 4 its check, 5 and 6 the nets at the latch inputs, 7 and 8 the rails
abbrev pub toggle : Circuit
toggle = record {
  inputs = 1;
  latches = record { reads = 5; init = false } ∷ record { reads = 6; init = true } ∷ [];
  nodes = record { reads = 0 ∷ []; cover = repeats }
      ∷ record { reads = 0 ∷ []; cover = negates }
      ∷ record { reads = 1 ∷ 2 ∷ 0 ∷ []; cover = keeps }
      ∷ record { reads = 1 ∷ 2 ∷ 0 ∷ []; cover = turns }
      ∷ record { reads = 3 ∷ 4 ∷ 5 ∷ 6 ∷ []; cover = straight }
      ∷ record { reads = 3 ∷ 4 ∷ 5 ∷ 6 ∷ []; cover = crossed }
      ∷ [];
  outputs = 3 ∷ 7 ∷ 8 ∷ [];
}

abbrev pub toggle_plan : CodePlan
toggle_plan = record {
  version = 1;
  code = MOutOfN;
  outputs = 1;
  checks = 4 ∷ [];
  groups = [];
  latches = 2;
  weight = 1;
  states = (false ∷ true ∷ []) ∷ (true ∷ false ∷ []) ∷ [];
  rail1 = 7;
  rail2 = 8;
}

-- it is secure against any one failing cell
abbrev pub ToggleIsCellSecure : Type 0
ToggleIsCellSecure = IsCellSecure toggle_source toggle toggle_plan

-- it is fault-secure
abbrev pub ToggleIsFaultSecure : Type 0
ToggleIsFaultSecure = IsFaultSecure toggle_source toggle toggle_plan

-- the inputs 0 and then 1
abbrev pub both_inputs : List (List Bool)
both_inputs = (false ∷ []) ∷ (true ∷ []) ∷ []

-- the output's cell gives the wrong bit at both: first 1, then 0
abbrev pub output_fails : List (List Bool)
output_fails = (false ∷ false ∷ true ∷ true ∷ true ∷ false ∷ true ∷ true ∷ true ∷ [])
    ∷ (true ∷ false ∷ true ∷ false ∷ false ∷ true ∷ false ∷ false ∷ false ∷ []) ∷ []

-- no stuck-at fault does that: a failing cell does more
abbrev pub FailingCellDoesMore : Type 0
FailingCellDoesMore = FailsBeyondStuckAt toggle both_inputs output_fails
