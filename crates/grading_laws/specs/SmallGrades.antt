-- Grades that are worked out: of two small netlists for y = a and b over the inputs 11, 01, 00, and of the small machine over 0, 0.
use Rattle.std.specs.Prelude.{Bool, true, false, List, [], ◌∷◌}
use Rattle.fault_secure.specs.StuckAt.{Stem, Pin}
use Rattle.structure_laws.specs.SmallNetlist.{small_netlist, small_plan}
use Rattle.structure_laws.specs.Toggle.{toggle, toggle_plan}
use Rattle.mapping_laws.specs.Inverters.{merged}
use Rattle.point_laws.specs.SmallPoints.{merged_plan}
use Rattle.grading_laws.specs.Grades.{AlarmAt, SilentAt, Unseen, IsGrade}

abbrev pub small_inputs : List (List Bool)
small_inputs = (true ∷ true ∷ []) ∷ (false ∷ true ∷ []) ∷ (false ∷ false ∷ []) ∷ []

-- in the small netlist: y held at 0 alarms at the first step, its pin at a held at 1 at the second, its pin at b never; the check, net 4, held
-- at 1 alarms at the first step though no output is wrong
pub record SmallIsGraded : Type 0 where
  pub stem : IsGrade small_netlist small_plan (Stem 2 false) small_inputs (AlarmAt 0)
  pub first_pin : IsGrade small_netlist small_plan (Pin 2 0 true) small_inputs (AlarmAt 1)
  pub second_pin : IsGrade small_netlist small_plan (Pin 2 1 true) small_inputs Unseen
  pub check : IsGrade small_netlist small_plan (Stem 4 true) small_inputs (AlarmAt 0)

-- with y and its copy merged into one gate: y held at 0 is silent at the first step, held at 1 at the second, and its pin at b is as above;
-- a rail held at 0 alarms at the second
pub record MergedIsGraded : Type 0 where
  pub low : IsGrade merged merged_plan (Stem 2 false) small_inputs (SilentAt 0)
  pub high : IsGrade merged merged_plan (Stem 2 true) small_inputs (SilentAt 1)
  pub second_pin : IsGrade merged merged_plan (Pin 2 1 true) small_inputs Unseen
  pub rail : IsGrade merged merged_plan (Stem 5 false) small_inputs (AlarmAt 1)

-- the inputs of two steps of the small machine, which stays in its state
abbrev pub still_inputs : List (List Bool)
still_inputs = (false ∷ []) ∷ (false ∷ []) ∷ []

-- with its first latch held at 1 the alarm comes at the first step, and with the pin of this latch held at 1 at the second
pub record ToggleIsGraded : Type 0 where
  pub stem : IsGrade toggle toggle_plan (Stem 1 true) still_inputs (AlarmAt 0)
  pub pin : IsGrade toggle toggle_plan (Pin 1 0 true) still_inputs (AlarmAt 1)
