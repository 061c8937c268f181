-- The grades of the small netlists, from runs that are written out.
use Rattle.std.proofs.Common.{◌≡◌, ℕ, Bool, true, false, List, [], ◌∷◌, length, refl}
use Rattle.tsc_cover.specs.Cover.{truth}
use Rattle.tsc_cover.specs.Gates.{and_cover, buf_cover, not_cover}
use Rattle.fault_secure.specs.Circuit.{Circuit, latch_net, node_net, nets, bit}
use Rattle.fault_secure.specs.StuckAt.{StuckAt, NoFault, Stem, Pin, on_stem, on_pin}
use Rattle.fault_secure.specs.Settle.{Settles, node_value}
use Rattle.fault_secure.specs.Run.{Runs}
use Rattle.fault_secure.specs.CodePlan.{CodePlan}
use Rattle.structure_laws.specs.SmallNetlist.{small_netlist, small_plan}
use Rattle.structure_laws.specs.Toggle.{toggle, toggle_plan}
use Rattle.structure_laws.proofs.Each.{Each, each}
use Rattle.mapping_laws.specs.Inverters.{merged}
use Rattle.point_laws.specs.SmallPoints.{merged_plan}
use Rattle.grading_laws.specs.Grades.{Grade, AlarmAt, SilentAt, Unseen, every_step, IsGrade, grade_of}
use Rattle.grading_laws.specs.SmallGrades.{small_inputs, still_inputs, SmallIsGraded, MergedIsGraded, ToggleIsGraded}
use Rattle.grading_laws.proofs.OneGrade.{grades_are_worked_out}

-- a valuation settles under a fault where each net's equation, written out, holds
settled : (N : Circuit) (f : StuckAt) (x s : ℕ → Bool) (v : List Bool) → length v ≡ nets N → Each N.inputs (λ i. bit v i ≡ on_stem f i (x i))
    → Each (length N.latches) (λ l. bit v (latch_net N l) ≡ on_stem f (latch_net N l) (s l))
    → Each (length N.nodes) (λ j. bit v (node_net N j) ≡ on_stem f (node_net N j) (node_value N f v j)) → Settles N f x s v
settled N f x s v sized inputs latches nodes = record {
  sized = sized;
  inputs = each N.inputs (λ i. bit v i ≡ on_stem f i (x i)) inputs;
  latches = each (length N.latches) (λ l. bit v (latch_net N l) ≡ on_stem f (latch_net N l) (s l)) latches;
  nodes = each (length N.nodes) (λ j. bit v (node_net N j) ≡ on_stem f (node_net N j) (node_value N f v j)) nodes;
}

-- the grade that is worked out from two runs is the fault's
grade_by_runs : (N : Circuit) (P : CodePlan) (f : StuckAt) (xs vs us : List (List Bool)) (grade : Grade) → Runs N NoFault (every_step xs) xs vs
    → Runs N f (every_step xs) xs us → length us ≡ length vs → grade_of N P vs us ≡ grade → IsGrade N P f xs grade
grade_by_runs N P f xs vs us grade right faulty long worked = record {
  right = vs;
  faulty = us;
  right_runs = right;
  faulty_runs = faulty;
  graded = (grades_are_worked_out N P vs us grade long).1 worked;
}

module _ (f : StuckAt) where
  -- ---- what a node gives a net under the fault

  abbrev and_at : ℕ → Bool → Bool → Bool
  and_at net a b = on_stem f net (truth and_cover (on_pin f net 0 a ∷ on_pin f net 1 b ∷ []))

  abbrev not_at : ℕ → Bool → Bool
  not_at net a = on_stem f net (truth not_cover (on_pin f net 0 a ∷ []))

  abbrev buf_at : ℕ → Bool → Bool
  buf_at net a = on_stem f net (truth buf_cover (on_pin f net 0 a ∷ []))

  -- ---- the small netlist

  abbrev small_step : Bool → Bool → List Bool
  small_step a b =
      let y = and_at 2 (on_stem f 0 a) (on_stem f 1 b) in
      let copy = and_at 3 (on_stem f 0 a) (on_stem f 1 b) in
      on_stem f 0 a ∷ on_stem f 1 b ∷ y ∷ copy ∷ not_at 4 copy ∷ buf_at 5 y ∷ buf_at 6 (not_at 4 copy) ∷ []

  small_settles : (a b : Bool) (s : ℕ → Bool) → Settles small_netlist f (bit (a ∷ b ∷ [])) s (small_step a b)
  small_settles a b s = settled small_netlist f _ s _ refl (refl, (refl, tt)) tt (refl, (refl, (refl, (refl, (refl, tt)))))

  abbrev small_run : List (List Bool)
  small_run = small_step true true ∷ small_step false true ∷ small_step false false ∷ []

  small_runs : Runs small_netlist f (every_step small_inputs) small_inputs small_run
  small_runs = (small_settles true true _, (small_settles false true _, (small_settles false false _, tt)))

  -- ---- with y and its copy merged

  abbrev merged_step : Bool → Bool → List Bool
  merged_step a b =
      let y = and_at 2 (on_stem f 0 a) (on_stem f 1 b) in
      on_stem f 0 a ∷ on_stem f 1 b ∷ y ∷ not_at 3 y ∷ buf_at 4 y ∷ buf_at 5 (not_at 3 y) ∷ []

  merged_settles : (a b : Bool) (s : ℕ → Bool) → Settles merged f (bit (a ∷ b ∷ [])) s (merged_step a b)
  merged_settles a b s = settled merged f _ s _ refl (refl, (refl, tt)) tt (refl, (refl, (refl, (refl, tt))))

  abbrev merged_run : List (List Bool)
  merged_run = merged_step true true ∷ merged_step false true ∷ merged_step false false ∷ []

  merged_runs : Runs merged f (every_step small_inputs) small_inputs merged_run
  merged_runs = (merged_settles true true _, (merged_settles false true _, (merged_settles false false _, tt)))

small_grade : (f : StuckAt) (grade : Grade) → grade_of small_netlist small_plan (small_run NoFault) (small_run f) ≡ grade → IsGrade small_netlist small_plan f small_inputs grade
small_grade f grade worked = grade_by_runs small_netlist small_plan f small_inputs (small_run NoFault) (small_run f) grade (small_runs NoFault) (small_runs f) refl worked

merged_grade : (f : StuckAt) (grade : Grade) → grade_of merged merged_plan (merged_run NoFault) (merged_run f) ≡ grade → IsGrade merged merged_plan f small_inputs grade
merged_grade f grade worked = grade_by_runs merged merged_plan f small_inputs (merged_run NoFault) (merged_run f) grade (merged_runs NoFault) (merged_runs f) refl worked

pub small_is_graded : SmallIsGraded
small_is_graded = record {
  stem = small_grade (Stem 2 false) (AlarmAt 0) refl;
  first_pin = small_grade (Pin 2 0 true) (AlarmAt 1) refl;
  second_pin = small_grade (Pin 2 1 true) Unseen refl;
  check = small_grade (Stem 4 true) (AlarmAt 0) refl;
}

pub merged_is_graded : MergedIsGraded
merged_is_graded = record {
  low = merged_grade (Stem 2 false) (SilentAt 0) refl;
  high = merged_grade (Stem 2 true) (SilentAt 1) refl;
  second_pin = merged_grade (Pin 2 1 true) Unseen refl;
  rail = merged_grade (Stem 5 false) (AlarmAt 1) refl;
}

-- ---- the small machine: its nets at the input 0, from what its latches give

abbrev still_step : Bool → Bool → List Bool
still_step first second = false ∷ first ∷ second ∷ false ∷ true ∷ first ∷ second ∷ second ∷ first ∷ []

abbrev still_run : Bool → Bool → List (List Bool)
still_run first second = still_step first true ∷ still_step second true ∷ []

right_runs : Runs toggle NoFault (every_step still_inputs) still_inputs (still_run false false)
right_runs = (
  settled toggle NoFault _ _ _ refl (refl, tt) (refl, (refl, tt)) (refl, (refl, (refl, (refl, (refl, (refl, tt)))))),
  (settled toggle NoFault _ _ _ refl (refl, tt) (refl, (refl, tt)) (refl, (refl, (refl, (refl, (refl, (refl, tt)))))), tt),
)

stem_runs : Runs toggle (Stem 1 true) (every_step still_inputs) still_inputs (still_run true true)
stem_runs = (
  settled toggle (Stem 1 true) _ _ _ refl (refl, tt) (refl, (refl, tt)) (refl, (refl, (refl, (refl, (refl, (refl, tt)))))),
  (settled toggle (Stem 1 true) _ _ _ refl (refl, tt) (refl, (refl, tt)) (refl, (refl, (refl, (refl, (refl, (refl, tt)))))), tt),
)

pin_runs : Runs toggle (Pin 1 0 true) (every_step still_inputs) still_inputs (still_run false true)
pin_runs = (
  settled toggle (Pin 1 0 true) _ _ _ refl (refl, tt) (refl, (refl, tt)) (refl, (refl, (refl, (refl, (refl, (refl, tt)))))),
  (settled toggle (Pin 1 0 true) _ _ _ refl (refl, tt) (refl, (refl, tt)) (refl, (refl, (refl, (refl, (refl, (refl, tt)))))), tt),
)

pub toggle_is_graded : ToggleIsGraded
toggle_is_graded = record {
  stem = grade_by_runs toggle toggle_plan (Stem 1 true) still_inputs (still_run false false) (still_run true true) (AlarmAt 0) right_runs stem_runs refl refl;
  pin = grade_by_runs toggle toggle_plan (Pin 1 0 true) still_inputs (still_run false false) (still_run false true) (AlarmAt 1) right_runs pin_runs refl refl;
}
