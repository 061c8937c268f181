-- Faults that are graded at once, and how far all are graded.
use Rattle.std.specs.Prelude.{◌≡◌, ℕ, ◌+◌, ◌<◌, ◌≤◌, ◌⊎◌, Bool, true, false, List, length, take, slice_index, slice_index_or, All}
use Rattle.fault_secure.specs.Circuit.{Circuit, nets}
use Rattle.fault_secure.specs.StuckAt.{StuckAt, NoFault}
use Rattle.fault_secure.specs.CodePlan.{CodePlan}
use Rattle.tsc_net.specs.Fault.{stuck_at}
use Rattle.tsc_net.specs.PlanView.{net_numbers}
use Rattle.tsc_net.specs.declared.fault.Fault.{Fault}
use Rattle.tsc_net.specs.declared.fault.Fault.TheVariants.{Stem as TheStem}
use Rattle.tsc_net.specs.declared.ids.NetId.{NetId}
use Rattle.grading_laws.specs.Grades.{IsGrade}
use Rattle.fault_grades.specs.Grade.{grade_at, is_left}
use Rattle.fault_grades.specs.declared.batch.Room.{Room}
use Rattle.fault_grades.specs.declared.grade.Grade.{Grade as Kept}
use Rattle.fault_grades.specs.declared.grade.Grade.TheVariants.{Unseen as Neither}

-- the nets that a step shows: the plan's outputs, and the rails
pub record HasNets (N : Circuit) (P : CodePlan) (outputs : List NetId) : Type 0 where
  pub numbers : net_numbers outputs ≡ take P.outputs N.outputs
  pub within : All (λ net. net.number < nets N) outputs
  pub rail1 : P.rail1 < nets N
  pub rail2 : P.rail2 < nets N

-- room for 1,023 faults, 1,024 lanes and the bits of so many inputs
pub record HasRoom (inputs : ℕ) (room : Room) : Type 0 where
  pub places : length room.places.items ≡ 1023
  pub faults : length room.faults.items ≡ 1023
  pub marks : length room.marks.items ≡ 1024
  pub input : length room.input ≡ inputs

-- the fault at a place of a list, whatever it is past the end
abbrev pub kept_fault : List Fault → ℕ → StuckAt
kept_fault faults place = stuck_at (slice_index_or faults place (TheStem (record { number = 0 }) false))

-- a place is listed among the first `count`
pub record IsAmong (places : List ℕ) (count place : ℕ) : Type 0 where
  pub at : ℕ
  pub below : at < count
  pub is : slice_index places at ≡ place

-- the first `count` places are those of faults before `next`, which are listed with them, and each undecided fault from `from` on and before
-- `next` is among them
pub record IsBatch (faults : List StuckAt) (grades : List Kept) (from count next : ℕ) (places : List ℕ) (listed : List Fault) : Type 0 where
  pub few : count ≤ 1023
  pub places_sized : length places ≡ 1023
  pub listed_sized : length listed ≡ 1023
  pub before : (at : ℕ) → at < count → slice_index places at < next
  pub same : (at : ℕ) → at < count → kept_fault listed at ≡ slice_index_or faults (slice_index places at) NoFault
  pub whole : (place : ℕ) → from ≤ place → place < next → is_left (slice_index_or grades place Neither) ≡ true → IsAmong places count place

-- a fault was added to those of a batch
pub record Adds (faults : List StuckAt) (place count count' : ℕ) (places : List ℕ) (listed : List Fault) (places' : List ℕ) (listed' : List Fault) : Type 0 where
  pub one : count' ≡ count + 1
  pub there : slice_index places' count ≡ place
  pub same : kept_fault listed' count ≡ slice_index_or faults place NoFault
  pub kept : (at : ℕ) → at < count → slice_index places' at ≡ slice_index places at
  pub kept_faults : (at : ℕ) → at < count → kept_fault listed' at ≡ kept_fault listed at

-- it is decided, and none was added
pub record Passes (grade : Kept) (count count' : ℕ) (places : List ℕ) (listed : List Fault) (places' : List ℕ) (listed' : List Fault) : Type 0 where
  pub decided : is_left grade ≡ false
  pub none : count' ≡ count
  pub same_places : places' ≡ places
  pub same_faults : listed' ≡ listed

abbrev pub TakesUp : List StuckAt → Kept → ℕ → ℕ → ℕ → List ℕ → List Fault → List ℕ → List Fault → Type 0
TakesUp faults grade place count count' places listed places' listed' =
    Adds faults place count count' places listed places' listed' ⊎ Passes grade count count' places listed places' listed'

-- a place that is listed has the grade of its lane, and any other has the grade that it had
pub record Takes (places : List ℕ) (marks : List Kept) (count : ℕ) (grades : List Kept) (place : ℕ) : Type 0 where
  pub at : ℕ
  pub below : at < count
  pub is : slice_index places at ≡ place
  pub marked : grade_at grades place ≡ grade_at marks (at + 1)

pub record Stays (places : List ℕ) (count : ℕ) (old new : List Kept) (place : ℕ) : Type 0 where
  pub apart : (at : ℕ) → at < count → slice_index places at ≡ place → ⊥
  pub same : grade_at new place ≡ grade_at old place

abbrev pub AreWritten : List ℕ → List Kept → ℕ → List Kept → List Kept → Type 0
AreWritten places marks count old new = (place : ℕ) → place < length old → Takes places marks count new place ⊎ Stays places count old new place

-- each fault has its grade over these inputs
abbrev pub AreGraded : Circuit → CodePlan → List StuckAt → List (List Bool) → List Kept → Type 0
AreGraded N P faults xs grades = (place : ℕ) → place < length faults → IsGrade N P (slice_index_or faults place NoFault) xs (grade_at grades place)

-- those before a place have it over more inputs than the others
pub record AreGradedTo (N : Circuit) (P : CodePlan) (faults : List StuckAt) (less more : List (List Bool)) (from : ℕ) (grades : List Kept) : Type 0 where
  pub done : (place : ℕ) → place < from → place < length faults → IsGrade N P (slice_index_or faults place NoFault) more (grade_at grades place)
  pub rest : (place : ℕ) → from ≤ place → place < length faults → IsGrade N P (slice_index_or faults place NoFault) less (grade_at grades place)
