-- The list of grades: one line per listed fault of a netlist, and how many of the faults have which grade.
use Rattle.std.specs.Prelude.{ℕ, List, [], ◌∷◌, ◌++◌, codes, count_by}
use Rattle.std.specs.Fmt.{decimal}
use Rattle.fault_secure.specs.Listed.{listed_faults}
use Rattle.fault_secure.specs.StuckAt.{StuckAt}
use Rattle.tsc_net.specs.NetlistOf.{NetlistOf}
use Rattle.grading_laws.specs.Grades.{Grade, AlarmAt, SilentAt, Unseen}
use Rattle.grading_laws.specs.Counts.{is_alarm, is_silent, is_unseen}
use Rattle.netlist_answers.specs.FaultList.{fault_words}

-- ` alarm STEP`, ` silent STEP` or ` unseen`; steps count from 0
abbrev pub grade_end : Grade → List ℕ
grade_end (AlarmAt step) = codes " alarm " ++ decimal step
grade_end (SilentAt step) = codes " silent " ++ decimal step
grade_end Unseen = codes " unseen"

-- the line of a fault with its grade
abbrev pub grade_line : NetlistOf → StuckAt → Grade → List ℕ
grade_line net fault grade = fault_words net.names fault ++ (grade_end grade ++ 10 ∷ [])

-- the lines of faults, each with its grade
abbrev pub grade_lines : NetlistOf → List StuckAt → List Grade → List ℕ
grade_lines net [] grades = []
grade_lines net (fault ∷ faults) [] = []
grade_lines net (fault ∷ faults) (grade ∷ grades) = grade_line net fault grade ++ grade_lines net faults grades

-- `alarm N silent M unseen K`
abbrev pub sums_line : ℕ → ℕ → ℕ → List ℕ
sums_line alarm silent unseen = codes "alarm " ++ (decimal alarm ++ (codes " silent " ++ (decimal silent ++ (codes " unseen " ++ (decimal unseen ++ 10 ∷ [])))))

-- the same of grades: how many are of which kind
abbrev pub grade_counts : List Grade → List ℕ
grade_counts grades = sums_line (count_by is_alarm grades) (count_by is_silent grades) (count_by is_unseen grades)

-- the line of each listed fault, in order, with its grade, and the line at the end
abbrev pub grade_list : NetlistOf → List Grade → List ℕ
grade_list net grades = grade_lines net (listed_faults net.circuit) grades ++ grade_counts grades
