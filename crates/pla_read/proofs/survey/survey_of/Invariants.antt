-- What is seen of the lines before, within its limits; and the first fault is that of the lines from here on.
use Rattle.std.proofs.Common.{◌≡◌, take, drop}
use Rattle.table_lines.specs.FirstFault.{first_fault_behind}
use Rattle.pla_read.specs.Faults.{fault_behind, first_fault}
use Rattle.pla_read.specs.Survey.{survey_of, IsWithin}
use Rattle.pla_read.proofs.survey.survey_of.Given as goal

abbrev pub invariant-loop-place : goal.invariant-loop-place
invariant-loop-place l = record {
  survey : l.survey ≡ survey_of (take l.place l.section);
  limits : IsWithin l.survey;
  fault : first_fault l.section ≡ first_fault_behind fault_behind (take l.place l.section) (drop l.place l.section);
}
