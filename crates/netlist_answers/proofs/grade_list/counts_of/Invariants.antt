-- The grades before this one were counted.
use Rattle.std.proofs.Common.{◌≡◌, count_by, take}
use Rattle.grading_laws.specs.Counts.{is_alarm, is_silent, is_unseen}
use Rattle.netlist_answers.proofs.grade_list.counts_of.Given as goal

abbrev pub invariant-loop-place : goal.invariant-loop-place
invariant-loop-place l = record {
  alarm : l.counts.alarm ≡ count_by is_alarm (take l.place l.grades);
  silent : l.counts.silent ≡ count_by is_silent (take l.place l.grades);
  unseen : l.counts.unseen ≡ count_by is_unseen (take l.place l.grades);
}
