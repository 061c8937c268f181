-- What a command prints, worked out before the first byte is written: its text, and how the command ends.
use Rattle.std.specs.Prelude.{◌≡◌, ℕ, ◌≤◌, Bool, true, false, List, length}
use Rattle.fault_secure.specs.Listed.{listed_faults}
use Rattle.commands.specs.declared.command.Command.{Command}
use Rattle.commands.specs.declared.command.Command.TheVariants.{Sim}
use Rattle.refusals.specs.declared.ending.Ending.{Ending}
use Rattle.refusals.specs.declared.ending.Ending.TheVariants.{Finished}
use Rattle.netlist_answers.specs.declared.printout.Printout.{Printout}
use Rattle.netlist_answers.specs.declared.printout.Printout.TheVariants.{Whole, FaultList, VectorList, GradeList, Joint}
use Rattle.netlist_answers.specs.declared.printout.TestedNetlist.{TestedNetlist}
use Rattle.netlist_answers.specs.declared.printout.GradedNetlist.{GradedNetlist}
use Rattle.joint_text.specs.JointText.{joint_bytes}
use Rattle.netlist_answers.specs.FaultList.{fault_list}
use Rattle.netlist_answers.specs.VectorList.{vector_list}
use Rattle.netlist_answers.specs.GradeText.{grade_list}

-- its text
abbrev pub printout_text : Printout → List ℕ
printout_text (Whole reply) = reply.bytes
printout_text (FaultList net) = fault_list net
printout_text (VectorList tested) = vector_list tested.net tested.tests
printout_text (GradeList graded) = grade_list graded.net graded.grades
printout_text (Joint parts) = joint_bytes parts

-- how the command ends
abbrev pub printout_ending : Printout → Ending
printout_ending (Whole reply) = reply.ending
printout_ending (FaultList net) = Finished
printout_ending (VectorList tested) = Finished
printout_ending (GradeList graded) = Finished
printout_ending (Joint parts) = Finished

-- the faults are the listed ones, each with its test, and there are few inputs
pub record IsTested (tested : TestedNetlist) : Type 0 where
  pub listed : tested.faults ≡ listed_faults tested.net.circuit
  pub sized : length tested.tests ≡ length tested.faults
  pub few : tested.net.circuit.inputs ≤ 64

-- the faults are the listed ones, each with its grade
pub record IsGraded (graded : GradedNetlist) : Type 0 where
  pub listed : graded.faults ≡ listed_faults graded.net.circuit
  pub sized : length graded.grades ≡ length graded.faults

-- what a printout needs to be printed
abbrev pub IsPrintable : Printout → Type 0
IsPrintable (VectorList tested) = IsTested tested
IsPrintable (GradeList graded) = IsGraded graded
IsPrintable _ = Unit {0}

-- the command is a simulation, whose lines are printed as it is run
abbrev pub is_sim : Command → Bool
is_sim (Sim fault) = true
is_sim _ = false
