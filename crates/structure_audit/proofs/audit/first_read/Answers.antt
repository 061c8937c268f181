use Rattle.std.proofs.Common.{◌≡◌, List, Bool, Option, Some, None, subst, sym}
use Rattle.fault_secure.specs.Circuit.{Circuit, nets}
use Rattle.fault_secure.specs.Closed.{IsClosed}
use Rattle.fault_secure.specs.CodePlan.{CodePlan, monitored}
use Rattle.monitored_nets.specs.Marks.{MarksPlaces}
use Rattle.monitored_nets.proofs.WordWithin.{word_within}
use Rattle.structure_audit.specs.Marks.{MarksChecker, ReadsUnmarked, IsPinSearch}
use Rattle.structure_audit.specs.Answers.{IsReadAnswer}
use Rattle.structure_audit.specs.declared.pins.PinAt.{PinAt}
use Rattle.structure_audit.proofs.PinLemmas.{same_reads, reads_only}
use Rattle.structure_audit.proofs.audit.first_read.Goals as goal

read_answer : (N : Circuit) (P : CodePlan) (checker word seen seen' : List Bool) → checker ≡ seen → word ≡ seen' → MarksChecker N P seen → MarksPlaces (nets N) (monitored N P) seen' → IsClosed N
    → (found : Option PinAt) → IsPinSearch N (ReadsUnmarked N checker word) found → IsReadAnswer N P found
read_answer N P checker word seen seen' is is' marks places closed None none =
    reads_only N P checker word (subst (MarksChecker N P) (sym is) marks) (subst (MarksPlaces (nets N) (monitored N P)) (sym is') places) closed none
read_answer N P checker word seen seen' is is' marks places closed (Some at) first =
    same_reads N P checker word (subst (MarksChecker N P) (sym is) marks) (subst (MarksPlaces (nets N) (monitored N P)) (sym is') places) closed (Some at) first

pub word_marks-requires : goal.word_marks-requires
word_marks-requires c = record { within = word_within c.args.net.now.circuit c.args.plan.now c.args.word.now c.requires.plan c.nets-nets.ensures.checked.closed c.requires.word }

pub returns : goal.returns
returns c = record {
  answer = read_answer c.args.net.now.circuit c.args.plan.now c.deref.result.now c.deref-2.result.now c.in_ok-checker.checker.items c.in_ok-monitored.monitored.items c.deref.ensures.value c.deref-2.ensures.value
      c.in_ok-checker.ensures.checker
      (subst (λ list. MarksPlaces (nets c.args.net.now.circuit) list c.in_ok-monitored.monitored.items) c.requires.word c.in_ok-monitored.ensures.word)
      c.nets-nets.ensures.checked.closed c.first_foreign_pin-found.result c.first_foreign_pin-found.ensures.first;
}
