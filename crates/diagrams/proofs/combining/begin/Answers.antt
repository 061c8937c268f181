use Rattle.std.proofs.Common.{false, ap, ◌∙◌}
use Rattle.std.specs.List.{sum_by}
use Rattle.std.proofs.lemmas.Bool.{false≢true}
use Rattle.std.proofs.lemmas.List.Sums.{sum_by_push}
use Rattle.diagrams.specs.declared.waiting.Waiting.{Waiting}
use Rattle.diagrams.specs.Waiting.{IsWaiting, wait_cost}
use Rattle.diagrams.proofs.Shortcuts.{shortcut_stands}
use Rattle.diagrams.proofs.Waits.{built_less, low_less, halves_later, under_way}
use Rattle.diagrams.proofs.combining.begin.Goals as goal

pub returns-in-Some-clause-way : goal.returns-in-Some-clause-way
returns-in-Some-clause-way c = λ f g wait. record {
  a = c.args.first;
  b = c.args.second;
  wait = wait;
  for = shortcut_stands c.args.diagrams.now c.args.operation c.args.first c.args.second _ c.len-rows.ensures.diagram c.requires.first c.requires.second c.in-Some.ensures.is;
}

pub returns-in-Some-clause-less : goal.returns-in-Some-clause-less
returns-in-Some-clause-less c = built_less _ _

pub returns-in-Some-recall-clause-less : goal.returns-in-Some-recall-clause-less
returns-in-Some-recall-clause-less c = built_less _ _

pub returns-clause-way : goal.returns-clause-way
returns-clause-way c = λ f g wait.
    let w : Waiting = record { first = c.args.first; second = c.args.second; level = c.level-level.result; has_low = false; low = 0 } in
    let is : IsWaiting c.args.diagrams.now c.args.operation w = record {
      inside = c.level-level.ensures.decides c.in_default.ensures.decides;
      first = c.level-level.ensures.first;
      second = c.level-level.ensures.second;
      low = λ has. absurd (false≢true has);
    } in
    under_way c.args.diagrams.now c.args.operation c.args.stack.now.items _ f g w _ _ is wait c.in_ok-push.ensures.items c.step.ensures.step c.step-2.ensures.step c.step.ensures.inside c.step-2.ensures.inside

pub returns-clause-less : goal.returns-clause-less
returns-clause-less c =
    let w : Waiting = record { first = c.args.first; second = c.args.second; level = c.level-level.result; has_low = false; low = 0 } in
    let inside = c.level-level.ensures.decides c.in_default.ensures.decides in
    let is : IsWaiting c.args.diagrams.now c.args.operation w = record {
      inside = inside;
      first = c.level-level.ensures.first;
      second = c.level-level.ensures.second;
      low = λ has. absurd (false≢true has);
    } in
    let pushed = ap (sum_by (wait_cost c.args.diagrams.now.inputs)) c.in_ok-push.ensures.items ∙ sum_by_push (wait_cost c.args.diagrams.now.inputs) c.args.stack.now.items w in
    low_less _ _ c.args.diagrams.now.inputs c.level-level.result _ _ inside
    (halves_later c.args.diagrams.now c.args.operation w _ _ c.len-rows.ensures.diagram is c.step.ensures.step c.step-2.ensures.step) c.level-level.ensures.least pushed
