use Rattle.std.proofs.Common.{◌+◌, ◌-◌, suc, Bool, true, cond, ap, ◌∙◌}
use Rattle.std.specs.List.{sum_by}
use Rattle.std.proofs.lemmas.List.Sums.{sum_by_push}
use Rattle.diagrams.specs.declared.waiting.Waiting.{Waiting}
use Rattle.diagrams.specs.Waiting.{IsWaiting, wait_cost, cost}
use Rattle.diagrams.proofs.Waits.{high_less, halves_later, under_way}
use Rattle.diagrams.proofs.combining.go_high.Goals as goal

pub returns-clause-way : goal.returns-clause-way
returns-clause-way c = λ f g wait.
    let w : Waiting = record { first = c.args.waiting.first; second = c.args.waiting.second; level = c.args.waiting.level; has_low = true; low = c.args.low } in
    let low = rw c.requires.without at c.requires.low in
    let is : IsWaiting c.args.diagrams.now c.args.operation w = record {
      inside = c.requires.waits.inside;
      first = c.requires.waits.first;
      second = c.requires.waits.second;
      low = λ has. low;
    } in
    under_way c.args.diagrams.now c.args.operation c.args.stack.now.items _ f g w _ _ is wait c.in_ok-push.ensures.items c.step.ensures.step c.step-2.ensures.step c.step.ensures.inside c.step-2.ensures.inside

pub returns-clause-less : goal.returns-clause-less
returns-clause-less c =
    let w : Waiting = record { first = c.args.waiting.first; second = c.args.waiting.second; level = c.args.waiting.level; has_low = true; low = c.args.low } in
    let low = rw c.requires.without at c.requires.low in
    let is : IsWaiting c.args.diagrams.now c.args.operation w = record {
      inside = c.requires.waits.inside;
      first = c.requires.waits.first;
      second = c.requires.waits.second;
      low = λ has. low;
    } in
    let inputs = c.args.diagrams.now.inputs in
    let pushed = ap (sum_by (wait_cost inputs)) c.in_ok-push.ensures.items ∙ sum_by_push (wait_cost inputs) c.args.stack.now.items w in
    high_less _ _ inputs c.args.waiting.level _ (wait_cost inputs c.args.waiting) c.requires.waits.inside
    (halves_later c.args.diagrams.now c.args.operation w _ _ c.len-rows.ensures.diagram is c.step.ensures.step c.step-2.ensures.step)
    (ap (λ (t : Bool). cond t 1 (1 + cost (inputs - suc c.args.waiting.level))) c.requires.without) pushed
