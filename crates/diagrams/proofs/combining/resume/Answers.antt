use Rattle.diagrams.proofs.Waits.{Wait-kept, combined_stands, made_alone, finish_less}
use Rattle.diagrams.proofs.combining.resume.Goals as goal

pub returns-in-Ok-clause-way : goal.returns-in-Ok-clause-way
returns-in-Ok-clause-way c = λ f g wait.
    let made = made_alone c.args.diagrams.now c.finish.new.diagrams _ c.in-Ok.ensures.made in
    record {
      a = c.args.waiting.first;
      b = c.args.waiting.second;
      wait = Wait-kept c.args.diagrams.now c.finish.new.diagrams c.args.operation c.args.stack.now.items f g _ _ c.len-rows.ensures.diagram made.extends made.inputs wait;
      for = combined_stands c.args.diagrams.now c.finish.new.diagrams c.args.operation _ _ _ c.len-rows.ensures.diagram made.extends made.inputs
          c.requires.waits.first.node c.requires.waits.second.node c.in-Ok.ensures.stands;
    }

pub returns-in-Ok-clause-less : goal.returns-in-Ok-clause-less
returns-in-Ok-clause-less c =
    let made = made_alone c.args.diagrams.now c.finish.new.diagrams _ c.in-Ok.ensures.made in
    finish_less c.args.diagrams.now.inputs c.finish.new.diagrams.inputs c.args.stack.now.items c.args.waiting made.inputs c.if-waiting.true
