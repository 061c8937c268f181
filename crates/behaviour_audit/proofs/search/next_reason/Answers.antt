use Rattle.std.proofs.Common.{refl}
use Rattle.tsc_net.specs.SourceView.{logic_of}
use Rattle.behaviour_audit.proofs.StepLemmas.{next_holds, next_fails}
use Rattle.behaviour_audit.proofs.search.next_reason.Goals as goal

pub returns-then-arrives : goal.returns-then-arrives
returns-then-arrives c = record {
  answer = next_holds (logic_of c.args.audited.now.source.now) c.args.audited.now.net.now.circuit c.args.audited.now.plan.now c.args.point c.args.word.now c.requires.fit c.requires.word c.next_part.result.now
      c.next_part.ensures.part (c.arrives.ensures.arrives.0 c.if-arrives.true);
}

pub returns-else-arrives : goal.returns-else-arrives
returns-else-arrives c = record {
  answer = (
    refl,
    refl,
    next_fails (logic_of c.args.audited.now.source.now) c.args.audited.now.net.now.circuit c.args.audited.now.plan.now c.args.point c.args.word.now c.requires.fit c.requires.word c.next_part.result.now
        c.next_part.ensures.part (λ arrives. let bad = c.arrives.ensures.arrives.1 arrives in let no_ = c.if-arrives.false in cc),
  );
}
