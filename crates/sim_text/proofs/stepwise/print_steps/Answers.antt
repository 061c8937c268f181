use Rattle.std.proofs.Common.{◌+◌, ◌<◌, [], length, drop, sym, ap, ◌∙◌, arith}
use Rattle.std.proofs.lemmas.List.{drop_all}
use Rattle.buffered_sink.proofs.PrintLemmas.{exits}
use Rattle.sim_text.proofs.TakeLemmas.{next_left, takes_more, fails_more, takes_ends}
use Rattle.sim_text.proofs.stepwise.print_steps.Goals as goal

pub read-requires-clause-sized : goal.read-requires-clause-sized
read-requires-clause-sized g c =
    let inside : c.loop-step.step < length c.args.steps.now = omega (arith, c.loop-step-test.true, c.len-step-end.ensures.count) in
    c.loop-step.invariant.bits ∙ sym (c.requires.inputs c.loop-step.step [] inside)

pub returns-in_err-print_call : goal.returns-in_err-print_call
returns-in_err-print_call g c =
    let xs = c.args.steps.now in
    let step = c.loop-step.step in
    let inside : step < length xs = omega (arith, c.loop-step-test.true, c.len-step-end.ensures.count) in
    record {
      run = λ vs runs. exits _ c.from_residual.result c.from_residual.ensures.1
          (fails_more c.args.sim.now c.loop-step.sim c.loop-step.sim xs (drop step xs) (drop (step + 1) xs) c.read.new.bits _ _ _
          (next_left xs step c.read.new.bits inside c.read.ensures.bits) c.loop-step.invariant.took (c.in_err-print_call.ensures.line (drop (step + 1) xs)) vs runs);
    }

pub loop-step-preserved : goal.loop-step-preserved
loop-step-preserved g c =
    let xs = c.args.steps.now in
    let step = c.loop-step.step in
    let inside : step < length xs = omega (arith, c.loop-step-test.true, c.len-step-end.ensures.count) in
    let old = c.loop-step.invariant in
    let same = c.print_call.ensures.same in
    let read = c.read.ensures.bits in
    record {
      circuit = same.circuit ∙ old.circuit;
      plan = same.plan ∙ old.plan;
      number = c.print_call.ensures.step ∙ ap (λ n. n + 1) old.number;
      bits = ap length read ∙ c.requires.inputs step [] inside;
      word = c.print_call.ensures.word ∙ old.word;
      took = takes_more c.args.sim.now c.loop-step.sim c.print_call.new.sim xs (drop step xs) (drop (step + 1) xs) c.read.new.bits _ _ _
          (next_left xs step c.read.new.bits inside read) old.took (c.in_ok-print_call.ensures.line (drop (step + 1) xs));
    }

pub returns : goal.returns
returns g c =
    let xs = c.args.steps.now in
    record {
      run = takes_ends c.args.sim.now c.loop-step.sim xs (drop c.loop-step.step xs) _ _ (drop_all c.loop-step.step xs (omega (arith, c.len-step-end.ensures.count))) c.loop-step.invariant.took;
    }
