use Rattle.std.proofs.Common.{◌≡◌, ◌<◌, [], length, take, refl, sym, ap, ◌∙◌, arith}
use Rattle.std.proofs.lemmas.List.{length-take-le}
use Rattle.fault_lanes.specs.Bench.{fault_of, state_of}
use Rattle.fault_grades.specs.Grade.{grade_as, grade_at, is_left}
use Rattle.fault_grades.proofs.StandLemmas.{stands_first, stands_last, stands_decided}
use Rattle.fault_grades.proofs.StepLemmas.{lane_steps, same_batch}
use Rattle.fault_grades.proofs.stepping.run_batch.Goals as goal

pub read-requires-clause-sized : goal.read-requires-clause-sized
read-requires-clause-sized c =
    let inside : c.loop-step.step < length c.args.steps.now = omega arith in
    c.loop-step.invariant.input ∙ c.requires.input ∙ sym (c.requires.steps c.loop-step.step [] inside)

pub loop-step-init : goal.loop-step-init
loop-step-init c =
    let bench = c.args.bench.now in
    record {
      same = same_batch bench;
      input = refl;
      sized = c.requires.sized;
      left = λ lane some low. c.first_lanes-undecided.ensures.lanes lane some low ∙ sym (ap is_left (c.requires.unseen lane));
      stands = λ lane some low.
          stands_first bench.circuit c.args.plan.now (fault_of bench lane) (take c.args.limit c.args.steps.now) (state_of bench 0) (state_of bench lane) (grade_at c.args.marks.now lane)
          (c.requires.first 0 (omega arith)) (c.requires.first lane (omega arith)) (ap grade_as (c.requires.unseen lane));
    }

pub loop-step-preserved : goal.loop-step-preserved
loop-step-preserved c =
    let steps = c.args.steps.now in
    let step = c.loop-step.step in
    let inside : step < length steps = omega arith in
    let sized : length (take c.args.limit steps) ≡ c.args.limit = length-take-le c.args.limit steps c.requires.limit in
    let old = c.loop-step.invariant in
    let taken = c.grade_step-undecided.ensures in
    record {
      same = record { circuit = taken.step.same.circuit ∙ old.same.circuit; faults = taken.step.same.faults ∙ old.same.faults };
      input = ap length c.read.ensures.bits ∙ c.requires.steps step [] inside ∙ sym c.requires.input;
      sized = taken.sized;
      left = λ lane some low. taken.undecided lane (omega arith) (old.left lane some low);
      stands = λ lane some low.
          lane_steps c.args.bench.now c.loop-step.bench c.grade_step-undecided.new.bench c.args.plan.now steps c.args.limit step lane c.read.new.bits (grade_at c.loop-step.marks lane) (grade_at c.grade_step-undecided.new.marks lane)
          c.requires.right old.same taken.step taken.acyclic (omega arith) c.loop-step-test.true c.requires.limit sized c.read.ensures.bits
          (taken.grades lane (omega arith) (old.left lane some low)) (old.stands lane some low);
    }

pub returns-then-is_nowhere : goal.returns-then-is_nowhere
returns-then-is_nowhere c =
    let bench = c.args.bench.now in
    record {
      grades = λ lane some low.
          stands_decided bench.circuit c.args.plan.now (fault_of bench lane) (take c.args.limit c.args.steps.now) c.loop-step.step (state_of c.loop-step.bench 0) (state_of c.loop-step.bench lane) (grade_at c.loop-step.marks lane)
          (sym (c.loop-step.invariant.left lane some low) ∙ c.is_nowhere.ensures.none c.if-is_nowhere.true lane (omega arith)) (c.loop-step.invariant.stands lane some low);
      circuit = c.loop-step.invariant.same.circuit;
      input = c.loop-step.invariant.input;
    }

pub returns : goal.returns
returns c =
    let bench = c.args.bench.now in
    let sized : length (take c.args.limit c.args.steps.now) ≡ c.args.limit = length-take-le c.args.limit c.args.steps.now c.requires.limit in
    record {
      grades = λ lane some low.
          stands_last bench.circuit c.args.plan.now (fault_of bench lane) (take c.args.limit c.args.steps.now) c.loop-step.step (state_of c.loop-step.bench 0) (state_of c.loop-step.bench lane) (grade_at c.loop-step.marks lane)
          (omega arith) (c.loop-step.invariant.stands lane some low);
      circuit = c.loop-step.invariant.same.circuit;
      input = c.loop-step.invariant.input;
    }
