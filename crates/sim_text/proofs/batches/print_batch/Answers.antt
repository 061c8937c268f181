use Rattle.std.proofs.Common.{◌≡◌, ◌+◌, ◌<◌, Bool, List, [], ◌++◌, length, drop, get_or, refl, ap, arith}
use Rattle.fault_sim.specs.Outcomes.{outcome_answer}
use Rattle.sim_text.specs.Tables.{sim_at}
use Rattle.sim_text.proofs.TakeLemmas.{step_takes, step_fails, printed_width, cut_width, next_left, takes_none_at, takes_more, fails_more, exits_steps, takes_whole}
use Rattle.sim_text.proofs.TableLemmas.{entry_inside, batch_call}
use Rattle.sim_text.proofs.batches.print_batch.Goals as goal

pub entry-outcome-requires : goal.entry-outcome-requires
entry-outcome-requires g c =
    let place = c.loop-place.place in
    let inside : place < length c.args.batch.now.inputs = omega (arith, c.loop-place-test.true, c.len-place-end.ensures.count) in
    record {
      place = entry_inside c.args.sim.now 1 c.args.batch.now.inputs c.args.batch.now.tables c.requires.tables _ 0 place place (omega arith) inside (omega arith);
    }

pub loop-place-init : goal.loop-place-init
loop-place-init g c = λ rest. takes_none_at c.args.sim.now c.args.first (c.args.batch.now.inputs ++ rest) _

pub returns-in_err-print_outcome : goal.returns-in_err-print_outcome
returns-in_err-print_outcome g c =
    let sim = c.args.sim.now in
    let first = c.args.first in
    let ys = c.args.batch.now.inputs in
    let place = c.loop-place.place in
    let inside : place < length ys = omega (arith, c.loop-place-test.true, c.len-place-end.ensures.count) in
    let x : List Bool = get_or ys place [] in
    let outcome = c.entry-outcome.result in
    let call = batch_call sim ys c.args.batch.now.tables first place (first + place) outcome c.requires.tables c.requires.latches inside refl c.entry-outcome.ensures.entry in
    record {
      lines = λ rest.
          let are = ap (λ (list : List (List Bool)). list ++ rest) (next_left ys place x inside refl) in
          exits_steps _ c.from_residual.result (sim_at sim first 0) (sim_at sim (first + length ys) 0) (ys ++ rest) rest _ _ c.from_residual.ensures.1
          (fails_more (sim_at sim first 0) (sim_at sim (first + place) 0) (sim_at sim (first + (place + 1)) 0) (ys ++ rest) (drop place ys ++ rest) (drop (place + 1) ys ++ rest) x _ _ _
          are (c.loop-place.invariant rest)
          (step_fails c.args.widths (sim_at sim (first + place) 0) (sim_at sim (first + (place + 1)) 0) x (drop (place + 1) ys ++ rest) (outcome_answer (length sim.bench.circuit.latches) outcome) _ _ c.requires.widths call
          (cut_width sim.bench.circuit sim.plan c.args.widths c.requires.widths outcome (first + place) _ _ c.in_err-print_outcome.ensures.printed)));
    }

pub loop-place-preserved : goal.loop-place-preserved
loop-place-preserved g c = λ rest.
    let sim = c.args.sim.now in
    let first = c.args.first in
    let ys = c.args.batch.now.inputs in
    let place = c.loop-place.place in
    let inside : place < length ys = omega (arith, c.loop-place-test.true, c.len-place-end.ensures.count) in
    let x : List Bool = get_or ys place [] in
    let outcome = c.entry-outcome.result in
    let call = batch_call sim ys c.args.batch.now.tables first place (first + place) outcome c.requires.tables c.requires.latches inside refl c.entry-outcome.ensures.entry in
    let are = ap (λ (list : List (List Bool)). list ++ rest) (next_left ys place x inside refl) in
    takes_more (sim_at sim first 0) (sim_at sim (first + place) 0) (sim_at sim (first + (place + 1)) 0) (ys ++ rest) (drop place ys ++ rest) (drop (place + 1) ys ++ rest) x _ _ _
    are (c.loop-place.invariant rest)
    (step_takes c.args.widths (sim_at sim (first + place) 0) (sim_at sim (first + (place + 1)) 0) x (drop (place + 1) ys ++ rest) (outcome_answer (length sim.bench.circuit.latches) outcome) _ _ c.requires.widths call
    (printed_width sim.bench.circuit sim.plan c.args.widths c.requires.widths outcome (first + place) _ _ c.in_ok-print_outcome.ensures.printed))

pub returns : goal.returns
returns g c =
    let sim = c.args.sim.now in
    let ys = c.args.batch.now.inputs in
    let place = c.loop-place.place in
    let all : place ≡ length ys = omega (arith, c.len-place-end.ensures.count) in
    record {
      lines = λ rest. takes_whole (sim_at sim c.args.first 0) sim c.args.first place ys rest _ _ all (c.loop-place.invariant rest);
    }
