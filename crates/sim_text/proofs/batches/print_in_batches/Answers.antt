use Rattle.std.proofs.Common.{◌+◌, length, drop, refl, sym, ap, ◌∙◌, arith}
use Rattle.std.proofs.lemmas.List.{drop_all}
use Rattle.buffered_sink.proofs.PrintLemmas.{exits}
use Rattle.sim_text.specs.Tables.{sim_at}
use Rattle.sim_text.proofs.TakeLemmas.{takes_start, takes_ends, batch_takes, batch_fails}
use Rattle.sim_text.proofs.TableLemmas.{no_state, still_on}
use Rattle.sim_text.proofs.batches.print_in_batches.Goals as goal

pub loop-first-init : goal.loop-first-init
loop-first-init g c =
    let sim = c.args.sim.now in
    record {
      still = record { same = record { circuit = refl; watched = refl; rows = refl; plan = refl; fault = refl; when = refl }; step = refl; state = refl; next = refl };
      within = omega arith;
      batch = c.requires.batch;
      some = c.requires.some;
      took = takes_start sim 0 c.args.steps.now _ c.requires.first
          (no_state (length sim.bench.circuit.latches) 0 sim.state (ap length (sym c.state-state.ensures.bits) ∙ c.state-state.ensures.sized) c.requires.latches);
    }

pub returns-in_err-print_batch : goal.returns-in_err-print_batch
returns-in_err-print_batch g c =
    let initial = c.args.sim.now in
    let sim = c.fill.new.sim in
    let xs = c.args.steps.now in
    let ys = c.fill.new.batch.inputs in
    let first = c.loop-first.first in
    let still = still_on initial c.loop-first.sim sim c.loop-first.invariant.still c.fill.ensures.still in
    record {
      run = λ vs runs. exits _ c.from_residual.result c.from_residual.ensures.1
          (batch_fails initial sim first 0 xs ys _ _ _ still c.fill.ensures.filled.are c.loop-first.invariant.took (c.in_err-print_batch.ensures.lines (drop (first + length ys) xs)) vs runs);
    }

pub loop-first-preserved : goal.loop-first-preserved
loop-first-preserved g c =
    let initial = c.args.sim.now in
    let sim = c.fill.new.sim in
    let xs = c.args.steps.now in
    let ys = c.fill.new.batch.inputs in
    let first = c.loop-first.first in
    let still = still_on initial c.loop-first.sim sim c.loop-first.invariant.still c.fill.ensures.still in
    record {
      still = still;
      within = omega (arith, c.fill.ensures.filled.within, c.len-first.ensures.count);
      batch = c.fill.ensures.batch;
      some = c.fill.ensures.some;
      took = batch_takes initial sim first c.len-first.result xs ys _ _ _ still c.fill.ensures.filled.are c.loop-first.invariant.took c.len-first.ensures.count
          (c.in_ok-print_batch.ensures.lines (drop (first + length ys) xs));
    }

pub returns : goal.returns
returns g c =
    let initial = c.args.sim.now in
    let xs = c.args.steps.now in
    record {
      run = takes_ends initial (sim_at initial c.loop-first.first 0) xs (drop c.loop-first.first xs) _ _ (drop_all c.loop-first.first xs (omega arith)) c.loop-first.invariant.took;
    }
