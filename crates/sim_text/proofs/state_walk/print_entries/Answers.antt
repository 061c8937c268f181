use Rattle.std.proofs.Common.{◌≡◌, ◌+◌, ◌*◌, ◌^◌, ◌<◌, Bool, List, [], length, drop, sym, ap, ◌∙◌, arith}
use Rattle.std.proofs.lemmas.List.{drop_all}
use Rattle.tsc_bits.specs.Bits.{binary}
use Rattle.fault_sim.specs.Outcomes.{outcome_answer}
use Rattle.fault_sim.proofs.ShownLemmas.{state_of_number, state_fits}
use Rattle.buffered_sink.proofs.PrintLemmas.{exits}
use Rattle.sim_text.specs.Tables.{sim_at}
use Rattle.sim_text.proofs.TakeLemmas.{step_takes, step_fails, printed_width, cut_width, next_left, takes_start, takes_more, fails_more, takes_ends}
use Rattle.sim_text.proofs.TableLemmas.{whole_inside, whole_is, outcome_is_call}
use Rattle.sim_text.proofs.state_walk.print_entries.Goals as goal

pub read-requires-clause-sized : goal.read-requires-clause-sized
read-requires-clause-sized g c =
    let inside : c.loop-step.step < length c.args.steps.now = omega (arith, c.loop-step-test.true, c.len-step-end.ensures.count) in
    c.loop-step.invariant.bits ∙ sym (c.requires.inputs c.loop-step.step [] inside)

pub entry-outcome-requires : goal.entry-outcome-requires
entry-outcome-requires g c =
    let sim = c.args.sim.now in
    let x = c.read.new.bits in
    let inside : c.loop-step.step < length c.args.steps.now = omega (arith, c.loop-step-test.true, c.len-step-end.ensures.count) in
    let sized : length x ≡ sim.bench.circuit.inputs = ap length c.read.ensures.bits ∙ c.requires.inputs c.loop-step.step [] inside in
    let at : c.place_of-place.result ≡ c.loop-step.state * 2 ^ length x + binary x
    = c.place_of-place.ensures.place ∙ ap (λ (y : List Bool). c.loop-step.state * 2 ^ length y + binary y) c.as_slice.ensures.whole in
    record {
      place = whole_inside sim c.args.tables.now c.requires.tables x sized c.loop-step.step c.loop-step.state c.place_of-place.result c.loop-step.invariant.fits at;
    }

pub returns-in_err-print_outcome : goal.returns-in_err-print_outcome
returns-in_err-print_outcome g c =
    let sim = c.args.sim.now in
    let xs = c.args.steps.now in
    let step = c.loop-step.step in
    let state = c.loop-step.state in
    let inside : step < length xs = omega (arith, c.loop-step-test.true, c.len-step-end.ensures.count) in
    let x = c.read.new.bits in
    let outcome = c.entry-outcome.result in
    let sized : length x ≡ sim.bench.circuit.inputs = ap length c.read.ensures.bits ∙ c.requires.inputs step [] inside in
    let at : c.place_of-place.result ≡ state * 2 ^ length x + binary x
    = c.place_of-place.ensures.place ∙ ap (λ (y : List Bool). state * 2 ^ length y + binary y) c.as_slice.ensures.whole in
    let is = whole_is sim c.args.tables.now c.requires.tables x sized step state c.place_of-place.result c.loop-step.invariant.fits at outcome c.entry-outcome.ensures.entry in
    record {
      run = λ vs runs. exits _ c.from_residual.result c.from_residual.ensures.1
          (fails_more sim (sim_at sim step state) (sim_at sim (step + 1) outcome.state) xs (drop step xs) (drop (step + 1) xs) x _ _ _
          (next_left xs step x inside c.read.ensures.bits) c.loop-step.invariant.took
          (step_fails c.args.widths (sim_at sim step state) (sim_at sim (step + 1) outcome.state) x (drop (step + 1) xs) (outcome_answer (length sim.bench.circuit.latches) outcome) _ _ c.requires.widths
          (outcome_is_call sim step state x outcome is)
          (cut_width sim.bench.circuit sim.plan c.args.widths c.requires.widths outcome step _ _ c.in_err-print_outcome.ensures.printed)) vs runs);
    }

pub loop-step-preserved : goal.loop-step-preserved
loop-step-preserved g c =
    let sim = c.args.sim.now in
    let xs = c.args.steps.now in
    let step = c.loop-step.step in
    let state = c.loop-step.state in
    let inside : step < length xs = omega (arith, c.loop-step-test.true, c.len-step-end.ensures.count) in
    let x = c.read.new.bits in
    let outcome = c.entry-outcome.result in
    let sized : length x ≡ sim.bench.circuit.inputs = ap length c.read.ensures.bits ∙ c.requires.inputs step [] inside in
    let at : c.place_of-place.result ≡ state * 2 ^ length x + binary x
    = c.place_of-place.ensures.place ∙ ap (λ (y : List Bool). state * 2 ^ length y + binary y) c.as_slice.ensures.whole in
    let is = whole_is sim c.args.tables.now c.requires.tables x sized step state c.place_of-place.result c.loop-step.invariant.fits at outcome c.entry-outcome.ensures.entry in
    record {
      fits = is.fits;
      bits = sized;
      took = takes_more sim (sim_at sim step state) (sim_at sim (step + 1) outcome.state) xs (drop step xs) (drop (step + 1) xs) x _ _ _
          (next_left xs step x inside c.read.ensures.bits) c.loop-step.invariant.took
          (step_takes c.args.widths (sim_at sim step state) (sim_at sim (step + 1) outcome.state) x (drop (step + 1) xs) (outcome_answer (length sim.bench.circuit.latches) outcome) _ _ c.requires.widths
          (outcome_is_call sim step state x outcome is)
          (printed_width sim.bench.circuit sim.plan c.args.widths c.requires.widths outcome step _ _ c.in_ok-print_outcome.ensures.printed));
    }

pub returns : goal.returns
returns g c =
    let sim = c.args.sim.now in
    let xs = c.args.steps.now in
    record {
      run = takes_ends sim (sim_at sim c.loop-step.step c.loop-step.state) xs (drop c.loop-step.step xs) _ _ (drop_all c.loop-step.step xs (omega (arith, c.len-step-end.ensures.count)))
          c.loop-step.invariant.took;
    }

pub loop-step-init : goal.loop-step-init
loop-step-init g c =
    let N = c.args.sim.now.bench.circuit in
    record {
      fits = state_fits N c.state.result.now c.number_of-state.result c.number_of-state.ensures.number c.state.ensures.sized;
      bits = c.requires.bits;
      took = takes_start c.args.sim.now c.number_of-state.result c.args.steps.now _ c.requires.first
          (state_of_number N c.state.result.now c.number_of-state.result c.number_of-state.ensures.number c.state.ensures.sized ∙ c.state.ensures.bits);
    }
