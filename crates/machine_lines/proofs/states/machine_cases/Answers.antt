use Rattle.std.proofs.Common.{ℕ, ◌+◌, ◌*◌, arith}
use Rattle.fault_secure.specs.Circuit.{bit}
use Rattle.gate_net.specs.declared.line.Line.{Line}
use Rattle.gate_net.specs.Gates.{line_values}
use Rattle.gate_net.proofs.Kept.{grows_twice}
use Rattle.tsc_bits.specs.Counting.{some_both}
use Rattle.machine_lines.specs.MachineLines.{answer_word, bits_of_states}
use Rattle.machine_lines.specs.Cases.{some_case}
use Rattle.machine_lines.proofs.AllStates.{rows_all, rows_more, state_step}
use Rattle.machine_lines.proofs.states.machine_cases.Goals as goal

abbrev no_line : Line
no_line = record { number = 0 }

pub add_state-requires-clause-room : goal.add_state-requires-clause-room
add_state-requires-clause-room c =
    let M = c.args.machine.now.table in
    let more = rows_more M c.loop-state.state (6 * M.inputs + 3) (omega (arith, c.loop-state-test.true, c.states-state-end.ensures.states)) in
    omega (arith, more.1, more.2, c.loop-state.invariant.few, c.requires.room, c.loop-state-test.true, c.states-state-end.ensures.states)

pub returns-in_err-add_state-clause-few : goal.returns-in_err-add_state-clause-few
returns-in_err-add_state-clause-few c =
    let M = c.args.machine.now.table in
    let more = rows_more M c.loop-state.state (6 * M.inputs + 3) (omega (arith, c.loop-state-test.true, c.states-state-end.ensures.states)) in
    omega (arith, more.1, more.2, c.loop-state.invariant.few, c.add_state.ensures.few, c.loop-state-test.true, c.states-state-end.ensures.states)

pub loop-state-preserved : goal.loop-state-preserved
loop-state-preserved c =
    let M = c.args.machine.now.table in
    let W = c.args.widths in
    let words = c.args.codes.now.words.words in
    let start = c.args.gates.now in
    let here = c.loop-state.gates in
    let new = c.add_state.new.gates in
    let i = c.loop-state.state in
    let before = c.loop-state.invariant in
    let adds = c.in_ok-add_state.ensures.adds in
    let more = rows_more M c.loop-state.state (6 * M.inputs + 3) (omega (arith, c.loop-state-test.true, c.states-state-end.ensures.states)) in
    record {
      value = λ x s place.
          state_step start here (bit x) s c.args.decoded.now i no_line (λ (q : ℕ). bit (answer_word c.args.code W.checks W.bits words M x q) place) M.states
          (some_case W here (bit x) s place c.loop-state.cases) (some_case W new (bit x) s place c.add_state.new.cases)
          (some_both (line_values start (bit x) s c.args.decoded.now) (bits_of_states c.args.code W.checks W.bits words M x place))
          before.grown c.requires.decoded (omega (arith, c.requires.sized, c.loop-state-test.true, c.states-state-end.ensures.states)) (omega (arith, c.loop-state-test.true, c.states-state-end.ensures.states))
          (adds.value x s place) (before.value x s place);
      within = adds.within;
      count = omega (arith, adds.count, before.count, more.0);
      ones = λ place lt. omega (arith, adds.ones place lt, before.ones place lt, more.0);
      grown = grows_twice start here new before.grown c.add_state.ensures.grown;
      signs = λ negates. c.add_state.ensures.signs (before.signs negates);
      few = omega (arith, more.1, before.few, c.add_state.ensures.few);
    }

pub returns-clause-count : goal.returns-clause-count
returns-clause-count c =
    omega (arith, c.loop-state.invariant.count, rows_all c.args.machine.now.table c.loop-state.state (omega (arith, c.loop-state-test.false, c.states-state-end.ensures.states)), c.loop-state-test.false, c.states-state-end.ensures.states)

pub returns-clause-ones : goal.returns-clause-ones
returns-clause-ones c =
    λ place lt. omega (arith, c.loop-state.invariant.ones place lt, rows_all c.args.machine.now.table c.loop-state.state (omega (arith, c.loop-state-test.false, c.states-state-end.ensures.states)))
