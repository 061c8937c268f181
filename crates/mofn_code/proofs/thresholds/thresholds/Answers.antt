use Rattle.std.specs.Prelude.{ℕ, ◌+◌, ◌*◌, ◌≤◌, not, Bool, List, length, take, get_or}
use Rattle.std.proofs.Common.{subst, ap, arith}
use Rattle.tsc_bits.specs.Counting.{zeros}
use Rattle.gate_net.specs.declared.line.Line.{Line}
use Rattle.gate_net.specs.Gates.{line_value, line_values}
use Rattle.gate_net.specs.Growth.{ComputesAll}
use Rattle.gate_net.proofs.Kept.{grows_twice}
use Rattle.tsc_bits.specs.Thermometer.{row_with}
use Rattle.mofn_code.proofs.Powers.{square-more, square_mono}
use Rattle.mofn_code.proofs.Rows.{thermo_more, row_length, thermo_done}
use Rattle.mofn_code.proofs.thresholds.thresholds.Goals as goal

pub returns-in_err-row-clause-grown : goal.returns-in_err-row-clause-grown
returns-in_err-row-clause-grown c = grows_twice c.args.gates.now c.loop-output.gates c.add_output.new.gates c.loop-output.invariant.grows c.in_err-row.ensures.grown

pub returns-in_err-row-clause-few : goal.returns-in_err-row-clause-few
returns-in_err-row-clause-few c =
    let i = c.loop-output.output-index in
    let room : (i + 1) * (i + 1) ≤ length c.args.outputs.now * length c.args.outputs.now = square_mono (i + 1) (length c.args.outputs.now) (omega arith) in
    omega (arith, square-more i, ap length c.deref.ensures.value, c.in_err-row.ensures.few, c.loop-output.invariant.few, c.loop-output.invariant.sized)

pub loop-output-preserved : goal.loop-output-preserved
loop-output-preserved c =
    let start = c.args.gates.now in
    let here = c.loop-output.gates in
    let new = c.add_output.new.gates in
    let outputs = c.args.outputs.now in
    let i = c.loop-output.output-index in
    let none : Line = record { number = 0 } in
    let before = c.loop-output.invariant in
    let added = subst (λ (row : List Line). ComputesAll here new (λ x s. row_with (not (line_value here x s (get_or outputs i none))) (not (line_value here x s (get_or outputs i none))) (line_values here x s row)) c.in_ok-row.row.items) c.deref.ensures.value c.in_ok-row.ensures.added in
    let made = thermo_more start here new outputs c.loop-output.row.items c.in_ok-row.row.items none i before.grows c.requires.outputs c.loop-output-test.true before.made added in
    record {
      made = made;
      sized = row_length new c.in_ok-row.row.items (i + 1) (λ (x s : ℕ → Bool). zeros (line_values start x s (take (i + 1) outputs))) made;
      past = omega arith;
      within = added.within;
      grows = grows_twice start here new before.grows added.grows;
      few = omega (arith, square-more i, ap length c.deref.ensures.value, c.in_ok-row.ensures.few, before.few, before.sized);
    }

pub returns-clause-added : goal.returns-clause-added
returns-clause-added c =
    let before = c.loop-output.invariant in
    thermo_done c.args.gates.now c.loop-output.gates c.args.outputs.now c.loop-output.row.items c.loop-output.output-index before.grows before.within
    (omega (arith, before.past, c.loop-output-test.false)) before.made

pub returns-clause-width : goal.returns-clause-width
returns-clause-width c = omega (arith, c.loop-output.invariant.sized, c.loop-output.invariant.past, c.loop-output-test.false)

pub add_output-requires-clause-room : goal.add_output-requires-clause-room
add_output-requires-clause-room c =
    let i = c.loop-output.output-index in
    let most : (i + 1) * (i + 1) ≤ length c.args.outputs.now * length c.args.outputs.now = square_mono (i + 1) (length c.args.outputs.now) (omega arith) in
    omega (arith, most, square-more i, ap length c.deref.ensures.value, c.loop-output.invariant.few, c.loop-output.invariant.sized, c.requires.room)
