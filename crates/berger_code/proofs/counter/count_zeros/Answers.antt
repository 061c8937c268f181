use Rattle.std.specs.Prelude.{◌≡◌, ℕ, ◌+◌, ◌^◌, ◌≤◌, ◌==◌, not, Bool, List, length, get_or}
use Rattle.std.proofs.Common.{subst, ap, arith}
use Rattle.gate_net.specs.declared.line.Line.{Line}
use Rattle.gate_net.specs.Gates.{line_value, line_values}
use Rattle.gate_net.specs.Growth.{ComputesAll}
use Rattle.gate_net.proofs.Kept.{grows_twice}
use Rattle.tsc_bits.specs.Counting.{add_carry}
use Rattle.berger_code.proofs.Counting.{few_bits, width_between}
use Rattle.tsc_bits.proofs.Counting.{room_more}
use Rattle.berger_code.proofs.Steps.{counts_more, length_more}
use Rattle.berger_code.proofs.counter.count_zeros.Goals as goal

pub count_one-requires-clause-small : goal.count_one-requires-clause-small
count_one-requires-clause-small c =
    let few : length c.loop-output.bits.items ≤ 6 = few_bits (length c.loop-output.bits.items) c.loop-output.number c.loop-output.invariant.tight (omega arith) in
    omega (arith, ap length c.deref.ensures.value)

pub returns-in_err-bits-clause-grown : goal.returns-in_err-bits-clause-grown
returns-in_err-bits-clause-grown c = grows_twice c.args.gates.now c.loop-output.gates c.count_one.new.gates c.loop-output.invariant.grows c.in_err-bits.ensures.grown

pub returns-in_err-bits-clause-few : goal.returns-in_err-bits-clause-few
returns-in_err-bits-clause-few c =
    let few : length c.loop-output.bits.items ≤ 6 = few_bits (length c.loop-output.bits.items) c.loop-output.number c.loop-output.invariant.tight (omega arith) in
    omega (arith, ap length c.deref.ensures.value, c.in_err-bits.ensures.few, c.loop-output.invariant.few)

pub loop-output-preserved : goal.loop-output-preserved
loop-output-preserved c =
    let start = c.args.gates.now in
    let here = c.loop-output.gates in
    let new = c.count_one.new.gates in
    let outputs = c.args.outputs.now in
    let bits = c.loop-output.bits.items in
    let i = c.loop-output.output-index in
    let number = c.loop-output.number in
    let none : Line = record { number = 0 } in
    let before = c.loop-output.invariant in
    let added = subst (λ (row : List Line). ComputesAll here new (λ x s. add_carry (number == 2 ^ length row) (not (line_value here x s (get_or outputs i none))) (line_values here x s row)) c.in_ok-bits.bits.items) c.deref.ensures.value c.in_ok-bits.ensures.added in
    let few : length bits ≤ 6 = few_bits (length bits) number before.tight (omega arith) in
    let sized = room_more number (length bits) (length c.in_ok-bits.bits.items) before.room before.tight
    (length_more here new bits c.in_ok-bits.bits.items (number == 2 ^ length bits) (λ (x s : ℕ → Bool). not (line_value here x s (get_or outputs i none))) added) in
    record {
      counts = counts_more start here new outputs bits c.in_ok-bits.bits.items none number i before.grows c.requires.outputs c.loop-output-test.true before.number before.room before.counts added;
      within = added.within;
      grows = grows_twice start here new before.grows added.grows;
      number = omega (arith, before.number);
      past = omega arith;
      room = sized.0;
      tight = sized.1;
      few = omega (arith, ap length c.deref.ensures.value, c.in_ok-bits.ensures.few, before.few);
    }

pub returns-clause-width : goal.returns-clause-width
returns-clause-width c =
    let before = c.loop-output.invariant in
    let last : c.loop-output.number ≡ length c.args.outputs.now + 1 = omega (arith, before.number, before.past, c.loop-output-test.false) in
    width_between (length c.args.outputs.now) (length c.loop-output.bits.items) (omega (arith, before.room)) (omega (arith, before.tight))

pub count_one-requires-clause-room : goal.count_one-requires-clause-room
count_one-requires-clause-room c =
    let few : length c.loop-output.bits.items ≤ 6 = few_bits (length c.loop-output.bits.items) c.loop-output.number c.loop-output.invariant.tight (omega arith) in
    omega (arith, few, ap length c.deref.ensures.value, c.loop-output.invariant.few, c.requires.room, c.loop-output-test.true)
