use Rattle.std.proofs.Common.{◌+◌, ◌*◌, ◌&&◌, Bool, true, false, not, get_or, ap, sym, ◌∙◌, refl, arith}
use Rattle.tsc_cover.specs.Row.{literals_of}
use Rattle.tsc_net.specs.MachineView.{no_row}
use Rattle.fault_secure.specs.Logic.{starts_at}
use Rattle.gate_net.specs.Signal.Signal.{One}
use Rattle.gate_net.proofs.Joined.{some_computes, none_computes}
use Rattle.state_code.specs.Lines.{passes}
use Rattle.state_code.proofs.OverInputs.{over_twice}
use Rattle.state_code.proofs.Matched.{rows_few, none_more, others_done}
use Rattle.state_code.proofs.matching.other_line.Goals as goal

pub with_row-requires-clause-room : goal.with_row-requires-clause-room
with_row-requires-clause-room c =
    let few = rows_few c.args.state c.args.rows.now c.loop-row.row-index no_row (3 * c.args.inputs + 2) c.loop-row-test.true in
    omega (arith, few.0, few.1, c.loop-row.invariant.few, c.requires.room)

pub returns-in_err-made-clause-grown : goal.returns-in_err-made-clause-grown
returns-in_err-made-clause-grown c = over_twice c.args.gates.now c.loop-row.gates c.with_row.new.gates c.loop-row.invariant.grown c.in_err-made.ensures.grown

pub returns-in_err-made-clause-few : goal.returns-in_err-made-clause-few
returns-in_err-made-clause-few c =
    let few = rows_few c.args.state c.args.rows.now c.loop-row.row-index no_row (3 * c.args.inputs + 2) c.loop-row-test.true in
    omega (arith, few.0, few.1, c.loop-row.invariant.few, c.in_err-made.ensures.few)

pub loop-row-preserved : goal.loop-row-preserved
loop-row-preserved c =
    let rows = c.args.rows.now in
    let i = c.loop-row.row-index in
    let before = c.loop-row.invariant in
    let made = c.in_ok-made.ensures.computes in
    let few = rows_few c.args.state rows i no_row (3 * c.args.inputs + 2) c.loop-row-test.true in
    record {
      value = λ x s.
          made.value x s
          ∙ ap (λ (b : Bool). b && not (starts_at (get_or rows i no_row).from c.args.state && passes 0 (literals_of c.args.inputs (get_or rows i no_row).input) x)) (before.value x s)
          ∙ sym (none_more c.args.inputs c.args.state rows i no_row x c.loop-row-test.true);
      within = made.within;
      grown = over_twice c.args.gates.now c.loop-row.gates c.with_row.new.gates before.grown c.in_ok-made.ensures.grown;
      few = omega (arith, few.0, before.few, c.in_ok-made.ensures.few);
    }

pub returns-in-Some-clause-computes : goal.returns-in-Some-clause-computes
returns-in-Some-clause-computes c =
    let loop = c.loop-row.invariant in
    let all = others_done c.args.gates.now c.loop-row.gates c.args.inputs c.args.state c.args.rows.now c.loop-row.row-index c.loop-row.made loop.grown.grows loop.within c.loop-row-test.false loop.value in
    some_computes true c.args.gates.now c.loop-row.gates _ c.loop-row.made c.in-Some.line all c.in-Some.is

pub returns-in-None-clause-computes : goal.returns-in-None-clause-computes
returns-in-None-clause-computes c =
    let loop = c.loop-row.invariant in
    let all = others_done c.args.gates.now c.loop-row.gates c.args.inputs c.args.state c.args.rows.now c.loop-row.row-index c.loop-row.made loop.grown.grows loop.within c.loop-row-test.false loop.value in
    none_computes true c.args.gates.now c.loop-row.gates c.add.new.gates _ c.loop-row.made One c.add.result all c.in-None.is (λ x s. refl) c.add.ensures.added

pub returns-in-None-clause-grown : goal.returns-in-None-clause-grown
returns-in-None-clause-grown c = over_twice c.args.gates.now c.loop-row.gates c.add.new.gates c.loop-row.invariant.grown (c.add.ensures.over_inputs refl refl)
