use Rattle.std.proofs.Common.{◌+◌, false, ◌&&◌, ◌||◌, refl, ◌∙◌, ap, ap₂, arith}
use Rattle.tsc_bits.specs.Bits.{weight_of}
use Rattle.gate_net.specs.declared.line.Line.{Line}
use Rattle.gate_net.specs.Gates.{line_value}
use Rattle.gate_net.specs.Joined.{value_or}
use Rattle.state_code.specs.Lines.{foreign_to_select, isnt_zero}
use Rattle.state_code.proofs.Without.{without_twice, select_adds_no_negation}
use Rattle.state_code.proofs.Selected.{place_step, count_step, count_from, select_most, zero_spared}
use Rattle.state_code.proofs.selecting.select.Goals as goal

pub with_place-requires-clause-room : goal.with_place-requires-clause-room
with_place-requires-clause-room c =
    let start = c.args.gates.now in
    let lines = c.args.per_state.now in
    let i = c.loop-place.place in
    let before = c.loop-place.invariant in
    let step = count_step start c.loop-place.gates lines i c.get-in-loop-place.result.now before.grown.grows c.requires.per_state (omega arith) c.get-in-loop-place.ensures.item in
    omega (arith, before.few, step, count_from (isnt_zero start) lines (i + 1), c.requires.room)

pub returns-in_err-made-clause-only : goal.returns-in_err-made-clause-only
returns-in_err-made-clause-only c = (without_twice foreign_to_select c.args.gates.now c.loop-place.gates c.with_place.new.gates c.loop-place.invariant.grown c.in_err-made.ensures.grown).none

pub returns-in_err-made-clause-positive : goal.returns-in_err-made-clause-positive
returns-in_err-made-clause-positive c =
    select_adds_no_negation c.args.gates.now c.with_place.new.gates (without_twice foreign_to_select c.args.gates.now c.loop-place.gates c.with_place.new.gates c.loop-place.invariant.grown c.in_err-made.ensures.grown)

pub returns-in_err-made-clause-few : goal.returns-in_err-made-clause-few
returns-in_err-made-clause-few c =
    let start = c.args.gates.now in
    let lines = c.args.per_state.now in
    let i = c.loop-place.place in
    let before = c.loop-place.invariant in
    let step = count_step start c.loop-place.gates lines i c.get-in-loop-place.result.now before.grown.grows c.requires.per_state (omega arith) c.get-in-loop-place.ensures.item in
    omega (arith, before.few, c.in_err-made.ensures.few, step, count_from (isnt_zero start) lines (i + 1), select_most start lines)

pub loop-place-preserved : goal.loop-place-preserved
loop-place-preserved c =
    let start = c.args.gates.now in
    let here = c.loop-place.gates in
    let new = c.with_place.new.gates in
    let lines = c.args.per_state.now in
    let i = c.loop-place.place in
    let before = c.loop-place.invariant in
    let made = c.in_ok-made.ensures.computes in
    let one : Line = c.get.result.now in
    let two : Line = c.get-in-loop-place.result.now in
    let step = count_step start here lines i two before.grown.grows c.requires.per_state (omega arith) c.get-in-loop-place.ensures.item in
    record {
      value = λ x s.
          place_step start here new c.args.decoded.now lines i c.loop-place.made c.in_ok-made.made one two x s before.grown.grows c.requires.decoded c.requires.per_state (omega arith) (omega arith)
          (made.value x s ∙ ap₂ (λ (a b : Line). value_or false here x s c.loop-place.made || (line_value here x s a && line_value here x s b)) c.get.ensures.item c.get-in-loop-place.ensures.item)
          ∙ before.value x s;
      within = made.within;
      none = λ e.
          let was = c.in_ok-made.ensures.none e in
          omega (arith, step, before.none was.0, ap weight_of was.1);
      grown = without_twice foreign_to_select start here new before.grown c.in_ok-made.ensures.grown;
      few = omega (arith, before.few, c.in_ok-made.ensures.few, step);
    }

pub returns-in-None-clause-grown : goal.returns-in-None-clause-grown
returns-in-None-clause-grown c = (without_twice foreign_to_select c.args.gates.now c.loop-place.gates c.add.new.gates c.loop-place.invariant.grown (c.add.ensures.grown foreign_to_select refl)).grows

pub returns-in-None-clause-only : goal.returns-in-None-clause-only
returns-in-None-clause-only c = (without_twice foreign_to_select c.args.gates.now c.loop-place.gates c.add.new.gates c.loop-place.invariant.grown (c.add.ensures.grown foreign_to_select refl)).none

pub returns-in-None-clause-positive : goal.returns-in-None-clause-positive
returns-in-None-clause-positive c =
    select_adds_no_negation c.args.gates.now c.add.new.gates (without_twice foreign_to_select c.args.gates.now c.loop-place.gates c.add.new.gates c.loop-place.invariant.grown (c.add.ensures.grown foreign_to_select refl))

pub returns-in-None-clause-few : goal.returns-in-None-clause-few
returns-in-None-clause-few c =
    let before = c.loop-place.invariant in
    zero_spared c.args.gates.now c.loop-place.gates c.add.new.gates c.args.per_state.now c.loop-place.place before.grown.grows c.requires.per_state (omega arith)
    (before.none c.in-None.is) before.few c.add.ensures.there c.add.ensures.few

pub returns-in-Some-clause-few : goal.returns-in-Some-clause-few
returns-in-Some-clause-few c =
    omega (arith, c.loop-place.invariant.few, count_from (isnt_zero c.args.gates.now) c.args.per_state.now c.loop-place.place, select_most c.args.gates.now c.args.per_state.now)
