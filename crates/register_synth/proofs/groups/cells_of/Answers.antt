use Rattle.std.proofs.Common.{◌≡◌, ◌+◌, length, sym, ap, subst, arith}
use Rattle.std.proofs.lemmas.List.{length-map}
use Rattle.register_synth.specs.inner.Sharing.{AreMarks}
use Rattle.register_synth.proofs.Sharing.{no_marks, marks_more}
use Rattle.register_synth.proofs.groups.cells_of.Goals as goal

pub loop-place-init : goal.loop-place-init
loop-place-init c = subst (AreMarks c.args.net.now.circuit 0) (sym c.new-cells.ensures.empty) (no_marks c.args.net.now.circuit)

pub loop-place-preserved : goal.loop-place-preserved
loop-place-preserved c =
    subst (AreMarks c.args.net.now.circuit (c.loop-place.place + 1)) (sym c.in_ok-push.ensures.ok)
    (marks_more c.args.net.now.circuit c.loop-place.place c.loop-place.cells _ c.loop-place.invariant c.in_ok-marks.ensures.marks)

pub returns : goal.returns
returns c =
    let end : c.loop-place.place ≡ length c.args.net.now.circuit.outputs
    = (let low = c.loop-place-test.false in let high = c.loop-place.auto.place-end in omega (arith, ap length c.outputs-place-end.ensures.outputs, length-map c.outputs-place-end.result.now (λ net. net.number))) in
    record { cells = subst (λ n. AreMarks c.args.net.now.circuit n c.loop-place.cells) end c.loop-place.invariant }
