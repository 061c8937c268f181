use Rattle.std.proofs.Common.{◌≡◌, length, sym, ◌∙◌, ap, subst, arith}
use Rattle.parity_code.specs.FirstFit.{share, first_fit}
use Rattle.parity_code.proofs.GroupSteps.{members_within}
use Rattle.register_synth.specs.inner.Sharing.{AreMarks}
use Rattle.register_synth.proofs.Sharing.{groups_fit}
use Rattle.register_synth.proofs.groups.register_groups.Goals as goal

pub join-requires-clause-within : goal.join-requires-clause-within
join-requires-clause-within c =
    members_within (share c.as_slice-cells.result.now) c.loop-output.groups c.loop-output.output _ c.loop-output.invariant (let t = c.loop-output-test.true in omega arith)

pub returns : goal.returns
returns c =
    let end : c.loop-output.output ≡ length c.as_slice-cells.result.now = (let low = c.loop-output-test.false in let high = c.loop-output.auto.output-end in omega arith) in
    let are : AreMarks c.args.net.now.circuit (length c.args.net.now.circuit.outputs) c.as_slice-cells.result.now
    = subst (AreMarks c.args.net.now.circuit (length c.args.net.now.circuit.outputs)) (sym c.as_slice-cells.ensures.whole) c.in_ok-all.ensures.cells in
    record {
      groups = groups_fit c.args.net.now.circuit c.as_slice-cells.result.now c.loop-output.groups are
          (c.loop-output.invariant ∙ ap (first_fit (share c.as_slice-cells.result.now)) (end ∙ are.sized));
    }
