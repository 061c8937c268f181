use Rattle.std.proofs.Common.{◌≡◌, List, ℕ, ◌∙◌, ap, subst}
use Rattle.std.specs.Result.{OnOk}
use Rattle.tsc_net.specs.NetlistOf.{NetlistOf}
use Rattle.twin_synth.specs.Numbered.{more_latches, more_nodes}
use Rattle.twin_synth.specs.Pushed.{latches_over, nodes_over}
use Rattle.twin_synth.proofs.TwinCopies.{both_copies}
use Rattle.twin_synth.proofs.copies.push_copies.Goals as goal

pub returns : goal.returns
returns c =
    let C = c.args.source.now.circuit in
    let registers = c.as_slice-registers.ensures.whole in
    let covers = c.as_slice-covers.ensures.whole in
    let one = c.in_ok-push_latches.ensures.pushed ∙ ap (λ (l : List ℕ). more_latches c.args.numbered.now (latches_over c.args.source.now.circuit c.args.own.now l)) registers in
    let two = c.in_ok-push_latches-2.ensures.pushed ∙ ap (λ (l : List ℕ). more_latches c.push_latches.new.numbered (latches_over c.args.source.now.circuit c.args.copied.now l)) registers in
    let three = c.in_ok-push_covers.ensures.pushed ∙ ap (λ (l : List ℕ). more_nodes c.push_latches-2.new.numbered (nodes_over c.args.source.now.circuit c.args.own.now l)) covers in
    let four = ap (λ (l : List ℕ). more_nodes c.push_covers.new.numbered (nodes_over c.args.source.now.circuit c.args.copied.now l)) covers in
    record {
      pushed = subst (λ (N : NetlistOf). OnOk c.push_covers-2.result (c.push_covers-2.new.numbered ≡ N))
          (both_copies C c.args.kept.now.registers c.args.kept.now.covers c.requires.kept c.nets-nets.ensures.checked.closed c.args.own.now c.args.copied.now c.requires.own c.requires.copied
          c.args.numbered.now c.push_latches.new.numbered c.push_latches-2.new.numbered c.push_covers.new.numbered
          (more_nodes c.push_covers.new.numbered (nodes_over c.args.source.now.circuit c.args.copied.now c.as_slice-covers.result.now)) one two three four)
          c.push_covers-2.ensures.pushed;
    }
