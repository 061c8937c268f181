use Rattle.std.proofs.Common.{◌≡◌, ℕ, ◌+◌, List, ◌++◌, ◌∙◌, ap, ap₂, arith}
use Rattle.parity_code.specs.GroupChecks.{group_check_nets}
use Rattle.register_synth.specs.Kept.{kept_part}
use Rattle.register_synth.specs.TwinNet.{widened, twin_check_nets}
use Rattle.register_synth.specs.TwinCircuit.{showing}
use Rattle.twin_synth.specs.inner.Composed.{shown_over}
use Rattle.twin_synth.proofs.TwinCopies.{own_shown}
use Rattle.twin_synth.proofs.TwinComposed.{check_nets_are}
use Rattle.twin_synth.proofs.composing.word.Goals as goal

pub returns : goal.returns
returns c =
    let C = c.args.source.now.circuit in
    let shown = c.in_ok-word.ensures.nets ∙ ap (λ (n : ℕ). shown_over c.args.source.now.circuit c.args.own.now n c.args.watched) c.inputs-inputs.ensures.count
    ∙ own_shown C c.args.kept.now.registers c.args.kept.now.covers c.requires.kept c.nets-nets.ensures.checked.closed c.args.own.now c.args.watched c.requires.own c.requires.fits in
    let checks = c.as_slice-2.ensures.whole ∙ c.in_ok-checks.ensures.nets
    ∙ check_nets_are C c.args.kept.now.registers c.args.kept.now.covers c.args.watched _ c.args.all.now _ _ _ _ _
    c.as_slice.ensures.whole c.inputs-inputs.ensures.count c.len.ensures.count c.len-2.ensures.count c.len-3.ensures.count c.len-4.ensures.count in
    record { word = c.in_ok-append.ensures.ok ∙ ap₂ (λ (a b : List ℕ). a ++ b) shown checks }
