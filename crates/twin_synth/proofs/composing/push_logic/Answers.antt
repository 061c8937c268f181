use Rattle.std.proofs.Common.{◌≡◌, ℕ, ◌+◌, List, ◌∙◌, ap, ap₂, length, subst, refl, sym, arith}
use Rattle.std.specs.Result.{OnOk}
use Rattle.tsc_net.specs.NetlistOf.{NetlistOf}
use Rattle.twin_synth.specs.Numbered.{more_nodes}
use Rattle.twin_synth.specs.Checks.{checks_over}
use Rattle.twin_synth.specs.Table.{IsCopiedTable}
use Rattle.twin_synth.specs.inner.Composed.{shown_over}
use Rattle.twin_synth.proofs.TwinCopies.{copied_shown}
use Rattle.twin_synth.proofs.TwinComposed.{copies_counted, logic_is, same_table}
use Rattle.twin_synth.proofs.composing.push_logic.Goals as goal

pub push_shown_checks-requires-clause-room : goal.push_shown_checks-requires-clause-room
push_shown_checks-requires-clause-room c =
    let counted = copies_counted c.args.source.now c.args.kept.now.registers c.args.kept.now.covers c.args.watched c.args.all.now c.args.numbered.now c.push_copies.new.numbered
    c.requires.empty c.in_ok-push_copies.ensures.pushed in
    omega (arith, counted, c.requires.room)

pub returns : goal.returns
returns c =
    let S = c.args.source.now in
    let registers = c.as_slice-registers.ensures.whole in
    let first = ap₂ (λ (a b : ℕ). a + b) c.inputs.ensures.count (ap (λ (l : List ℕ). length l) registers) in
    let table = subst (IsCopiedTable c.args.source.now.circuit c.args.kept.now.registers c.args.kept.now.covers) (sym c.as_slice-copied.ensures.whole)
    (same_table c.args.source.now.circuit c.as_slice-registers.result.now c.args.kept.now.registers c.as_slice.result.now c.args.kept.now.covers c.in_ok-copied.copied registers c.as_slice.ensures.whole c.in_ok-copied.ensures.table) in
    let shown = ap (λ (n : ℕ). shown_over c.args.source.now.circuit c.as_slice-copied.result.now n c.args.watched) first
    ∙ copied_shown S.circuit c.args.kept.now.registers c.args.kept.now.covers c.requires.kept c.nets-nets.ensures.checked.closed c.as_slice-copied.result.now c.args.watched table c.requires.fits in
    record {
      pushed = subst (λ (N : NetlistOf). OnOk c.push_shown_checks.result (c.push_shown_checks.new.numbered ≡ N))
          (logic_is S c.args.kept.now.registers c.args.kept.now.covers c.args.watched c.args.all.now c.requires.grouped c.args.numbered.now c.push_copies.new.numbered
          (more_nodes c.push_copies.new.numbered (checks_over c.push_copies.new.numbered (shown_over c.args.source.now.circuit c.as_slice-copied.result.now _ c.args.watched) c.args.all.now))
          (shown_over c.args.source.now.circuit c.as_slice-copied.result.now _ c.args.watched) c.requires.empty c.in_ok-push_copies.ensures.pushed shown refl)
          c.push_shown_checks.ensures.pushed;
    }
