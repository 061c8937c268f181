use Rattle.std.proofs.Common.{ℕ, ◌<◌, List, length, sym, ◌∙◌, ap, subst, arith}
use Rattle.std.specs.Prelude.{All}
use Rattle.std.proofs.lemmas.List.Elements.{All-filter}
use Rattle.tsc_bits.specs.Bits.{bits_of}
use Rattle.fault_secure.specs.Circuit.{bit}
use Rattle.tsc_net.specs.declared.machine.MachineRow.{MachineRow}
use Rattle.gate_net.specs.Gates.{AreLines, line_values}
use Rattle.state_code.specs.Lines.{may_answer}
use Rattle.machine_lines.specs.Cases.{word_of}
use Rattle.machine_lines.proofs.StateCases.{kept_count, state_added}
use Rattle.machine_lines.proofs.rows.add_state.Goals as goal

pub add_rows-requires-clause-sized : goal.add_rows-requires-clause-sized
add_rows-requires-clause-sized c =
    omega (arith, ap length c.as_slice.ensures.whole, ap length (c.deref.ensures.value ∙ c.in_ok-rows.ensures.rows), c.in_ok-lines.ensures.count, kept_count c.args.machine.now.table c.args.state c.rows.result.now c.rows.ensures.rows)

pub add_rows-requires-clause-states : goal.add_rows-requires-clause-states
add_rows-requires-clause-states c =
    subst (λ (rows : List MachineRow). All (λ row. row.next < length c.args.codes.now.words.words) rows) (sym (c.deref.ensures.value ∙ c.in_ok-rows.ensures.rows))
    (All-filter (may_answer c.args.state) (λ row. row.next < length c.args.codes.now.words.words) c.rows.result.now (λ k d lt. omega (arith, (c.rows.ensures.fit k d lt).next, c.requires.words)))

pub returns-clause-adds : goal.returns-clause-adds
returns-clause-adds c =
    let M = c.args.machine.now.table in
    let W = c.args.widths in
    let words = c.args.codes.now.words.words in
    let new = c.row_lines.new.gates in
    state_added c.args.code W words M c.args.state c.rows.result.now c.deref.result.now c.requires.outputs c.requires.table c.rows.ensures.rows (c.deref.ensures.value ∙ c.in_ok-rows.ensures.rows)
    c.args.cases.now c.add_rows.new.cases c.push.new.self c.args.decoded c.as_slice.result.now c.in_ok-lines.lines.other c.case_of-other.result
    c.in_ok-add_rows.ensures.adds
    (omega (arith, ap length c.as_slice.ensures.whole, ap length (c.deref.ensures.value ∙ c.in_ok-rows.ensures.rows), c.in_ok-lines.ensures.count, kept_count M c.args.state c.rows.result.now c.rows.ensures.rows))
    c.in_ok-push.ensures.ok c.case_of-other.ensures.decoded c.case_of-other.ensures.line c.case_of-other.ensures.outputs
    (c.case_of-other.ensures.word ∙ ap (λ (next : ℕ). word_of c.args.code W.checks W.bits words (bits_of W.outputs 0) next) c.reset.ensures.reset)
    c.args.gates.now new c.in_ok-lines.ensures.grown c.requires.cases c.requires.decoded (subst (AreLines new) (sym c.as_slice.ensures.whole) c.in_ok-lines.ensures.rows.within) c.in_ok-lines.ensures.other.within
    (λ x s. ap (line_values new (bit x) s) c.as_slice.ensures.whole ∙ c.in_ok-lines.ensures.applies x s) c.in_ok-lines.ensures.nothing
