use Rattle.std.proofs.Common.{◌++◌, ◌∷◌, [], length, map, ap, ap₂, sym, ◌∙◌, arith}
use Rattle.std.specs.Prelude.{if◌then◌else◌}
use Rattle.std.proofs.lemmas.List.{take_all, get_or-map}
use Rattle.tsc_cover.specs.Row.{literal, literals_of}
use Rattle.tsc_cover.specs.Terms.{terms_from}
use Rattle.tsc_cover.proofs.Row.{length-literals, literal_at-literals}
use Rattle.tsc_net.specs.PlanView.{net_numbers}
use Rattle.tsc_net.specs.declared.ids.NetId.{NetId}
use Rattle.lane_sim.specs.Gate.{term_at}
use Rattle.lane_sim.specs.Program.{operand_of, term_of}
use Rattle.lane_sim.specs.declared.gate.Operand.{Operand}
use Rattle.lane_sim.specs.declared.gate.Term.{Term}
use Rattle.lane_sim.proofs.ReadyLemmas.{row_terms_more}
use Rattle.lane_sim.proofs.ready.row_terms.Goals as goal

pub loop-pin-preserved : goal.loop-pin-preserved
loop-pin-preserved c =
    let reads = c.args.reads.now in
    let row = c.args.row.now in
    let rows = c.args.rows.now.rows in
    let pin = c.loop-pin.pin in
    let care = c.bit_at.result in
    let wants = c.bit_at-in-loop-pin.result in
    let operand = c.operand_of-operand.ensures.operand ∙ ap (operand_of c.args.first rows) (sym (get_or-map (λ (net : NetId). net.number) reads pin _ 0 c.loop-pin-test.true)) in
    row_terms_more (term_of c.args.first rows (net_numbers reads)) (literals_of (length reads) row) pin care wants c.loop-pin.terms c.push_term.new.terms
    (omega (arith, length-literals (length reads) row.care row.value, c.loop-pin-test.true))
    (literal_at-literals (length reads) row.care row.value pin c.loop-pin-test.true ∙ ap₂ literal (sym c.bit_at.ensures.bit) (sym c.bit_at-in-loop-pin.ensures.bit))
    c.loop-pin.invariant
    (c.in_ok-push_term.ensures.ok
    ∙ ap (λ (term : Term). c.loop-pin.terms ++ (if care then term ∷ [] else [])) (c.term_at.ensures.term ∙ ap (λ (h : Operand). term_at h pin wants) operand))

pub returns : goal.returns
returns c =
    let reads = c.args.reads.now in
    let row = c.args.row.now in
    record {
      terms = c.loop-pin.invariant
          ∙ ap (λ literals. map (term_of c.args.first c.args.rows.now.rows (net_numbers reads)) (terms_from 0 literals))
          (take_all c.loop-pin.pin (literals_of (length reads) row) (omega (arith, length-literals (length reads) row.care row.value, c.loop-pin-test.false)));
    }
