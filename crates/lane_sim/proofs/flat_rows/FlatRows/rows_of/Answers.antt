use Rattle.std.proofs.Common.{◌≡◌, List, length, slice_index_or, sym, ◌∙◌, subst}
use Rattle.std.proofs.lemmas.List.{get_or_default}
use Rattle.lane_sim.specs.declared.gate.ListRange.{ListRange}
use Rattle.lane_sim.specs.declared.gate.Term.{Term}
use Rattle.lane_sim.specs.Spans.{piece, pieces, IsSpan, AreSpans}
use Rattle.lane_sim.specs.FlatRows.{no_span}
use Rattle.lane_sim.specs.Gate.{SpansHaveOperands}
use Rattle.lane_sim.proofs.SpanLemmas.{piece_of_pieces, all_in_piece}
use Rattle.lane_sim.proofs.KernelLemmas.{operands_in_span}
use Rattle.lane_sim.proofs.flat_rows.FlatRows.rows_of.Goals as goal

pub returns : goal.returns
returns c =
    let terms = c.args.self.now.terms.items in
    let all = c.args.self.now.rows.items in
    let gates = c.args.self.now.gates.items in
    let place = c.args.place in
    let span : ListRange = slice_index_or gates place no_span in
    let spans = c.span_of-spans.result.now in
    let there : c.as_slice-2.result.now ≡ terms = c.as_slice-2.ensures.value in
    let here : c.index.result.now ≡ span = c.index.ensures ∙ get_or_default gates place c.index.result.now no_span c.requires.place in
    let rows : spans ≡ piece all span = c.span_of-spans.ensures.piece ∙ (λ i. piece (c.as_slice.ensures.value i) (here i)) in
    let within : IsSpan (length all) span = c.requires.inside.gates place no_span c.requires.place in
    record {
      rows = (λ i. pieces (there i) (rows i)) ∙ sym (piece_of_pieces terms all span);
      inside = subst (λ (t : List Term). AreSpans (length t) spans) (sym there) (subst (AreSpans (length terms)) (sym rows) (all_in_piece (IsSpan (length terms)) all span within c.requires.inside.rows));
      operands = λ words block have.
          subst (λ (t : List Term). SpansHaveOperands words block t spans) (sym there) (subst (SpansHaveOperands words block terms) (sym rows) (operands_in_span words block terms all span have));
    }
