use Rattle.std.proofs.Common.{◌≡◌, ◌+◌, ◌++◌, ◌∷◌, [], List, length, slice_index_or, ap, ◌∙◌, arith, length-append}
use Rattle.std.proofs.lemmas.List.{length-map, get_or_append_left, get_or-append-add}
use Rattle.lane_sim.specs.declared.gate.Term.{Term}
use Rattle.lane_sim.specs.declared.gate.ListRange.{ListRange}
use Rattle.lane_sim.specs.Spans.{piece, pieces, IsSpan}
use Rattle.lane_sim.specs.FlatRows.{no_span}
use Rattle.lane_sim.proofs.SpanLemmas.{piece_stays, piece_last, grown_spans}
use Rattle.lane_sim.proofs.flat_rows.FlatRows.push.Goals as goal

pub returns : goal.returns
returns c =
    let flat = c.args.self.now in
    let rows = c.append_rows.new.rows.items in
    let gates = c.push.new.self.items in
    let old : List (List Term) = pieces flat.terms.items flat.rows.items in
    let new : List (List Term) = pieces c.append_rows.new.terms.items rows in
    let more : List (List Term) = c.args.rows.now in
    let many : length old ≡ length flat.rows.items = length-map flat.rows.items (piece flat.terms.items) in
    let after : length new ≡ length rows = length-map rows (piece c.append_rows.new.terms.items) in
    let appended = c.in_ok-append_rows.ensures.rows in
    let grown : length new ≡ length old + length more = ap length appended ∙ length-append old more in
    let span : ListRange = record { start = c.len-start.result; end = c.len-end.result } in
    let start : span.start ≡ length flat.rows.items = omega (arith, c.len-start.ensures, flat.rows.ok.0) in
    let end : span.end ≡ length rows = omega (arith, c.len-end.ensures, c.append_rows.new.rows.ok.0) in
    let pushed : gates ≡ flat.gates.items ++ span ∷ [] = c.in_ok-push.ensures.items in
    let place : c.len-place.result ≡ length flat.gates.items + 0 = omega (arith, c.len-place.ensures, flat.gates.ok.0) in
    let longer : length gates ≡ length flat.gates.items + 1 = ap length pushed ∙ length-append flat.gates.items (span ∷ []) in
    let last : slice_index_or gates c.len-place.result no_span ≡ span =
    (λ i. slice_index_or (pushed i) (place i) no_span) ∙ get_or-append-add flat.gates.items (span ∷ []) 0 no_span in
    record {
      place = omega (arith, place, longer);
      rows = ap (piece new) last
          ∙ ap (λ (l : List (List Term)). piece l span) appended
          ∙ piece_last old more span (omega (arith, start, many)) (omega (arith, end, after, grown));
      keeps = λ other below.
          let there : ListRange = slice_index_or flat.gates.items other no_span in
          let within : IsSpan (length flat.rows.items) there = c.requires.inside.gates other no_span below in (
            omega (arith, below, longer),
            ap (piece new) (ap (λ (l : List ListRange). slice_index_or l other no_span) pushed ∙ get_or_append_left flat.gates.items (span ∷ []) no_span other below)
                ∙ ap (λ (l : List (List Term)). piece l there) appended
                ∙ piece_stays old more there (within.0, omega (arith, within.1, many)),
          );
      inside = record {
        rows = c.in_ok-append_rows.ensures.inside;
        gates = grown_spans (length flat.rows.items) (length rows) flat.gates.items gates span c.requires.inside.gates pushed start end (omega (arith, many, after, grown));
      };
      gates = longer;
    }
