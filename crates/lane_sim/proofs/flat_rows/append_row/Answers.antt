use Rattle.std.proofs.Common.{◌≡◌, ◌++◌, ◌∷◌, [], length, ap, arith, length-append}
use Rattle.lane_sim.specs.declared.gate.ListRange.{ListRange}
use Rattle.lane_sim.proofs.SpanLemmas.{grown_pieces, grown_spans}
use Rattle.lane_sim.proofs.flat_rows.append_row.Goals as goal

pub returns : goal.returns
returns c =
    let old = c.args.terms.now.items in
    let new = c.extend_from_slice.new.self.items in
    let rows = c.args.rows.now.items in
    let span : ListRange = record { start = c.len-start.result; end = c.len-end.result } in
    let pushed : c.push.new.self.items ≡ rows ++ span ∷ [] = c.in_ok-push.ensures.items in
    let start : c.len-start.result ≡ length old = omega (arith, c.len-start.ensures, c.args.terms.now.ok.0) in
    let end : c.len-end.result ≡ length new = omega (arith, c.len-end.ensures, c.extend_from_slice.new.self.ok.0) in
    record {
      rows = grown_pieces old new c.args.row.now rows c.push.new.self.items span c.requires.inside c.in_ok-extend_from_slice.ensures.items pushed start end;
      inside = grown_spans (length old) (length new) rows c.push.new.self.items span c.requires.inside pushed start end
          (omega (arith, ap length c.in_ok-extend_from_slice.ensures.items, length-append old c.args.row.now));
    }
