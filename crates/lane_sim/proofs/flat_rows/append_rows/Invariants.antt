use Rattle.std.proofs.Common.{◌≡◌, ◌++◌, take, length}
use Rattle.lane_sim.specs.Spans.{pieces, AreSpans}
use Rattle.lane_sim.proofs.flat_rows.append_rows.Given as goal

abbrev pub invariant-loop-row : goal.invariant-loop-row
invariant-loop-row l = record {
  rows : pieces l.terms.items l.rows.items ≡ pieces l.initial.terms.items l.initial.rows.items ++ take l.row-index l.more;
  inside : AreSpans (length l.terms.items) l.rows.items;
}
