use Rattle.std.proofs.Common.{◌≡◌, ◌+◌, ◌≤◌, length}
use Rattle.std.specs.List.{slice_range}
use Rattle.blif_read.proofs.NameGrowth.{AreNamed}
use Rattle.blif_read.proofs.builder.Builder.pins.Given as goal

abbrev pub invariant-loop-place : goal.invariant-loop-place
invariant-loop-place l = record {
  named : l.self.named ≡ l.fn.self.named;
  few : length l.self.names + 1 ≤ length l.fn.self.names + l.place;
  reads : AreNamed l.self.names l.reads (slice_range l.line.words 1 l.place);
}
