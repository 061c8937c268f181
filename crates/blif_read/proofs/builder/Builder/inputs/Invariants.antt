use Rattle.std.proofs.Common.{◌≡◌, ◌+◌, ◌≤◌, length}
use Rattle.std.specs.List.{slice_range}
use Rattle.blif_read.specs.Added.{with_inputs}
use Rattle.blif_read.proofs.builder.Builder.inputs.Given as goal

abbrev pub invariant-loop-place : goal.invariant-loop-place
invariant-loop-place l = record {
  named : l.self.named ≡ with_inputs l.fn.self.named (slice_range l.line.words 1 l.place);
  few : length l.self.names + 1 ≤ length l.fn.self.names + l.place;
  within : l.place ≤ length l.line.words + 1;
}
