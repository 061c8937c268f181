-- The names of the inputs so far.
use Rattle.std.proofs.Common.{◌≡◌, take, length, All}
use Rattle.tsc_net.specs.PartsView.{texts_of, IsName}
use Rattle.pla_read.proofs.nodes.input_names.Given as goal

abbrev pub invariant-loop-place : goal.invariant-loop-place
invariant-loop-place l = record {
  texts : texts_of l.parts.names l.names ≡ take l.place l.parts.named.inputs;
  names : All (IsName l.parts.names) l.names;
  count : length l.names ≡ l.place;
}
