use Rattle.std.proofs.Common.{◌≡◌}
use Rattle.net_writing.specs.Begun.{begun_to, AreOwnNames}
use Rattle.net_writing.proofs.beginning.begin.Given as goal

abbrev pub invariant-loop-place : goal.invariant-loop-place
invariant-loop-place l = record {
  begun : l.parts ≡ begun_to l.source l.place;
  names : AreOwnNames l.place l.names;
}
