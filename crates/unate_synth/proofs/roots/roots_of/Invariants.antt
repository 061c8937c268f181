use Rattle.std.specs.Prelude.{◌≤◌, length}
use Rattle.unate_synth.specs.Roots.{AreRoots, AreRooted}
use Rattle.unate_synth.proofs.roots.roots_of.Given as goal

abbrev pub invariant-loop-place : goal.invariant-loop-place
invariant-loop-place l = record {
  are : AreRoots l.parts.names l.sources l.made.gates l.roots;
  rooted : AreRooted l.sources l.roots l.made.outputs l.word l.place;
  few : length l.roots ≤ l.place;
}
