use Rattle.std.proofs.Common.{drop, ◌≡◌, ◌≤◌, length, take}
use Rattle.tsc_text.specs.TextLine.{word_count}
use Rattle.blif_read.specs.Clean.{AreClean}
use Rattle.blif_read.specs.NamedText.{named_text}
use Rattle.blif_read.proofs.NamedLines.{with_lines}
use Rattle.blif_read.proofs.parts_of.parts_of.Given as goal

abbrev pub invariant-loop-place : goal.invariant-loop-place
invariant-loop-place l = record {
  named : with_lines l.builder.named (drop l.place l.section) ≡ named_text l.section;
  few : length l.builder.names ≤ word_count (take l.place l.section);
  clean : AreClean (drop l.place l.section);
}
