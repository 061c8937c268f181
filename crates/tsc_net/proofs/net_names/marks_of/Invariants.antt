-- The marks over the texts so far, which are of different names, and the search for a repeat goes on from there.
use Rattle.std.proofs.Common.{◌≡◌, drop, take}
use Rattle.tsc_net.specs.PartsView.{texts_of}
use Rattle.tsc_net.specs.NetFault.{repeat_after, first_repeat}
use Rattle.tsc_net.specs.inner.NetNames.{AreMarks}
use Rattle.tsc_net.proofs.MarkNumbers.{AreOnce}
use Rattle.tsc_net.proofs.net_names.marks_of.Given as goal

abbrev pub invariant-loop-place : goal.invariant-loop-place
invariant-loop-place l = record {
  marks : AreMarks l.names (texts_of l.names (take l.place l.list)) l.marks.items;
  once : AreOnce l.list l.place;
  repeats : repeat_after (texts_of l.names (take l.place l.list)) (texts_of l.names (drop l.place l.list)) ≡ first_repeat (texts_of l.names l.list);
}
