use Rattle.std.proofs.Common.{◌≤◌}
use Rattle.tsc_text.proofs.room.most_words.Given as goal

abbrev pub invariant-loop-at : goal.invariant-loop-at
invariant-loop-at l = l.count ≤ l.at
