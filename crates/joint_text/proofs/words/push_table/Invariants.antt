-- The texts before this one were added.
use Rattle.std.proofs.Common.{◌≡◌, drop}
use Rattle.blif_write.specs.Steps.{after_words}
use Rattle.joint_text.proofs.words.push_table.Given as goal

abbrev pub invariant-loop-number : goal.invariant-loop-number
invariant-loop-number l = after_words l.out (drop l.number l.table) ≡ after_words l.initial.out l.table
