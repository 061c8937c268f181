-- The second word makes one state more where it is new and another one.
use Rattle.std.proofs.Common.{◌+◌, sym, ap, ◌∙◌}
use Rattle.kiss_read.proofs.StateCounts.{count_again, count_second}
use Rattle.kiss_read.proofs.faults.count_with_both.Goals as goal

pub returns-then-is_word : goal.returns-then-is_word
returns-then-is_word c = record {
  count = c.count_with-count.ensures.count
      ∙ sym (count_again c.args.states.now c.args.current.now c.args.next.now (sym c.if-is_word.ensures.same));
}

pub returns-then-is_none : goal.returns-then-is_none
returns-then-is_none c = record {
  count = ap (λ n. n + 1) c.count_with-count.ensures.count
      ∙ sym (count_second c.args.states.now c.args.current.now c.args.next.now (sym c.if-is_word.ensures.same) (sym c.if-names_state.ensures.names)
      (sym c.find.ensures.has ∙ c.if-is_none.ensures));
}
