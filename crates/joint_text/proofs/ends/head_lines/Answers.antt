use Rattle.joint_text.proofs.EndTexts.{head_pushed}
use Rattle.joint_text.proofs.ends.head_lines.Goals as goal

pub returns : goal.returns
returns c = record {
  head = head_pushed c.args.inputs.now c.args.shown.now c.args.rail1.now c.args.rail2.now _ _ _ _ _ _ _ _ c.in_ok-out.ensures.same c.in_ok-push_table.ensures.words
      c.in_ok-end_line.ensures.ended c.in_ok-append.ensures.ok c.in_ok-push_table-2.ensures.words c.in_ok-push_word.ensures.word
      c.in_ok-push_word-2.ensures.word c.in_ok-end_line-2.ensures.ended;
}
