use Rattle.std.proofs.Common.{◌≡◌, None, IsTrue, drop, sym, ◌∙◌, rules, arith}
use Rattle.tsc_text.specs.TextLine.{the_line}
use Rattle.refutation_text.specs.Following.{line_fault}
use Rattle.refutation_text.proofs.Steps.{refuted_has_none, line_more}
use Rattle.refutation_text.proofs.following.follow_lines.Goals as goal

pub returns-then-is_refuted-clause-fault : goal.returns-then-is_refuted-clause-fault
returns-then-is_refuted-clause-fault c =
    sym (c.loop-line.invariant.fault
    ∙ refuted_has_none c.loop-line.checker (drop c.loop-line.line c.args.lines.now) (sym c.is_refuted.ensures.refuted ∙ c.if-is_refuted.true))

pub returns-then-is_refuted-clause-refuted : goal.returns-then-is_refuted-clause-refuted
returns-then-is_refuted-clause-refuted c =
    let is : IsTrue c.is_refuted.result = search rules in
    λ none formula sound. c.is_refuted.ensures.no_model is formula (c.loop-line.invariant.sound formula sound)

pub loop-line-preserved : goal.loop-line-preserved
loop-line-preserved c =
    let state = c.loop-line.checker in
    let none : line_fault state (the_line c.args.lines.now c.loop-line.line) ≡ None = sym c.in_ok-follow_line.ensures.fault ∙ c.in-None.is in
    record {
      fault = c.loop-line.invariant.fault
          ∙ line_more state c.follow_line.new.checker c.args.lines.now c.loop-line.line (omega arith) (sym c.is_refuted.ensures.refuted ∙ c.if-is_refuted.false) none
          (c.in_ok-follow_line.ensures.after c.in-None.is);
      sound = λ formula sound. c.follow_line.ensures.sound formula (c.loop-line.invariant.sound formula sound);
    }

pub returns-then-is_refuted-2-clause-refuted : goal.returns-then-is_refuted-2-clause-refuted
returns-then-is_refuted-2-clause-refuted c =
    let is : IsTrue c.is_refuted-2.result = search rules in
    λ none formula sound. c.is_refuted-2.ensures.no_model is formula (c.loop-line.invariant.sound formula sound)
