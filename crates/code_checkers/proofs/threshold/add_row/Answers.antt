use Rattle.std.proofs.Common.{◌<◌, ◌+◌, ◌∙◌, ◌++◌, ◌∷◌, [], refl, ap, sym, length, drop, get_or, arith}
use Rattle.std.proofs.lemmas.List.{length-map}
use Rattle.code_checkers.specs.Signal.{Pair}
use Rattle.code_checkers.specs.Signal.Signal.{And, Or}
use Rattle.code_checkers.specs.Gates.{meaning}
use Rattle.code_checkers.specs.Draft.{meanings}
use Rattle.code_checkers.specs.Threshold.{row_from}
use Rattle.code_checkers.proofs.Kept.{Keeps-refl, signal_read, signals_pushed, first_added, second_added}
use Rattle.code_checkers.proofs.Loops.{row_step, row_end}
use Rattle.code_checkers.proofs.threshold.add_row.Goals as goal

pub loop-threshold-preserved : goal.loop-threshold-preserved
loop-threshold-preserved c =
    let start = c.args.draft.now in
    let here = c.loop-threshold.draft in
    let row = c.args.row.now in
    let i = c.loop-threshold.threshold-index in
    let t = get_or row i 0 in
    let lt : i < length row = c.loop-threshold-test.true in
    let pair : Pair = record { first = Or (meaning here t) (meaning here c.loop-threshold.carried); second = And (meaning here t) (meaning here c.args.x) } in
    let first = first_added here c.add_threshold.new.draft pair c.in_ok-step.step c.in_ok-step.ensures.added in
    let second = second_added here c.add_threshold.new.draft pair c.in_ok-step.step c.in_ok-step.ensures.added in
    let pushed = signals_pushed start here c.add_threshold.new.draft c.loop-threshold.next.items c.push.new.self.items c.in_ok-step.step.first (Or (meaning here t) (meaning here c.loop-threshold.carried))
    c.loop-threshold.invariant.keeps c.loop-threshold.invariant.within first c.in_ok-push.ensures.items in
    record {
      made =
          ap (λ made. made ++ row_from (meaning c.add_threshold.new.draft c.in_ok-step.step.second) (meaning start c.args.x) (drop (i + 1) (meanings start row))) pushed.mean
          ∙ ap (λ s. (meanings here c.loop-threshold.next.items ++ Or (meaning here t) (meaning here c.loop-threshold.carried) ∷ []) ++ row_from s (meaning start c.args.x) (drop (i + 1) (meanings start row)))
          (second.means ∙ ap (And (meaning here t)) (c.loop-threshold.invariant.keeps.same c.args.x c.requires.x))
          ∙ row_step (meanings here c.loop-threshold.next.items) (meanings start row) (row_from (meaning start c.args.x) (meaning start c.args.x) (meanings start row)) (meaning here c.loop-threshold.carried) (meaning start c.args.x) (meaning here t) (meaning start 0) i
          (omega (arith, length-map row (meaning start)))
          (sym (signal_read start here row i 0 c.loop-threshold.invariant.keeps c.requires.row lt))
          c.loop-threshold.invariant.made;
      within = pushed.within;
      carried = second.within;
      keeps = pushed.keeps;
    }

pub returns : goal.returns
returns c =
    let start = c.args.draft.now in
    let here = c.loop-threshold.draft in
    let pushed = signals_pushed start here here c.loop-threshold.next.items c.push-2.new.self.items c.loop-threshold.carried (meaning here c.loop-threshold.carried) c.loop-threshold.invariant.keeps c.loop-threshold.invariant.within
    (record { means = refl; within = c.loop-threshold.invariant.carried; keeps = Keeps-refl here }) c.in_ok-push-2.ensures.items in
    record {
      added = record {
        mean = pushed.mean ∙ row_end (meanings here c.loop-threshold.next.items) (meanings start c.args.row.now) _ (meaning here c.loop-threshold.carried) (meaning start c.args.x) c.loop-threshold.threshold-index
            (omega (arith, length-map c.args.row.now (meaning start), c.loop-threshold-test.false)) c.loop-threshold.invariant.made;
        within = pushed.within;
        keeps = pushed.keeps;
      };
    }
