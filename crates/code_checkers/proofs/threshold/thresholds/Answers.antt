use Rattle.std.proofs.Common.{◌<◌, ◌+◌, ◌∙◌, ℕ, List, ap, sym, subst, length, drop, get_or, arith}
use Rattle.std.proofs.lemmas.List.{length-map}
use Rattle.code_checkers.specs.Gates.{meaning}
use Rattle.code_checkers.specs.Draft.{meanings, AreAdded}
use Rattle.code_checkers.specs.Threshold.{row_from, thresholds_from, thresholds}
use Rattle.code_checkers.proofs.Kept.{Keeps-trans, signal_read}
use Rattle.code_checkers.proofs.Loops.{thresholds_step}
use Rattle.code_checkers.proofs.threshold.thresholds.Goals as goal

pub loop-x-preserved : goal.loop-x-preserved
loop-x-preserved c =
    let start = c.args.draft.now in
    let here = c.loop-x.draft in
    let list = c.args.list.now in
    let i = c.loop-x.x-index in
    let x = get_or list i 0 in
    let lt : i < length list = c.loop-x-test.true in
    let added = subst (λ (row : List ℕ). AreAdded here c.add_row.new.draft (row_from (meaning here x) (meaning here x) (meanings here row)) c.in_ok-row.row.items) c.deref.ensures.value c.in_ok-row.ensures.added in
    record {
      made =
          ap (λ row. thresholds_from row (drop (i + 1) (meanings start list))) added.mean
          ∙ thresholds_step (meanings here c.loop-x.row.items) (meanings start list) (thresholds (meanings start list)) (meaning here x) (meaning start 0) i
          (omega (arith, length-map list (meaning start)))
          (sym (signal_read start here list i 0 c.loop-x.invariant.keeps c.requires.list lt))
          c.loop-x.invariant.made;
      within = added.within;
      keeps = Keeps-trans c.loop-x.invariant.keeps added.keeps;
    }
