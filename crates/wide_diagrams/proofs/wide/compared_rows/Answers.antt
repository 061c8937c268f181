use Rattle.std.proofs.Common.{◌<◌, ℕ, map, slice_index, sym, ap, ◌∙◌, subst, arith}
use Rattle.std.specs.List.{range_with_len}
use Rattle.fault_secure.specs.CodePlan.{CodePlan}
use Rattle.diagrams.proofs.Waits.{same_error}
use Rattle.cover_diagrams.specs.Covering.{HasRow}
use Rattle.cover_diagrams.proofs.Steps.{Grows-stands}
use Rattle.cover_diagrams.proofs.RunningOrs.{pins_kept}
use Rattle.circuit_diagrams.specs.Steps.{AreBuilt, AreAdded, AreShortOf}
use Rattle.circuit_diagrams.proofs.Lists.{each-range}
use Rattle.circuit_diagrams.proofs.Adding.{added_first, added_then, short_first, short_then, built_then}
use Rattle.wide_diagrams.specs.Stated.{checker_functions}
use Rattle.wide_diagrams.specs.Wide.{difference_at}
use Rattle.wide_diagrams.proofs.wide.compared_rows.Goals as goal

pub returns-in-Ok-output_rows-clause-added : goal.returns-in-Ok-output_rows-clause-added
returns-in-Ok-output_rows-clause-added c = λ fs ws F W.
    let old = c.args.diagrams.now in
    let mid = c.checker_row.new.diagrams in
    let new = c.output_rows.new.diagrams in
    let D = c.len-rows.ensures.diagram in
    added_then old mid new (checker_functions c.args.plan.now ws) _ (c.in-Ok.ensures.added ws W)
    (subst (λ (n : ℕ). AreAdded mid new (map (difference_at fs ws) (range_with_len 0 n))) (ap (λ (P : CodePlan). P.outputs) c.plan.view_is)
    (c.in-Ok-output_rows.ensures.added fs ws (pins_kept old mid fs c.args.firsts.now D c.in-Ok.ensures.grown F) (pins_kept old mid ws c.args.word.now D c.in-Ok.ensures.grown W)))

pub returns-in-Ok-output_rows-clause-built : goal.returns-in-Ok-output_rows-clause-built
returns-in-Ok-output_rows-clause-built c = λ fs ws F W.
    let old = c.args.diagrams.now in
    let mid = c.checker_row.new.diagrams in
    let new = c.output_rows.new.diagrams in
    let D = c.len-rows.ensures.diagram in
    let stand = c.in-Ok-output_rows.ensures.stand fs ws (pins_kept old mid fs c.args.firsts.now D c.in-Ok.ensures.grown F) (pins_kept old mid ws c.args.word.now D c.in-Ok.ensures.grown W) in
    built_then mid new (checker_functions c.args.plan.now ws) _ c.in-Ok.ensures.grown.diagram c.in-Ok-output_rows.ensures.grown (c.in-Ok.ensures.built ws W)
    (subst (λ (n : ℕ). AreBuilt new (map (difference_at fs ws) (range_with_len 0 n))) (ap (λ (P : CodePlan). P.outputs) c.plan.view_is)
    (each-range (HasRow new) (difference_at fs ws) 0 _ (λ i low high. (slice_index c.in-Ok-output_rows.outputs.items i, stand i (omega arith)))))

pub returns-in-Ok-output_rows-clause-rows : goal.returns-in-Ok-output_rows-clause-rows
returns-in-Ok-output_rows-clause-rows c = λ fs ws F W.
    let old = c.args.diagrams.now in
    let mid = c.checker_row.new.diagrams in
    let new = c.output_rows.new.diagrams in
    let D = c.len-rows.ensures.diagram in
    let same = ap (λ (P : CodePlan). P.outputs) c.plan.view_is in
    let stand = c.in-Ok-output_rows.ensures.stand fs ws (pins_kept old mid fs c.args.firsts.now D c.in-Ok.ensures.grown F) (pins_kept old mid ws c.args.word.now D c.in-Ok.ensures.grown W) in
    record {
      rails = Grows-stands mid new _ _ c.in-Ok.ensures.grown.diagram c.in-Ok-output_rows.ensures.grown (c.in-Ok.ensures.stands ws W);
      sized = c.in-Ok-output_rows.ensures.sized ∙ same;
      differ = λ place below. stand place (subst (λ (n : ℕ). place < n) (sym same) below);
    }

pub returns-in-Err-output_rows-clause-added : goal.returns-in-Err-output_rows-clause-added
returns-in-Err-output_rows-clause-added c = λ fs ws F W.
    let old = c.args.diagrams.now in
    let mid = c.checker_row.new.diagrams in
    let new = c.output_rows.new.diagrams in
    let D = c.len-rows.ensures.diagram in
    added_then old mid new (checker_functions c.args.plan.now ws) _ (c.in-Ok.ensures.added ws W)
    (subst (λ (n : ℕ). AreAdded mid new (map (difference_at fs ws) (range_with_len 0 n))) (ap (λ (P : CodePlan). P.outputs) c.plan.view_is)
    (c.in-Err-output_rows.ensures.added fs ws (pins_kept old mid fs c.args.firsts.now D c.in-Ok.ensures.grown F) (pins_kept old mid ws c.args.word.now D c.in-Ok.ensures.grown W)))

pub returns-in-Err-output_rows-clause-short : goal.returns-in-Err-output_rows-clause-short
returns-in-Err-output_rows-clause-short c = λ spent fs ws F W.
    let old = c.args.diagrams.now in
    let mid = c.checker_row.new.diagrams in
    let new = c.output_rows.new.diagrams in
    let D = c.len-rows.ensures.diagram in
    short_then old mid new (checker_functions c.args.plan.now ws) _ c.in-Ok.ensures.grown
    (subst (λ (n : ℕ). AreShortOf mid new (map (difference_at fs ws) (range_with_len 0 n))) (ap (λ (P : CodePlan). P.outputs) c.plan.view_is)
    (c.in-Err-output_rows.ensures.short (same_error c.in-Err-output_rows.e _ spent) fs ws (pins_kept old mid fs c.args.firsts.now D c.in-Ok.ensures.grown F) (pins_kept old mid ws c.args.word.now D c.in-Ok.ensures.grown W)))

pub returns-in-Err-clause-added : goal.returns-in-Err-clause-added
returns-in-Err-clause-added c = λ fs ws F W. added_first c.args.diagrams.now c.checker_row.new.diagrams (checker_functions c.args.plan.now ws) _ (c.in-Err.ensures.added ws W)

pub returns-in-Err-clause-short : goal.returns-in-Err-clause-short
returns-in-Err-clause-short c = λ spent fs ws F W.
    short_first c.args.diagrams.now c.checker_row.new.diagrams (checker_functions c.args.plan.now ws) _ (c.in-Err.ensures.short (same_error c.in-Err.e _ spent) ws W)
