use Rattle.std.proofs.Common.{◌≤◌, arith, leb, leb-true, rules, sym, subst, ◌∙◌}
use Rattle.std.proofs.lemmas.List.Sorted.{IsPartitionPoint-from_clause, IsPartitionedBy-leb}
use Rattle.tsc_text.specs.declared.jumps.Jump.{Jump}
use Rattle.tsc_text.specs.Jumps.{first_jump}
use Rattle.tsc_text.proofs.JumpLines.{jump_from-found, last-low}
use Rattle.tsc_text.proofs.jumps.jump_at.Goals as goal

pub returns-clause-jump : goal.returns-clause-jump
returns-clause-jump c =
    let parted = IsPartitionedBy-leb (λ (j : Jump). j.line) c.args.jumps.now c.args.line c.requires.rises in
    let point = IsPartitionPoint-from_clause (λ (j : Jump). leb j.line c.args.line) c.args.jumps.now c.partition_point-count.result c.partition_point-count.ensures.partitioned parted (λ a r q k. search rules) in
    c.jump_before.ensures.jump
    ∙ sym (jump_from-found first_jump c.args.jumps.now c.args.line c.partition_point-count.result c.partition_point-count.ensures.bound
    (λ k d h. point.0 k d (omega arith) h) (λ k d h j. point.1 k d h j) first_jump)

pub returns-clause-before : goal.returns-clause-before
returns-clause-before c =
    let parted = IsPartitionedBy-leb (λ (j : Jump). j.line) c.args.jumps.now c.args.line c.requires.rises in
    let point = IsPartitionPoint-from_clause (λ (j : Jump). leb j.line c.args.line) c.args.jumps.now c.partition_point-count.result c.partition_point-count.ensures.partitioned parted (λ a r q k. search rules) in
    subst (λ (j : Jump). j.line ≤ c.args.line) (sym c.jump_before.ensures.jump)
    (last-low first_jump c.args.jumps.now c.args.line c.partition_point-count.result (omega arith) c.partition_point-count.ensures.bound
    (λ k d h. leb-true _ _ (point.0 k d (omega arith) h)) first_jump)
