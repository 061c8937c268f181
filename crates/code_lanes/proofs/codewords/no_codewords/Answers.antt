use Rattle.std.proofs.Common.{◌≡◌, ◌≤◌, false, length, bit_or, sym, ap, ◌∙◌, ℕ, subst, arith}
use Rattle.tsc_bits.specs.Bits.{bit_worth}
use Rattle.fault_secure.specs.CodePlan.{CodePlan, IsWellMade}
use Rattle.code_lanes.specs.Lanes.{column}
use Rattle.code_lanes.proofs.LaneLemmas.{neither}
use Rattle.code_lanes.proofs.CodeLaneLemmas.{small_weight, next_column, codeword_is}
use Rattle.code_lanes.proofs.codewords.no_codewords.Goals as goal

pub returns : goal.returns
returns c =
    let P = c.args.plan.now in
    let lanes = c.args.lanes.now in
    record {
      codewords = λ k few.
          codeword_is (bit_worth k (bit_or c.unchecked.result c.weighed_otherwise.result) ≡ false) P (column k lanes) (bit_worth k c.unchecked.result ≡ false) (bit_worth k c.weighed_otherwise.result ≡ false)
          (column k c.next_part.result.now) c.plan.inside.weight
          (ap (column k) c.next_part.ensures.part ∙ next_column k (length P.checks) P.outputs lanes) (ap (λ (Q : CodePlan). Q.weight) c.plan.view_is)
          (c.unchecked.ensures.checked k few) (c.weighed_otherwise.ensures.weighed k few) (neither k c.unchecked.result c.weighed_otherwise.result);
    }

pub weighed_otherwise-requires-clause-weight : goal.weighed_otherwise-requires-clause-weight
weighed_otherwise-requires-clause-weight c =
    let latches : c.args.plan.now.latches ≤ 64 = subst (λ (P : CodePlan). P.latches ≤ 64) c.plan.view_is (omega arith) in
    let small = small_weight c.args.plan.now (subst IsWellMade c.plan.view_is c.plan.invariant.well_made) latches in
    subst (λ (n : ℕ). n ≤ 64) (sym (ap (λ (Q : CodePlan). Q.weight) c.plan.view_is)) small
