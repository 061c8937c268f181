use Rattle.std.proofs.Common.{◌≡◌, ◌≤◌, false, length, sym, ap, ◌∙◌, arith, subst}
use Rattle.tsc_bits.specs.Bits.{bit_worth}
use Rattle.fault_secure.specs.CodePlan.{CodePlan, IsWellMade}
use Rattle.code_lanes.specs.Lanes.{column}
use Rattle.code_lanes.proofs.GroupLemmas.{groups_of}
use Rattle.code_lanes.proofs.CodeLaneLemmas.{few_checks, zeros_checked, ones_checked, groups_checked, outputs_column, checks_column}
use Rattle.code_lanes.proofs.codewords.unchecked.Goals as goal

pub even_groups-requires-clause-within : goal.even_groups-requires-clause-within
even_groups-requires-clause-within c = (groups_of c.args.plan.now (sym (ap (λ (Q : CodePlan). Q.code) c.plan.view_is) ∙ c.in-Parity.is) (subst IsWellMade c.plan.view_is c.plan.invariant.well_made)).within

pub even_groups-requires-clause-paired : goal.even_groups-requires-clause-paired
even_groups-requires-clause-paired c = sym (groups_of c.args.plan.now (sym (ap (λ (Q : CodePlan). Q.code) c.plan.view_is) ∙ c.in-Parity.is) (subst IsWellMade c.plan.view_is c.plan.invariant.well_made)).paired

pub other_zeros-requires-clause-checks : goal.other_zeros-requires-clause-checks
other_zeros-requires-clause-checks c =
    let few : length c.args.plan.now.checks ≤ 7 = few_checks c.args.plan.now (sym (ap (λ (Q : CodePlan). Q.code) c.plan.view_is) ∙ c.in-Berger.is) (subst IsWellMade c.plan.view_is c.plan.invariant.well_made) in
    omega arith

pub returns-in-Berger : goal.returns-in-Berger
returns-in-Berger c =
    let P = c.args.plan.now in
    let lanes = c.args.lanes.now in
    record {
      checked = λ k few.
          zeros_checked (bit_worth k c.other_zeros.result ≡ false) P (column k lanes) (column k c.outputs_part.result.now) (column k c.checks_part.result.now) (sym (ap (λ (Q : CodePlan). Q.code) c.plan.view_is) ∙ c.in-Berger.is)
          (ap (column k) c.outputs_part.ensures.part ∙ outputs_column k P.outputs lanes) (ap (column k) c.checks_part.ensures.part ∙ checks_column k (length P.checks) P.outputs lanes)
          (c.other_zeros.ensures.zeros k few);
    }

pub returns-in-MOutOfN : goal.returns-in-MOutOfN
returns-in-MOutOfN c =
    let P = c.args.plan.now in
    let lanes = c.args.lanes.now in
    record {
      checked = λ k few.
          ones_checked (bit_worth k c.other_ones.result ≡ false) P (column k lanes) (column k c.outputs_part-in-MOutOfN.result.now) (column k c.checks_part-in-MOutOfN.result.now) (length c.outputs_part-in-MOutOfN.result.now)
          (sym (ap (λ (Q : CodePlan). Q.code) c.plan.view_is) ∙ c.in-MOutOfN.is)
          (ap (column k) c.outputs_part-in-MOutOfN.ensures.part ∙ outputs_column k P.outputs lanes) (ap (column k) c.checks_part-in-MOutOfN.ensures.part ∙ checks_column k (length P.checks) P.outputs lanes)
          c.outputs_part-in-MOutOfN.ensures.sized (c.other_ones.ensures.ones k few);
    }

pub returns-in-Parity : goal.returns-in-Parity
returns-in-Parity c =
    let P = c.args.plan.now in
    record {
      checked = λ k few.
          groups_checked (bit_worth k c.even_groups.result ≡ false) P (column k c.args.lanes.now) (sym (ap (λ (Q : CodePlan). Q.code) c.plan.view_is) ∙ c.in-Parity.is) (c.even_groups.ensures.odd k few);
    }
