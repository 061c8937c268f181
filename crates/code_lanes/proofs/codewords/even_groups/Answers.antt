use Rattle.std.proofs.Common.{◌≡◌, ◌↔◌, ℕ, ◌<◌, [], Bool, true, false, not, List, length, get_or, sym, ap, ◌∙◌, subst, All, arith, IsTrue, refl}
use Rattle.std.proofs.lemmas.List.Elements.{All-from_get_or, All-weaker}
use Rattle.std.proofs.lemmas.Bool.{true≢false}
use Rattle.tsc_bits.specs.Bits.{bit_worth}
use Rattle.tsc_bits.specs.Counting.{odd}
use Rattle.fault_secure.specs.CodePlan.{CodePlan, bits_at, members}
use Rattle.code_lanes.specs.Lanes.{column}
use Rattle.code_lanes.proofs.GroupLemmas.{group_within, places_of, many_groups, member_is}
use Rattle.code_lanes.proofs.LaneLemmas.{zeros_at_first, zeros_go_on}
use Rattle.code_lanes.proofs.codewords.even_groups.Goals as goal
use Rattle.fault_secure.proofs.PlanSizes.{length-members_from}

pub oddness-requires-clause-places : goal.oddness-requires-clause-places
oddness-requires-clause-places c =
    let P = c.args.plan.now in
    let k = c.loop-group.group in
    let below : k < length c.plan.inside.groups = omega arith in
    let many = many_groups c.plan.inside P c.plan.view_is in
    let is = places_of c.plan.inside P c.as_slice-places.result.now c.get.result.now c.get.result.now k c.plan.view_is below c.get.ensures.item c.as_slice-places.ensures.whole in
    let inside : k < length P.groups = omega arith in
    let all = group_within (λ (place : ℕ). place < P.outputs) P.groups k inside c.requires.within in
    let wide = c.requires.sized in
    All-weaker (λ (place : ℕ). place < P.outputs) (λ (place : ℕ). place < length c.args.lanes.now) (λ place h. omega arith) c.as_slice-places.result.now
    (subst (λ (places : List ℕ). All (λ (place : ℕ). place < P.outputs) places) (sym is) all)

pub loop-group-init : goal.loop-group-init
loop-group-init c = λ k few. zeros_at_first (λ (g : ℕ). IsTrue (odd (bits_at (column k c.args.lanes.now) (get_or (members c.args.plan.now) g [])))) k

pub loop-group-preserved : goal.loop-group-preserved
loop-group-preserved c = λ k few.
    let P = c.args.plan.now in
    let g = c.loop-group.group in
    let lanes = c.args.lanes.now in
    let below : g < length c.plan.inside.groups = omega arith in
    let many = many_groups c.plan.inside P c.plan.view_is in
    let is = places_of c.plan.inside P c.as_slice-places.result.now c.get.result.now c.get.result.now g c.plan.view_is below c.get.ensures.item c.as_slice-places.ensures.whole in
    let inside : g < length P.groups = omega arith in
    let member = member_is P c.as_slice-places.result.now g c.plan.inside.outputs inside (ap (λ (Q : CodePlan). Q.outputs) c.plan.view_is) is in
    zeros_go_on (λ (j : ℕ). IsTrue (odd (bits_at (column k lanes) (get_or (members P) j [])))) k c.loop-group.even c.negated-even.result g (c.loop-group.invariant k few)
    (subst (λ (group : List ℕ). (bit_worth k c.negated-even.result ≡ false) ↔ IsTrue (odd (bits_at (column k lanes) group))) (sym member)
    (is_odd (bit_worth k c.negated-even.result) (bit_worth k c.oddness.result) _ (c.negated-even.ensures.bits k few) (c.oddness.ensures.odd k few)))
  where
    is_odd : (even odd_ o : Bool) → even ≡ not odd_ → odd_ ≡ o → (even ≡ false) ↔ IsTrue o
    is_odd even true true turned is = (λ zero_. refl, λ holds. turned)
    is_odd even true false turned is = absurd (true≢false is)
    is_odd even false true turned is = absurd (true≢false (sym is))
    is_odd even false false turned is = (λ zero_. absurd (true≢false (sym turned ∙ zero_)), λ holds. absurd (true≢false (sym holds)))

pub returns : goal.returns
returns c =
    let P = c.args.plan.now in
    let many = many_groups c.plan.inside P c.plan.view_is in
    let count = length-members_from P.outputs P.groups in
    record {
      odd = λ k few. (
        λ zero_. All-from_get_or (λ (group : List ℕ). IsTrue (odd (bits_at (column k c.args.lanes.now) group))) (members P) []
            (λ g h. (c.loop-group.invariant k few).0 zero_ g (omega arith)),
        λ all. (c.loop-group.invariant k few).1 (λ g h. all g [] (omega arith)),
      );
    }
