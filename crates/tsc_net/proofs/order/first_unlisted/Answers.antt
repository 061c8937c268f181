-- One pin after the other.
use Rattle.std.proofs.Common.{◌≡◌, ◌∙◌, ◌<◌, ◌+◌, sym, ap, subst, length, slice_index, arith, inl, inr}
use Rattle.std.proofs.lemmas.List.{length-map}
use Rattle.std.proofs.lemmas.Bool.{cases_lt}
use Rattle.tsc_net.specs.PlanView.{net_numbers}
use Rattle.tsc_net.specs.inner.OrderSearch.{is_passed}
use Rattle.tsc_net.proofs.OrderSearchLemmas.{number_at}
use Rattle.tsc_net.proofs.order.first_unlisted.Goals as goal

pub is_passed-requires : goal.is_passed-requires
is_passed-requires c =
    let at = c.loop-at.at in
    let long : at < length (net_numbers c.args.reads.now) = omega (arith, c.loop-at-test.true, length-map c.args.reads.now (λ net. net.number)) in
    record {
      within = subst (λ n. n < c.args.first_node + length c.args.is_listed.now) (number_at c.args.reads.now at (omega (arith, c.loop-at-test.true)))
          (c.requires.within at 0 long);
    }

pub loop-at-preserved : goal.loop-at-preserved
loop-at-preserved c = record {
  after = omega (arith, c.loop-at.invariant.after);
  passed = λ pin after before inside. elim (cases_lt pin c.loop-at.at) [
    | inl old ↦ c.loop-at.invariant.passed pin after old inside
    | inr past ↦
        let here : pin ≡ c.loop-at.at = omega arith in
        ap (λ k. is_passed c.args.first_node c.args.is_listed.now (slice_index (net_numbers c.args.reads.now) k)) here
        ∙ ap (is_passed c.args.first_node c.args.is_listed.now) (number_at c.args.reads.now c.loop-at.at (omega (arith, c.loop-at-test.true)))
        ∙ sym c.is_passed.ensures.passed ∙ c.if-is_passed.true
  ];
}
