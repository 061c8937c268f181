use Rattle.std.proofs.Common.{◌≡◌, ℕ, ◌+◌, ◌*◌, ◌^◌, Option, Some, None, MatchOption, length, get_or, refl, ap, sym, ◌∙◌, arith}
use Rattle.std.proofs.lemmas.List.{length-map}
use Rattle.std.proofs.lemmas.List.Elements.{Contains-get_or}
use Rattle.tsc_bits.specs.Bits.{bits_of}
use Rattle.fault_secure.specs.Circuit.{nets}
use Rattle.tsc_net.specs.PlanView.{net_numbers}
use Rattle.tsc_net.specs.declared.ids.NetId.{NetId}
use Rattle.net_cones.proofs.ConeNets.{numbers_below}
use Rattle.checker_audit.specs.Misjudged.{monitored_count, distinct_monitored}
use Rattle.node_lanes.proofs.SettlingSteps.{put_length, settled_length}
use Rattle.checker_audit.proofs.TriedValues.{distinct_within, lanes_show, block_more, block_first}
use Rattle.checker_audit.proofs.judging.first_wrong.Goals as goal

none_from : (o : Option ℕ) (A : Type 0) (B : ℕ → Type 0) → ((v : ℕ) → o ≡ Some v → ⊥) → MatchOption o A B → A
none_from None A B other here = here
none_from (Some v) A B other here = absurd (other v refl)

pub put_words-requires : goal.put_words-requires
put_words-requires c = record {
  few = omega (arith, c.requires.few);
  low = omega (arith, c.loop-block-test.true, c.width_of-most.ensures.small);
  whole = omega arith;
  within = λ k d h.
      (let b = numbers_below (nets c.args.net.now.circuit) (distinct_monitored c.args.net.now.circuit c.args.plan.now) c.args.distinct.now
      (distinct_within c.args.net.now.circuit c.args.plan.now c.requires.plan c.nets-nets.ensures.checked.closed) c.requires.distinct k d h in
      let s = c.requires.sized in let l = c.loop-block.auto.words in omega arith);
}

pub settle_words-requires : goal.settle_words-requires
settle_words-requires c = record {
  sized = put_length c.loop-block.words c.put_words.new.words (net_numbers c.args.distinct.now) (λ p. bits_of (length c.args.distinct.now) (c.loop-block.block * 64 + p)) c.put_words.ensures.put ∙ c.loop-block.auto.words ∙ c.requires.sized;
  places = λ k d h. (c.requires.program.sound (get_or c.args.places.now k d) (Contains-get_or c.args.places.now k d h)).0;
}

pub first_of_values-requires : goal.first_of_values-requires
first_of_values-requires c = record {
  plan = c.requires.plan;
  word = c.requires.word;
  sized = settled_length c.args.net.now.circuit c.put_words.new.words c.settle_words.new.words c.args.places.now c.settle_words.ensures.settled
      ∙ put_length c.loop-block.words c.put_words.new.words (net_numbers c.args.distinct.now) (λ p. bits_of (length c.args.distinct.now) (c.loop-block.block * 64 + p)) c.put_words.ensures.put ∙ c.loop-block.auto.words ∙ c.requires.sized;
  lanes = c.loop-block.auto.lanes ∙ c.requires.lanes;
  low = omega (arith, c.loop-block-test.true, c.width_of-most.ensures.small);
  few = omega (arith, c.min-count.ensures);
  shows = lanes_show c.args.net.now.circuit c.args.plan.now c.requires.plan c.nets-nets.ensures.checked.closed c.args.places.now c.requires.program c.loop-block.words c.put_words.new.words c.settle_words.new.words
      (net_numbers c.args.distinct.now) (length c.args.distinct.now) (c.loop-block.block * 64) (c.loop-block.auto.words ∙ c.requires.sized) c.requires.distinct
      (sym (length-map c.args.distinct.now (λ (net : NetId). net.number))) c.put_words.ensures.put c.settle_words.ensures.settled;
}

pub returns-in-Some : goal.returns-in-Some
returns-in-Some c =
    let count : length c.args.distinct.now ≡ monitored_count c.args.net.now.circuit c.args.plan.now = sym (length-map c.args.distinct.now (λ (net : NetId). net.number)) ∙ ap length c.requires.distinct in
    let most : c.width_of-most.result ≡ 2 ^ monitored_count c.args.net.now.circuit c.args.plan.now = c.width_of-most.ensures.width ∙ ap (λ n. 2 ^ n) count in
    record {
      answer = block_first c.args.net.now.circuit c.args.plan.now c.loop-block.block c.width_of-most.result c.min-count.result c.in-Some.value c.min-count.ensures most c.loop-block.invariant c.in-Some.ensures.answer;
    }

pub loop-block-preserved : goal.loop-block-preserved
loop-block-preserved c =
    block_more c.args.net.now.circuit c.args.plan.now c.loop-block.block c.width_of-most.result c.min-count.result c.min-count.ensures c.loop-block.invariant
    (none_from c.first_of_values.result _ _ c.in_default.not-Some c.first_of_values.ensures.answer)

pub returns : goal.returns
returns c =
    let count : length c.args.distinct.now ≡ monitored_count c.args.net.now.circuit c.args.plan.now = sym (length-map c.args.distinct.now (λ (net : NetId). net.number)) ∙ ap length c.requires.distinct in
    let most : c.width_of-most.result ≡ 2 ^ monitored_count c.args.net.now.circuit c.args.plan.now = c.width_of-most.ensures.width ∙ ap (λ n. 2 ^ n) count in
    record { answer = λ u low. c.loop-block.invariant u (omega (arith, most, low, c.loop-block-test.false)) (omega (arith, most, low)) }
