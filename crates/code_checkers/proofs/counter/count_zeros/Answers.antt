use Rattle.std.proofs.Common.{◌<◌, ◌+◌, ◌*◌, ◌^◌, ◌≡◌, ◌∙◌, ℕ, List, ap, sym, subst, length, drop, get_or, arith}
use Rattle.std.specs.Prelude.{◌==◌}
use Rattle.std.proofs.lemmas.List.{length-map}
use Rattle.code_checkers.specs.Signal.Signal.{Not}
use Rattle.code_checkers.specs.Counter.{add_carry, count_from, count_zeros}
use Rattle.code_checkers.specs.Gates.{meaning}
use Rattle.code_checkers.specs.Draft.{meanings, AreAdded}
use Rattle.code_checkers.proofs.Counting.{few_bits, tight_more}
use Rattle.code_checkers.proofs.Kept.{Keeps-trans, signal_read}
use Rattle.code_checkers.proofs.Loops.{count_step}
use Rattle.code_checkers.proofs.counter.count_zeros.Goals as goal

pub count_one-requires-clause-small : goal.count_one-requires-clause-small
count_one-requires-clause-small c =
    let few : length c.loop-item.bits.items < 64 = few_bits (length c.loop-item.bits.items) c.loop-item.number c.loop-item.invariant.tight (omega arith) in
    omega arith

pub loop-item-preserved : goal.loop-item-preserved
loop-item-preserved c =
    let start = c.args.draft.now in
    let here = c.loop-item.draft in
    let items = c.args.items.now in
    let i = c.loop-item.item-index in
    let x = get_or items i 0 in
    let bits = c.loop-item.bits.items in
    let lt : i < length items = c.loop-item-test.true in
    let added = subst (λ (row : List ℕ). AreAdded here c.count_one.new.draft (add_carry (c.loop-item.number == 2 ^ length row) (Not (meaning here x)) (meanings here row)) c.in_ok-bits.bits.items) c.deref.ensures.value c.in_ok-bits.ensures.added in
    let same : length (meanings here bits) ≡ length bits = length-map bits (meaning here) in
    let mean = added.mean ∙ ap (λ n. add_carry (c.loop-item.number == 2 ^ n) (Not (meaning here x)) (meanings here bits)) (sym same) in
    record {
      made =
          ap (λ row. count_from (c.loop-item.number + 1) row (drop (i + 1) (meanings start items))) mean
          ∙ count_step (meanings here bits) (meanings start items) (count_zeros (meanings start items)) (meaning here x) (meaning start 0) c.loop-item.number i
          (omega (arith, length-map items (meaning start)))
          (sym (signal_read start here items i 0 c.loop-item.invariant.keeps c.requires.items lt))
          c.loop-item.invariant.made;
      within = added.within;
      number = omega arith;
      tight = tight_more (meanings here bits) (Not (meaning here x)) c.loop-item.number (length c.in_ok-bits.bits.items)
          (sym (length-map c.in_ok-bits.bits.items (meaning c.count_one.new.draft)) ∙ ap length mean)
          (subst (λ n. 2 ^ n < 2 * c.loop-item.number) (sym same) c.loop-item.invariant.tight);
      keeps = Keeps-trans c.loop-item.invariant.keeps added.keeps;
    }
