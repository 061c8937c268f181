use Rattle.std.proofs.Common.{◌^◌, ◌∙◌, List, ap, length}
use Rattle.std.specs.Prelude.{◌==◌}
use Rattle.code_checkers.specs.Signal.Signal.{Not}
use Rattle.code_checkers.specs.Signal.{Signal}
use Rattle.code_checkers.specs.Counter.{add_carry}
use Rattle.code_checkers.specs.Gates.{meaning}
use Rattle.code_checkers.specs.Draft.{meanings}
use Rattle.tsc_bits.proofs.Counting.{shifted}
use Rattle.code_checkers.proofs.Kept.{Keeps-trans, meanings_kept}
use Rattle.code_checkers.proofs.counter.count_one.Goals as goal

pub returns : goal.returns
returns c =
    let n = length c.args.bits.now in
    let added = c.in_ok-next.ensures.added in
    let carry = c.in_ok-carry.ensures.added in
    record {
      added = record {
        mean =
            added.mean
            ∙ ap (λ k. add_carry (c.args.number == k) (meaning c.add.new.self c.in_ok-carry.carry) (meanings c.add.new.self c.args.bits.now)) (shifted n c.requires.small)
            ∙ ap (λ s. add_carry (c.args.number == 2 ^ n) s (meanings c.add.new.self c.args.bits.now)) carry.means
            ∙ ap (λ (ss : List Signal). add_carry (c.args.number == 2 ^ n) (Not (meaning c.args.draft.now c.args.item)) ss) (meanings_kept carry.keeps c.args.bits.now c.requires.bits);
        within = added.within;
        keeps = Keeps-trans carry.keeps added.keeps;
      };
    }
