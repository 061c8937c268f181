use Rattle.std.proofs.Common.{ℕ, ◌*◌, ◌<◌, length, All, sym, subst, ap, length-set, arith}
use Rattle.std.proofs.lemmas.Grind.{common_steps}
use Rattle.std.proofs.lemmas.List.{length-replicate}
use Rattle.std.proofs.lemmas.List.Elements.{All-set, All-replicate}
use Rattle.diagrams.specs.Building.{IsRight, no_memo}
use Rattle.diagrams.proofs.Sound.{no_memo_is_right}
use Rattle.diagrams.proofs.diagrams.widened.Goals as goal

pub loop-memo-init : goal.loop-memo-init
loop-memo-init c =
    let blank = c.in_ok-wider.ensures.items_if_clones_equal (λ y clone. first_of (cc, grind (arith, common_steps))) in
    record {
      some = omega (arith, c.requires.some, ap length blank, length-replicate (2 * length c.args.memos.now) no_memo);
      right = λ state D all. subst (All (IsRight state.inputs state.rows)) (sym blank)
          (All-replicate (IsRight state.inputs state.rows) _ no_memo (no_memo_is_right state.inputs state.rows D));
    }

pub loop-memo-preserved : goal.loop-memo-preserved
loop-memo-preserved c = record {
  some = subst (λ (n : ℕ). 0 < n) (sym (length-set c.loop-memo.wider.items c.place-there.result _)) c.loop-memo.invariant.some;
  right = λ state D all. All-set (IsRight state.inputs state.rows) c.loop-memo.wider.items c.place-there.result _
      (all c.loop-memo.memo-index _ c.loop-memo-test.true) (c.loop-memo.invariant.right state D all);
}
