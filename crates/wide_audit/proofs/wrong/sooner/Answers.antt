use Rattle.std.proofs.Common.{◌≡◌, Bool, List, length, sym, ap, ◌∙◌, subst}
use Rattle.diagrams.specs.Least.{IsUpTo}
use Rattle.wide_audit.proofs.Earlier.{kept_point, earlier_point}
use Rattle.wide_audit.proofs.wrong.sooner.Goals as goal

-- the order of two lists is that of two equal ones
moved : (x y a b : List Bool) → x ≡ a → y ≡ b → IsUpTo x y → IsUpTo a b
moved x y a b e f up = subst (λ (z : List Bool). IsUpTo a z) f (subst (λ (z : List Bool). IsUpTo z y) e up)

pub returns-then-is_before : goal.returns-then-is_before
returns-then-is_before c = record {
  first = λ inputs rails differs point least.
      let e = c.deref.ensures.value in
      let f = c.deref-2.ensures.value in
      let sized : length c.deref.result.now ≡ length c.deref-2.result.now = ap length e ∙ (least.sized ∙ (sym point.sized ∙ sym (ap length f))) in
      earlier_point inputs rails differs c.args.place c.args.point.input.items c.args.input.items c.args.point.output point least
      (moved _ _ _ _ e f (c.is_before.ensures.before sized c.if-is_before.true))
      (λ up. c.is_before.ensures.strictly sized c.if-is_before.true (moved _ _ _ _ (sym f) (sym e) up));
}

pub returns-else-is_before : goal.returns-else-is_before
returns-else-is_before c = record {
  first = λ inputs rails differs point least.
      let e = c.deref.ensures.value in
      let f = c.deref-2.ensures.value in
      let sized : length c.deref.result.now ≡ length c.deref-2.result.now = ap length e ∙ (least.sized ∙ (sym point.sized ∙ sym (ap length f))) in
      kept_point inputs rails differs c.args.place c.args.point.input.items c.args.input.items c.args.point.output point least
      (moved _ _ _ _ f e (c.is_before.ensures.otherwise sized c.if-is_before.false));
}
