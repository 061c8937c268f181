use Rattle.std.proofs.Common.{◌≡◌, ◌-◌, true, false, [], length, get_or, arith, ap, sym, subst, ◌∙◌}
use Rattle.std.specs.Option.{is_some}
use Rattle.tsc_net.specs.Names.{find_text, with_text}
use Rattle.blif_read.specs.PlanFault.{is_none}
use Rattle.blif_read.proofs.RuleWalk.{name_repeated, name_new}
use Rattle.blif_read.proofs.register_rules.are_distinct.Goals as goal

pub returns-then-is_some : goal.returns-then-is_some
returns-then-is_some c =
    let words = c.args.line.now.words in
    let f : is_some (find_text c.loop-place.table (get_or words c.loop-place.place [])) ≡ true =
    subst (λ word. is_some (find_text c.loop-place.table word) ≡ true) c.word-name.ensures.word (sym (ap is_some c.find.ensures.found) ∙ (sym c.is_some.ensures ∙ c.if-is_some.true)) in
    record { distinct = sym (ap is_none (c.loop-place.invariant ∙ name_repeated c.loop-place.table words c.loop-place.place (length words - 1) (omega arith) (omega arith) f)) }

pub loop-place-preserved : goal.loop-place-preserved
loop-place-preserved c =
    let words = c.args.line.now.words in
    let f : is_some (find_text c.loop-place.table (get_or words c.loop-place.place [])) ≡ false =
    subst (λ word. is_some (find_text c.loop-place.table word) ≡ false) c.word-name.ensures.word (sym (ap is_some c.find.ensures.found) ∙ (sym c.is_some.ensures ∙ c.if-is_some.false)) in
    c.loop-place.invariant
    ∙ name_new c.loop-place.table words c.loop-place.place (length words - 1) (omega arith) (omega arith) c.add.new.self f (c.in_ok-add.ensures.ok ∙ ap (with_text c.loop-place.table) c.word-name.ensures.word)
