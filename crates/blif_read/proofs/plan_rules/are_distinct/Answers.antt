use Rattle.std.proofs.Common.{drop, ◌≡◌, ◌+◌, ◌∷◌, true, false, arith, ap, sym, ◌∙◌, rules}
use Rattle.std.specs.Option.{is_some}
use Rattle.tsc_net.specs.Names.{find_text}
use Rattle.tsc_net.specs.NetFault.{repeat_after}
use Rattle.tsc_text.specs.TextLine.{TextLine, the_word}
use Rattle.blif_read.specs.PlanFault.{is_none}
use Rattle.blif_read.specs.PlanText.{kind_in_plan, state_words}
use Rattle.blif_read.proofs.RuleWalk.{repeated, new_word, state_here, state_not}
use Rattle.blif_read.proofs.plan_rules.are_distinct.Goals as goal
use Rattle.blif_read.proofs.plan_rules.are_distinct.Goals.{in-StateLine+else-is_some+in_ok-add, in_default}

pub returns-then-is_some : goal.returns-then-is_some
returns-then-is_some c =
    let rest = state_words (drop (c.loop-place.place + 1) c.args.section.now) in
    let word = c.word_or_empty-word.result.now in
    let e : state_words (drop c.loop-place.place c.args.section.now) ≡ word ∷ rest =
    state_here c.args.section.now c.loop-place.place (omega arith) (c.in-StateLine.ensures.kind ∙ ap kind_in_plan c.line-line.ensures.line)
    ∙ ap (λ x. x ∷ rest) (sym (c.word_or_empty-word.ensures.word ∙ ap (λ (line : TextLine). the_word line 1) c.line-line.ensures.line)) in
    let f : is_some (find_text c.loop-place.table word) ≡ true = sym (ap is_some c.find.ensures.found) ∙ (sym c.is_some.ensures ∙ c.if-is_some.true) in
    record { distinct = sym (ap is_none (c.loop-place.invariant ∙ repeated c.loop-place.table (state_words (drop c.loop-place.place c.args.section.now)) word rest e f)) }

pub loop-place-preserved : goal.loop-place-preserved
loop-place-preserved c =
    elim c.match-kind_in_plan.branch [
      | in-StateLine+else-is_some+in_ok-add w ↦
          (let rest = state_words (drop (c.loop-place.place + 1) c.args.section.now) in
          let word = w.word_or_empty-word.result.now in
          let e : state_words (drop c.loop-place.place c.args.section.now) ≡ word ∷ rest =
          state_here c.args.section.now c.loop-place.place (omega arith) (w.in-StateLine.ensures.kind ∙ ap kind_in_plan c.line-line.ensures.line)
          ∙ ap (λ x. x ∷ rest) (sym (w.word_or_empty-word.ensures.word ∙ ap (λ (line : TextLine). the_word line 1) c.line-line.ensures.line)) in
          let f : is_some (find_text c.loop-place.table word) ≡ false = sym (ap is_some w.find.ensures.found) ∙ (sym w.is_some.ensures ∙ w.if-is_some.false) in
          c.loop-place.invariant ∙ new_word c.loop-place.table c.match-kind_in_plan.table (state_words (drop c.loop-place.place c.args.section.now)) word rest e f
          (w.table-is ∙ w.in_ok-add.ensures.ok))
      | in_default w ↦
          (let rest = state_words (drop (c.loop-place.place + 1) c.args.section.now) in
          c.loop-place.invariant ∙ (ap (λ l. repeat_after c.loop-place.table l) (state_not c.args.section.now c.loop-place.place (omega arith) (search rules))
          ∙ ap (λ t. repeat_after t rest) (sym w.table-is)))
    ]
