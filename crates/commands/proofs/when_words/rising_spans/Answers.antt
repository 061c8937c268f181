use Rattle.std.proofs.Common.{◌≡◌, ◌==◌, ◌++◌, ◌≤◌, ◌∙◌, [], ◌∷◌, List, Some, ap, arith, drop, length, rules, subst, sym, tests}
use Rattle.std.specs.List.{slice_split}
use Rattle.std.proofs.lemmas.Iterator.Consumers.{YieldsList-turn, YieldsList-end}
use Rattle.std.proofs.lemmas.Iterator.Splits.{YieldsList-from_slice_split}
use Rattle.std.proofs.lemmas.List.{length_push}
use Rattle.tsc_net.specs.declared.when.Span.{Span}
use Rattle.commands.proofs.WhenLemmas.{AreUpTo, all-below, spans_with, up-to-next, with-end, with-next, with-no-next}
use Rattle.commands.proofs.when_words.rising_spans.Goals as goal

pub returns-in_default : goal.returns-in_default
returns-in_default c =
    let items = slice_split (λ b. b == 44) c.args.word.now in
    let t = YieldsList-turn (YieldsList-from_slice_split _ (λ b. b == 44) c.args.word.now (cc) (cc) (cc) (λ x q k. search (rules, tests))) c.loop-item.yielded _ c.loop-item.yielded_by _ _ c.in-Some.item c.in-Some.is c.next.ensures.steps in
    record {
      when =
          sym (with-no-next c.loop-item.when c.loop-item.last items (length c.loop-item.yielded) c.in-Some.item.now t.0 t.1 (sym c.next_span.ensures.span ∙ c.in_default.is))
          ∙ c.loop-item.invariant.reading;
    }

pub loop-item-preserved : goal.loop-item-preserved
loop-item-preserved c =
    let items = slice_split (λ b. b == 44) c.args.word.now in
    let when = c.loop-item.when in
    let s = c.in-Some-next_span.span in
    let made : c.push.new.self ≡ when ++ s ∷ [] = c.in_ok-push.ensures.ok in
    let t = YieldsList-turn (YieldsList-from_slice_split _ (λ b. b == 44) c.args.word.now (cc) (cc) (cc) (λ x q k. search (rules, tests))) c.loop-item.yielded _ c.loop-item.yielded_by _ _ c.in-Some.item c.in-Some.is c.next.ensures.steps in
    let P : List Span → Type 0 = λ w. AreUpTo w (Some s.last) in
    record {
      reading =
          ap (λ w. spans_with w (Some s.last) (drop (length (c.loop-item.yielded ++ c.in-Some.item ∷ [])) items)) made
          ∙ ap (λ n. spans_with (when ++ s ∷ []) (Some s.last) (drop n items)) (length_push c.loop-item.yielded c.in-Some.item)
          ∙ with-next when c.loop-item.last items (length c.loop-item.yielded) c.in-Some.item.now s t.0 t.1 (sym c.next_span.ensures.span ∙ c.in-Some-next_span.is)
          ∙ c.loop-item.invariant.reading;
      up_to = subst P (sym made) (up-to-next when s (all-below when c.loop-item.last s c.loop-item.invariant.up_to c.in-Some-next_span.ensures.above) c.in-Some-next_span.ensures.ordered);
    }

pub returns : goal.returns
returns c =
    let items = slice_split (λ b. b == 44) c.args.word.now in
    let t = YieldsList-end (YieldsList-from_slice_split _ (λ b. b == 44) c.args.word.now (cc) (cc) (cc) (λ x q k. search (rules, tests))) c.loop-item.yielded _ c.loop-item.yielded_by _ _ c.in-None.is c.next.ensures.steps in
    let past : length items ≤ length c.loop-item.yielded = omega (arith, t.1) in
    record { when = sym (with-end c.loop-item.when c.loop-item.last items (length c.loop-item.yielded) past) ∙ c.loop-item.invariant.reading }
