use Rattle.std.proofs.Common.{◌≡◌, ℕ, Option, Some, None, MatchOption, length, ap, subst, sym, ◌∙◌, arith}
use Rattle.std.proofs.lemmas.List.{length-map}
use Rattle.tsc_net.specs.declared.ids.NetId.{NetId}
use Rattle.checker_audit.specs.Misjudged.{monitored_count}
use Rattle.checker_audit.proofs.TriedValues.{all_judged, tried_first}
use Rattle.checker_audit.proofs.reason.by_values.Goals as goal

none_says : (o : Option ℕ) (A : Type 0) (B : ℕ → Type 0) → o ≡ None → MatchOption o A B → A
none_says None A B is here = here
none_says (Some x) A B is here = cc

pub returns-in-None : goal.returns-in-None
returns-in-None c =
    let count : length c.args.distinct.now ≡ monitored_count c.args.net.now.circuit c.args.plan.now = sym (length-map c.args.distinct.now (λ (net : NetId). net.number)) ∙ ap length c.requires.distinct in
    record {
      answer = (
        λ few. all_judged c.args.net.now.circuit c.args.plan.now c.order-order.ensures.acyclic c.requires.rails c.requires.reads (none_says c.in_ok-first_misjudged.field-0 _ _ c.in-None.is c.in_ok-first_misjudged.ensures.answer),
        λ many. absurd (omega (arith, count, c.requires.few)),
      );
    }

some_says : (o : Option ℕ) (value : ℕ) (A : Type 0) (B : ℕ → Type 0) → o ≡ Some value → MatchOption o A B → B value
some_says None value A B is here = cc
some_says (Some x) value A B is here = let same : x ≡ value = cc in subst B same here

pub returns : goal.returns
returns c =
    let count : length c.args.distinct.now ≡ monitored_count c.args.net.now.circuit c.args.plan.now = sym (length-map c.args.distinct.now (λ (net : NetId). net.number)) ∙ ap length c.requires.distinct in
    record {
      answer = (
        omega (arith, count, c.requires.few),
        count,
        tried_first c.args.net.now.circuit c.args.plan.now c.order-order.ensures.acyclic c.requires.rails c.requires.reads c.in-Some.value
            (some_says c.in_ok-first_misjudged.field-0 c.in-Some.value _ _ c.in-Some.is c.in_ok-first_misjudged.ensures.answer),
      );
    }
