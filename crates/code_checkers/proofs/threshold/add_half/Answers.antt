use Rattle.std.proofs.Common.{◌<◌, ◌≡◌, ◌∙◌, ℕ, List, true, drop, sym, ap, subst, length}
use Rattle.code_checkers.specs.Signal.{chain}
use Rattle.code_checkers.specs.Signal.Signal.{Or}
use Rattle.code_checkers.specs.Threshold.{every_second}
use Rattle.code_checkers.specs.Draft.{AreWithin, meanings}
use Rattle.code_checkers.proofs.Halves.{half_some, half_within, half_meanings}
use Rattle.code_checkers.proofs.threshold.add_half.Goals as goal

pub chain-requires-clause-some : goal.chain-requires-clause-some
chain-requires-clause-some c =
    let e : c.deref.result.now ≡ every_second true (drop c.args.start c.args.terms.now) = c.deref.ensures.value ∙ c.in_ok-half.ensures.half in
    subst (λ (places : List ℕ). 0 < length places) (sym e) (half_some c.args.start c.args.terms.now c.requires.start)

pub chain-requires-clause-within : goal.chain-requires-clause-within
chain-requires-clause-within c =
    let e : c.deref.result.now ≡ every_second true (drop c.args.start c.args.terms.now) = c.deref.ensures.value ∙ c.in_ok-half.ensures.half in
    subst (AreWithin c.args.draft.now) (sym e) (half_within c.args.draft.now c.args.start c.args.terms.now c.requires.terms)

pub returns : goal.returns
returns c =
    let e : c.deref.result.now ≡ every_second true (drop c.args.start c.args.terms.now) = c.deref.ensures.value ∙ c.in_ok-half.ensures.half in
    let added = c.in_ok-made.ensures.added in
    record {
      added = record {
        means = added.means ∙ ap (λ (places : List ℕ). chain Or (meanings c.args.draft.now places)) e ∙ ap (chain Or) (half_meanings c.args.draft.now c.args.start c.args.terms.now);
        within = added.within;
        keeps = added.keeps;
      };
    }
