use Rattle.std.proofs.Common.{◌≡◌, ℕ, ◌<◌, true, Option, Some, None, IfSome, IfNone, length, slice_index, sym, ◌∙◌, subst, arith}
use Rattle.std.proofs.lemmas.List.{get_or_read}
use Rattle.diagrams.specs.Cofactors.{Same}
use Rattle.diagrams.specs.Decisions.{value}
use Rattle.wide_audit.specs.FirstWrong.{IsFirstWrong}
use Rattle.wide_audit.proofs.Earlier.{least_same}
use Rattle.wide_audit.proofs.wrong.first_wrong.Goals as goal

none_weaker : {A : Type 0} (found : Option A) (P Q : Type 0) → (P → Q) → IfNone found P → IfNone found Q
none_weaker None P Q f p = f p
none_weaker (Some a) P Q f p = tt

some_weaker : {A : Type 0} (found : Option A) (P Q : A → Type 0) → ((a : A) → P a → Q a) → IfSome found P → IfSome found Q
some_weaker None P Q f p = tt
some_weaker (Some a) P Q f p = f a p

pub loop-place-preserved : goal.loop-place-preserved
loop-place-preserved c = λ rails differs word outputs.
    let state = c.args.diagrams.now in
    let rows = c.args.rows.now.outputs.items in
    let place = c.loop-place.place in
    let below : place < length rows = omega (arith, c.loop-place-test.true, c.len-place-end.ensures) in
    let at : c.index.result.now ≡ slice_index rows place = get_or_read rows _ _ below c.index.ensures 0 in
    let same : Same state.inputs (value state.rows c.index.result.now) (differs place) = subst (λ (k : ℕ). Same state.inputs (value state.rows k) (differs place)) (sym at) (outputs place below).is in
    c.earlier-found.ensures.first state.inputs rails differs (c.loop-place.invariant rails differs word outputs)
    (none_weaker c.in_ok-least.least _ _ (λ never x sized. sym (same.at x sized) ∙ never x sized) c.in_ok-least.ensures.none)
    (some_weaker c.in_ok-least.least _ _ (λ bits least. least_same state.inputs _ (differs place) true bits.items same least) c.in_ok-least.ensures.least)

pub returns : goal.returns
returns c = record {
  first = λ rails differs word outputs.
      let state = c.args.diagrams.now in
      let all : c.loop-place.place ≡ length c.args.rows.now.outputs.items = omega (arith, c.len-place-end.ensures, c.loop-place.auto.place-end, c.loop-place-test.false) in
      subst (λ (n : ℕ). IsFirstWrong state.inputs rails differs n c.loop-place.found) all (c.loop-place.invariant rails differs word outputs);
}
