use Rattle.std.proofs.Common.{ℕ, List, [], ◌∷◌, ◌++◌, cond, take, filter, ap, sym, ◌∙◌}
use Rattle.std.specs.List.{range_with_len}
use Rattle.state_code.specs.Words.{has_weight}
use Rattle.state_code.proofs.Weights.{filter-next}
use Rattle.state_code.proofs.words.first_words.Goals as goal

pub loop-word-preserved : goal.loop-word-preserved
loop-word-preserved c =
    let before = c.loop-word.invariant in
    let word = c.loop-word.word in
    let states = c.args.states in
    let test = has_weight c.args.n c.args.m in
    let firsts : List ℕ = filter test (range_with_len 0 word) in
    record {
      width = c.in_ok-add_word.ensures.width ∙ before.width;
      words = c.in_ok-add_word.ensures.words firsts before.words
          ∙ ap (λ (n : ℕ). take states (firsts ++ cond (has_weight n c.args.m word) (word ∷ []) [])) before.width
          ∙ ap (take states) (sym (filter-next test word));
    }
