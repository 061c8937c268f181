use Rattle.std.proofs.Common.{◌≡◌, ℕ, ◌∷◌, List, length, set, take, sym, ap, ◌∙◌, arith}
use Rattle.std.proofs.lemmas.Bool.{eqb-true}
use Rattle.sim_text.proofs.LineLemmas.{word_of_none, width_of_none}
use Rattle.sim_text.proofs.WordLemmas.{blank_first, none_written}
use Rattle.sim_text.proofs.latch_word.put_word.Goals as goal

pub put_digits-requires-clause-blank : goal.put_digits-requires-clause-blank
put_digits-requires-clause-blank c = ap (take 1) c.replace.ensures.changed ∙ blank_first c.args.word.now (omega (arith, c.requires.room))

pub returns-then-is_empty : goal.returns-then-is_empty
returns-then-is_empty c =
    let none = eqb-true (length c.args.bits.now) 0 (sym c.is_empty.ensures ∙ c.if-is_empty.true) in
    let two : length c.args.word.now ≡ 2 = omega (arith, c.requires.room, width_of_none c.args.bits.now none) in
    record {
      word = c.replace-then-is_empty.ensures.changed
          ∙ (ap (λ (list : List ℕ). set list 1 46) c.replace.ensures.changed ∙ (none_written c.args.word.now two ∙ ap (λ (word : List ℕ). 32 ∷ word) (sym (word_of_none c.args.bits.now none))));
    }
