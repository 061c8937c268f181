use Rattle.std.proofs.Common.{ℕ, ◌+◌, Bool, [], length, sym, ap, subst, arith}
use Rattle.std.proofs.lemmas.List.Elements.{All-from_recursion}
use Rattle.tsc_bits.specs.Bits.{bits_of}
use Rattle.gate_net.specs.Gates.{IsLine, AreLines, line_values}
use Rattle.std.proofs.lemmas.List.{length_push}
use Rattle.state_code.specs.Lines.{foreign_to_decode, has_ones}
use Rattle.state_code.proofs.Without.{without_none, without_twice}
use Rattle.state_code.proofs.Decoded.{word_pushed, words_done, times_more}
use Rattle.state_code.proofs.decoding.word_lines.Goals as goal

pub returns-in_err-line-clause-grown : goal.returns-in_err-line-clause-grown
returns-in_err-line-clause-grown c = without_twice foreign_to_decode c.args.gates.now c.loop-word.gates c.word_line.new.gates c.loop-word.invariant.grown c.in_err-line.ensures.grown

pub returns-in_err-push-clause-grown : goal.returns-in_err-push-clause-grown
returns-in_err-push-clause-grown c = without_twice foreign_to_decode c.args.gates.now c.loop-word.gates c.word_line.new.gates c.loop-word.invariant.grown c.in_ok-line.ensures.grown

pub loop-word-preserved : goal.loop-word-preserved
loop-word-preserved c =
    let before = c.loop-word.invariant in
    let pushed = word_pushed c.args.gates.now c.loop-word.gates c.word_line.new.gates c.args.bits.now c.loop-word.lines c.push.new.self c.args.words.now c.loop-word.word-index 0 c.in_ok-line.line
    before.grown.grows c.requires.bits before.within c.loop-word-test.true before.values c.in_ok-line.ensures.computes c.in_ok-push.ensures.ok in
    record {
      values = pushed.values;
      within = pushed.within;
      count = grind (arith, c.in_ok-push.ensures.ok, before.count, length_push);
      grown = without_twice foreign_to_decode c.args.gates.now c.loop-word.gates c.word_line.new.gates before.grown c.in_ok-line.ensures.grown;
      few = omega (arith, before.few, c.in_ok-line.ensures.few, times_more c.loop-word.word-index (length c.args.bits.now + 1));
    }

pub loop-word-init : goal.loop-word-init
loop-word-init c =
    let start = c.args.gates.now in
    record {
      values = λ x s. ap (line_values start x s) c.new-lines.ensures.empty;
      within = subst (AreLines start) (sym c.new-lines.ensures.empty) (All-from_recursion (IsLine start) [] tt);
      count = ap length c.new-lines.ensures.empty;
      grown = without_none foreign_to_decode start;
      few = omega arith;
    }

pub returns-clause-lines : goal.returns-clause-lines
returns-clause-lines c =
    let start = c.args.gates.now in
    let loop = c.loop-word.invariant in
    words_done start c.loop-word.gates (λ (x s : ℕ → Bool) (word : ℕ). has_ones (bits_of (length c.args.bits.now) word) (line_values start x s c.args.bits.now)) c.loop-word.lines c.args.words.now c.loop-word.word-index
    loop.grown.grows loop.within c.loop-word-test.false loop.values
