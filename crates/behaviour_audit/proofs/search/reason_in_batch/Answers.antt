use Rattle.std.proofs.Common.{◌≡◌, ◌+◌, ◌*◌, ◌-◌, true, false, min, arith, rules}
use Rattle.std.specs.Option.{is_some}
use Rattle.behaviour_audit.proofs.SearchLemmas.{found_in_word, none_in_words}
use Rattle.behaviour_audit.proofs.search.reason_in_batch.Goals as goal

pub returns-then-is_some-clause-first : goal.returns-then-is_some-clause-first
returns-then-is_some-clause-first c =
    let word = c.loop-word.word in
    let some : is_some c.reason_in_word-found.result ≡ true = search rules in
    found_in_word c.args.condition c.args.audited.now c.args.first c.args.past (c.args.first + word * 64)
    (c.args.first + min (word * 64 + 64) (c.args.past - c.args.first)) c.reason_in_word-found.result some (omega arith) (omega arith) c.reason_in_word-found.ensures.first c.loop-word.invariant.none

pub loop-word-preserved : goal.loop-word-preserved
loop-word-preserved c =
    let word = c.loop-word.word in
    let none : is_some c.reason_in_word-found.result ≡ false = search rules in
    record {
      room = c.reason_in_word-found.ensures.room;
      none = none_in_words c.args.condition c.args.audited.now c.args.first c.args.past word c.reason_in_word-found.result none
          c.reason_in_word-found.ensures.first c.loop-word.invariant.none;
    }

pub returns-clause-first : goal.returns-clause-first
returns-clause-first c = λ p low high. c.loop-word.invariant.none p low (omega arith) high
