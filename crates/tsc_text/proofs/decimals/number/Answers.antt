use Rattle.std.proofs.Common.{◌≡◌, ◌∙◌, Some, None, rules, arith, ap, sym, drop, get_or, length, ◌+◌, ◌<◌}
use Rattle.std.proofs.lemmas.List.{drop_more, drop_all}
use Rattle.std.proofs.lemmas.Bool.Decides.{nat_tests}
use Rattle.tsc_text.specs.Number.{value_with}
use Rattle.tsc_text.proofs.Digits.{number_from, number_from-digit, number_from-end, number_from-none, number_of-from, value_with-below}
use Rattle.tsc_text.proofs.decimals.number.Goals as goal

pub returns-in_err-value : goal.returns-in_err-value
returns-in_err-value c =
    let word = c.args.word.now in
    let i = c.loop-byte.byte-index in
    let below : i < length word = omega arith in
    let none : None ≡ value_with c.loop-byte.value (get_or word i 0) = search rules in
    let fails : c.from_residual.result ≡ None = search rules in
    let rest = ap (number_from c.loop-byte.value) (drop_more word i 0 below) in
    record { number = fails ∙ sym (number_from-none c.loop-byte.value (get_or word i 0) (drop (i + 1) word) none) ∙ sym rest ∙ c.loop-byte.invariant.0 ∙ sym (number_of-from word (omega arith) (omega arith)) }

pub loop-byte-preserved : goal.loop-byte-preserved
loop-byte-preserved c =
    let word = c.args.word.now in
    let i = c.loop-byte.byte-index in
    let below : i < length word = omega arith in
    let some : Some c.in_ok-value.value ≡ value_with c.loop-byte.value (get_or word i 0) = search rules in
    let rest = ap (number_from c.loop-byte.value) (drop_more word i 0 below) in
    (sym (number_from-digit c.loop-byte.value (get_or word i 0) (drop (i + 1) word) c.in_ok-value.value some) ∙ sym rest ∙ c.loop-byte.invariant.0, value_with-below c.loop-byte.value (get_or word i 0) c.in_ok-value.value some)

pub returns : goal.returns
returns c =
    let word = c.args.word.now in
    let some : 0 < length word = grind (arith, nat_tests) in
    let e = ap (number_from c.loop-byte.value) (drop_all c.loop-byte.byte-index word (omega arith)) in
    record { number = sym (number_from-end c.loop-byte.value c.loop-byte.invariant.1) ∙ sym e ∙ c.loop-byte.invariant.0 ∙ sym (number_of-from word some (omega arith)) }
