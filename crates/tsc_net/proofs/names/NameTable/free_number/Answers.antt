-- A taken number is passed over; where the search ends the number is free.
use Rattle.std.proofs.Common.{◌≡◌, ◌+◌, ◌-◌, ◌≤◌, sym, ap, ◌∙◌, suc, length, arith}
use Rattle.tsc_net.specs.Parts.{free_number_under, free_number_under_from, is_taken_under}
use Rattle.tsc_net.proofs.FreshLemmas.{free_number-next}
use Rattle.tsc_net.proofs.FreshNumbers.{free-isnt-taken-under}
use Rattle.tsc_net.proofs.names.NameTable.free_number.Goals as goal

pub loop-number-preserved : goal.loop-number-preserved
loop-number-preserved c =
    let names = c.args.self.now in
    let number = c.loop-number.number in
    let step : length names - number ≡ suc (length names - (number + 1)) = omega arith in
    sym (free_number-next c.args.letter names (length names - number) (length names - (number + 1)) number step (sym c.in_ok-is_taken.ensures.taken ∙ c.if-not-branch.false))
    ∙ c.loop-number.invariant

pub returns-clause-free : goal.returns-clause-free
returns-clause-free c =
    let names = c.args.self.now in
    let n = c.loop-number.number in
    let known = c.len-number-end.ensures.count in
    let past : length names ≤ n = (let test = c.loop-number-test.false in omega arith) in
    let none : length names - n ≡ 0 = omega arith in
    let ends : n ≡ free_number_under c.args.letter names = ap (λ tries. free_number_under_from c.args.letter names tries n) (sym none) ∙ c.loop-number.invariant in
    let same : c.len.result ≡ n = (let counted = c.len.ensures.count in let most = c.loop-number.auto.number-end in omega arith) in
    ap (is_taken_under c.args.letter names) (same ∙ ends) ∙ free-isnt-taken-under c.args.letter names c.requires.room
