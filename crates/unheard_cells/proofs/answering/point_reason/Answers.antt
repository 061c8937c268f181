use Rattle.std.proofs.Common.{◌≡◌, ℕ, List, length, ◌*◌, ◌^◌, ap, ap₂, ◌∙◌, subst}
use Rattle.tsc_net.proofs.NetNumbers.{numbers_counted}
use Rattle.unheard_cells.specs.There.{watched_nets}
use Rattle.fault_secure.specs.Exposing.{point_count}
use Rattle.unheard_cells.specs.Trial.{IsFirstAnswer}
use Rattle.unheard_cells.proofs.AnswerLemmas.{answer_of}
use Rattle.unheard_cells.proofs.answering.point_reason.Goals as goal

pub returns : goal.returns
returns c =
    let N = c.args.net.now.circuit in
    let P = c.args.plan.now in
    let count : c.listed_states.result * c.width_of.result ≡ point_count N P
    = ap₂ (λ (a b : ℕ). a * b) c.listed_states.ensures.states (c.width_of.ensures.width ∙ ap (λ (n : ℕ). 2 ^ n) c.inputs.ensures.count) in
    record { answer = answer_of N P c.first_reason-found.result (subst (λ (n : ℕ). IsFirstAnswer N P 0 n c.first_reason-found.result) count c.first_reason-found.ensures.first) }

pub first_reason-found-requires-clause-right : goal.first_reason-found-requires-clause-right
first_reason-found-requires-clause-right c =
    let counted = numbers_counted c.in_ok-watch.watch (watched_nets c.args.net.now.circuit c.args.plan.now) c.in_ok-watch.ensures.watched in
    ap (λ (lanes : List ℕ). length lanes) c.deref_mut.ensures.value ∙ c.in_ok-right.ensures.sized ∙ ap (λ (n : ℕ). n * 16) (c.len.ensures.count ∙ counted)

pub first_reason-found-requires-clause-wrong : goal.first_reason-found-requires-clause-wrong
first_reason-found-requires-clause-wrong c =
    let counted = numbers_counted c.in_ok-watch.watch (watched_nets c.args.net.now.circuit c.args.plan.now) c.in_ok-watch.ensures.watched in
    ap (λ (lanes : List ℕ). length lanes) c.deref_mut-2.ensures.value ∙ c.in_ok-wrong.ensures.sized ∙ ap (λ (n : ℕ). n * 16) (c.len-2.ensures.count ∙ counted)
