use Rattle.std.proofs.Common.{◌≡◌, ℕ, zero, suc, ◌+◌, List, [], ◌∷◌, ◌++◌, ap, ap₂, ◌∙◌, sym, arith}
use Rattle.std.specs.List.{range_with_len}
use Rattle.std.proofs.lemmas.List.{map_push}
use Rattle.tsc_net.specs.PlanView.{net_numbers}
use Rattle.tsc_net.specs.declared.ids.NetId.{NetId}
use Rattle.fault_lanes.proofs.ready.pin_places.Goals as goal

range_push : (a n j : ℕ) → a + n ≡ j → range_with_len a (suc n) ≡ range_with_len a n ++ j ∷ []
range_push a zero j e = let same : a ≡ j = omega arith in ap (λ k. k ∷ []) same
range_push a (suc n) j e = ap (λ l. a ∷ l) (range_push (a + 1) n j (omega arith))

pub loop-number-preserved : goal.loop-number-preserved
loop-number-preserved c =
    let number = c.loop-number.number in
    let next : number + 1 ≡ suc number = omega arith in
    ap net_numbers c.in_ok-push.ensures.items
    ∙ map_push (λ (net : NetId). net.number) c.loop-number.places.items (record { number = number })
    ∙ ap (λ l. l ++ number ∷ []) c.loop-number.invariant
    ∙ sym (ap (range_with_len 0) next ∙ range_push 0 number number (omega arith))
