use Rattle.std.proofs.Common.{◌≡◌, ℕ, ◌+◌, Option, List, None, Some, slice_index_or, slice_get, sym, ap, ◌∙◌, subst}
use Rattle.std.proofs.lemmas.Option.{get_or_from_slice_get}
use Rattle.fault_secure.specs.StuckAt.{StuckAt, NoFault}
use Rattle.fault_secure.specs.Listed.{listed_faults}
use Rattle.structure_laws.proofs.FaultList.{holds_the_listed}
use Rattle.tsc_net.specs.Fault.{stuck_at}
use Rattle.vectors.specs.Vectors.{ExposesAt}
use Rattle.lane_sim.specs.First.{IsFirstIn}
use Rattle.vectors.specs.Trial.{bit_held, held_bit, AreFirst, IsFirstPlace}
use Rattle.vectors.proofs.PlaceLemmas.{found_more, next_bound, other_bits, passed_over, same_bits}
use Rattle.vectors.proofs.search.try_fault.Goals as goal

pub place_of-place-requires-clause-fault : goal.place_of-place-requires-clause-fault
place_of-place-requires-clause-fault c =
    let N = c.args.net.now.circuit in
    let f = stuck_at c.get-fault.result in
    let number = c.args.number in
    let at = subst (λ (faults : List StuckAt). slice_get faults number ≡ Some f) c.requires.faults c.get-fault.ensures.found in
    (holds_the_listed N f).0 (number, c.requires.number, get_or_from_slice_get (listed_faults N) number f f at)

pub place_of-place-requires-clause-found : goal.place_of-place-requires-clause-found
place_of-place-requires-clause-found c =
    let N = c.args.net.now.circuit in
    let P = c.args.plan.now in
    let f = stuck_at c.get-fault.result in
    let number = c.args.number in
    let at = subst (λ (faults : List StuckAt). slice_get faults number ≡ Some f) c.requires.faults c.get-fault.ensures.found in
    let is = get_or_from_slice_get (listed_faults N) number f NoFault at in
    let holds : bit_held N number ≡ c.args.held = ap held_bit is ∙ (sym c.held_bit.ensures.bit ∙ same_bits c.held_bit.result c.args.held c.if-held_bit-held.false) in
    let there : Option ℕ = slice_index_or c.args.places.now number None in
    subst (λ (place : Option ℕ). IsFirstIn (ExposesAt N P f) 0 c.args.first place) (sym c.get-found.ensures.place)
    (subst (λ (g : StuckAt). IsFirstIn (ExposesAt N P g) 0 c.args.first there) is
    (subst (λ (n : ℕ). IsFirstPlace N P number n there) (next_bound N P c.args.held number c.args.past c.args.first holds) (c.requires.found.each number c.requires.number)))

pub returns-then-held_bit-held-clause-found : goal.returns-then-held_bit-held-clause-found
returns-then-held_bit-held-clause-found c =
    let N = c.args.net.now.circuit in
    let f = stuck_at c.get-fault.result in
    let number = c.args.number in
    let at = subst (λ (faults : List StuckAt). slice_get faults number ≡ Some f) c.requires.faults c.get-fault.ensures.found in
    let is = get_or_from_slice_get (listed_faults N) number f NoFault at in
    passed_over N c.args.plan.now c.args.held number c.args.past c.args.first c.args.places.now
    (λ e. other_bits c.held_bit.result c.args.held c.if-held_bit-held.true (c.held_bit.ensures.bit ∙ (sym (ap held_bit is) ∙ e))) c.requires.found

pub returns-clause-found : goal.returns-clause-found
returns-clause-found c =
    let N = c.args.net.now.circuit in
    let P = c.args.plan.now in
    let f = stuck_at c.get-fault.result in
    let number = c.args.number in
    let at = subst (λ (faults : List StuckAt). slice_get faults number ≡ Some f) c.requires.faults c.get-fault.ensures.found in
    let is = get_or_from_slice_get (listed_faults N) number f NoFault at in
    let holds : bit_held N number ≡ c.args.held = ap held_bit is ∙ (sym c.held_bit.ensures.bit ∙ same_bits c.held_bit.result c.args.held c.if-held_bit-held.false) in
    let place = c.place_of-place.result in
    subst (AreFirst N P c.args.held (number + 1) c.args.past c.args.first) (sym c.put.ensures.put)
    (found_more N P c.args.held number c.args.past c.args.first c.args.places.now place c.requires.number holds c.requires.found
    (subst (λ (g : StuckAt). IsFirstIn (ExposesAt N P g) 0 c.args.past place) (sym is) c.place_of-place.ensures.found))
