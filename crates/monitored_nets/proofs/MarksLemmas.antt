-- Marks that are set at places.
use Rattle.std.proofs.Common.{◌≡◌, ℕ, suc, ◌+◌, ◌-◌, ◌<◌, ◌≤◌, inl, inr, Bool, true, false, List, ◌∷◌, length, replicate, drop, slice_index, slice_index_or, slice_set, Contains, IsTrue, sym, ◌∙◌, ap, subst, arith, drop_of_length-le}
use Rattle.std.proofs.Math.Seq.{drop-cons}
use Rattle.std.proofs.lemmas.Bool.{false≢true}
use Rattle.std.proofs.lemmas.List.{length-replicate, length-map, get_or-map}
use Rattle.fault_secure.specs.Circuit.{bit}
use Rattle.tsc_net.specs.PlanView.{net_numbers}
use Rattle.tsc_net.specs.declared.ids.NetId.{NetId}
use Rattle.net_cones.specs.Marks.{mark_driver, mark_drivers}
use Rattle.net_cones.proofs.MarkLemmas.{mark_driver-from, length-mark_drivers, drivers_from, drivers_set}
use Rattle.monitored_nets.specs.Marks.{MarksPlaces}
use Rattle.fault_secure.proofs.EqualBits.{bit-replicate}

-- one place further
mark_next : (i place : ℕ) (places : List ℕ) (marks whole : List Bool) → i < length places → place ≡ slice_index places i
    → mark_drivers 0 (drop i places) marks ≡ whole → mark_drivers 0 (drop (i + 1) places) (slice_set marks place true) ≡ whole
mark_next i place places marks whole within is so_far =
    let back : place - 0 ≡ place = omega arith in
    let step : mark_driver 0 place marks ≡ slice_set marks place true = mark_driver-from 0 place marks (omega arith) ∙ ap (λ at. slice_set marks at true) back in
    let next : suc i ≡ i + 1 = omega arith in
    let split : drop i places ≡ place ∷ drop (i + 1) places = drop-cons places i 0 within ∙ ap (λ at. at ∷ drop (suc i) places) (sym is) ∙ ap (λ k. place ∷ drop k places) next in
    ap (mark_drivers 0 (drop (i + 1) places)) (sym step) ∙ ap (λ list. mark_drivers 0 list marks) (sym split) ∙ so_far

-- the marks at places are set when all of these were marked
marks_places : (count : ℕ) (places : List ℕ) (marks : List Bool) → marks ≡ mark_drivers 0 places (replicate count false) → MarksPlaces count places marks
marks_places count places marks is =
    subst (MarksPlaces count places) (sym is) (record {
      sized = length-mark_drivers 0 places (replicate count false) ∙ length-replicate {A = Bool} count false;
      exact = λ q there. (from q, to q there);
    })
  where
    from : (q : ℕ) → IsTrue (bit (mark_drivers 0 places (replicate count false)) q) → Contains places q
    from q is = elim (drivers_from 0 q places (replicate count false) is) [
      | inl old ↦ absurd (false≢true (sym (bit-replicate count q) ∙ old))
      | inr has ↦ (let plain : 0 + q ≡ q = omega arith in subst (Contains places) plain has)
    ]

    to : (q : ℕ) → q < count → Contains places q → IsTrue (bit (mark_drivers 0 places (replicate count false)) q)
    to q there has =
        let sized : length (replicate {A = Bool} count false) ≡ count = length-replicate {A = Bool} count false in
        let plain : q ≡ 0 + q = omega arith in
        drivers_set 0 q places (replicate count false) (omega arith) (subst (Contains places) plain has)

-- all are set
pub marks_end : (count at : ℕ) (places : List ℕ) (marks : List Bool) → length places ≤ at → mark_drivers 0 (drop at places) marks ≡ mark_drivers 0 places (replicate count false)
    → MarksPlaces count places marks
marks_end count at places marks past is = marks_places count places marks (ap (λ list. mark_drivers 0 list marks) (sym (drop_of_length-le places past)) ∙ is)

-- one net further
pub mark_next_net : (i : ℕ) (word : List NetId) (d : NetId) (marks whole : List Bool) → i < length word → mark_drivers 0 (drop i (net_numbers word)) marks ≡ whole
    → mark_drivers 0 (drop (i + 1) (net_numbers word)) (slice_set marks (slice_index_or word i d).number true) ≡ whole
mark_next_net i word d marks whole within so_far =
    let count : length (net_numbers word) ≡ length word = length-map word (λ (n : NetId). n.number) in
    mark_next i (slice_index_or word i d).number (net_numbers word) marks whole (omega arith) (sym (get_or-map (λ (n : NetId). n.number) word i d 0 within)) so_far
