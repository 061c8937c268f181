-- One-way errors: by rank, each net of the function moves towards the bit that the failing cell gives.
use Rattle.std.proofs.Common.{◌≡◌, ℕ, ◌<◌, ◌≤◌, Bool, true, false, List, map, length, sym, ap, subst, ◌∙◌, inl, inr, arith}
use Rattle.std.proofs.lemmas.Bool.{cases_eq, cases_lt, both_ways}
use Rattle.std.proofs.lemmas.List.{get_or-map, get_or_past, length-map}
use Rattle.tsc_cover.specs.Cover.{wrong_sign}
use Rattle.fault_secure.specs.Circuit.{Circuit, node, node_net, pin_net, bit}
use Rattle.fault_secure.specs.Settle.{Acyclic}
use Rattle.fault_secure.specs.CodePlan.{CodePlan}
use Rattle.fault_secure.specs.Depends.{InFunction}
use Rattle.fault_secure.specs.Structure.{IsUnate}
use Rattle.fault_secure.specs.FailingCell.{SettlesBut}
use Rattle.fault_secure.proofs.Agree.{by_rank}
use Rattle.fault_secure.proofs.GateLemmas.{read_values-no_fault}
use Rattle.fault_secure.proofs.Places.{Place, place_of}
use Rattle.fault_secure.proofs.Places.Place.{Input, Latch, Node, Beyond}
use Rattle.structure_laws.specs.OneWay.{Moves, IsOfFunction, OneWayErrors}
use Rattle.structure_laws.proofs.Moves.{truth_moves}
use Rattle.structure_laws.proofs.Outside.{monitored_seen, pin_seen}

module _ (N : Circuit) (P : CodePlan) (acyclic : Acyclic N) (unate : IsUnate N P) (cell : ℕ) (x s : ℕ → Bool) (v u : List Bool)
    (first : SettlesBut N cell x s v) (second : SettlesBut N cell x s u) where
  abbrev MovesAt : ℕ → Type 0
  MovesAt net = Moves (bit u cell) (bit v net) (bit u net)

  node_moves : (j : ℕ) → j < length N.nodes → InFunction N P j → (node_net N j ≡ cell → ⊥)
      → ((pin : ℕ) → pin < length (node N j).reads → MovesAt (pin_net N j pin)) → MovesAt (node_net N j)
  node_moves j h of off pins =
      let reads = (node N j).reads in
      let past : (pin : ℕ) → length reads ≤ pin → bit (map (bit v) reads) pin ≡ bit (map (bit u) reads) pin = λ pin l.
      get_or_past (map (bit v) reads) pin false (rw length-map l) ∙ sym (get_or_past (map (bit u) reads) pin false (rw length-map l)) in
      let pin_moves : (pin : ℕ) → Moves (bit u cell) (bit (map (bit v) reads) pin) (bit (map (bit u) reads) pin) = λ pin. elim (cases_lt pin (length reads)) [
        | inl l ↦ rw (get_or-map (bit v) reads pin 0 false l, get_or-map (bit u) reads pin 0 false l) (pins pin l)
        | inr l ↦ inl (past pin l)
      ] in
      let right : (pin : ℕ) → wrong_sign (node N j).cover pin ≡ true → bit (map (bit v) reads) pin ≡ bit (map (bit u) reads) pin = λ pin wrong. elim (cases_lt pin (length reads)) [
        | inl l ↦ elim (cases_lt (pin_net N j pin) N.inputs) [
          | inl i ↦ get_or-map (bit v) reads pin 0 false l ∙ first.inputs (pin_net N j pin) i ∙ sym (get_or-map (bit u) reads pin 0 false l ∙ second.inputs (pin_net N j pin) i)
          | inr ge ↦ absurd (both_ways (wrong_sign (node N j).cover pin) (unate.signs j pin h of l ge) wrong)
        ]
        | inr l ↦ past pin l
      ] in
      let moved = truth_moves (node N j).cover (bit u cell) (map (bit v) reads) (map (bit u) reads) (length-map reads (bit v) ∙ sym (length-map reads (bit u))) pin_moves right in
      rw (first.nodes j h off, second.nodes j h off, read_values-no_fault v (node_net N j) 0 reads, read_values-no_fault u (node_net N j) 0 reads) moved

  at_place : (net : ℕ) → (net ≡ cell → ⊥) → Place N net → ((m : ℕ) → acyclic.rank m < acyclic.rank net → IsOfFunction N P m → MovesAt m) → IsOfFunction N P net → MovesAt net
  at_place net off (Input h) below seen = inl (first.inputs net h ∙ sym (second.inputs net h))
  at_place net off (Latch l h e) below seen =
      inl (ap (bit v) e ∙ first.latches l h (λ z. off (e ∙ z)) ∙ sym (ap (bit u) e ∙ second.latches l h (λ z. off (e ∙ z))))
  at_place net off (Node j h e) below seen =
      subst MovesAt (sym e) (node_moves j h (seen j h e) (λ z. off (e ∙ z))
      (λ pin l. below (pin_net N j pin) (omega (arith, ap acyclic.rank e, acyclic.ranks.above j pin h l)) (pin_seen N P j pin h (seen j h e) l)))
  at_place net off (Beyond h) below seen =
      inl (get_or_past v net false (omega (arith, first.sized)) ∙ sym (get_or_past u net false (omega (arith, second.sized))))

  all_move : (net : ℕ) → IsOfFunction N P net → MovesAt net
  all_move = by_rank (λ net. IsOfFunction N P net → MovesAt net) acyclic.rank (λ net below seen. elim (cases_eq net cell) [
    | inl here ↦ inr (ap (bit u) here)
    | inr off ↦ at_place net off (place_of N net) below seen
  ])

pub one_way_errors : OneWayErrors
one_way_errors N P cell x s v u acyclic unate first second =
    let all = all_move N P acyclic unate cell x s v u first second in
    record { direction = bit u cell; nets = all; monitors = λ net c. all net (monitored_seen N P net c) }
