-- One copy and the checks over it by names, over the numbers of names.
use Rattle.std.proofs.Common.{◌≡◌, ℕ, ◌+◌, ◌-◌, ◌<◌, ◌≤◌, List, [], ◌∷◌, map, take, length, slice_index, All, refl, sym, ◌∙◌, ap, ap₂, subst, arith, length-append, suc}
use Rattle.std.proofs.lemmas.List.{length-map, take_all}
use Rattle.std.proofs.lemmas.List.Elements.{All-head, All-tail}
use Rattle.fault_secure.specs.Circuit.{node, nets}
use Rattle.fault_secure.specs.Closed.{IsClosed}
use Rattle.fault_secure.specs.CodePlan.{concat_places}
use Rattle.tsc_net.specs.Names.{text_at}
use Rattle.tsc_net.specs.NetlistOf.{NetlistOf, IsBuilt}
use Rattle.tsc_net.specs.Parts.{PartsOf, FreshNames, fresh_text, free_number}
use Rattle.parity_code.specs.Copy.{IsCopied, renamed}
use Rattle.parity_code.specs.ParityFunction.{outputs_at}
use Rattle.net_cones.specs.Cones.{IsCone}
use Rattle.parity_code.specs.ParityCircuit.{copy_net, copied_nodes, parity_nodes}
use Rattle.parity_code.specs.Predictors.{with_parity, copy_text, with_copies, last_name}
use Rattle.parity_synth.specs.Composed.{own_parts}
use Rattle.parity_synth.proofs.FreshOrder.{IsFreshAt, adds_none}
use Rattle.parity_synth.proofs.PredictorNodes.{Writes, writes_fresh, writes_joined, copied_nets, copies_written, check_written, check_last}
use Rattle.parity_code.specs.GroupChecks.{group_checks, group_check_nets, shared_checks}
use Rattle.parity_code.specs.SharedParts.{with_group_checks, group_check_texts, with_shared, shared_texts}
use Rattle.parity_code.proofs.GroupStands.{check_counted}

-- no fresh name was given where the own covers stand
pub own_fresh : (S : NetlistOf) (kept : List ℕ) → IsBuilt S → IsFreshAt (free_number S.names) 0 (own_parts S kept)
own_fresh S kept checked =
    let texts : take (nets S.circuit) S.names ≡ S.names = take_all (nets S.circuit) S.names (let s = checked.sized in omega (arith, s)) in
    ap (λ (names : List (List ℕ)). let f : FreshNames = record { number = free_number names; next = 0 } in f) texts

module _ (S : NetlistOf) (net : List ℕ → ℕ) (number kept last : ℕ) (none : length S.circuit.latches ≡ 0) (closed : IsClosed S.circuit)
    (inputs : (i : ℕ) → i < S.circuit.inputs → net (text_at S.names i) ≡ i)
    (fresh : (k : ℕ) → k < last → net (fresh_text number k) ≡ S.circuit.inputs + (kept + k)) where
  -- the exclusive or of some names, and the check
  parity_written : (names : List (List ℕ)) (count : ℕ) (p : PartsOf) → 0 < length names → IsFreshAt number count p → count + length names ≤ last
      → Writes net number count p (with_parity p names) (parity_nodes S.circuit.inputs (kept + count) (map net names))
  parity_written [] count p some at room = absurd (omega arith)
  parity_written (first ∷ rest) count p some at room = check_written S net number kept last none closed inputs fresh rest first count p at (omega arith)

  -- its last name
  parity_last : (names : List (List ℕ)) (count : ℕ) (p : PartsOf) → 0 < length names → IsFreshAt number count p → last_name (with_parity p names) ≡ fresh_text number (count + length names - 1)
  parity_last [] count p some at = absurd (omega arith)
  parity_last (first ∷ rest) count p some at = check_last number rest first count p at ∙ ap (fresh_text number) (let e : count + length rest ≡ count + suc (length rest) - 1 = omega arith in e)

  module _ (Q : List ℕ → Type 0) (text : ℕ → List ℕ) (copy : ℕ → ℕ) (numbered : (group : List ℕ) → Q group → map net (map text (outputs_at S.circuit group)) ≡ map copy (outputs_at S.circuit group)) where
    -- so many names has a group
    texts_counted : (group : List ℕ) → length (map text (outputs_at S.circuit group)) ≡ length group
    texts_counted group = length-map (outputs_at S.circuit group) text ∙ length-map group (slice_index S.circuit.outputs)

    -- the check of a group is written
    one_written : (group : List ℕ) (count : ℕ) (p : PartsOf) → 0 < length group → Q group → IsFreshAt number count p → count + length group ≤ last
        → Writes net number count p (with_parity p (map text (outputs_at S.circuit group))) (parity_nodes S.circuit.inputs (kept + count) (map copy (outputs_at S.circuit group)))
    one_written group count p some within at room =
        subst (λ (list : List ℕ). Writes net number count p (with_parity p (map text (outputs_at S.circuit group))) (parity_nodes S.circuit.inputs (kept + count) list)) (numbered group within)
        (parity_written (map text (outputs_at S.circuit group)) count p (omega (arith, some, texts_counted group)) at (omega (arith, room, texts_counted group)))

    -- it has a node for each place
    one_counted : (group : List ℕ) (from : ℕ) → length (parity_nodes S.circuit.inputs from (map copy (outputs_at S.circuit group))) ≡ length group
    one_counted group from =
        check_counted S.circuit.inputs from (map copy (outputs_at S.circuit group)) ∙ length-map (outputs_at S.circuit group) copy ∙ length-map group (slice_index S.circuit.outputs)

    -- fresh names go on after it
    one_fresh : (group : List ℕ) (count : ℕ) (p : PartsOf) → 0 < length group → Q group → IsFreshAt number count p → count + length group ≤ last
        → IsFreshAt number (count + length group) (with_parity p (map text (outputs_at S.circuit group)))
    one_fresh group count p some within at room =
        subst (λ (n : ℕ). IsFreshAt number (count + n) (with_parity p (map text (outputs_at S.circuit group)))) (one_counted group (kept + count))
        (writes_fresh net number count p (with_parity p (map text (outputs_at S.circuit group))) (parity_nodes S.circuit.inputs (kept + count) (map copy (outputs_at S.circuit group))) (one_written group count p some within at room))

    -- the checks of groups are written
    pub checks_written : (groups : List (List ℕ)) (count : ℕ) (p : PartsOf) → All (λ group. 0 < length group) groups → All Q groups → IsFreshAt number count p
        → count + length (concat_places groups) ≤ last → Writes net number count p (with_group_checks S.circuit text groups p) (group_checks S.circuit copy groups (kept + count))
    checks_written [] count p filled within at room = record { added = []; adds = adds_none number count p at; are = refl }
    checks_written (group ∷ groups) count p filled within at room =
        let long = length-append group (concat_places groups) in
        let some = All-head (λ (g : List ℕ). 0 < length g) group groups filled in
        let inside = All-head Q group groups within in
        let q = with_parity p (map text (outputs_at S.circuit group)) in
        let enough : count + length group ≤ last = omega (arith, room, long) in
        let from : kept + (count + length group) ≡ kept + count + length group = omega arith in
        let rest = checks_written groups (count + length group) q (All-tail (λ (g : List ℕ). 0 < length g) group groups filled) (All-tail Q group groups within)
        (one_fresh group count p some inside at enough) (omega (arith, room, long)) in
        writes_joined net number count (count + length group) p q (with_group_checks S.circuit text groups q) (parity_nodes S.circuit.inputs (kept + count) (map copy (outputs_at S.circuit group)))
        (group_checks S.circuit copy groups (kept + count + length group)) (ap (λ (n : ℕ). count + n) (sym (one_counted group (kept + count)))) (one_written group count p some inside at enough)
        (subst (λ (b : ℕ). Writes net number (count + length group) q (with_group_checks S.circuit text groups q) (group_checks S.circuit copy groups b)) from rest)

    -- and the numbers of their names are the stated nets
    pub checks_numbered : (groups : List (List ℕ)) (count : ℕ) (p : PartsOf) → All (λ group. 0 < length group) groups → All Q groups → IsFreshAt number count p
        → count + length (concat_places groups) ≤ last → map net (group_check_texts S.circuit text groups p) ≡ group_check_nets S.circuit.inputs groups (kept + count)
    checks_numbered [] count p filled within at room = refl
    checks_numbered (group ∷ groups) count p filled within at room =
        let long = length-append group (concat_places groups) in
        let some = All-head (λ (g : List ℕ). 0 < length g) group groups filled in
        let inside = All-head Q group groups within in
        let q = with_parity p (map text (outputs_at S.circuit group)) in
        let enough : count + length group ≤ last = omega (arith, room, long) in
        let from : kept + (count + length group) ≡ kept + count + length group = omega arith in
        let rest = checks_numbered groups (count + length group) q (All-tail (λ (g : List ℕ). 0 < length g) group groups filled) (All-tail Q group groups within)
        (one_fresh group count p some inside at enough) (omega (arith, room, long)) in
        let number_is : net (fresh_text number (count + length group - 1)) ≡ S.circuit.inputs + (kept + (count + length group - 1)) = fresh (count + length group - 1) (omega (arith, some, enough)) in
        let named : last_name q ≡ fresh_text number (count + length group - 1)
        = parity_last (map text (outputs_at S.circuit group)) count p (omega (arith, some, texts_counted group)) at ∙ ap (λ (n : ℕ). fresh_text number (count + n - 1)) (texts_counted group) in
        let here : net (last_name q) ≡ S.circuit.inputs + (kept + count + length group - 1) = ap net named ∙ number_is ∙ omega (arith, some) in
        ap₂ (λ (n : ℕ) (list : List ℕ). n ∷ list) here (rest ∙ ap (group_check_nets S.circuit.inputs groups) from)

  module _ (roots places : List ℕ) (is : IsCone S.circuit roots places) (groups : List (List ℕ)) (filled : All (λ group. 0 < length group) groups) (copied : All (λ group. All (IsCopied S.circuit places) (outputs_at S.circuit group)) groups)
      (count : ℕ) (p : PartsOf) (at : IsFreshAt number count p) (room : count + (length places + length (concat_places groups)) ≤ last) where
    -- the copies are written
    copies : Writes net number count p (with_copies S places p) (copied_nodes S.circuit places (kept + count))
    copies = copies_written S net number kept last none closed inputs fresh roots places is count p at (omega (arith, room))

    copies_counted : length (copied_nodes S.circuit places (kept + count)) ≡ length places
    copies_counted = length-map places (λ place. renamed (copy_net S.circuit places (kept + count)) (node S.circuit place))

    -- fresh names go on after them
    behind : IsFreshAt number (count + length places) (with_copies S places p)
    behind = subst (λ (n : ℕ). IsFreshAt number (count + n) (with_copies S places p)) copies_counted (writes_fresh net number count p (with_copies S places p) (copied_nodes S.circuit places (kept + count)) copies)

    -- the numbers of the outputs' names are the nets of their copies
    outputs_numbered : (group : List ℕ) → All (IsCopied S.circuit places) (outputs_at S.circuit group) → map net (map (copy_text S places p) (outputs_at S.circuit group)) ≡ map (copy_net S.circuit places (kept + count)) (outputs_at S.circuit group)
    outputs_numbered group there = copied_nets S net number kept last none closed inputs fresh roots places is count p at (omega (arith, room)) (outputs_at S.circuit group) there

    -- the copy and the checks over it are written
    pub shared_written : Writes net number count p (with_shared S places groups p) (shared_checks S.circuit places groups (kept + count))
    shared_written =
        let from : kept + (count + length places) ≡ kept + count + length places = omega arith in
        writes_joined net number count (count + length places) p (with_copies S places p) (with_shared S places groups p) (copied_nodes S.circuit places (kept + count))
        (group_checks S.circuit (copy_net S.circuit places (kept + count)) groups (kept + count + length places)) (ap (λ (n : ℕ). count + n) (sym copies_counted)) copies
        (subst (λ (b : ℕ). Writes net number (count + length places) (with_copies S places p) (with_shared S places groups p) (group_checks S.circuit (copy_net S.circuit places (kept + count)) groups b)) from
        (checks_written (λ group. All (IsCopied S.circuit places) (outputs_at S.circuit group)) (copy_text S places p) (copy_net S.circuit places (kept + count)) outputs_numbered groups (count + length places) (with_copies S places p) filled copied behind (omega (arith, room))))

    -- and the numbers of the checks' names are the stated nets
    pub shared_numbered : map net (shared_texts S places groups p) ≡ group_check_nets S.circuit.inputs groups (kept + count + length places)
    shared_numbered =
        let from : kept + (count + length places) ≡ kept + count + length places = omega arith in
        checks_numbered (λ group. All (IsCopied S.circuit places) (outputs_at S.circuit group)) (copy_text S places p) (copy_net S.circuit places (kept + count)) outputs_numbered groups (count + length places) (with_copies S places p) filled copied behind (omega (arith, room))
        ∙ ap (group_check_nets S.circuit.inputs groups) from
