-- One copy and the checks over it foretell the groups, wherever they stand.
use Rattle.std.proofs.Common.{◌≡◌, ℕ, ◌+◌, ◌-◌, ◌<◌, ◌≤◌, inl, inr, Bool, not, List, [], map, length, slice_index, slice_index_or, All, sym, ◌∙◌, ap, subst, arith, length-append}
use Rattle.std.proofs.lemmas.Bool.{cases_lt}
use Rattle.std.proofs.lemmas.List.{length-map}
use Rattle.std.proofs.lemmas.List.Elements.{All-get_or, All-map, All-weaker}
use Rattle.tsc_bits.specs.Counting.{odd}
use Rattle.fault_secure.specs.Circuit.{Circuit, node, node_net, pin_net, nets, bit}
use Rattle.fault_secure.specs.CodePlan.{concat_places}
use Rattle.fault_secure.specs.Segment.{IsAppended}
use Rattle.fault_secure.specs.Settle.{Ranks, Settles}
use Rattle.fault_secure.specs.Stretch.{StretchSettles, IsClosedStretch}
use Rattle.fault_secure.specs.StuckAt.{NoFault}
use Rattle.fault_secure.proofs.SegmentLemmas.{joined_sound, appended_segment}
use Rattle.parity_code.specs.Copy.{IsCopied, IsCopy, CopySettles, renamed}
use Rattle.parity_code.specs.ParityFunction.{outputs_at}
use Rattle.net_cones.specs.Cones.{IsCone}
use Rattle.parity_code.specs.ParityCircuit.{copy_net, copied_nodes, StandAt}
use Rattle.parity_code.proofs.CopyLemmas.{copied-alike, all_alike, pin_net-renamed, pins-renamed}
use Rattle.parity_code.proofs.CopySegment.{copy_segment}
use Rattle.parity_code.proofs.ParityCircuit.{stand_left, stand_right, cone_copy}
use Rattle.parity_code.specs.GroupChecks.{group_checks, group_check_nets, shared_checks}
use Rattle.parity_code.specs.Foretold.{Foretells}
use Rattle.parity_code.proofs.GroupStands.{Inside, wider, checks_paired, checks_sized, checks_within, checks_read, checks_foretell}

-- the copy and the checks have so many nodes
pub shared_sized : (C N : Circuit) → ((j : ℕ) → node_net N j ≡ C.inputs + j) → (places : List ℕ) (groups : List (List ℕ)) (base : ℕ) → length (shared_checks C places groups base) ≡ length places + length (concat_places groups)
shared_sized C N nets_are places groups base =
    omega (
      arith,
      length-append (copied_nodes C places base) (group_checks C (copy_net C places base) groups (base + length places)),
      length-map places (λ place. renamed (copy_net C places base) (node C place)),
      checks_sized C N (copy_net C places base) nets_are groups (base + length places),
    )

module _ (C N : Circuit) (latchless : (length C.latches ≡ 0) × (length N.latches ≡ 0)) (same_inputs : N.inputs ≡ C.inputs)
    (closed : (j pin : ℕ) → j < length C.nodes → pin < length (node C j).reads → pin_net C j pin < nets C) (rank : ℕ → ℕ) (ranks : Ranks C rank) (roots places : List ℕ) (cone : IsCone C roots places)
    (groups : List (List ℕ)) (filled : All (λ group. 0 < length group) groups) (copied : All (λ group. All (IsCopied C places) (outputs_at C group)) groups) (base : ℕ) (stand : StandAt N base (shared_checks C places groups base)) where
  -- the net of a copy
  abbrev net : ℕ → ℕ
  net = copy_net C places base

  -- where the copy ends, and where the checks do
  abbrev lo : ℕ
  lo = base + length places

  abbrev top : ℕ
  top = base + length places + length (concat_places groups)

  net_is : (j : ℕ) → node_net N j ≡ C.inputs + j
  net_is j = omega (arith, latchless.1, same_inputs)

  copies_stand : StandAt N base (copied_nodes C places base)
  copies_stand = stand_left N base (copied_nodes C places base) (group_checks C net groups lo) stand

  checks_stand : StandAt N lo (group_checks C net groups lo)
  checks_stand =
      subst (λ (k : ℕ). StandAt N (base + k) (group_checks C net groups lo)) (length-map places (λ place. renamed net (node C place)))
      (stand_right N base (copied_nodes C places base) (group_checks C net groups lo) stand)

  copy : IsCopy C N places base net
  copy = cone_copy C N latchless same_inputs closed roots places base cone copies_stand

  -- a net of the copy is an input or one of its nodes
  copied_inside : (n : ℕ) → IsCopied C places n → Inside N base lo (net n)
  copied_inside n (inl input) = let e : net n ≡ n = copy.inputs n input in inl (omega (arith, e, same_inputs, input))
  copied_inside n (inr (k, within, is)) = let e : net n ≡ node_net N (base + k) = ap net is ∙ copy.nets k within in inr (omega (arith, e), omega (arith, e, within))

  outputs_inside : All (λ group. All (Inside N base lo) (map net (outputs_at C group))) groups
  outputs_inside =
      All-weaker (λ group. All (IsCopied C places) (outputs_at C group)) (λ group. All (Inside N base lo) (map net (outputs_at C group)))
      (λ group all. All-map (Inside N base lo) net (outputs_at C group) (All-weaker (IsCopied C places) (λ n. Inside N base lo (net n)) copied_inside (outputs_at C group) all)) groups copied

  -- each node after the copy reads before its own net
  reads_inside : (j pin : ℕ) → lo ≤ j → j < top → pin < length (node N j).reads → Inside N base j (pin_net N j pin)
  reads_inside j pin low high has = checks_read C N net net_is base lo (omega arith) groups lo (omega arith) outputs_inside checks_stand j pin low high has

  fits : top ≤ length N.nodes
  fits = let f = checks_stand.fits in omega (arith, f, checks_sized C N net net_is groups lo)

  appended : IsAppended N lo top
  appended = record {
    ordered = omega arith;
    fits = fits;
    before = λ j pin low high has. elim (reads_inside j pin low high has) [ inl input ↦ omega (arith, input) | inr between ↦ between.1 ];
  }

  -- the whole stretch reads inputs and itself alone
  closed_stretch : IsClosedStretch N base top
  closed_stretch = record {
    reads = λ j pin low high has.
        elim (cases_lt j lo) [
          | inl here ↦ (
              let at : j ≡ base + (j - base) = omega arith in
              let place : ℕ = slice_index places (j - base) in
              let inside : j - base < length places = omega arith in
              let same : node N j ≡ renamed net (node C (slice_index places (j - base))) = ap (node N) at ∙ copy.nodes (j - base) inside in
              let pins : length (node N j).reads ≡ length (node C (slice_index places (j - base))).reads = pins-renamed C N net j (slice_index places (j - base)) same in
              let there : pin < length (node C (slice_index places (j - base))).reads = omega (arith, has, pins) in
              let is : pin_net N j pin ≡ net (pin_net C (slice_index places (j - base)) pin) = pin_net-renamed C N net j (slice_index places (j - base)) pin same there in
              subst (λ (m : ℕ). Inside N base top m) (sym is)
              (wider N base lo top (net (pin_net C (slice_index places (j - base)) pin)) (omega arith) (copied_inside (pin_net C (slice_index places (j - base)) pin) (copy.closed (j - base) pin inside there))))
          | inr later ↦ wider N base j top (pin_net N j pin) (omega arith) (reads_inside j pin later high has)
        ];
  }

  -- each check is the negation of its outputs' oddness in the source
  foretold : (x s : ℕ → Bool) (u v : List Bool) → Settles C NoFault x s v → ((i : ℕ) → i < C.inputs → bit u i ≡ bit v i) → StretchSettles N u base top → (i : ℕ) → i < length groups
      → bit u (slice_index (group_check_nets C.inputs groups lo) i) ≡ not (odd (map (bit v) (outputs_at C (slice_index_or groups i []))))
  foretold x s u v source inputs settles i there =
      let copies : CopySettles C N places base v u = record { inputs = inputs; nodes = λ k within. settles.nodes (base + k) (omega arith) (omega (arith, within)) } in
      checks_foretell C N net net_is u groups lo filled checks_stand (record { nodes = λ j low high. settles.nodes j (omega (arith, low)) high }) i there
      ∙ ap (λ (bits : List Bool). not (odd bits))
      (all_alike C places net u v (copied-alike C N places base net x s u v rank copy ranks source copies) (outputs_at C (slice_index_or groups i []))
      (All-get_or (λ group. All (IsCopied C places) (outputs_at C group)) groups i [] there copied))

  -- one copy, and the groups' checks over it, foretell the parity of each group
  pub shared_foretell : Foretells C N groups (group_check_nets C.inputs groups (base + length places)) base (base + length places + length (concat_places groups))
  shared_foretell = record {
    ordered = omega arith;
    closed = closed_stretch;
    sound = λ sound. joined_sound N lo top (joined_sound N base lo sound (copy_segment C N places base net rank copy ranks)) (appended_segment N lo top appended);
    paired = checks_paired C.inputs groups lo;
    within = λ i there. (
        let b = checks_within C N net net_is groups lo filled i there in
        let low = b.0 in
        let high = b.1 in
        (omega (arith, low), omega (arith, high)));
    foretold = foretold;
  }
