-- A netlist that begins as a twin, and whose further nodes read what stands before them, has no ring.
use Rattle.std.proofs.Common.{◌≡◌, ℕ, zero, suc, ◌+◌, ◌-◌, ◌<◌, ◌≤◌, ◌⊎◌, nat_lt, if◌then◌else◌, inl, inr, List, [], map, length, slice_index, slice_index_or, All, sym, ap, ◌∙◌, subst, arith}
use Rattle.std.proofs.lemmas.Bool.{cases_lt, lt-ltb, le-ltb}
use Rattle.std.proofs.lemmas.List.{get_or-map, length-map}
use Rattle.std.proofs.lemmas.List.Elements.{All-map, All-weaker, All-from_get_or}
use Rattle.fault_secure.specs.Circuit.{Circuit, NodeOf, node, node_net, pin_net, nets}
use Rattle.fault_secure.specs.Closed.{IsClosed}
use Rattle.fault_secure.specs.Settle.{Acyclic, Ranks}
use Rattle.fault_secure.specs.Segment.{SoundTo, Segment, IsNetBetween, IsAppended}
use Rattle.fault_secure.proofs.SegmentLemmas.{joined_sound, appended_segment, sound_acyclic}
use Rattle.parity_code.specs.ParityCircuit.{StandAt}
use Rattle.parity_code.specs.ParityFunction.{outputs_at}
use Rattle.parity_code.proofs.GroupStands.{Inside, checks_read, checks_sized}
use Rattle.register_synth.specs.TwinNet.{own_net, copied_net, widened, twin_checks, BeginsAsTwin}
use Rattle.register_synth.specs.TwinChecker.{opened, twin_top}
use Rattle.register_synth.proofs.TwinMade.{IsGrouping, own_low, own_high, copied_input, copied_latch, copied_node, first_net, covers_fit, own_node, copied_is, checks_stand}

-- above the ranks of so many nets
rank_bound : (ℕ → ℕ) → ℕ → ℕ
rank_bound rank zero = 1
rank_bound rank (suc n) = rank_bound rank n + rank n

below_bound : (rank : ℕ → ℕ) (n net : ℕ) → net < n → rank net < rank_bound rank n
unfolding rank_bound
below_bound rank zero net h = absurd (omega arith)
below_bound rank (suc n) net h = elim (cases_lt net n) [
  | inl low ↦ (let b = below_bound rank n net low in omega arith)
  | inr high ↦ (
      let same : net ≡ n = omega arith in
      let some = some_bound rank n in
      omega (arith, ap rank same))
]
  where
    some_bound : (rank : ℕ → ℕ) (n : ℕ) → 0 < rank_bound rank n
    some_bound rank zero = omega arith
    some_bound rank (suc n) = let b = some_bound rank n in omega arith

module _ (T N : Circuit) (groups : List (List ℕ)) (rail1 rail2 : ℕ) (closed : IsClosed T) (begins : BeginsAsTwin T N groups rail1 rail2)
    (grouping : IsGrouping (length T.outputs) groups) (rank : ℕ → ℕ) (ranks : Ranks T rank) where
  at_node : (j : ℕ) → node_net N j ≡ (widened T).inputs + j
  at_node = first_net T N groups rail1 rail2 closed begins

  -- ---- the own covers

  -- the own net's net in the source
  own_rank : ℕ → ℕ
  own_rank net = if nat_lt net (T.inputs + length T.latches) then rank net else rank (net - length T.latches)

  own_rank_low : (net : ℕ) → net < T.inputs + length T.latches → own_rank net ≡ rank net
  unfolding own_rank
  own_rank_low net h = ap (λ b. if b then rank net else rank (net - length T.latches)) (lt-ltb net (T.inputs + length T.latches) h)

  own_rank_high : (net : ℕ) → T.inputs + length T.latches ≤ net → own_rank net ≡ rank (net - length T.latches)
  unfolding own_rank
  own_rank_high net h = ap (λ b. if b then rank net else rank (net - length T.latches)) (le-ltb net (T.inputs + length T.latches) h)

  own_ranked : (net : ℕ) → own_rank (own_net T net) ≡ rank net
  own_ranked net = elim (cases_lt net (T.inputs + length T.latches)) [
    | inl low ↦ ap own_rank (own_low T net low) ∙ own_rank_low net low
    | inr high ↦ ap own_rank (own_high T net high) ∙ own_rank_high (net + length T.latches) (omega arith)
        ∙ ap rank (let e : net + length T.latches - length T.latches ≡ net = omega arith in e)
  ]

  own_pin : (j pin : ℕ) → j < length T.nodes → pin < length (node N j).reads
      → (pin < length (node T j).reads) × (pin_net N j pin ≡ own_net T (pin_net T j pin))
  own_pin j pin h has =
      let reads : (node N j).reads ≡ map (own_net T) (node T j).reads = ap (λ (n : NodeOf). n.reads) (own_node T N groups rail1 rail2 closed begins j h) in
      let there : pin < length (node T j).reads = omega (arith, has, ap length reads, length-map (node T j).reads (own_net T)) in
      (there, ap (λ ns. slice_index ns pin) reads ∙ get_or-map (own_net T) (node T j).reads pin 0 0 there)

  own_below : (n : ℕ) → n < nets T → own_net T n < node_net N (length T.nodes)
  own_below n h = elim (cases_lt n (T.inputs + length T.latches)) [
    | inl low ↦ omega (arith, own_low T n low, at_node (length T.nodes))
    | inr high ↦ omega (arith, own_high T n high, at_node (length T.nodes))
  ]

  own_sound : SoundTo N (length T.nodes)
  own_sound = record {
    rank = own_rank;
    bound = rank_bound rank (nets T + length T.latches);
    fits = omega (arith, covers_fit T N groups rail1 rail2 closed begins);
    bounded = λ net h. elim (cases_lt net (T.inputs + length T.latches)) [
      | inl low ↦ subst (λ r. r < rank_bound rank (nets T + length T.latches)) (sym (own_rank_low net low)) (below_bound rank (nets T + length T.latches) net (omega arith))
      | inr high ↦ subst (λ r. r < rank_bound rank (nets T + length T.latches)) (sym (own_rank_high net high))
          (below_bound rank (nets T + length T.latches) (net - length T.latches) (omega (arith, at_node (length T.nodes))))
    ];
    before = λ j pin h has.
        let p = own_pin j pin h has in
        subst (λ n. n < node_net N (length T.nodes)) (sym p.1) (own_below (pin_net T j pin) (closed.pins j pin h p.0));
    above = λ j pin h has.
        let p = own_pin j pin h has in
        let up = ranks.above j pin h p.0 in
        let low = ap own_rank p.1 ∙ own_ranked (pin_net T j pin) in
        let at : own_rank (node_net N j) ≡ rank (node_net T j)
        = ap own_rank (let e : node_net N j ≡ own_net T (node_net T j) = omega (arith, own_high T (node_net T j) (omega arith), at_node j) in e) ∙ own_ranked (node_net T j) in
        omega (arith, up, low, at);
  }

  -- ---- the copied covers

  abbrev shift : ℕ
  shift = length T.latches + length T.nodes

  copied_pin : (j pin : ℕ) → j < length T.nodes → pin < length (node N (length T.nodes + j)).reads
      → (pin < length (node T j).reads) × (pin_net N (length T.nodes + j) pin ≡ copied_net T (pin_net T j pin))
  copied_pin j pin h has =
      let reads : (node N (length T.nodes + j)).reads ≡ map (copied_net T) (node T j).reads = ap (λ (n : NodeOf). n.reads) (copied_is T N groups rail1 rail2 closed begins j h) in
      let there : pin < length (node T j).reads = omega (arith, has, ap length reads, length-map (node T j).reads (copied_net T)) in
      (there, ap (λ ns. slice_index ns pin) reads ∙ get_or-map (copied_net T) (node T j).reads pin 0 0 there)

  -- a copied net stands before the copied covers, or is one's, of its rank
  copied_reads : (net node_rank : ℕ) → net < nets T → rank net < node_rank
      → (copied_net T net < node_net N (length T.nodes))
      ⊎ (IsNetBetween N (length T.nodes) (length T.nodes + length T.nodes) (copied_net T net) × (rank (copied_net T net - (length T.latches + length T.nodes)) < node_rank))
  copied_reads net node_rank h up = elim (cases_lt net T.inputs) [
    | inl input ↦ inl (omega (arith, copied_input T net input, at_node (length T.nodes)))
    | inr over ↦ elim (cases_lt net (T.inputs + length T.latches)) [
      | inl register ↦ inl (omega (arith, copied_latch T net over register, at_node (length T.nodes)))
      | inr cover ↦ (
          let is = copied_node T net cover in
          let back : copied_net T net - (length T.latches + length T.nodes) ≡ net = omega arith in
          inr ((omega (arith, is, at_node (length T.nodes)), omega (arith, is, at_node (length T.nodes + length T.nodes))), omega (arith, up, ap rank back)))
    ]
  ]

  copied_segment : Segment N (length T.nodes) (length T.nodes + length T.nodes)
  copied_segment = record {
    rank = λ net. rank (net - (length T.latches + length T.nodes));
    bound = rank_bound rank (nets T);
    ordered = omega arith;
    fits = covers_fit T N groups rail1 rail2 closed begins;
    bounded = λ net h.
        let low = h.0 in
        let high = h.1 in
        below_bound rank (nets T) (net - (length T.latches + length T.nodes)) (omega (arith, low, high, at_node (length T.nodes), at_node (length T.nodes + length T.nodes)));
    reads = λ j pin low high has. of_copy (j - length T.nodes) j pin (omega arith) (omega arith) has;
  }
    where
      of_copy : (i j pin : ℕ) → j ≡ length T.nodes + i → i < length T.nodes → pin < length (node N j).reads
          → (pin_net N j pin < node_net N (length T.nodes))
          ⊎ (IsNetBetween N (length T.nodes) (length T.nodes + length T.nodes) (pin_net N j pin)
          × (rank (pin_net N j pin - (length T.latches + length T.nodes)) < rank (node_net N j - (length T.latches + length T.nodes))))
      of_copy i j pin e h has =
          let p = copied_pin i pin h (subst (λ k. pin < length (node N k).reads) e has) in
          let is : pin_net N j pin ≡ copied_net T (pin_net T i pin) = ap (λ k. pin_net N k pin) e ∙ p.1 in
          let up = ranks.above i pin h p.0 in
          let back : node_net N j - (length T.latches + length T.nodes) ≡ node_net T i = omega (arith, at_node j) in
          subst (λ n. (n < node_net N (length T.nodes))
          ⊎ (IsNetBetween N (length T.nodes) (length T.nodes + length T.nodes) n
          × (rank (n - (length T.latches + length T.nodes)) < rank (node_net N j - (length T.latches + length T.nodes))))) (sym is)
          (copied_reads (pin_net T i pin) (rank (node_net N j - (length T.latches + length T.nodes))) (closed.pins i pin h p.0)
          (subst (λ r. rank (pin_net T i pin) < r) (sym (ap rank back)) up))

  -- ---- the checks

  same_node : (j : ℕ) → node_net (opened N) j ≡ node_net N j
  same_node j = omega arith

  opened_at : (j : ℕ) → node_net (opened N) j ≡ (widened T).inputs + j
  opened_at j = omega (arith, same_node j, at_node j)

  opened_stand : StandAt (opened N) (length T.nodes + length T.nodes) (twin_checks T groups)
  opened_stand = (let s = checks_stand T N groups rail1 rail2 closed begins in record { fits = s.fits; each = s.each })

  copied_below : (n : ℕ) → n < nets T → copied_net T n < node_net N (length T.nodes + length T.nodes)
  copied_below n h = elim (cases_lt n T.inputs) [
    | inl input ↦ omega (arith, copied_input T n input, at_node (length T.nodes + length T.nodes))
    | inr over ↦ elim (cases_lt n (T.inputs + length T.latches)) [
      | inl register ↦ omega (arith, copied_latch T n over register, at_node (length T.nodes + length T.nodes))
      | inr cover ↦ omega (arith, copied_node T n cover, at_node (length T.nodes + length T.nodes))
    ]
  ]

  inside : (n : ℕ) → n < nets T → Inside (opened N) 0 (length T.nodes + length T.nodes) (copied_net T n)
  inside n h = elim (cases_lt (copied_net T n) (opened N).inputs) [
    | inl low ↦ inl low
    | inr high ↦ inr (omega (arith, high), omega (arith, copied_below n h, same_node (length T.nodes + length T.nodes)))
  ]

  outputs_inside : All (λ group. All (Inside (opened N) 0 (length T.nodes + length T.nodes)) (map (copied_net T) (outputs_at (widened T) group))) groups
  outputs_inside = All-from_get_or (λ group. All (Inside (opened N) 0 (length T.nodes + length T.nodes)) (map (copied_net T) (outputs_at (widened T) group))) groups []
      (λ i h.
      All-map (Inside (opened N) 0 (length T.nodes + length T.nodes)) (copied_net T) (outputs_at (widened T) (slice_index_or groups i []))
      (All-map (λ n. Inside (opened N) 0 (length T.nodes + length T.nodes) (copied_net T n)) (slice_index T.outputs) (slice_index_or groups i [])
      (All-weaker (λ place. place < length T.outputs) (λ place. Inside (opened N) 0 (length T.nodes + length T.nodes) (copied_net T (slice_index T.outputs place)))
      (λ place k. inside (slice_index T.outputs place) (closed.outputs place 0 k)) (slice_index_or groups i []) (grouping.each_within i))))

  checks_appended : IsAppended N (length T.nodes + length T.nodes) (twin_top T groups)
  checks_appended = record {
    ordered = omega arith;
    fits = omega (arith, (checks_stand T N groups rail1 rail2 closed begins).fits, checks_sized (widened T) N (copied_net T) at_node groups (length T.nodes + length T.nodes));
    before = λ j pin low high has.
        earlier j pin (checks_read (widened T) (opened N) (copied_net T) opened_at 0 (length T.nodes + length T.nodes) (omega arith) groups (length T.nodes + length T.nodes) (omega arith)
        outputs_inside opened_stand j pin low high has);
  }
    where
      earlier : (j pin : ℕ) → Inside (opened N) 0 j (pin_net N j pin) → pin_net N j pin < node_net N j
      earlier j pin (inl input) = omega (arith, input)
      earlier j pin (inr between) = let a = between.1 in omega (arith, a, same_node j)

  -- with nodes that read nets before their own after the checks, each node has a rank above those of the nets that it reads, which are its own
  pub twin_sound : IsAppended N (twin_top T groups) (length N.nodes) → SoundTo N (length N.nodes)
  twin_sound appended =
      joined_sound N (twin_top T groups) (length N.nodes)
      (joined_sound N (length T.nodes + length T.nodes) (twin_top T groups)
      (joined_sound N (length T.nodes) (length T.nodes + length T.nodes) own_sound copied_segment)
      (appended_segment N (length T.nodes + length T.nodes) (twin_top T groups) checks_appended))
      (appended_segment N (twin_top T groups) (length N.nodes) appended)

  -- and there is no ring
  pub twin_acyclic : IsAppended N (twin_top T groups) (length N.nodes) → Acyclic N
  twin_acyclic appended = sound_acyclic N (twin_sound appended)
