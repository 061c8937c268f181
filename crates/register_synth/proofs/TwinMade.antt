-- A netlist that begins as the twin of a source is a twin of it, where it has no ring and its checker decides.
use Rattle.std.proofs.Common.{◌≡◌, ℕ, ◌+◌, ◌-◌, ◌<◌, ◌≤◌, ◌⊎◌, ◌==◌, nat_lt, if◌then◌else◌, inl, inr, Bool, true, false, not, List, [], ◌∷◌, ◌++◌, map, take, length, slice_index, slice_index_or, All, count_by, IsTrue, refl, sym, ap, ◌∙◌, subst, arith, length-append}
use Rattle.std.proofs.lemmas.Bool.{cases_lt, lt-ltb, le-ltb}
use Rattle.std.proofs.lemmas.List.{get_or-map, length-map, map-append, get_or_append_left, get_or-append-add}
use Rattle.std.proofs.lemmas.List.Elements.{All-nil, All-from_get_or, All-map, All-weaker}
use Rattle.std.proofs.lemmas.Simd.{map-map}
use Rattle.tsc_bits.specs.Counting.{odd, differ}
use Rattle.tsc_bits.proofs.Bools.{odd-push}
use Rattle.tsc_bits.proofs.Lists.{map_agrees, front}
use Rattle.fault_secure.specs.Circuit.{Circuit, LatchOf, NodeOf, node, latch, no_latch, no_node, latch_net, node_net, pin_net, nets, bit}
use Rattle.fault_secure.specs.StuckAt.{NoFault}
use Rattle.fault_secure.specs.Settle.{Acyclic, Settles}
use Rattle.fault_secure.specs.Closed.{IsClosed}
use Rattle.fault_secure.specs.CodePlan.{HasGroups, concat_places, members, bits_at}
use Rattle.fault_secure.specs.FailingCell.{IsCell}
use Rattle.fault_secure.specs.Stretch.{StretchSettles}
use Rattle.fault_secure.proofs.PlanSizes.{length-members_from}
use Rattle.net_cones.proofs.MemberPlaces.{member_at}
use Rattle.parity_code.specs.ParityFunction.{outputs_at}
use Rattle.parity_code.specs.ParityCircuit.{StandAt}
use Rattle.parity_code.proofs.ParityCircuit.{stand_left, stand_right}
use Rattle.parity_code.proofs.GroupStands.{checks_paired, checks_sized, checks_within, checks_foretell}
use Rattle.register_laws.specs.RegisterPlan.{next_net, front_nets, front as front_bits, IsOdd}
use Rattle.register_laws.specs.RegisterStructure.{Reaches, DecidesGroups}
use Rattle.register_laws.specs.RegisterStructure.Reaches.{own, through, across}
use Rattle.register_laws.specs.Twin.{HasCopy, IsTwin, renamed}
use Rattle.register_synth.specs.Kept.{renamed_latch}
use Rattle.register_synth.specs.TwinNet.{own_net, copied_net, own_place, copied_place, twin_latches, twin_covers, widened, twin_checks, twin_check_nets, twin_plan, BeginsAsTwin}
use Rattle.register_synth.specs.TwinLaws.{AreGroupsApart}
use Rattle.register_synth.proofs.CheckReads.{checks_read}

-- groups that no one is empty of, and in which each output stands once
pub record IsGrouping (outputs : ℕ) (groups : List (List ℕ)) : Type 0 where
  pub filled : All (λ group. 0 < length group) groups
  pub within : All (λ place. place < outputs) (concat_places groups)
  pub once : (place : ℕ) → place < outputs → count_by (λ other. place == other) (concat_places groups) ≡ 1
  pub each_within : (i : ℕ) → All (λ place. place < outputs) (slice_index_or groups i [])

-- ---- the nets of the copies

module _ (T : Circuit) where
  pub own_low : (n : ℕ) → n < T.inputs + length T.latches → own_net T n ≡ n
  own_low n h = ap (λ b. if b then n else n + length T.latches) (lt-ltb n (T.inputs + length T.latches) h)

  pub own_high : (n : ℕ) → T.inputs + length T.latches ≤ n → own_net T n ≡ n + length T.latches
  own_high n h = ap (λ b. if b then n else n + length T.latches) (le-ltb n (T.inputs + length T.latches) h)

  pub copied_input : (n : ℕ) → n < T.inputs → copied_net T n ≡ n
  copied_input n h =
      ap (λ b. if b then n else (if nat_lt n (T.inputs + length T.latches) then n + length T.latches else n + length T.latches + length T.nodes)) (lt-ltb n T.inputs h)

  pub copied_latch : (n : ℕ) → T.inputs ≤ n → n < T.inputs + length T.latches → copied_net T n ≡ n + length T.latches
  copied_latch n h k =
      ap (λ b. if b then n else (if nat_lt n (T.inputs + length T.latches) then n + length T.latches else n + length T.latches + length T.nodes)) (le-ltb n T.inputs h)
      ∙ ap (λ b. if b then n + length T.latches else n + length T.latches + length T.nodes) (lt-ltb n (T.inputs + length T.latches) k)

  pub copied_node : (n : ℕ) → T.inputs + length T.latches ≤ n → copied_net T n ≡ n + length T.latches + length T.nodes
  copied_node n h =
      ap (λ b. if b then n else (if nat_lt n (T.inputs + length T.latches) then n + length T.latches else n + length T.latches + length T.nodes)) (le-ltb n T.inputs (omega arith))
      ∙ ap (λ b. if b then n + length T.latches else n + length T.latches + length T.nodes) (le-ltb n (T.inputs + length T.latches) h)

  -- both copies have each cover
  pub covers_counted : length (twin_covers T) ≡ length T.nodes + length T.nodes
  covers_counted =
      omega (
        arith,
        length-append (map (renamed (own_net T)) T.nodes) (map (renamed (copied_net T)) T.nodes),
        length-map T.nodes (renamed (own_net T)),
        length-map T.nodes (renamed (copied_net T)),
      )

module _ (T N : Circuit) (groups : List (List ℕ)) (rail1 rail2 : ℕ) (closed : IsClosed T) (begins : BeginsAsTwin T N groups rail1 rail2) where
  pub latches_counted : length N.latches ≡ length T.latches + length T.latches
  latches_counted =
      omega (
        arith,
        ap length begins.latches,
        length-append (map (renamed_latch (own_net T)) T.latches) (map (renamed_latch (copied_net T)) T.latches),
        length-map T.latches (renamed_latch (own_net T)),
        length-map T.latches (renamed_latch (copied_net T)),
      )

  -- where the nets of the nodes begin
  pub first_net : (j : ℕ) → node_net N j ≡ (widened T).inputs + j
  first_net j = omega (arith, latches_counted, begins.same_inputs)

  covers_stand : StandAt N 0 (twin_covers T)
  covers_stand = stand_left N 0 (twin_covers T) (twin_checks T groups) begins.nodes

  pub checks_stand : StandAt N (length T.nodes + length T.nodes) (twin_checks T groups)
  checks_stand =
      subst (λ k. StandAt N k (twin_checks T groups)) (let e : 0 + length (twin_covers T) ≡ length T.nodes + length T.nodes = omega (arith, covers_counted T) in e)
      (stand_right N 0 (twin_covers T) (twin_checks T groups) begins.nodes)

  pub covers_fit : length T.nodes + length T.nodes ≤ length N.nodes
  covers_fit = omega (arith, covers_stand.fits, covers_counted T)

  pub own_node : (j : ℕ) → j < length T.nodes → node N j ≡ renamed (own_net T) (node T j)
  own_node j h =
      ap (node N) (let e : j ≡ 0 + j = omega arith in e) ∙ covers_stand.each j (omega (arith, covers_counted T))
      ∙ get_or_append_left (map (renamed (own_net T)) T.nodes) (map (renamed (copied_net T)) T.nodes) no_node j (omega (arith, length-map T.nodes (renamed (own_net T))))
      ∙ get_or-map (renamed (own_net T)) T.nodes j no_node no_node h

  pub copied_is : (j : ℕ) → j < length T.nodes → node N (length T.nodes + j) ≡ renamed (copied_net T) (node T j)
  copied_is j h =
      let at : length T.nodes + j ≡ length (map (renamed (own_net T)) T.nodes) + j = omega (arith, length-map T.nodes (renamed (own_net T))) in
      ap (node N) (let e : length T.nodes + j ≡ 0 + (length T.nodes + j) = omega arith in e) ∙ covers_stand.each (length T.nodes + j) (omega (arith, covers_counted T))
      ∙ ap (λ k. slice_index_or (twin_covers T) k no_node) at
      ∙ get_or-append-add (map (renamed (own_net T)) T.nodes) (map (renamed (copied_net T)) T.nodes) j no_node
      ∙ get_or-map (renamed (copied_net T)) T.nodes j no_node no_node h

  pub own_latch : (l : ℕ) → l < length T.latches → latch N l ≡ renamed_latch (own_net T) (latch T l)
  own_latch l h =
      ap (λ ls. slice_index_or ls l no_latch) begins.latches
      ∙ get_or_append_left (map (renamed_latch (own_net T)) T.latches) (map (renamed_latch (copied_net T)) T.latches) no_latch l (omega (arith, length-map T.latches (renamed_latch (own_net T))))
      ∙ get_or-map (renamed_latch (own_net T)) T.latches l no_latch no_latch h

  copied_latch_is : (l : ℕ) → l < length T.latches → latch N (length T.latches + l) ≡ renamed_latch (copied_net T) (latch T l)
  copied_latch_is l h =
      let at : length T.latches + l ≡ length (map (renamed_latch (own_net T)) T.latches) + l = omega (arith, length-map T.latches (renamed_latch (own_net T))) in
      ap (λ ls. slice_index_or ls (length T.latches + l) no_latch) begins.latches
      ∙ ap (λ k. slice_index_or (twin_latches T) k no_latch) at
      ∙ get_or-append-add (map (renamed_latch (own_net T)) T.latches) (map (renamed_latch (copied_net T)) T.latches) l no_latch
      ∙ get_or-map (renamed_latch (copied_net T)) T.latches l no_latch no_latch h

  -- ---- the copies

  own_different : (n m : ℕ) → own_net T n ≡ own_net T m → n ≡ m
  own_different n m e = elim (cases_lt n (T.inputs + length T.latches)) [
    | inl low ↦ elim (cases_lt m (T.inputs + length T.latches)) [
      | inl here ↦ omega (arith, own_low T n low, own_low T m here)
      | inr there ↦ absurd (omega (arith, own_low T n low, own_high T m there))
    ]
    | inr high ↦ elim (cases_lt m (T.inputs + length T.latches)) [
      | inl here ↦ absurd (omega (arith, own_high T n high, own_low T m here))
      | inr there ↦ omega (arith, own_high T n high, own_high T m there)
    ]
  ]

  owns : HasCopy T N (own_place T)
  owns = record {
    inputs = λ i h. own_low T i (omega arith);
    latches = λ l h. omega (arith, own_low T (latch_net T l) (omega arith), begins.same_inputs);
    latch_in = λ l h. omega (arith, latches_counted);
    nodes = λ j h. omega (arith, own_high T (node_net T j) (omega arith), first_net j);
    node_in = λ j h. omega (arith, covers_fit);
    covers = own_node;
    reads = λ l h. ap (λ (k : LatchOf). k.reads) (own_latch l h);
    inits = λ l h. ap (λ (k : LatchOf). k.init) (own_latch l h);
    different = λ n m h k e. own_different n m e;
  }

  -- where a copied net stands
  data Copied (n : ℕ) : Type 0 where
    AtInput : n < T.inputs → copied_net T n ≡ n → Copied n
    AtLatch : T.inputs ≤ n → n < T.inputs + length T.latches → copied_net T n ≡ n + length T.latches → Copied n
    AtNode : T.inputs + length T.latches ≤ n → copied_net T n ≡ n + length T.latches + length T.nodes → Copied n

  copied_at : (n : ℕ) → Copied n
  copied_at n = elim (cases_lt n T.inputs) [
    | inl input ↦ AtInput input (copied_input T n input)
    | inr over ↦ elim (cases_lt n (T.inputs + length T.latches)) [
      | inl register ↦ AtLatch over register (copied_latch T n over register)
      | inr cover ↦ AtNode cover (copied_node T n cover)
    ]
  ]

  copied_different : (n m : ℕ) → n < nets T → m < nets T → Copied n → Copied m → copied_net T n ≡ copied_net T m → n ≡ m
  copied_different n m h k (AtInput a p) (AtInput b q) e = omega arith
  copied_different n m h k (AtInput a p) (AtLatch b c q) e = absurd (omega arith)
  copied_different n m h k (AtInput a p) (AtNode b q) e = absurd (omega arith)
  copied_different n m h k (AtLatch a c p) (AtInput b q) e = absurd (omega arith)
  copied_different n m h k (AtLatch a c p) (AtLatch b d q) e = omega arith
  copied_different n m h k (AtLatch a c p) (AtNode b q) e = absurd (omega arith)
  copied_different n m h k (AtNode a p) (AtInput b q) e = absurd (omega arith)
  copied_different n m h k (AtNode a p) (AtLatch b c q) e = absurd (omega arith)
  copied_different n m h k (AtNode a p) (AtNode b q) e = omega arith

  copies : HasCopy T N (copied_place T)
  copies = record {
    inputs = λ i h. copied_input T i h;
    latches = λ l h. omega (arith, copied_latch T (latch_net T l) (omega arith) (omega arith), begins.same_inputs);
    latch_in = λ l h. omega (arith, latches_counted);
    nodes = λ j h. omega (arith, copied_node T (node_net T j) (omega arith), first_net (length T.nodes + j));
    node_in = λ j h. omega (arith, covers_fit);
    covers = copied_is;
    reads = λ l h. ap (λ (k : LatchOf). k.reads) (copied_latch_is l h);
    inits = λ l h. ap (λ (k : LatchOf). k.init) (copied_latch_is l h);
    different = λ n m h k e. copied_different n m h k (copied_at n) (copied_at m) e;
  }

  -- ---- what reaches the checks

  -- where the checks end
  abbrev pub top : ℕ
  top = length T.nodes + length T.nodes + length (concat_places groups)

  -- an input, a copied register, or a net of a copied cover or of a check
  abbrev pub InCopy : ℕ → Type 0
  InCopy n = (n < T.inputs) ⊎ (((T.inputs + length T.latches ≤ n) × (n < T.inputs + (length T.latches + length T.latches)))
      ⊎ ((node_net N (length T.nodes) ≤ n) × (n < node_net N top)))

  copied_in : (n : ℕ) → n < nets T → Copied n → InCopy (copied_net T n)
  copied_in n h (AtInput a p) = inl (omega arith)
  copied_in n h (AtLatch a c p) = inr (inl (omega arith, omega arith))
  copied_in n h (AtNode a p) = inr (inr (omega (arith, first_net (length T.nodes)), omega (arith, first_net top)))

  node_between : (i : ℕ) → length T.nodes + length T.nodes ≤ i → i < top → InCopy (node_net N i)
  node_between i low high = inr (inr (omega (arith, first_net (length T.nodes), first_net i), omega (arith, first_net i, first_net top)))

  output_in : (places : List ℕ) → All (λ place. place < length T.outputs) places → All InCopy (map (copied_net T) (outputs_at (widened T) places))
  output_in places within =
      All-map InCopy (copied_net T) (outputs_at (widened T) places)
      (All-map (λ n. InCopy (copied_net T n)) (slice_index T.outputs) places
      (All-weaker (λ place. place < length T.outputs) (λ place. InCopy (copied_net T (slice_index T.outputs place)))
      (λ place h. copied_in (slice_index T.outputs place) (closed.outputs place 0 h) (copied_at (slice_index T.outputs place))) places within))

  module _ (grouping : IsGrouping (length T.outputs) groups) where
    groups_in : All (λ group. All InCopy (map (copied_net T) (outputs_at (widened T) group))) groups
    groups_in = All-from_get_or (λ group. All InCopy (map (copied_net T) (outputs_at (widened T) group))) groups []
        (λ i h. output_in (slice_index_or groups i []) (grouping.each_within i))

    -- what a node of the copy or of a check reads is of these
    pub node_reads : (j pin : ℕ) → length T.nodes ≤ j → j < top → pin < length (node N j).reads → InCopy (pin_net N j pin)
    node_reads j pin low high has = elim (cases_lt j (length T.nodes + length T.nodes)) [
      | inl copy ↦ cover (j - length T.nodes) (omega arith) (omega arith)
      | inr check ↦ checks_read (widened T) N (copied_net T) first_net InCopy (length T.nodes + length T.nodes) top node_between groups (length T.nodes + length T.nodes) (omega arith) (omega arith)
          groups_in checks_stand j pin check high has
    ]
      where
        cover : (i : ℕ) → j ≡ length T.nodes + i → i < length T.nodes → InCopy (pin_net N j pin)
        cover i e h =
            let same : node N j ≡ renamed (copied_net T) (node T i) = ap (node N) e ∙ copied_is i h in
            let reads : (node N j).reads ≡ map (copied_net T) (node T i).reads = ap (λ (n : NodeOf). n.reads) same in
            let there : pin < length (node T i).reads = omega (arith, has, ap length reads, length-map (node T i).reads (copied_net T)) in
            subst InCopy (sym (ap (λ ns. slice_index ns pin) reads ∙ get_or-map (copied_net T) (node T i).reads pin 0 0 there))
            (copied_in (pin_net T i pin) (closed.pins i pin h there) (copied_at (pin_net T i pin)))

    -- what a copied register reads is of these
    pub latch_reads : (l : ℕ) → length T.latches ≤ l → l < length N.latches → InCopy (next_net N l)
    latch_reads l low high = at (l - length T.latches) (omega arith) (omega (arith, latches_counted))
      where
        at : (i : ℕ) → l ≡ length T.latches + i → i < length T.latches → InCopy (next_net N l)
        at i e h =
            subst InCopy (sym (ap (next_net N) e ∙ ap (λ (k : LatchOf). k.reads) (copied_latch_is i h)))
            (copied_in (next_net T i) (closed.latches i no_latch h) (copied_at (next_net T i)))

    in_node : (j : ℕ) → InCopy (node_net N j) → (length T.nodes ≤ j) × (j < top)
    in_node j (inl input) = absurd (omega (arith, first_net j))
    in_node j (inr (inl register)) = absurd (let h = register.1 in omega (arith, first_net j))
    in_node j (inr (inr between)) = (let a = between.0 in omega arith, let b = between.1 in omega arith)

    in_latch : (l : ℕ) → l < length N.latches → InCopy (latch_net N l) → length T.latches ≤ l
    in_latch l h (inl input) = absurd (omega (arith, begins.same_inputs))
    in_latch l h (inr (inl register)) = let a = register.0 in omega (arith, begins.same_inputs)
    in_latch l h (inr (inr between)) = absurd (let a = between.0 in omega (arith, begins.same_inputs))

    reached : (cell net : ℕ) → InCopy net → Reaches N cell net → InCopy cell
    reached cell _ is (own net e) = subst InCopy e is
    reached cell _ is (through net j pin h e k r) =
        let at = in_node j (subst InCopy e is) in
        reached cell (pin_net N j pin) (node_reads j pin at.0 at.1 k) r
    reached cell _ is (across net l h e r) =
        reached cell (next_net N l) (latch_reads l (in_latch l h (subst InCopy e is)) h) r

    own_outside : (cell : ℕ) → IsCell T cell → InCopy (own_net T cell) → ⊥
    own_outside cell is is_in = elim (cases_lt cell (T.inputs + length T.latches)) [
      | inl low ↦ register (own_low T cell low) low is_in
      | inr high ↦ cover (own_high T cell high) high is_in
    ]
      where
        register : own_net T cell ≡ cell → cell < T.inputs + length T.latches → InCopy (own_net T cell) → ⊥
        register e low (inl input) = let a = is.no_input in omega arith
        register e low (inr (inl copied)) = let a = copied.0 in omega arith
        register e low (inr (inr between)) = let a = between.0 in omega (arith, first_net (length T.nodes))

        cover : own_net T cell ≡ cell + length T.latches → T.inputs + length T.latches ≤ cell → InCopy (own_net T cell) → ⊥
        cover e high (inl input) = let a = is.no_input in omega arith
        cover e high (inr (inl copied)) = let a = copied.1 in let b = is.inside in omega arith
        cover e high (inr (inr between)) = let a = between.0 in let b = is.inside in omega (arith, first_net (length T.nodes))

    check_in : (i : ℕ) → i < length (twin_check_nets T groups) → InCopy (slice_index (twin_check_nets T groups) i)
    check_in i h =
        let between = checks_within (widened T) N (copied_net T) first_net groups (length T.nodes + length T.nodes) grouping.filled i h in
        inr (inr (let a = between.0 in omega (arith, first_net (length T.nodes), first_net (length T.nodes + length T.nodes)), between.1))

    -- no own cell reaches a check
    checks_apart : (cell check : ℕ) → IsCell T cell → check < length (twin_check_nets T groups) → Reaches N (own_net T cell) (slice_index (twin_check_nets T groups) check) → ⊥
    checks_apart cell check is h r = own_outside cell is (reached (own_net T cell) (slice_index (twin_check_nets T groups) check) (check_in check h) r)

    -- ---- the groups are odd where both copies are alike

    pub has_groups : HasGroups (twin_plan T groups rail1 rail2).plan
    has_groups = record {
      paired = checks_paired (widened T).inputs groups (length T.nodes + length T.nodes);
      filled = grouping.filled;
      within = grouping.within;
      once = grouping.once;
    }

    pub shown_own : take (length T.outputs) N.outputs ≡ map (own_net T) T.outputs
    shown_own = ap (take (length T.outputs)) begins.outputs ∙ front (length T.outputs) (map (own_net T) T.outputs) (rail1 ∷ rail2 ∷ []) (length-map T.outputs (own_net T))

    -- the outputs' nets and the checks'
    pub front_are : front_nets N (twin_plan T groups rail1 rail2) ≡ map (own_net T) T.outputs ++ twin_check_nets T groups
    front_are = ap (λ ns. ns ++ twin_check_nets T groups) shown_own

    module _ (v : List Bool) where
      -- the bit of an output is that of its own net
      pub output_bit : (place : ℕ) → place < length T.outputs → bit (front_bits N (twin_plan T groups rail1 rail2) v) place ≡ bit v (own_net T (slice_index T.outputs place))
      output_bit place h =
          ap (λ ns. bit (map (bit v) ns) place) front_are
          ∙ get_or-map (bit v) (map (own_net T) T.outputs ++ twin_check_nets T groups) place 0 false
          (omega (arith, length-append (map (own_net T) T.outputs) (twin_check_nets T groups), length-map T.outputs (own_net T)))
          ∙ ap (bit v) (get_or_append_left (map (own_net T) T.outputs) (twin_check_nets T groups) 0 place (omega (arith, length-map T.outputs (own_net T)))
          ∙ get_or-map (own_net T) T.outputs place 0 0 h)

      -- and the bit of a check that of its net
      pub check_bit : (i : ℕ) → i < length groups → bit (front_bits N (twin_plan T groups rail1 rail2) v) (length T.outputs + i) ≡ bit v (slice_index (twin_check_nets T groups) i)
      check_bit i h =
          let paired = checks_paired (widened T).inputs groups (length T.nodes + length T.nodes) in
          let at : length T.outputs + i ≡ length (map (own_net T) T.outputs) + i = omega (arith, length-map T.outputs (own_net T)) in
          ap (λ ns. bit (map (bit v) ns) (length T.outputs + i)) front_are
          ∙ get_or-map (bit v) (map (own_net T) T.outputs ++ twin_check_nets T groups) (length T.outputs + i) 0 false
          (omega (arith, length-append (map (own_net T) T.outputs) (twin_check_nets T groups), length-map T.outputs (own_net T), paired))
          ∙ ap (bit v) (ap (slice_index (map (own_net T) T.outputs ++ twin_check_nets T groups)) at ∙ get_or-append-add (map (own_net T) T.outputs) (twin_check_nets T groups) i 0)

      module _ (settles : StretchSettles N v (length T.nodes + length T.nodes) top)
          (alike : (n : ℕ) → n < nets T → bit v (own_net T n) ≡ bit v (copied_net T n)) where
        group_bits : (i : ℕ) → map (bit v) (map (copied_net T) (outputs_at (widened T) (slice_index_or groups i [])))
            ≡ bits_at (front_bits N (twin_plan T groups rail1 rail2) v) (slice_index_or groups i [])
        group_bits i =
            map-map (bit v) (copied_net T) (outputs_at (widened T) (slice_index_or groups i []))
            ∙ map-map (λ n. bit v (copied_net T n)) (slice_index T.outputs) (slice_index_or groups i [])
            ∙ map_agrees (λ place. place < length T.outputs) (λ place. bit v (copied_net T (slice_index T.outputs place))) (bit (front_bits N (twin_plan T groups rail1 rail2) v))
            (λ place h. sym (alike (slice_index T.outputs place) (closed.outputs place 0 h)) ∙ sym (output_bit place h))
            (slice_index_or groups i []) (grouping.each_within i)

        odd_with : (a b : Bool) → b ≡ not a → differ a b ≡ true
        odd_with true b e = ap not e
        odd_with false b e = e

        group_odd : (i : ℕ) → i < length groups
            → odd (bits_at (front_bits N (twin_plan T groups rail1 rail2) v) (slice_index_or groups i [] ++ (length T.outputs + i) ∷ [])) ≡ true
        group_odd i h =
            let w = front_bits N (twin_plan T groups rail1 rail2) v in
            let group = slice_index_or groups i [] in
            let check : bit (front_bits N (twin_plan T groups rail1 rail2) v) (length T.outputs + i) ≡ not (odd (bits_at (front_bits N (twin_plan T groups rail1 rail2) v) (slice_index_or groups i [])))
            = check_bit i h
            ∙ checks_foretell (widened T) N (copied_net T) first_net v groups (length T.nodes + length T.nodes) grouping.filled checks_stand settles i h
            ∙ ap (λ bits. not (odd bits)) (group_bits i) in
            ap odd (map-append (bit w) group ((length T.outputs + i) ∷ []))
            ∙ odd-push (bits_at w group) (bit w (length T.outputs + i))
            ∙ odd_with (odd (bits_at w group)) (bit w (length T.outputs + i)) check

        -- where both copies are alike, every group is odd
        pub is_odd : IsOdd N (twin_plan T groups rail1 rail2) v
        is_odd = record {
          groups = All-from_get_or (λ group. IsTrue (odd (bits_at (front_bits N (twin_plan T groups rail1 rail2) v) group))) (members (twin_plan T groups rail1 rail2).plan) []
              (λ i h.
              let low : i < length groups = omega (arith, h, length-members_from (length T.outputs) groups) in
              ap (λ group. odd (bits_at (front_bits N (twin_plan T groups rail1 rail2) v) group)) (member_at (length T.outputs) groups i low) ∙ group_odd i low);
          watched = All-nil (λ ns. IsTrue (odd (bits_at v ns)));
        }

    -- the checks settle where all does
    pub checks_settle : (x s : ℕ → Bool) (v : List Bool) → Settles N NoFault x s v → StretchSettles N v (length T.nodes + length T.nodes) top
    checks_settle x s v settles = record {
      nodes = λ j low high. settles.nodes j (omega (arith, checks_stand.fits, checks_sized (widened T) N (copied_net T) first_net groups (length T.nodes + length T.nodes)));
    }

    -- a twin, whatever is watched, where that is odd too
    pub is_twin_watching : (watches : List (List ℕ)) → Acyclic T → Acyclic N → AreGroupsApart T groups
        → ((x s : ℕ → Bool) (v : List Bool) → Settles N NoFault x s v → ((n : ℕ) → n < nets T → bit v (own_net T n) ≡ bit v (copied_net T n))
        → IsOdd N (record { plan = (twin_plan T groups rail1 rail2).plan; watches = watches }) v)
        → DecidesGroups N (record { plan = (twin_plan T groups rail1 rail2).plan; watches = watches })
        → IsTwin T N (record { plan = (twin_plan T groups rail1 rail2).plan; watches = watches }) (own_place T) (copied_place T)
    is_twin_watching watches source_acyclic acyclic apart foretold checker = record {
      source_closed = closed;
      source_acyclic = source_acyclic;
      acyclic = acyclic;
      same_inputs = begins.same_inputs;
      owns = owns;
      copies = copies;
      groups = has_groups;
      counted = refl;
      outputs = shown_own;
      apart = apart;
      checks_apart = checks_apart;
      foretold = foretold;
      checker = checker;
    }

    pub is_twin : Acyclic T → Acyclic N → AreGroupsApart T groups → DecidesGroups N (twin_plan T groups rail1 rail2)
        → IsTwin T N (twin_plan T groups rail1 rail2) (own_place T) (copied_place T)
    is_twin source_acyclic acyclic apart checker =
        is_twin_watching [] source_acyclic acyclic apart (λ x s v settles alike. is_odd v (checks_settle x s v settles) alike) checker
