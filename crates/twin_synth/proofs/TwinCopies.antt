-- The copies that are pushed over tables are those of the twin.
use Rattle.std.specs.List.{range_with_len}
use Rattle.std.proofs.Common.{◌≡◌, ℕ, zero, suc, ◌+◌, ◌<◌, ◌≤◌, List, [], ◌∷◌, ◌++◌, map, length, slice_index, Contains, All, refl, sym, ap, ap₂, ◌∙◌, arith, append_assoc}
use Rattle.std.proofs.lemmas.Grind.{common_steps}
use Rattle.std.proofs.lemmas.List.{length-map, map-append, get_or-map}
use Rattle.std.proofs.lemmas.List.Elements.{All-from_get_or, All-head, All-tail}
use Rattle.tsc_bits.proofs.Lists.{map_agrees}
use Rattle.fault_secure.specs.Circuit.{Circuit, LatchOf, NodeOf, latch, node, no_latch, pin_net}
use Rattle.fault_secure.specs.Closed.{IsClosed}
use Rattle.tsc_net.specs.NetlistOf.{NetlistOf}
use Rattle.parity_code.specs.GroupChecks.{group_checks}
use Rattle.parity_code.specs.ParityCircuit.{parity_nodes}
use Rattle.register_laws.specs.RegisterPlan.{next_net}
use Rattle.register_laws.specs.RegisterStructure.Reaches.{own}
use Rattle.register_laws.specs.Twin.{renamed}
use Rattle.register_synth.specs.Kept.{AreKept, IsKeptRegister, IsKeptCover, kept_net, kept_part, renamed_latch}
use Rattle.register_synth.specs.TwinNet.{own_net, copied_net, twin_latches, twin_covers, widened}
use Rattle.register_synth.specs.TwinCircuit.{showing}
use Rattle.register_synth.proofs.Before.{node_before, latch_before}
use Rattle.register_synth.proofs.KeptPart.{IsKeptNet, is_kept}
use Rattle.register_synth.proofs.KeptPart.IsKeptNet.{OfInput, OfRegister, OfCover}
use Rattle.register_synth.proofs.TwinMade.{own_low, own_high, copied_input, copied_latch, copied_node}
use Rattle.twin_synth.specs.Numbered.{more_latches, more_nodes}
use Rattle.twin_synth.specs.Pushed.{latch_over, latches_over, node_over, nodes_over}
use Rattle.twin_synth.specs.Table.{IsTable, IsOwnTable, IsCopiedTable}
use Rattle.twin_synth.specs.Checks.{checks_from}
use Rattle.twin_synth.specs.inner.Composed.{shown_over}

-- an item of a list is one of it
contains : (xs : List ℕ) (i : ℕ) → i < length xs → Contains xs (slice_index xs i)
contains xs i h = (i, h, grind (arith, common_steps))

-- two maps, one after the other
map_twice : {X Y Z : Type 0} (f : Y → Z) (g : X → Y) (xs : List X) → map (λ x. f (g x)) xs ≡ map f (map g xs)
map_twice f g [] = refl
map_twice f g (x ∷ xs) = ap (λ zs. f (g x) ∷ zs) (map_twice f g xs)

-- numbers in a row, moved
map_range : (f : ℕ → ℕ) (a b n : ℕ) → ((k : ℕ) → k < n → f (a + k) ≡ b + k) → map f (range_with_len a n) ≡ range_with_len b n
map_range f a b zero h = refl
map_range f a b (suc n) h =
    let first : f a ≡ b = ap f (let e : a ≡ a + 0 = omega arith in e) ∙ h 0 (omega arith) ∙ (let e : b + 0 ≡ b = omega arith in e) in
    ap₂ (λ (x : ℕ) (l : List ℕ). x ∷ l) first
    (map_range f (a + 1) (b + 1) n (λ k low.
    ap f (let e : a + 1 + k ≡ a + suc k = omega arith in e) ∙ h (suc k) (omega arith) ∙ (let e : b + suc k ≡ b + 1 + k = omega arith in e)))

-- the checks over nets by place are those over the nets of outputs
pub checks_are : (W : Circuit) (f : ℕ → ℕ) (groups : List (List ℕ)) (from : ℕ) → All (All (λ place. place < length W.outputs)) groups
    → checks_from W.inputs from (map f W.outputs) groups ≡ group_checks W f groups from
checks_are W f [] from within = refl
checks_are W f (group ∷ groups) from within =
    ap₂ (λ (list : List ℕ) (rest : List NodeOf). parity_nodes W.inputs from list ++ rest)
    (map_agrees (λ place. place < length W.outputs) (slice_index (map f W.outputs)) (λ place. f (slice_index W.outputs place)) (λ place low. at place low) group
    (All-head (All (λ place. place < length W.outputs)) group groups within) ∙ map_twice f (slice_index W.outputs) group)
    (checks_are W f groups (from + length group) (All-tail (All (λ place. place < length W.outputs)) group groups within))
  where
    at : (place : ℕ) → place < length W.outputs → slice_index (map f W.outputs) place ≡ f (slice_index W.outputs place)
    at place low = get_or-map f W.outputs place 0 0 low

module _ (C : Circuit) (registers covers : List ℕ) where
  abbrev T : Circuit
  T = kept_part C registers covers

  pub counted_latches : length (kept_part C registers covers).latches ≡ length registers
  counted_latches = length-map registers (λ l. renamed_latch (kept_net C registers covers) (latch C l))

  pub counted_nodes : length (kept_part C registers covers).nodes ≡ length covers
  counted_nodes = length-map covers (λ j. renamed (kept_net C registers covers) (node C j))

  -- a kept net's number is its net in the copy
  own_at : (numbers : List ℕ) → IsOwnTable C registers covers numbers → (net : ℕ) → IsKeptNet C registers covers net → slice_index numbers net ≡ own_net T (kept_net C registers covers net)
  own_at numbers table net (OfInput h e) = table.inputs net h ∙ sym (ap (own_net T) e ∙ own_low T net (omega arith))
  own_at numbers table net (OfRegister k h g e p) =
      ap (slice_index numbers) e ∙ table.registers_at k h ∙ sym (ap (own_net T) p ∙ own_low T (C.inputs + k) (omega (arith, counted_latches)))
  own_at numbers table net (OfCover k h g e p) =
      let high = own_high T (C.inputs + length registers + k) (omega (arith, counted_latches)) in
      ap (slice_index numbers) e ∙ table.covers_at k h
      ∙ (let s : C.inputs + (length registers + length registers) + k ≡ own_net T (C.inputs + length registers + k) = omega (arith, high, counted_latches) in s)
      ∙ sym (ap (own_net T) p)

  copied_at : (numbers : List ℕ) → IsCopiedTable C registers covers numbers → (net : ℕ) → IsKeptNet C registers covers net → slice_index numbers net ≡ copied_net T (kept_net C registers covers net)
  copied_at numbers table net (OfInput h e) = table.inputs net h ∙ sym (ap (copied_net T) e ∙ copied_input T net h)
  copied_at numbers table net (OfRegister k h g e p) =
      let moved = copied_latch T (C.inputs + k) (omega arith) (omega (arith, counted_latches)) in
      ap (slice_index numbers) e ∙ table.registers_at k h
      ∙ (let s : C.inputs + length registers + k ≡ copied_net T (C.inputs + k) = omega (arith, moved, counted_latches) in s) ∙ sym (ap (copied_net T) p)
  copied_at numbers table net (OfCover k h g e p) =
      let moved = copied_node T (C.inputs + length registers + k) (omega (arith, counted_latches)) in
      ap (slice_index numbers) e ∙ table.covers_at k h
      ∙ (let s : C.inputs + (length registers + length registers) + length covers + k ≡ copied_net T (C.inputs + length registers + k) = omega (arith, moved, counted_latches, counted_nodes) in s)
      ∙ sym (ap (copied_net T) p)

  module _ (kept : AreKept C registers covers) (closed : IsClosed C) where
    -- what is kept reads what is kept
    register_reads : (l : ℕ) → IsKeptRegister C l → IsKeptNet C registers covers (next_net C l)
    register_reads l is =
        is_kept C registers covers kept (next_net C l) (closed.latches l no_latch is.0)
        (record { root = is.1.root; is_root = is.1.is_root; reaches = latch_before C l is.1.root is.0 is.1.reaches })

    cover_reads : (j : ℕ) → IsKeptCover C j → All (IsKeptNet C registers covers) (node C j).reads
    cover_reads j is = All-from_get_or (IsKeptNet C registers covers) (node C j).reads 0 (λ pin h. (
        is_kept C registers covers kept (pin_net C j pin) (closed.pins j pin is.0 h)
        (record { root = is.1.root; is_root = is.1.is_root; reaches = node_before C j pin is.1.root is.0 h is.1.reaches })))

    outputs_kept : All (IsKeptNet C registers covers) C.outputs
    outputs_kept = All-from_get_or (IsKeptNet C registers covers) C.outputs 0 (λ i h. (
        is_kept C registers covers kept (slice_index C.outputs i) (closed.outputs i 0 h)
        (record { root = slice_index C.outputs i; is_root = contains C.outputs i h; reaches = own (slice_index C.outputs i) refl })))

    all_registers : All (IsKeptRegister C) registers
    all_registers = All-from_get_or (IsKeptRegister C) registers 0 kept.each_register.sound

    all_covers : All (IsKeptCover C) covers
    all_covers = All-from_get_or (IsKeptCover C) covers 0 kept.each_cover.sound

    -- a copy of the registers, of the covers, and of the outputs, by the net that stands for each net
    module _ (f : ℕ → ℕ) (numbers : List ℕ) (at : (net : ℕ) → IsKeptNet C registers covers net → slice_index numbers net ≡ f (kept_net C registers covers net)) where
      latches_stand : latches_over C numbers registers ≡ map (renamed_latch f) (kept_part C registers covers).latches
      latches_stand =
          map_agrees (IsKeptRegister C) (λ l. latch_over numbers (latch C l)) (λ l. renamed_latch f (renamed_latch (kept_net C registers covers) (latch C l)))
          (λ l is. ap (λ (n : ℕ). let k : LatchOf = record { reads = n; init = (latch C l).init } in k) (at (next_net C l) (register_reads l is))) registers all_registers
          ∙ map_twice (renamed_latch f) (λ l. renamed_latch (kept_net C registers covers) (latch C l)) registers

      nodes_stand : nodes_over C numbers covers ≡ map (renamed f) (kept_part C registers covers).nodes
      nodes_stand =
          map_agrees (IsKeptCover C) (λ j. node_over numbers (node C j)) (λ j. renamed f (renamed (kept_net C registers covers) (node C j)))
          (λ j is. ap (λ (ns : List ℕ). let k : NodeOf = record { reads = ns; cover = (node C j).cover } in k)
          (map_agrees (IsKeptNet C registers covers) (slice_index numbers) (λ n. f (kept_net C registers covers n)) at (node C j).reads (cover_reads j is)
          ∙ map_twice f (kept_net C registers covers) (node C j).reads)) covers all_covers
          ∙ map_twice (renamed f) (λ j. renamed (kept_net C registers covers) (node C j)) covers

      outputs_stand : map (slice_index numbers) C.outputs ≡ map f (kept_part C registers covers).outputs
      outputs_stand =
          map_agrees (IsKeptNet C registers covers) (slice_index numbers) (λ n. f (kept_net C registers covers n)) at C.outputs outputs_kept
          ∙ map_twice f (kept_net C registers covers) C.outputs

    module _ (owns copies : List ℕ) (own_table : IsOwnTable C registers covers owns) (copied_table : IsCopiedTable C registers covers copies) where
      -- both copies, pushed one after another, are the twin's
      pub both_copies : (A B D E F : NetlistOf) → B ≡ more_latches A (latches_over C owns registers) → D ≡ more_latches B (latches_over C copies registers)
          → E ≡ more_nodes D (nodes_over C owns covers) → F ≡ more_nodes E (nodes_over C copies covers) → F ≡ more_nodes (more_latches A (twin_latches T)) (twin_covers T)
      both_copies A B D E F b d e f =
          let one = latches_stand (own_net T) owns (own_at owns own_table) in
          let two = latches_stand (copied_net T) copies (copied_at copies copied_table) in
          let three = nodes_stand (own_net T) owns (own_at owns own_table) in
          let four = nodes_stand (copied_net T) copies (copied_at copies copied_table) in
          f ∙ ap (λ (N : NetlistOf). more_nodes N (nodes_over C copies covers)) (e ∙ ap (λ (N : NetlistOf). more_nodes N (nodes_over C owns covers)) (d ∙ ap (λ (N : NetlistOf). more_latches N (latches_over C copies registers)) b))
          ∙ ap₂ (λ (ls : List LatchOf) (ns : List NodeOf). let D : Circuit = record { inputs = A.circuit.inputs; latches = ls; nodes = ns; outputs = A.circuit.outputs } in
          let N : NetlistOf = record { circuit = D; names = A.names; model = A.model } in N)
          (append_assoc A.circuit.latches (latches_over C owns registers) (latches_over C copies registers) ∙ ap₂ (λ (a b : List LatchOf). A.circuit.latches ++ (a ++ b)) one two)
          (append_assoc A.circuit.nodes (nodes_over C owns covers) (nodes_over C copies covers) ∙ ap₂ (λ (a b : List NodeOf). A.circuit.nodes ++ (a ++ b)) three four)

    -- what is shown, in both copies
    pub own_outputs : (owns : List ℕ) → IsOwnTable C registers covers owns → map (slice_index owns) C.outputs ≡ map (own_net T) T.outputs
    own_outputs owns table = outputs_stand (own_net T) owns (own_at owns table)

    pub own_shown : (owns : List ℕ) (watched : ℕ) → IsOwnTable C registers covers owns → watched ≤ length registers
        → shown_over C owns C.inputs watched ≡ map (own_net T) (showing watched T).outputs
    own_shown owns watched table fits =
        ap₂ (λ (a b : List ℕ). a ++ b) (own_outputs owns table)
        (sym (map_range (own_net T) C.inputs C.inputs watched (λ k h. own_low T (C.inputs + k) (omega (arith, counted_latches)))))
        ∙ sym (map-append (own_net T) T.outputs (range_with_len C.inputs watched))

    pub copied_shown : (copies : List ℕ) (watched : ℕ) → IsCopiedTable C registers covers copies → watched ≤ length registers
        → shown_over C copies (C.inputs + length registers) watched ≡ map (copied_net T) (showing watched T).outputs
    copied_shown copies watched table fits =
        ap₂ (λ (a b : List ℕ). a ++ b) (outputs_stand (copied_net T) copies (copied_at copies table))
        (sym (map_range (copied_net T) C.inputs (C.inputs + length registers) watched
        (λ k h. (let moved = copied_latch T (C.inputs + k) (omega arith) (omega (arith, counted_latches)) in omega (arith, moved, counted_latches)))))
        ∙ sym (map-append (copied_net T) T.outputs (range_with_len C.inputs watched))
