-- What is kept of a source is a part of it.
use Rattle.std.proofs.Common.{◌≡◌, ℕ, suc, ◌+◌, ◌-◌, ◌<◌, nat_lt, if◌then◌else◌, inl, inr, List, [], ◌∷◌, map, length, slice_index, Contains, All, refl, sym, ap, ap₂, ◌∙◌, subst, arith}
use Rattle.std.proofs.lemmas.Grind.{common_steps}
use Rattle.std.proofs.lemmas.Bool.{cases_lt, lt-ltb, le-ltb}
use Rattle.std.proofs.lemmas.List.{get_or-map, length-map}
use Rattle.fault_secure.specs.Circuit.{Circuit, LatchOf, NodeOf, node, latch, no_latch, no_node, latch_net, node_net, pin_net, nets}
use Rattle.fault_secure.specs.Closed.{IsClosed}
use Rattle.fault_secure.specs.Settle.{Acyclic}
use Rattle.fault_secure.proofs.Places.{Place, place_of}
use Rattle.fault_secure.proofs.Places.Place.{Input, Latch, Node, Beyond}
use Rattle.parity_code.specs.ParityCircuit.{place_in}
use Rattle.parity_code.proofs.ParityCircuit.{place_in-rising}
use Rattle.register_laws.specs.RegisterPlan.{next_net}
use Rattle.register_laws.specs.RegisterStructure.Reaches.{own}
use Rattle.register_laws.specs.Twin.{HasCopy, renamed}
use Rattle.register_synth.specs.Reaching.{ReachesSome}
use Rattle.register_synth.specs.Kept.{AreThose, AreKept, IsKeptRegister, IsKeptCover, kept_net, kept_part, kept_place, renamed_latch}
use Rattle.register_synth.specs.KeptLaws.{KeptIsPart}
use Rattle.register_synth.proofs.Before.{node_before, latch_before}

-- ---- the places of a list of those

those_at : (P : ℕ → Type 0) (places : List ℕ) → AreThose P places → (n : ℕ) → P n → (k : ℕ) × (k < length places) × (slice_index places k ≡ n) × (place_in places n ≡ k)
those_at P places those n p = at (those.whole n p)
  where
    at : Contains places n → (k : ℕ) × (k < length places) × (slice_index places k ≡ n) × (place_in places n ≡ k)
    at (k, h, e) =
        let here : slice_index places k ≡ n = grind (arith, common_steps) in
        (k, h, here, ap (place_in places) (sym here) ∙ place_in-rising places those.rising k h)

-- which net of the part a kept net has
pub data IsKeptNet (C : Circuit) (registers covers : List ℕ) (net : ℕ) : Type 0 where
  OfInput : net < C.inputs → kept_net C registers covers net ≡ net → IsKeptNet C registers covers net
  OfRegister : (k : ℕ) → k < length registers → slice_index registers k < length C.latches → net ≡ latch_net C (slice_index registers k)
      → kept_net C registers covers net ≡ C.inputs + k → IsKeptNet C registers covers net
  OfCover : (k : ℕ) → k < length covers → slice_index covers k < length C.nodes → net ≡ node_net C (slice_index covers k)
      → kept_net C registers covers net ≡ C.inputs + length registers + k → IsKeptNet C registers covers net

module _ (C : Circuit) (registers covers : List ℕ) where
  net_of_input : (net : ℕ) → net < C.inputs → kept_net C registers covers net ≡ net
  net_of_input net h =
      ap (λ b. if b then net else (if nat_lt net (C.inputs + length C.latches) then C.inputs + place_in registers (net - C.inputs)
      else C.inputs + length registers + place_in covers (net - (C.inputs + length C.latches)))) (lt-ltb net C.inputs h)

  net_of_register : (l : ℕ) → l < length C.latches → kept_net C registers covers (latch_net C l) ≡ C.inputs + place_in registers l
  net_of_register l h =
      ap (λ b. if b then C.inputs + l else (if nat_lt (C.inputs + l) (C.inputs + length C.latches) then C.inputs + place_in registers (C.inputs + l - C.inputs)
      else C.inputs + length registers + place_in covers (C.inputs + l - (C.inputs + length C.latches)))) (le-ltb (C.inputs + l) C.inputs (omega arith))
      ∙ ap (λ b. if b then C.inputs + place_in registers (C.inputs + l - C.inputs)
      else C.inputs + length registers + place_in covers (C.inputs + l - (C.inputs + length C.latches))) (lt-ltb (C.inputs + l) (C.inputs + length C.latches) (omega arith))
      ∙ ap (λ n. C.inputs + place_in registers n) (let e : C.inputs + l - C.inputs ≡ l = omega arith in e)

  net_of_cover : (j : ℕ) → kept_net C registers covers (node_net C j) ≡ C.inputs + length registers + place_in covers j
  net_of_cover j =
      ap (λ b. if b then node_net C j else (if nat_lt (node_net C j) (C.inputs + length C.latches) then C.inputs + place_in registers (node_net C j - C.inputs)
      else C.inputs + length registers + place_in covers (node_net C j - (C.inputs + length C.latches)))) (le-ltb (node_net C j) C.inputs (omega arith))
      ∙ ap (λ b. if b then C.inputs + place_in registers (node_net C j - C.inputs)
      else C.inputs + length registers + place_in covers (node_net C j - (C.inputs + length C.latches))) (le-ltb (node_net C j) (C.inputs + length C.latches) (omega arith))
      ∙ ap (λ n. C.inputs + length registers + place_in covers n) (let e : node_net C j - (C.inputs + length C.latches) ≡ j = omega arith in e)

  place_of_input : (n : ℕ) → n < C.inputs → (kept_place C registers covers).net n ≡ n
  place_of_input n h =
      ap (λ b. if b then n else (if nat_lt n (C.inputs + length registers) then C.inputs + slice_index registers (n - C.inputs)
      else C.inputs + length C.latches + slice_index covers (n - (C.inputs + length registers)))) (lt-ltb n C.inputs h)

  place_of_register : (k : ℕ) → k < length registers → (kept_place C registers covers).net (C.inputs + k) ≡ latch_net C (slice_index registers k)
  place_of_register k h =
      ap (λ b. if b then C.inputs + k else (if nat_lt (C.inputs + k) (C.inputs + length registers) then C.inputs + slice_index registers (C.inputs + k - C.inputs)
      else C.inputs + length C.latches + slice_index covers (C.inputs + k - (C.inputs + length registers)))) (le-ltb (C.inputs + k) C.inputs (omega arith))
      ∙ ap (λ b. if b then C.inputs + slice_index registers (C.inputs + k - C.inputs)
      else C.inputs + length C.latches + slice_index covers (C.inputs + k - (C.inputs + length registers))) (lt-ltb (C.inputs + k) (C.inputs + length registers) (omega arith))
      ∙ ap (λ n. C.inputs + slice_index registers n) (let e : C.inputs + k - C.inputs ≡ k = omega arith in e)

  place_of_cover : (k : ℕ) → (kept_place C registers covers).net (C.inputs + length registers + k) ≡ node_net C (slice_index covers k)
  place_of_cover k =
      ap (λ b. if b then C.inputs + length registers + k else (if nat_lt (C.inputs + length registers + k) (C.inputs + length registers) then C.inputs + slice_index registers (C.inputs + length registers + k - C.inputs)
      else C.inputs + length C.latches + slice_index covers (C.inputs + length registers + k - (C.inputs + length registers)))) (le-ltb (C.inputs + length registers + k) C.inputs (omega arith))
      ∙ ap (λ b. if b then C.inputs + slice_index registers (C.inputs + length registers + k - C.inputs)
      else C.inputs + length C.latches + slice_index covers (C.inputs + length registers + k - (C.inputs + length registers))) (le-ltb (C.inputs + length registers + k) (C.inputs + length registers) (omega arith))
      ∙ ap (λ n. C.inputs + length C.latches + slice_index covers n) (let e : C.inputs + length registers + k - (C.inputs + length registers) ≡ k = omega arith in e)

module _ (C : Circuit) (registers covers : List ℕ) (kept : AreKept C registers covers) where
  register_kept : (l : ℕ) → IsKeptRegister C l → IsKeptNet C registers covers (latch_net C l)
  register_kept l is = found (those_at (IsKeptRegister C) registers kept.each_register l is)
    where
      found : (k : ℕ) × (k < length registers) × (slice_index registers k ≡ l) × (place_in registers l ≡ k) → IsKeptNet C registers covers (latch_net C l)
      found (k, h, e, p) = OfRegister k h (subst (λ n. n < length C.latches) (sym e) is.0) (ap (latch_net C) (sym e))
          (net_of_register C registers covers l is.0 ∙ ap (λ n. C.inputs + n) p)

  cover_kept : (j : ℕ) → IsKeptCover C j → IsKeptNet C registers covers (node_net C j)
  cover_kept j is = found (those_at (IsKeptCover C) covers kept.each_cover j is)
    where
      found : (k : ℕ) × (k < length covers) × (slice_index covers k ≡ j) × (place_in covers j ≡ k) → IsKeptNet C registers covers (node_net C j)
      found (k, h, e, p) = OfCover k h (subst (λ n. n < length C.nodes) (sym e) is.0) (ap (node_net C) (sym e))
          (net_of_cover C registers covers j ∙ ap (λ n. C.inputs + length registers + n) p)

  kept_at : (net : ℕ) → net < nets C → ReachesSome C net C.outputs → Place C net → IsKeptNet C registers covers net
  kept_at net within reaches (Input h) = OfInput h (net_of_input C registers covers net h)
  kept_at net within reaches (Latch l h e) = subst (IsKeptNet C registers covers) (sym e) (register_kept l (h, subst (λ n. ReachesSome C n C.outputs) e reaches))
  kept_at net within reaches (Node j h e) = subst (IsKeptNet C registers covers) (sym e) (cover_kept j (h, subst (λ n. ReachesSome C n C.outputs) e reaches))
  kept_at net within reaches (Beyond h) = absurd (omega arith)

  -- a net that reaches an output is kept
  pub is_kept : (net : ℕ) → net < nets C → ReachesSome C net C.outputs → IsKeptNet C registers covers net
  is_kept net within reaches = kept_at net within reaches (place_of C net)

  -- where it stands in the part, it stands for itself
  pub kept_back : (net : ℕ) → IsKeptNet C registers covers net → (kept_place C registers covers).net (kept_net C registers covers net) ≡ net
  kept_back net (OfInput h e) = ap (kept_place C registers covers).net e ∙ place_of_input C registers covers net h
  kept_back net (OfRegister k h g e p) = ap (kept_place C registers covers).net p ∙ place_of_register C registers covers k h ∙ sym e
  kept_back net (OfCover k h g e p) = ap (kept_place C registers covers).net p ∙ place_of_cover C registers covers k ∙ sym e

  count_latches : length (kept_part C registers covers).latches ≡ length registers
  count_latches = length-map registers (λ l. renamed_latch (kept_net C registers covers) (latch C l))

  count_nodes : length (kept_part C registers covers).nodes ≡ length covers
  count_nodes = length-map covers (λ j. renamed (kept_net C registers covers) (node C j))

  pub kept_within : (net : ℕ) → IsKeptNet C registers covers net → kept_net C registers covers net < nets (kept_part C registers covers)
  kept_within net (OfInput h e) = let a = count_latches in let b = count_nodes in omega arith
  kept_within net (OfRegister k h g e p) = let a = count_latches in let b = count_nodes in omega arith
  kept_within net (OfCover k h g e p) = let a = count_latches in let b = count_nodes in omega arith

  latch_is : (k : ℕ) → k < length registers → latch (kept_part C registers covers) k ≡ renamed_latch (kept_net C registers covers) (latch C (slice_index registers k))
  latch_is k h = get_or-map (λ l. renamed_latch (kept_net C registers covers) (latch C l)) registers k 0 no_latch h

  node_is : (k : ℕ) → k < length covers → node (kept_part C registers covers) k ≡ renamed (kept_net C registers covers) (node C (slice_index covers k))
  node_is k h = get_or-map (λ j. renamed (kept_net C registers covers) (node C j)) covers k 0 no_node h

  module _ (closed : IsClosed C) where
    -- what a kept register or cover reads is kept
    register_reads : (k : ℕ) → k < length registers → IsKeptNet C registers covers (next_net C (slice_index registers k))
    register_reads k h =
        let is = kept.each_register.sound k h in
        is_kept (next_net C (slice_index registers k)) (closed.latches (slice_index registers k) no_latch is.0)
        (record { root = is.1.root; is_root = is.1.is_root; reaches = latch_before C (slice_index registers k) is.1.root is.0 is.1.reaches })

    cover_reads : (k pin : ℕ) → k < length covers → pin < length (node C (slice_index covers k)).reads → IsKeptNet C registers covers (pin_net C (slice_index covers k) pin)
    cover_reads k pin h l =
        let is = kept.each_cover.sound k h in
        is_kept (pin_net C (slice_index covers k) pin) (closed.pins (slice_index covers k) pin is.0 l)
        (record { root = is.1.root; is_root = is.1.is_root; reaches = node_before C (slice_index covers k) pin is.1.root is.0 l is.1.reaches })

    output_kept : (i : ℕ) → i < length C.outputs → IsKeptNet C registers covers (slice_index C.outputs i)
    output_kept i h =
        is_kept (slice_index C.outputs i) (closed.outputs i 0 h)
        (record { root = slice_index C.outputs i; is_root = (i, h, grind (arith, common_steps)); reaches = own (slice_index C.outputs i) refl })

    -- the pins of a node of the part
    pins_count : (k : ℕ) → k < length covers → length (node (kept_part C registers covers) k).reads ≡ length (node C (slice_index covers k)).reads
    pins_count k h = ap (λ (n : NodeOf). length n.reads) (node_is k h) ∙ length-map (node C (slice_index covers k)).reads (kept_net C registers covers)

    pin_is : (k pin : ℕ) → k < length covers → pin < length (node C (slice_index covers k)).reads
        → pin_net (kept_part C registers covers) k pin ≡ kept_net C registers covers (pin_net C (slice_index covers k) pin)
    pin_is k pin h l =
        ap (λ (n : NodeOf). slice_index n.reads pin) (node_is k h) ∙ get_or-map (kept_net C registers covers) (node C (slice_index covers k)).reads pin 0 0 l

    outputs_within : All (λ net. net < nets (kept_part C registers covers)) (map (kept_net C registers covers) C.outputs)
    outputs_within = λ i d h.
        let count : length (map (kept_net C registers covers) C.outputs) ≡ length C.outputs = length-map C.outputs (kept_net C registers covers) in
        let low : i < length C.outputs = omega arith in
        subst (λ n. n < nets (kept_part C registers covers)) (sym (get_or-map (kept_net C registers covers) C.outputs i 0 d low))
        (kept_within (slice_index C.outputs i) (output_kept i low))

    latches_within : All (λ (l : LatchOf). l.reads < nets (kept_part C registers covers)) (kept_part C registers covers).latches
    latches_within = λ i d h.
        let count = count_latches in
        let low : i < length registers = omega arith in
        subst (λ (l : LatchOf). l.reads < nets (kept_part C registers covers))
        (sym (get_or-map (λ l. renamed_latch (kept_net C registers covers) (latch C l)) registers i 0 d low))
        (kept_within (next_net C (slice_index registers i)) (register_reads i low))

    widths : All (λ (n : NodeOf). n.cover.width ≡ length n.reads) (kept_part C registers covers).nodes
    widths = λ i d h.
        let count = count_nodes in
        let low : i < length covers = omega arith in
        subst (λ (n : NodeOf). n.cover.width ≡ length n.reads)
        (sym (get_or-map (λ j. renamed (kept_net C registers covers) (node C j)) covers i 0 d low))
        (closed.widths (slice_index covers i) no_node (kept.each_cover.sound i low).0
        ∙ sym (length-map (node C (slice_index covers i)).reads (kept_net C registers covers)))

    part_closed : IsClosed (kept_part C registers covers)
    part_closed = record {
      pins = λ j pin h l.
          let low : j < length covers = omega (arith, count_nodes) in
          let pins = pins_count j low in
          let has : pin < length (node C (slice_index covers j)).reads = omega arith in
          subst (λ n. n < nets (kept_part C registers covers)) (sym (pin_is j pin low has))
          (kept_within (pin_net C (slice_index covers j) pin) (cover_reads j pin low has));
      latches = latches_within;
      outputs = outputs_within;
      some_output = omega (arith, closed.some_output, length-map C.outputs (kept_net C registers covers));
      widths = widths;
    }

    -- a node's net stands for the node's
    node_stands : (j : ℕ) → j < length covers → (kept_place C registers covers).net (node_net (kept_part C registers covers) j) ≡ node_net C (slice_index covers j)
    node_stands j h =
        ap (λ n. (kept_place C registers covers).net (C.inputs + n + j)) count_latches ∙ place_of_cover C registers covers j

    part_acyclic : Acyclic C → Acyclic (kept_part C registers covers)
    part_acyclic acyclic = record {
      rank = λ n. acyclic.rank ((kept_place C registers covers).net n);
      ranks = record {
        above = λ j pin h l.
            let low : j < length covers = omega (arith, count_nodes) in
            let pins = pins_count j low in
            let has : pin < length (node C (slice_index covers j)).reads = omega arith in
            let below = acyclic.ranks.above (slice_index covers j) pin (kept.each_cover.sound j low).0 has in
            let at_pin : acyclic.rank ((kept_place C registers covers).net (pin_net (kept_part C registers covers) j pin)) ≡ acyclic.rank (pin_net C (slice_index covers j) pin)
            = ap acyclic.rank (ap (kept_place C registers covers).net (pin_is j pin low has) ∙ kept_back (pin_net C (slice_index covers j) pin) (cover_reads j pin low has)) in
            let at_node : acyclic.rank ((kept_place C registers covers).net (node_net (kept_part C registers covers) j)) ≡ acyclic.rank (node_net C (slice_index covers j))
            = ap acyclic.rank (node_stands j low) in
            omega arith;
      };
    }

    -- renaming there and back
    map_back : (f g : ℕ → ℕ) (ns : List ℕ) → ((i : ℕ) → i < length ns → g (f (slice_index ns i)) ≡ slice_index ns i) → map g (map f ns) ≡ ns
    map_back f g [] back = refl
    map_back f g (n ∷ ns) back = ap₂ ◌∷◌ (back 0 (omega arith)) (map_back f g ns (λ i h. back (suc i) (omega arith)))

    node_back : (j : ℕ) → j < length covers → node C (slice_index covers j) ≡ renamed (kept_place C registers covers).net (node (kept_part C registers covers) j)
    node_back j h =
        let reads : map (kept_place C registers covers).net (map (kept_net C registers covers) (node C (slice_index covers j)).reads) ≡ (node C (slice_index covers j)).reads
        = map_back (kept_net C registers covers) (kept_place C registers covers).net (node C (slice_index covers j)).reads
        (λ i l. kept_back (pin_net C (slice_index covers j) i) (cover_reads j i h l)) in
        ap (λ ns. record { reads = ns; cover = (node C (slice_index covers j)).cover }) (sym reads)
        ∙ sym (ap (renamed (kept_place C registers covers).net) (node_is j h))

    rising_once : (places : List ℕ) → ((i k : ℕ) → i < k → k < length places → slice_index places i < slice_index places k)
        → (i k : ℕ) → i < length places → k < length places → slice_index places i ≡ slice_index places k → i ≡ k
    rising_once places rising i k h l e = elim (cases_lt i k) [
      | inl below ↦ absurd (let a = rising i k below l in omega arith)
      | inr over ↦ elim (cases_lt k i) [
        | inl above ↦ absurd (let a = rising k i above h in omega arith)
        | inr same ↦ omega arith
      ]
    ]

    -- the net in the source of each net of the part
    data Stands (n : ℕ) : Type 0 where
      AtInput : n < C.inputs → (kept_place C registers covers).net n ≡ n → Stands n
      AtRegister : (k : ℕ) → k < length registers → n ≡ C.inputs + k → slice_index registers k < length C.latches
          → (kept_place C registers covers).net n ≡ latch_net C (slice_index registers k) → Stands n
      AtCover : (k : ℕ) → k < length covers → n ≡ C.inputs + length registers + k
          → (kept_place C registers covers).net n ≡ node_net C (slice_index covers k) → Stands n

    stands_at : (n : ℕ) → n < nets (kept_part C registers covers) → Place (kept_part C registers covers) n → Stands n
    stands_at n within (Input h) = AtInput h (place_of_input C registers covers n h)
    stands_at n within (Latch k h e) =
        let low : k < length registers = omega (arith, count_latches) in
        AtRegister k low e (kept.each_register.sound k low).0 (ap (kept_place C registers covers).net e ∙ place_of_register C registers covers k low)
    stands_at n within (Node k h e) =
        let low : k < length covers = omega (arith, count_nodes) in
        AtCover k low (omega (arith, count_latches)) (ap (kept_place C registers covers).net e ∙ node_stands k low)
    stands_at n within (Beyond h) = absurd (omega arith)

    different_at : (n m : ℕ) → Stands n → Stands m → (kept_place C registers covers).net n ≡ (kept_place C registers covers).net m → n ≡ m
    different_at n m (AtInput h p) (AtInput k q) e = sym p ∙ e ∙ q
    different_at n m (AtInput h p) (AtRegister k l r s q) e = absurd (omega arith)
    different_at n m (AtInput h p) (AtCover k l r q) e = absurd (omega arith)
    different_at n m (AtRegister i h o s p) (AtInput k q) e = absurd (omega arith)
    different_at n m (AtRegister i h o s p) (AtRegister k l r t q) e =
        let same : i ≡ k = rising_once registers kept.each_register.rising i k h l (omega arith) in omega arith
    different_at n m (AtRegister i h o s p) (AtCover k l r q) e = absurd (omega arith)
    different_at n m (AtCover i h o p) (AtInput k q) e = absurd (omega arith)
    different_at n m (AtCover i h o p) (AtRegister k l r t q) e = absurd (omega arith)
    different_at n m (AtCover i h o p) (AtCover k l r q) e =
        let same : i ≡ k = rising_once covers kept.each_cover.rising i k h l (omega arith) in omega arith

    part_copy : HasCopy (kept_part C registers covers) C (kept_place C registers covers)
    part_copy = record {
      inputs = place_of_input C registers covers;
      latches = λ l h. place_of_register C registers covers l (omega (arith, count_latches));
      latch_in = λ l h. (kept.each_register.sound l (omega (arith, count_latches))).0;
      nodes = λ j h. node_stands j (omega (arith, count_nodes));
      node_in = λ j h. (kept.each_cover.sound j (omega (arith, count_nodes))).0;
      covers = λ j h. node_back j (omega (arith, count_nodes));
      reads = λ l h.
          let low : l < length registers = omega (arith, count_latches) in
          sym (ap (λ (k : LatchOf). (kept_place C registers covers).net k.reads) (latch_is l low)
          ∙ kept_back (next_net C (slice_index registers l)) (register_reads l low));
      inits = λ l h. sym (ap (λ (k : LatchOf). k.init) (latch_is l (omega (arith, count_latches))));
      different = λ n m h k e. different_at n m (stands_at n h (place_of (kept_part C registers covers) n)) (stands_at m k (place_of (kept_part C registers covers) m)) e;
    }

-- what is kept of a closed source without a ring is a part of it
pub kept_is_part : KeptIsPart
kept_is_part S registers covers closed acyclic kept = record {
  closed = part_closed S registers covers kept closed;
  acyclic = part_acyclic S registers covers kept closed acyclic;
  same_inputs = refl;
  copy = part_copy S registers covers kept closed;
  outputs = sym (map_back S registers covers kept closed (kept_net S registers covers) (kept_place S registers covers).net S.outputs
      (λ i h. kept_back S registers covers kept (slice_index S.outputs i) (output_kept S registers covers kept closed i h)));
}
