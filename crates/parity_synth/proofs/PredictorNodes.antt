-- The nodes of predictors by names, over the numbers of names: the copies of a cone, and the chain with the check.
use Rattle.std.proofs.Common.{◌≡◌, ℕ, zero, suc, ◌+◌, ◌-◌, ◌<◌, ◌≤◌, inl, inr, List, [], ◌∷◌, ◌++◌, map, length, slice_index, All, refl, sym, ◌∙◌, ap, ap₂, subst, arith, length-append}
use Rattle.std.proofs.lemmas.List.{length-map, get_or-map, map-append, ext_get_or}
use Rattle.std.proofs.lemmas.List.FromFn.{length-map-range_with_len, get_or-map-range_with_len}
use Rattle.std.proofs.lemmas.List.Elements.{All-from_get_or}
use Rattle.std.proofs.lemmas.Simd.{map-map}
use Rattle.tsc_bits.proofs.Lists.{map_agrees}
use Rattle.tsc_cover.specs.Gates.{not_cover, xor_cover}
use Rattle.fault_secure.specs.Circuit.{NodeOf, node, node_net, gate}
use Rattle.fault_secure.specs.Closed.{IsClosed}
use Rattle.tsc_net.specs.Named.{Named, NamedNode}
use Rattle.tsc_net.specs.Names.{text_at}
use Rattle.tsc_net.specs.NetlistOf.{NetlistOf}
use Rattle.tsc_net.specs.Parts.{PartsOf, next_fresh, fresh_text}
use Rattle.tsc_net.proofs.NameLemmas.{text_at-last}
use Rattle.parity_code.specs.Copy.{IsCopied, renamed}
use Rattle.net_cones.specs.Cones.{IsCone}
use Rattle.parity_code.specs.ParityCircuit.{copy_net, copied_nodes, chain_nodes, chain_end, place_in}
use Rattle.parity_code.specs.Predictors.{with_fresh_names, fresh_after, with_gate, with_check, copy_text, node_by, with_copies, last_name}
use Rattle.parity_code.proofs.ParityCircuit.{place_in-rising, copy_net-input, copy_net-node}
use Rattle.parity_code.proofs.PredictorCopy.{copy_text-input, copy_text-node, reads_copied}
use Rattle.parity_code.proofs.PredictorParts.{fresh_names_named}
use Rattle.net_writing.proofs.CheckerShape.{with_nodes}
use Rattle.parity_synth.proofs.FreshOrder.{fresh_from, IsFreshAt, AddsFresh, next_is, fresh_behind, adds_one, adds_joined}

-- a node by names, over the numbers of its names
abbrev pub over : (List ℕ → ℕ) → NamedNode → NodeOf
over net n = record { reads = map net n.reads; cover = n.cover }

-- the parts with nodes more, which are these over the numbers of names, and drive the fresh names from a count on
pub record Writes (net : List ℕ → ℕ) (number count : ℕ) (p q : PartsOf) (nodes : List NodeOf) : Type 0 where
  pub added : List NamedNode
  pub adds : AddsFresh number count p q added
  pub are : map (over net) added ≡ nodes

module _ (net : List ℕ → ℕ) (number : ℕ) where
  -- so many nodes
  pub writes_counted : (count : ℕ) (p q : PartsOf) (nodes : List NodeOf) (w : Writes net number count p q nodes) → length w.added ≡ length nodes
  writes_counted count p q nodes w = sym (length-map w.added (over net)) ∙ ap length w.are

  -- fresh names go on after them
  pub writes_fresh : (count : ℕ) (p q : PartsOf) (nodes : List NodeOf) → Writes net number count p q nodes → IsFreshAt number (count + length nodes) q
  writes_fresh count p q nodes w = subst (λ (n : ℕ). IsFreshAt number (count + n) q) (writes_counted count p q nodes w) w.adds.fresh

  -- some nodes more, and then some more
  pub writes_joined : (count middle : ℕ) (p q r : PartsOf) (xs ys : List NodeOf) → middle ≡ count + length xs → Writes net number count p q xs → Writes net number middle q r ys → Writes net number count p r (xs ++ ys)
  writes_joined count middle p q r xs ys is one two = record {
    added = one.added ++ two.added;
    adds = adds_joined number count middle p q r one.added two.added (is ∙ ap (λ (n : ℕ). count + n) (sym (writes_counted count p q xs one))) one.adds two.adds;
    are = map-append (over net) one.added two.added ∙ ap₂ (λ (a b : List NodeOf). a ++ b) one.are two.are;
  }

  -- one gate more
  pub gate_written : (count : ℕ) (p : PartsOf) (reads : List (List ℕ)) (cover : _) → IsFreshAt number count p → Writes net number count p (with_gate p reads cover) (gate cover (map net reads) ∷ [])
  gate_written count p reads cover at = record {
    added = record { reads = reads; out = next_fresh p; cover = cover } ∷ [];
    adds = adds_one number count p (with_gate p reads cover) (record { reads = reads; out = next_fresh p; cover = cover }) at refl refl refl;
    are = refl;
  }

-- the fresh names go on after those that were taken
names_behind : (number count n : ℕ) (p : PartsOf) → IsFreshAt number count p → IsFreshAt number (count + n) (with_fresh_names n p)
names_behind number count zero p at = subst (λ (m : ℕ). IsFreshAt number m p) (let e : count ≡ count + 0 = omega arith in e) at
names_behind number count (suc n) p at =
    subst (λ (m : ℕ). IsFreshAt number m (with_fresh_names (suc n) p)) (let e : count + n + 1 ≡ count + suc n = omega arith in e)
    (fresh_behind number (count + n) (with_fresh_names n p) (with_fresh_names (suc n) p) (names_behind number count n p at) refl)

-- the fresh name after so many
after_is : (number count n : ℕ) (p : PartsOf) → IsFreshAt number count p → fresh_after p n ≡ fresh_text number (count + n)
after_is number count n p at = next_is number (count + n) (with_fresh_names n p) (names_behind number count n p at)

module _ (S : NetlistOf) (net : List ℕ → ℕ) (number kept last : ℕ) (none : length S.circuit.latches ≡ 0) (closed : IsClosed S.circuit)
    (inputs : (i : ℕ) → i < S.circuit.inputs → net (text_at S.names i) ≡ i)
    (fresh : (k : ℕ) → k < last → net (fresh_text number k) ≡ S.circuit.inputs + (kept + k)) where
  module _ (roots cone : List ℕ) (is : IsCone S.circuit roots cone) (count : ℕ) (p : PartsOf) (at : IsFreshAt number count p) (room : count + length cone ≤ last) where
    -- the number of a net's name in the copy of a cone
    pub copied_net : (n : ℕ) → IsCopied S.circuit cone n → net (copy_text S cone p n) ≡ copy_net S.circuit cone (kept + count) n
    copied_net n (inl input) = ap net (copy_text-input S cone p n input) ∙ inputs n input ∙ sym (copy_net-input S.circuit cone (kept + count) n input)
    copied_net n (inr (k, there, e)) =
        let m = node_net S.circuit (slice_index cone k) in
        let text : copy_text S cone p m ≡ fresh_text number (count + k) = copy_text-node S cone p k none is.rising there ∙ after_is number count k p at in
        let over_inputs : S.circuit.inputs ≤ m = omega arith in
        let back : m - S.circuit.inputs ≡ slice_index cone k = omega arith in
        let copy : copy_net S.circuit cone (kept + count) m ≡ S.circuit.inputs + (kept + count + k)
        = copy_net-node S.circuit cone (kept + count) m over_inputs
        ∙ ap (λ (i : ℕ). S.circuit.inputs + (kept + count + place_in cone i)) back
        ∙ ap (λ (i : ℕ). S.circuit.inputs + (kept + count + i)) (place_in-rising cone is.rising k there) in
        let number_is : net (fresh_text number (count + k)) ≡ S.circuit.inputs + (kept + (count + k)) = fresh (count + k) (omega arith) in
        let same : net (copy_text S cone p m) ≡ copy_net S.circuit cone (kept + count) m = omega (arith, ap net text, number_is, copy) in
        ap (λ (j : ℕ). net (copy_text S cone p j)) e ∙ same ∙ sym (ap (copy_net S.circuit cone (kept + count)) e)

    -- and of those of some nets
    pub copied_nets : (ns : List ℕ) → All (IsCopied S.circuit cone) ns → map net (map (copy_text S cone p) ns) ≡ map (copy_net S.circuit cone (kept + count)) ns
    copied_nets ns all =
        map-map net (copy_text S cone p) ns ∙ map_agrees (IsCopied S.circuit cone) (λ n. net (copy_text S cone p n)) (copy_net S.circuit cone (kept + count)) copied_net ns all

    -- the copies, over the numbers of their names
    copies_are : map (over net) (map (node_by S.circuit (copy_text S cone p)) cone) ≡ copied_nodes S.circuit cone (kept + count)
    copies_are =
        map-map (over net) (node_by S.circuit (copy_text S cone p)) cone
        ∙ map_agrees (λ place. over net (node_by S.circuit (copy_text S cone p) place) ≡ renamed (copy_net S.circuit cone (kept + count)) (node S.circuit place))
        (λ place. over net (node_by S.circuit (copy_text S cone p) place)) (λ place. renamed (copy_net S.circuit cone (kept + count)) (node S.circuit place)) (λ place same. same) cone
        (All-from_get_or (λ place. over net (node_by S.circuit (copy_text S cone p) place) ≡ renamed (copy_net S.circuit cone (kept + count)) (node S.circuit place)) cone 0
        (λ k there. ap (λ (reads : List ℕ). let m : NodeOf = record { reads = reads; cover = (node S.circuit (slice_index cone k)).cover } in m)
        (copied_nets (node S.circuit (slice_index cone k)).reads (reads_copied S.circuit roots cone none closed is k there))))

    -- and what they drive
    copies_drive : map (λ (n : NamedNode). n.out) (map (node_by S.circuit (copy_text S cone p)) cone) ≡ fresh_from number count (length (map (node_by S.circuit (copy_text S cone p)) cone))
    copies_drive =
        map-map (λ (n : NamedNode). n.out) (node_by S.circuit (copy_text S cone p)) cone
        ∙ ext_get_or [] (map (λ place. copy_text S cone p (node_net S.circuit place)) cone) (fresh_from number count (length cone))
        (length-map cone (λ place. copy_text S cone p (node_net S.circuit place)) ∙ sym (length-map-range_with_len (fresh_text number) count (length cone)))
        (λ k h. each k (let e = length-map cone (λ place. copy_text S cone p (node_net S.circuit place)) in omega (arith, h, e)))
        ∙ ap (fresh_from number count) (sym (length-map cone (node_by S.circuit (copy_text S cone p))))
      where
        each : (k : ℕ) → k < length cone → text_at (map (λ place. copy_text S cone p (node_net S.circuit place)) cone) k ≡ text_at (fresh_from number count (length cone)) k
        each k there =
            get_or-map (λ place. copy_text S cone p (node_net S.circuit place)) cone k 0 [] there
            ∙ copy_text-node S cone p k none is.rising there ∙ after_is number count k p at
            ∙ sym (get_or-map-range_with_len (fresh_text number) count (length cone) k (count + k) [] there refl)

    -- the copies of a cone are written
    pub copies_written : Writes net number count p (with_copies S cone p) (copied_nodes S.circuit cone (kept + count))
    unfolding with_copies
    copies_written = record {
      added = map (node_by S.circuit (copy_text S cone p)) cone;
      adds = record {
        named = ap (λ (N : Named). with_nodes N (map (node_by S.circuit (copy_text S cone p)) cone)) (fresh_names_named (length cone) p);
        outs = copies_drive;
        fresh = subst (λ (n : ℕ). IsFreshAt number (count + n) (with_copies S cone p)) (sym (length-map cone (node_by S.circuit (copy_text S cone p)))) (names_behind number count (length cone) p at);
      };
      are = copies_are;
    }

  -- the nodes of a chain over these nets, and the check after it
  abbrev check_nodes : ℕ → ℕ → List ℕ → List NodeOf
  check_nodes from made nets = chain_nodes S.circuit.inputs from made nets ++ gate not_cover (chain_end S.circuit.inputs from made nets ∷ []) ∷ []

  -- the chain of some names, and the check
  pub check_written : (names : List (List ℕ)) (made : List ℕ) (count : ℕ) (p : PartsOf) → IsFreshAt number count p → count + length names < last
      → Writes net number count p (with_check p made names) (chain_nodes S.circuit.inputs (kept + count) (net made) (map net names) ++ gate not_cover (chain_end S.circuit.inputs (kept + count) (net made) (map net names) ∷ []) ∷ [])
  check_written [] made count p at room = gate_written net number count p (made ∷ []) not_cover at
  check_written (name ∷ names) made count p at room =
      let q = with_gate p (made ∷ (name ∷ [])) xor_cover in
      let first = gate_written net number count p (made ∷ (name ∷ [])) xor_cover at in
      let rest = check_written names (next_fresh p) (count + 1) q (fresh_behind number count p q at refl) (omega arith) in
      let here : net (next_fresh p) ≡ S.circuit.inputs + (kept + count) = ap net (next_is number count p at) ∙ fresh count (omega arith) in
      let from : kept + (count + 1) ≡ suc (kept + count) = omega arith in
      writes_joined net number count (count + 1) p q (with_check q (next_fresh p) names) (gate xor_cover (net made ∷ (net name ∷ [])) ∷ [])
      (check_nodes (suc (kept + count)) (S.circuit.inputs + (kept + count)) (map net names)) refl first
      (subst (Writes net number (count + 1) q (with_check q (next_fresh p) names)) (ap₂ (λ (a b : ℕ). check_nodes a b (map net names)) from here) rest)

-- the name that came last after a chain is that of the check
pub check_last : (number : ℕ) (names : List (List ℕ)) (made : List ℕ) (count : ℕ) (p : PartsOf) → IsFreshAt number count p → last_name (with_check p made names) ≡ fresh_text number (count + length names)
check_last number [] made count p at =
    let long : length (p.names ++ next_fresh p ∷ []) - 1 ≡ length p.names = omega (arith, length-append p.names (next_fresh p ∷ [])) in
    ap (text_at (p.names ++ next_fresh p ∷ [])) long ∙ text_at-last p.names (next_fresh p) ∙ next_is number count p at ∙ ap (fresh_text number) (let e : count ≡ count + 0 = omega arith in e)
check_last number (name ∷ names) made count p at =
    let q = with_gate p (made ∷ (name ∷ [])) xor_cover in
    check_last number names (next_fresh p) (count + 1) q (fresh_behind number count p q at refl) ∙ ap (fresh_text number) (let e : count + 1 + length names ≡ count + suc (length names) = omega arith in e)
