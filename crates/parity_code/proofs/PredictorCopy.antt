-- The copy of a cone by names: the names of its nets, and the nodes that are written.
use Rattle.std.proofs.Common.{◌≡◌, ℕ, ◌+◌, ◌-◌, ◌<◌, ◌≤◌, inl, inr, List, map, length, slice_index, All, refl, sym, ◌∙◌, ap, subst, arith}
use Rattle.std.proofs.lemmas.Grind.{common_steps}
use Rattle.std.proofs.lemmas.List.Elements.{All-from_get_or, All-get_or, All-map, All-weaker}
use Rattle.fault_secure.specs.Circuit.{Circuit, node, node_net, nets}
use Rattle.tsc_net.specs.Names.{text_at}
use Rattle.tsc_net.specs.NetlistOf.{NetlistOf}
use Rattle.fault_secure.specs.Closed.{IsClosed}
use Rattle.tsc_net.specs.Parts.{PartsOf}
use Rattle.tsc_net.specs.PartsView.{text_of, texts_of, IsName}
use Rattle.tsc_net.specs.declared.ids.Name.{Name}
use Rattle.tsc_bits.proofs.Lists.{map_agrees}
use Rattle.parity_code.specs.Copy.{IsCopied}
use Rattle.net_cones.specs.Cones.{IsCone}
use Rattle.parity_code.specs.ParityCircuit.{place_in}
use Rattle.parity_code.specs.Predictors.{with_fresh_names, fresh_after, copy_text, node_by}
use Rattle.parity_code.specs.PredictorSteps.{Rise, name_at, HasText, given, NamesCopy, IsNameable}
use Rattle.parity_code.proofs.ParityCircuit.{place_in-rising, pins_copied}
use Rattle.parity_code.proofs.PredictorParts.{fresh_names_grow, fresh_names_count, fresh_name_at, names_longer, text_kept, length-given, given-other, given-at}
use Rattle.parity_code.proofs.PredictorGates.{texts_of_nets}

-- the name of an input in a copy, and that of a node at the k-th of rising places
pub copy_text-input : (S : NetlistOf) (cone : List ℕ) (p : PartsOf) (n : ℕ) → n < S.circuit.inputs → copy_text S cone p n ≡ text_at S.names n
unfolding copy_text
copy_text-input S cone p n input = grind (arith, common_steps)

copy_text-over : (S : NetlistOf) (cone : List ℕ) (p : PartsOf) (n : ℕ) → S.circuit.inputs ≤ n → copy_text S cone p n ≡ fresh_after p (place_in cone (n - S.circuit.inputs))
unfolding copy_text
copy_text-over S cone p n over = grind (arith, common_steps)

-- in a copy the node at the k-th place of a cone has the fresh name that comes after k others
pub copy_text-node : (S : NetlistOf) (cone : List ℕ) (p : PartsOf) (k : ℕ) → length S.circuit.latches ≡ 0 → Rise cone → k < length cone
    → copy_text S cone p (node_net S.circuit (slice_index cone k)) ≡ fresh_after p k
copy_text-node S cone p k none rise within =
    let n : ℕ = node_net S.circuit (slice_index cone k) in
    let over : S.circuit.inputs ≤ node_net S.circuit (slice_index cone k) = omega arith in
    let back : node_net S.circuit (slice_index cone k) - S.circuit.inputs ≡ slice_index cone k = omega arith in
    copy_text-over S cone p (node_net S.circuit (slice_index cone k)) over
    ∙ ap (λ (place : ℕ). fresh_after p (place_in cone place)) back ∙ ap (fresh_after p) (place_in-rising cone rise k within)

-- names that begin with those of the inputs, and go on with fresh ones for the nodes of a cone
pub names_copy : (S : NetlistOf) (cone : List ℕ) (p q : PartsOf) (base names : List Name) → length S.circuit.latches ≡ 0 → Rise cone
    → All (λ place. place < length S.circuit.nodes) cone → length base ≡ nets S.circuit
    → ((i : ℕ) → i < S.circuit.inputs → HasText p.names (name_at base i) (text_at S.names i))
    → names ≡ given S.circuit.inputs base cone (length p.names) → q ≡ with_fresh_names (length cone) p → NamesCopy S cone p q names
names_copy S cone p q base names none rise within sized inputs names_are q_is =
    subst (NamesCopy S cone p q) (sym names_are) (subst (λ (r : PartsOf). NamesCopy S cone p r (given S.circuit.inputs base cone (length p.names))) (sym q_is) copied)
  where
    places_below : (i : ℕ) → i < length cone → S.circuit.inputs + slice_index cone i < length base
    places_below i there =
        let low : slice_index cone i < length S.circuit.nodes = All-get_or (λ place. place < length S.circuit.nodes) cone i 0 there within in
        omega arith

    input_text : (n : ℕ) → n < S.circuit.inputs
        → HasText (with_fresh_names (length cone) p).names (name_at (given S.circuit.inputs base cone (length p.names)) n) (copy_text S cone p n)
    input_text n input =
        let own : name_at (given S.circuit.inputs base cone (length p.names)) n ≡ name_at base n
        = given-other S.circuit.inputs base cone (length p.names) n (λ k there e. absurd (omega arith)) in
        let here : HasText p.names (name_at base n) (text_at S.names n) = inputs n input in
        let kept : text_at (with_fresh_names (length cone) p).names (name_at base n).number ≡ text_at p.names (name_at base n).number
        = text_kept p (with_fresh_names (length cone) p) (name_at base n).number (fresh_names_grow (length cone) p) here.0 in
        let longer : length p.names ≤ length (with_fresh_names (length cone) p).names = names_longer p (with_fresh_names (length cone) p) (fresh_names_grow (length cone) p) in
        subst (λ (name : Name). HasText (with_fresh_names (length cone) p).names name (copy_text S cone p n)) (sym own)
        (omega (arith, here.0, longer), kept ∙ here.1 ∙ sym (copy_text-input S cone p n input))

    node_text : (k : ℕ) → k < length cone
        → HasText (with_fresh_names (length cone) p).names (name_at (given S.circuit.inputs base cone (length p.names)) (node_net S.circuit (slice_index cone k)))
        (copy_text S cone p (node_net S.circuit (slice_index cone k)))
    node_text k there =
        let at : node_net S.circuit (slice_index cone k) ≡ S.circuit.inputs + slice_index cone k = omega arith in
        let name : name_at (given S.circuit.inputs base cone (length p.names)) (node_net S.circuit (slice_index cone k)) ≡ record { number = length p.names + k }
        = ap (name_at (given S.circuit.inputs base cone (length p.names))) at ∙ given-at S.circuit.inputs base cone (length p.names) k rise there places_below in
        let counted : length (with_fresh_names (length cone) p).names ≡ length p.names + length cone = fresh_names_count (length cone) p in
        subst (λ (n : Name). HasText (with_fresh_names (length cone) p).names n (copy_text S cone p (node_net S.circuit (slice_index cone k)))) (sym name)
        (omega arith, fresh_name_at (length cone) k p there ∙ sym (copy_text-node S cone p k none rise there))

    net_text : (n : ℕ) → IsCopied S.circuit cone n
        → HasText (with_fresh_names (length cone) p).names (name_at (given S.circuit.inputs base cone (length p.names)) n) (copy_text S cone p n)
    net_text n (inl input) = input_text n input
    net_text n (inr (k, there, is)) =
        subst (λ (m : ℕ). HasText (with_fresh_names (length cone) p).names (name_at (given S.circuit.inputs base cone (length p.names)) m) (copy_text S cone p m)) (sym is) (node_text k there)

    copied : NamesCopy S cone p (with_fresh_names (length cone) p) (given S.circuit.inputs base cone (length p.names))
    copied = record { sized = length-given S.circuit.inputs base cone (length p.names) ∙ sized; texts = net_text }

-- the nets at the pins of a cone's nodes are copied
pub reads_copied : (C : Circuit) (roots cone : List ℕ) → length C.latches ≡ 0 → IsClosed C → IsCone C roots cone → (k : ℕ) → k < length cone
    → All (IsCopied C cone) (node C (slice_index cone k)).reads
reads_copied C roots cone none closed is k there =
    All-from_get_or (IsCopied C cone) (node C (slice_index cone k)).reads 0 (λ pin has. pins_copied C none closed.pins roots cone is k pin there has)

module _ (S : NetlistOf) (roots cone : List ℕ) (p q : PartsOf) (names : List Name) (none : length S.circuit.latches ≡ 0) (closed : IsClosed S.circuit)
    (is : IsCone S.circuit roots cone) (copy : NamesCopy S cone p q names) where
  -- each node of the cone can be written under these names
  pub copies_nameable : All (IsNameable S.circuit q.names names) cone
  copies_nameable = All-from_get_or (IsNameable S.circuit q.names names) cone 0 each
    where
      each : (k : ℕ) → k < length cone → IsNameable S.circuit q.names names (slice_index cone k)
      each k there = record {
        within = is.within k there;
        reads = All-weaker (IsCopied S.circuit cone) (λ net. IsName q.names (name_at names net)) (λ net copied. (copy.texts net copied).0)
            (node S.circuit (slice_index cone k)).reads (reads_copied S.circuit roots cone none closed is k there);
        out = (copy.texts (node_net S.circuit (slice_index cone k)) (inr (k, there, refl))).0;
      }

  -- and is then the node of the copy
  same_copy : (k : ℕ) → k < length cone
      → node_by S.circuit (λ n. text_of q.names (name_at names n)) (slice_index cone k) ≡ node_by S.circuit (copy_text S cone p) (slice_index cone k)
  same_copy k there =
      let reads : map (λ n. text_of q.names (name_at names n)) (node S.circuit (slice_index cone k)).reads ≡ map (copy_text S cone p) (node S.circuit (slice_index cone k)).reads
      = map_agrees (IsCopied S.circuit cone) (λ n. text_of q.names (name_at names n)) (copy_text S cone p) (λ n copied. (copy.texts n copied).1)
      (node S.circuit (slice_index cone k)).reads (reads_copied S.circuit roots cone none closed is k there) in
      let out : text_of q.names (name_at names (node_net S.circuit (slice_index cone k))) ≡ copy_text S cone p (node_net S.circuit (slice_index cone k))
      = (copy.texts (node_net S.circuit (slice_index cone k)) (inr (k, there, refl))).1 in
      cc

  -- the nodes of the cone, with the texts of these names, are those of the copy
  pub copies_named : map (node_by S.circuit (λ n. text_of q.names (name_at names n))) cone ≡ map (node_by S.circuit (copy_text S cone p)) cone
  copies_named =
      map_agrees (λ place. node_by S.circuit (λ n. text_of q.names (name_at names n)) place ≡ node_by S.circuit (copy_text S cone p) place)
      (node_by S.circuit (λ n. text_of q.names (name_at names n))) (node_by S.circuit (copy_text S cone p)) (λ place same. same) cone
      (All-from_get_or (λ place. node_by S.circuit (λ n. text_of q.names (name_at names n)) place ≡ node_by S.circuit (copy_text S cone p) place) cone 0 same_copy)

  -- nets that are copied have names, and these texts
  pub nets_named : (ns : List ℕ) → All (IsCopied S.circuit cone) ns → All (IsName q.names) (map (name_at names) ns)
  nets_named ns all = All-map (IsName q.names) (name_at names) ns (All-weaker (IsCopied S.circuit cone) (λ net. IsName q.names (name_at names net)) (λ net copied. (copy.texts net copied).0) ns all)

  pub nets_texts : (ns : List ℕ) → All (IsCopied S.circuit cone) ns → texts_of q.names (map (name_at names) ns) ≡ map (copy_text S cone p) ns
  nets_texts ns all =
      texts_of_nets q.names names ns ∙ map_agrees (IsCopied S.circuit cone) (λ n. text_of q.names (name_at names n)) (copy_text S cone p) (λ n copied. (copy.texts n copied).1) ns all
