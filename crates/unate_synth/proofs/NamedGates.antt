-- Nodes by names that come first among those of a netlist: what they are in its circuit.
use Rattle.std.proofs.Common.{◌≡◌, ℕ, suc, ◌+◌, ◌-◌, ◌<◌, ◌≤◌, inl, inr, true, false, List, [], ◌∷◌, ◌++◌, map, length, drop, get_or, slice_index, slice_index_or, All, Contains, refl, sym, ◌∙◌, ap, subst, arith, length-append}
use Rattle.std.proofs.lemmas.List.{length-map, length-drop, get_or-map, get_or-drop, get_or_append_left}
use Rattle.std.proofs.lemmas.List.Elements.{All-head, All-tail, All-from_get_or, Contains-get_or, Contains-append_left, Contains-append_right}
use Rattle.tsc_cover.specs.Cover.{CoverTable, zero_cover}
use Rattle.tsc_cover.specs.Gates.{buf_cover, not_cover, and_cover, or_cover, xor_cover}
use Rattle.fault_secure.specs.Circuit.{NodeOf, node, node_net, pin_net, gate}
use Rattle.fault_secure.specs.Depends.{Depends}
use Rattle.fault_secure.specs.Depends.Depends.{itself as drives_it, through as fed_through}
use Rattle.tsc_net.specs.Named.{Named, NamedNode, NamedLatch, latch_outs, node_outs, no_named}
use Rattle.tsc_net.specs.Names.{text_at, has_text, place_of_text, IsNumbering}
use Rattle.tsc_net.specs.NetlistOf.{drivers, circuit_of}
use Rattle.tsc_net.proofs.NameLemmas.{text_at_place}
use Rattle.gate_net.specs.Signal.{Signal}
use Rattle.gate_net.specs.Signal.Signal.{Zero, One, Input, State, Not, And, Or, Xor}
use Rattle.gate_net.specs.Realised.{one_cover, IsGateBefore, RealisesBefore, RealisesRoot}
use Rattle.gate_net.specs.Written.{named_at, IsNamedGate, NameRealises, NameIsRoot, IsGiven, ReadsBefore}
use Rattle.gate_net.specs.Added.{InnerDiffer, NeedsName, DrivesNeeded}
use Rattle.gate_net.specs.Added.NeedsName.{itself, through}
use Rattle.gate_net.proofs.Texts.{has_contained, lacks_so}
use Rattle.net_building.proofs.NamedNets.{place_of_input, place_of_latch, place_of_node, node_of_named}

-- texts that all stand in a list are the same where their places are
same_texts : (names xs ys : List (List ℕ)) → All (λ (t : List ℕ). has_text names t ≡ true) xs → All (λ (t : List ℕ). has_text names t ≡ true) ys → map (place_of_text names) xs ≡ map (place_of_text names) ys → xs ≡ ys
same_texts names [] [] hx hy e = refl
same_texts names [] (y ∷ ys) hx hy e = absurd (none (length (map (place_of_text names) ys)) (ap length e))
  where
    none : (n : ℕ) → 0 ≡ suc n → ⊥
    none n e = omega arith
same_texts names (x ∷ xs) [] hx hy e = absurd (none (length (map (place_of_text names) xs)) (ap length e))
  where
    none : (n : ℕ) → suc n ≡ 0 → ⊥
    none n e = omega arith
same_texts names (x ∷ xs) (y ∷ ys) hx hy e =
    let there : List ℕ → Type 0 = λ (t : List ℕ). has_text names t ≡ true in
    let head : place_of_text names x ≡ place_of_text names y = ap (λ (l : List ℕ). slice_index l 0) e in
    let first : x ≡ y = sym (text_at_place names x (All-head there x xs hx)) ∙ ap (text_at names) head ∙ text_at_place names y (All-head there y ys hy) in
    ap (λ (t : List ℕ). t ∷ xs) first ∙ ap (λ (ts : List (List ℕ)). y ∷ ts) (same_texts names xs ys (All-tail there x xs hx) (All-tail there y ys hy) (ap (drop 1) e))

module _ (M N : Named) (more : List NamedNode) (inputs : N.inputs ≡ M.inputs) (latches : N.latches ≡ M.latches) (nodes : N.nodes ≡ M.nodes ++ more) (distinct : IsNumbering (drivers N)) where
  -- the netlist has at least these nodes
  more_nodes : length M.nodes ≤ length N.nodes
  more_nodes = omega (arith, ap length nodes, length-append M.nodes more)

  -- the circuit has as many nodes as the netlist
  nodes_counted : length (circuit_of N).nodes ≡ length N.nodes
  nodes_counted = length-map N.nodes _

  -- and as many latches
  latches_counted : length (circuit_of N).latches ≡ length N.latches
  latches_counted = length-map N.latches _

  -- each of these nodes stands at its place in the netlist
  node_stays : (k : ℕ) → k < length M.nodes → named_at N k ≡ named_at M k
  node_stays k lt = ap (λ (ns : List NamedNode). slice_index_or ns k no_named) nodes ∙ get_or_append_left M.nodes more no_named k lt

  -- a node in the circuit: it has its cover, and reads the nets of the names that it reads
  pub node_is : (k : ℕ) → k < length M.nodes → node (circuit_of N) k ≡ gate (named_at M k).cover (map (place_of_text (drivers N)) (named_at M k).reads)
  node_is k lt = node_of_named N k (named_at M k) no_named (omega (arith, more_nodes)) (sym (node_stays k lt))

  -- and it drives the net of the name that it drives
  pub out_net : (k : ℕ) → k < length M.nodes → place_of_text (drivers N) (named_at M k).out ≡ node_net (circuit_of N) k
  out_net k lt =
      let here : k < length N.nodes = omega (arith, more_nodes) in
      ap (place_of_text (drivers N)) (sym (get_or-map (λ (n : NamedNode). n.out) N.nodes k no_named [] here ∙ ap (λ (n : NamedNode). n.out) (node_stays k lt))) ∙ place_of_node N distinct k here

  -- a gate by names is a gate of the circuit over the nets of the names
  named_gate : (lo : ℕ) (out : List ℕ) (cover : CoverTable) (reads : List (List ℕ)) → IsNamedGate M lo out cover reads
      → IsGateBefore (circuit_of N) (length M.nodes) (place_of_text (drivers N) out) cover (map (place_of_text (drivers N)) reads)
  named_gate lo out cover reads g = record {
    driver = g.place;
    is_node = (let within = g.within in omega (arith, more_nodes, nodes_counted));
    before = g.within;
    drives = ap (λ (n : NamedNode). place_of_text (drivers N) n.out) (sym g.is_gate) ∙ out_net g.place g.within;
    is_gate = node_is g.place g.within ∙ ap (λ (n : NamedNode). gate n.cover (map (place_of_text (drivers N)) n.reads)) g.is_gate;
  }

  -- the net of a name that realises a signal realises it
  pub name_realises : (lo : ℕ) (signal : Signal) (text : List ℕ) → NameRealises M lo signal text → RealisesBefore (circuit_of N) (length M.nodes) signal (place_of_text (drivers N) text)
  name_realises lo Zero text r = named_gate lo text zero_cover [] r
  name_realises lo One text r = named_gate lo text one_cover [] r
  name_realises lo (Input i) text r =
      let low : i < length N.inputs = subst (λ (ts : List (List ℕ)). i < length ts) (sym inputs) r.0 in
      (low, ap (place_of_text (drivers N)) (r.1 ∙ ap (λ (ts : List (List ℕ)). text_at ts i) (sym inputs)) ∙ place_of_input N distinct i low)
  name_realises lo (State i) text r =
      let low : i < length N.latches = subst (λ (ls : List NamedLatch). i < length ls) (sym latches) r.0 in (
        omega (arith, latches_counted, low),
        ap (place_of_text (drivers N)) (r.1 ∙ ap (λ (ls : List NamedLatch). text_at (map (λ l. l.out) ls) i) (sym latches)) ∙ place_of_latch N distinct i low,
      )
  name_realises lo (Not a) text r = (place_of_text (drivers N) r.0, named_gate lo text not_cover (r.0 ∷ []) r.1, name_realises lo a r.0 r.2)
  name_realises lo (And a b) text r =
      (place_of_text (drivers N) r.0, place_of_text (drivers N) r.1, named_gate lo text and_cover (r.0 ∷ (r.1 ∷ [])) r.2, name_realises lo a r.0 r.3, name_realises lo b r.1 r.4)
  name_realises lo (Or a b) text r =
      (place_of_text (drivers N) r.0, place_of_text (drivers N) r.1, named_gate lo text or_cover (r.0 ∷ (r.1 ∷ [])) r.2, name_realises lo a r.0 r.3, name_realises lo b r.1 r.4)
  name_realises lo (Xor a b) text r =
      (place_of_text (drivers N) r.0, place_of_text (drivers N) r.1, named_gate lo text xor_cover (r.0 ∷ (r.1 ∷ [])) r.2, name_realises lo a r.0 r.3, name_realises lo b r.1 r.4)

  -- and so does the net of a root's name
  pub name_is_root : (lo : ℕ) (signal : Signal) (text : List ℕ) → NameIsRoot M lo signal text → RealisesRoot (circuit_of N) (length M.nodes) signal (place_of_text (drivers N) text)
  name_is_root lo signal text (inl r) = inl (name_realises lo signal text r)
  name_is_root lo signal text (inr r) = inr (place_of_text (drivers N) r.0, named_gate lo text buf_cover (r.0 ∷ []) r.1, name_realises lo signal r.0 r.2)

  -- a name that a node may read is driven
  given_driven : (lo k : ℕ) (text : List ℕ) → k ≤ length M.nodes → IsGiven M lo k text → has_text (drivers N) text ≡ true
  given_driven lo k text le g = has_contained (drivers N) text (by g)
    where
      by : IsGiven M lo k text → Contains (drivers N) text
      by (inl c) =
          Contains-append_left (N.inputs ++ latch_outs N) (node_outs N) text
          (Contains-append_left N.inputs (latch_outs N) text (subst (λ (ts : List (List ℕ)). Contains ts text) (sym inputs) c))
      by (inr (inl c)) =
          Contains-append_left (N.inputs ++ latch_outs N) (node_outs N) text
          (Contains-append_right N.inputs (latch_outs N) text (subst (λ (ls : List NamedLatch). Contains (map (λ l. l.out) ls) text) (sym latches) c))
      by (inr (inr (j, behind, low, e))) =
          let here : j < length N.nodes = omega (arith, more_nodes) in
          let is : get_or (node_outs N) j [] ≡ text
          = get_or-map (λ (n : NamedNode). n.out) N.nodes j no_named [] here ∙ ap (λ (n : NamedNode). n.out) (node_stays j (omega arith)) ∙ e in
          Contains-append_right (N.inputs ++ latch_outs N) (node_outs N) text
          (subst (Contains (node_outs N)) is (Contains-get_or (node_outs N) j [] (omega (arith, length-map N.nodes (λ (n : NamedNode). n.out)))))

  -- what a node reads is driven
  pins_driven : (lo k : ℕ) → ReadsBefore M lo → lo ≤ k → k < length M.nodes → All (λ (t : List ℕ). has_text (drivers N) t ≡ true) (named_at M k).reads
  pins_driven lo k before behind lt =
      All-from_get_or (λ (t : List ℕ). has_text (drivers N) t ≡ true) (named_at M k).reads []
      (λ pin within. given_driven lo k (text_at (named_at M k).reads pin) (omega arith) (before k pin behind lt within))

  module _ (lo : ℕ) (roots : List (List ℕ)) (word : List ℕ) (in_word : (text : List ℕ) → Contains roots text → Contains word (place_of_text (drivers N) text)) where
    -- a node from place lo on, by its place among those that came
    came_at : (k : ℕ) → lo ≤ k → slice_index_or (drop lo M.nodes) (k - lo) no_named ≡ named_at M k
    came_at k behind = let at : lo + (k - lo) ≡ k = omega arith in get_or-drop lo M.nodes (k - lo) no_named ∙ ap (λ (j : ℕ). named_at M j) at

    -- that place is within
    came_low : (k : ℕ) → lo ≤ k → k < length M.nodes → k - lo < length (drop lo M.nodes)
    came_low k behind lt = omega (arith, length-drop lo M.nodes)

    -- a node whose net is none of the word equals no other node
    pub node_alone : ReadsBefore M lo → InnerDiffer roots (drop lo M.nodes) → (q : ℕ) → lo ≤ q → q < length M.nodes → (Contains word (node_net (circuit_of N) q) → ⊥)
        → (p : ℕ) → lo ≤ p → p < q → node (circuit_of N) p ≡ node (circuit_of N) q → ⊥
    node_alone before differ q behind lt hidden p from below same = apart (differ.distinct (p - lo) (q - lo) (came_low p from low) (came_low q behind lt) inner cover reads)
      where
        low : p < length M.nodes
        low = omega arith

        apart : p - lo ≡ q - lo → ⊥
        apart e = omega arith

        inner : has_text roots (slice_index_or (drop lo M.nodes) (q - lo) no_named).out ≡ false
        inner =
            lacks_so roots (slice_index_or (drop lo M.nodes) (q - lo) no_named).out
            (λ c. hidden (subst (Contains word) (ap (λ (n : NamedNode). place_of_text (drivers N) n.out) (came_at q behind) ∙ out_net q lt) (in_word (slice_index_or (drop lo M.nodes) (q - lo) no_named).out c)))

        gates : gate (named_at M p).cover (map (place_of_text (drivers N)) (named_at M p).reads) ≡ gate (named_at M q).cover (map (place_of_text (drivers N)) (named_at M q).reads)
        gates = sym (node_is p low) ∙ same ∙ node_is q lt

        cover : (slice_index_or (drop lo M.nodes) (p - lo) no_named).cover ≡ (slice_index_or (drop lo M.nodes) (q - lo) no_named).cover
        cover = ap (λ (n : NamedNode). n.cover) (came_at p from) ∙ ap (λ (n : NodeOf). n.cover) gates ∙ sym (ap (λ (n : NamedNode). n.cover) (came_at q behind))

        reads : (slice_index_or (drop lo M.nodes) (p - lo) no_named).reads ≡ (slice_index_or (drop lo M.nodes) (q - lo) no_named).reads
        reads =
            ap (λ (n : NamedNode). n.reads) (came_at p from)
            ∙ same_texts (drivers N) (named_at M p).reads (named_at M q).reads (pins_driven lo p before from low) (pins_driven lo q before behind lt) (ap (λ (n : NodeOf). n.reads) gates)
            ∙ sym (ap (λ (n : NamedNode). n.reads) (came_at q behind))

    -- where a needed name's net depends on a node, so does some net of the word
    need_depends : (q : ℕ) (text : List ℕ) → NeedsName M lo roots text → Depends (circuit_of N) q (place_of_text (drivers N) text) → (net : ℕ) × Contains word net × Depends (circuit_of N) q net
    need_depends q _ (itself text c) d = (place_of_text (drivers N) text, in_word text c, d)
    need_depends q _ (through k text behind lt need reads) d =
        let pin : ℕ = reads.0 in
        let low : pin < length (named_at M k).reads = reads.1 in
        let nets : (node (circuit_of N) k).reads ≡ map (place_of_text (drivers N)) (named_at M k).reads = ap (λ (n : NodeOf). n.reads) (node_is k lt) in
        let at : pin_net (circuit_of N) k pin ≡ place_of_text (drivers N) text
        = ap (λ (l : List ℕ). slice_index l pin) nets ∙ get_or-map (place_of_text (drivers N)) (named_at M k).reads pin text 0 low ∙ ap (place_of_text (drivers N)) reads.2 in
        let has : pin < length (node (circuit_of N) k).reads = omega (arith, ap length nets, length-map (named_at M k).reads (place_of_text (drivers N)), low) in
        need_depends q (named_at M k).out need
        (fed_through (place_of_text (drivers N) (named_at M k).out) k pin (omega (arith, lt, more_nodes, nodes_counted)) (out_net k lt) has (subst (Depends (circuit_of N) q) (sym at) d))

    -- some net of the word depends on each node
    pub node_needed : All (DrivesNeeded M lo roots) (drop lo M.nodes) → (q : ℕ) → lo ≤ q → q < length M.nodes → (net : ℕ) × Contains word net × Depends (circuit_of N) q net
    node_needed needed q behind lt =
        let need : NeedsName M lo roots (named_at M q).out = subst (λ (n : NamedNode). NeedsName M lo roots n.out) (came_at q behind) (needed (q - lo) no_named (came_low q behind lt)) in
        need_depends q (named_at M q).out need (drives_it (place_of_text (drivers N) (named_at M q).out) (omega (arith, lt, more_nodes, nodes_counted)) (out_net q lt))
