-- Names that realise signals in a checked netlist: their nets realise them.
use Rattle.std.proofs.Common.{◌≡◌, ℕ, zero, suc, ◌+◌, ◌<◌, inl, inr, List, [], ◌∷◌, map, length, slice_index, slice_index_or, refl, sym, ◌∙◌, ap, subst, arith}
use Rattle.std.proofs.lemmas.List.{get_or-take, length-take}
use Rattle.tsc_cover.specs.Cover.{CoverTable, zero_cover}
use Rattle.tsc_cover.specs.Gates.{buf_cover, not_cover, and_cover, or_cover, xor_cover}
use Rattle.fault_secure.specs.Circuit.{LatchOf, NodeOf, no_node, node, node_net, latch_net, nets, gate as node_of}
use Rattle.tsc_net.specs.Named.{NamedNode, no_named}
use Rattle.tsc_net.specs.Names.{text_at}
use Rattle.tsc_net.specs.NetlistOf.{NetlistOf, IsBuilt, names_of, named_latches, named_nodes, named_of}
use Rattle.gate_net.specs.Signal.{Signal}
use Rattle.gate_net.specs.Signal.Signal.{Zero, One, Input, State, Not, And, Or, Xor}
use Rattle.gate_net.specs.Realised.{one_cover, IsGateBefore, RealisesBefore, RealisesRoot}
use Rattle.gate_net.specs.Written.{IsNamedGate, NameRealises, NameIsRoot}

latch_at : (names : List (List ℕ)) (at : ℕ) (latches : List LatchOf) (i : ℕ) → i < length (named_latches names at latches)
    → (i < length latches) × (text_at (map (λ l. l.out) (named_latches names at latches)) i ≡ text_at names (at + i))
latch_at names at [] i lt = absurd (omega arith)
latch_at names at (l ∷ latches) zero lt = (omega arith, ap (text_at names) (let e : at ≡ at + 0 = omega arith in e))
latch_at names at (l ∷ latches) (suc i) lt =
    let rest = latch_at names (at + 1) latches i (omega arith) in
    (omega (arith, rest.0), rest.1 ∙ ap (text_at names) (let e : at + 1 + i ≡ at + suc i = omega arith in e))

node_at : (names : List (List ℕ)) (at : ℕ) (nodes : List NodeOf) (j : ℕ) → j < length (named_nodes names at nodes)
    → (j < length nodes) × (slice_index_or (named_nodes names at nodes) j no_named ≡ record { reads = names_of names (slice_index_or nodes j no_node).reads; out = text_at names (at + j); cover = (slice_index_or nodes j no_node).cover })
node_at names at [] j lt = absurd (omega arith)
node_at names at (n ∷ nodes) zero lt =
    (omega arith, ap (λ (k : ℕ). let named : NamedNode = record { reads = names_of names n.reads; out = text_at names k; cover = n.cover } in named) (let e : at ≡ at + 0 = omega arith in e))
node_at names at (n ∷ nodes) (suc j) lt =
    let rest = node_at names (at + 1) nodes j (omega arith) in
    let here : NodeOf = slice_index_or nodes j no_node in
    (omega (arith, rest.0), rest.1 ∙ ap (λ (k : ℕ). let named : NamedNode = record { reads = names_of names here.reads; out = text_at names k; cover = here.cover } in named) (let e : at + 1 + j ≡ at + suc j = omega arith in e))

no_reads : (names : List (List ℕ)) (reads : List ℕ) → names_of names reads ≡ [] → reads ≡ []
no_reads names [] e = refl
no_reads names (r ∷ reads) e = absurd (let n : suc (length (names_of names reads)) ≡ 0 = ap length e in omega arith)

one_read : (names : List (List ℕ)) (reads : List ℕ) (m : List ℕ) → names_of names reads ≡ m ∷ [] → (r : ℕ) × (reads ≡ r ∷ []) × (text_at names r ≡ m)
one_read names [] m e = absurd (let n : 0 ≡ 1 = ap length e in omega arith)
one_read names (r ∷ []) m e = (r, refl, ap (λ (list : List (List ℕ)). slice_index_or list 0 []) e)
one_read names (r ∷ (k ∷ reads)) m e = absurd (let n : suc (suc (length (names_of names reads))) ≡ 1 = ap length e in omega arith)

two_reads : (names : List (List ℕ)) (reads : List ℕ) (m n : List ℕ) → names_of names reads ≡ m ∷ (n ∷ []) → (r s : ℕ) × (reads ≡ r ∷ (s ∷ [])) × (text_at names r ≡ m) × (text_at names s ≡ n)
two_reads names [] m n e = absurd (let k : 0 ≡ 2 = ap length e in omega arith)
two_reads names (r ∷ []) m n e = absurd (let k : 1 ≡ 2 = ap length e in omega arith)
two_reads names (r ∷ (s ∷ [])) m n e = (r, s, refl, ap (λ (list : List (List ℕ)). slice_index_or list 0 []) e, ap (λ (list : List (List ℕ)). slice_index_or list 1 []) e)
two_reads names (r ∷ (s ∷ (t ∷ reads))) m n e = absurd (let k : suc (suc (suc (length (names_of names reads)))) ≡ 2 = ap length e in omega arith)

module _ (net : NetlistOf) (lo : ℕ) (checked : IsBuilt net) where
  -- a node that a name's gate is, by numbers
  pub record IsNumbered (n place : ℕ) (cover : CoverTable) (reads : List (List ℕ)) : Type 0 where
    pub is_node : place < length net.circuit.nodes
    pub drives : n ≡ node_net net.circuit place
    pub cover_is : (node net.circuit place).cover ≡ cover
    pub reads_are : names_of net.names (node net.circuit place).reads ≡ reads

  same_net : (a b : ℕ) → a < nets net.circuit → b < nets net.circuit → text_at net.names a ≡ text_at net.names b → a ≡ b
  same_net a b ha hb e = checked.numbering.distinct a b (subst (λ (k : ℕ). a < k) (sym checked.sized) ha) (subst (λ (k : ℕ). b < k) (sym checked.sized) hb) e

  numbered : (n : ℕ) (cover : CoverTable) (reads : List (List ℕ)) → n < nets net.circuit → (g : IsNamedGate (named_of net) lo (text_at net.names n) cover reads) → IsNumbered n g.place cover reads
  numbered n cover reads lt g =
      let at = net.circuit.inputs + length net.circuit.latches in
      let here = node_at net.names at net.circuit.nodes g.place g.within in
      let e = sym here.1 ∙ g.is_gate in
      record {
        is_node = here.0;
        drives = same_net n (node_net net.circuit g.place) lt (omega (arith, here.0)) (sym (ap (λ (k : NamedNode). k.out) e));
        cover_is = ap (λ (k : NamedNode). k.cover) e;
        reads_are = ap (λ (k : NamedNode). k.reads) e;
      }

  before : (n place : ℕ) (cover : CoverTable) (reads : List (List ℕ)) (numbers : List ℕ) → IsNumbered n place cover reads → (node net.circuit place).reads ≡ numbers → IsGateBefore net.circuit (length net.circuit.nodes) n cover numbers
  before n place cover reads numbers h e = record {
    driver = place;
    is_node = h.is_node;
    before = h.is_node;
    drives = h.drives;
    is_gate = ap (λ (c : CoverTable). node_of c (node net.circuit place).reads) h.cover_is ∙ ap (λ (list : List ℕ). node_of cover list) e;
  }

  pin_below : (place pin : ℕ) (numbers : List ℕ) → place < length net.circuit.nodes → (node net.circuit place).reads ≡ numbers → pin < length numbers → slice_index numbers pin < nets net.circuit
  pin_below place pin numbers lt e has =
      subst (λ (list : List ℕ). slice_index list pin < nets net.circuit) e (checked.closed.pins place pin lt (subst (λ (list : List ℕ). pin < length list) (sym e) has))

  -- a constant's node
  constant_before : (n : ℕ) (cover : CoverTable) → n < nets net.circuit → IsNamedGate (named_of net) lo (text_at net.names n) cover [] → IsGateBefore net.circuit (length net.circuit.nodes) n cover []
  constant_before n cover lt g = let h = numbered n cover [] lt g in before n g.place cover [] [] h (no_reads net.names (node net.circuit g.place).reads h.reads_are)

  -- what one pin reads
  pub record HasPin (n : ℕ) (cover : CoverTable) (m : List ℕ) : Type 0 where
    pub first : ℕ
    pub is_gate : IsGateBefore net.circuit (length net.circuit.nodes) n cover (first ∷ [])
    pub first_below : first < nets net.circuit
    pub first_is : text_at net.names first ≡ m

  one_before : (n : ℕ) (cover : CoverTable) (m : List ℕ) → n < nets net.circuit → IsNamedGate (named_of net) lo (text_at net.names n) cover (m ∷ []) → HasPin n cover m
  one_before n cover m lt g =
      let h = numbered n cover (m ∷ []) lt g in
      let r = one_read net.names (node net.circuit g.place).reads m h.reads_are in
      record {
        first = r.0;
        is_gate = before n g.place cover (m ∷ []) (r.0 ∷ []) h r.1;
        first_below = pin_below g.place 0 (r.0 ∷ []) h.is_node r.1 (omega arith);
        first_is = r.2;
      }

  -- what two pins read
  pub record HasPins (n : ℕ) (cover : CoverTable) (m k : List ℕ) : Type 0 where
    pub first : ℕ
    pub second : ℕ
    pub is_gate : IsGateBefore net.circuit (length net.circuit.nodes) n cover (first ∷ (second ∷ []))
    pub first_below : first < nets net.circuit
    pub first_is : text_at net.names first ≡ m
    pub second_below : second < nets net.circuit
    pub second_is : text_at net.names second ≡ k

  two_before : (n : ℕ) (cover : CoverTable) (m k : List ℕ) → n < nets net.circuit → IsNamedGate (named_of net) lo (text_at net.names n) cover (m ∷ (k ∷ [])) → HasPins n cover m k
  two_before n cover m k lt g =
      let h = numbered n cover (m ∷ (k ∷ [])) lt g in
      let r = two_reads net.names (node net.circuit g.place).reads m k h.reads_are in
      record {
        first = r.0;
        second = r.1;
        is_gate = before n g.place cover (m ∷ (k ∷ [])) (r.0 ∷ (r.1 ∷ [])) h r.2;
        first_below = pin_below g.place 0 (r.0 ∷ (r.1 ∷ [])) h.is_node r.2 (omega arith);
        first_is = r.3;
        second_below = pin_below g.place 1 (r.0 ∷ (r.1 ∷ [])) h.is_node r.2 (omega arith);
        second_is = r.4;
      }

  -- the net of a name that realises a signal realises it
  net_realises : (signal : Signal) (n : ℕ) (text : List ℕ) → n < nets net.circuit → text_at net.names n ≡ text → NameRealises (named_of net) lo signal text → RealisesBefore net.circuit (length net.circuit.nodes) signal n
  net_realises Zero n text lt e r = constant_before n zero_cover lt (subst (λ (out : List ℕ). IsNamedGate (named_of net) lo out zero_cover []) (sym e) r)
  net_realises One n text lt e r = constant_before n one_cover lt (subst (λ (out : List ℕ). IsNamedGate (named_of net) lo out one_cover []) (sym e) r)
  net_realises (Input i) n text lt e r =
      let low : i < net.circuit.inputs = omega (arith, r.0, length-take net.circuit.inputs net.names) in
      (low, same_net n i lt (omega (arith, low)) (e ∙ r.1 ∙ get_or-take net.circuit.inputs net.names i [] low))
  net_realises (State i) n text lt e r =
      let here = latch_at net.names net.circuit.inputs net.circuit.latches i r.0 in
      (here.0, same_net n (latch_net net.circuit i) lt (omega (arith, here.0)) (e ∙ r.1 ∙ here.1))
  net_realises (Not a) n text lt e r =
      let p : HasPin n not_cover r.0 = one_before n not_cover r.0 lt (subst (λ (out : List ℕ). IsNamedGate (named_of net) lo out not_cover (r.0 ∷ [])) (sym e) r.1) in
      (p.first, p.is_gate, net_realises a p.first r.0 p.first_below p.first_is r.2)
  net_realises (And a b) n text lt e r =
      let p : HasPins n and_cover r.0 r.1 = two_before n and_cover r.0 r.1 lt (subst (λ (out : List ℕ). IsNamedGate (named_of net) lo out and_cover (r.0 ∷ (r.1 ∷ []))) (sym e) r.2) in
      (p.first, p.second, p.is_gate, net_realises a p.first r.0 p.first_below p.first_is r.3, net_realises b p.second r.1 p.second_below p.second_is r.4)
  net_realises (Or a b) n text lt e r =
      let p : HasPins n or_cover r.0 r.1 = two_before n or_cover r.0 r.1 lt (subst (λ (out : List ℕ). IsNamedGate (named_of net) lo out or_cover (r.0 ∷ (r.1 ∷ []))) (sym e) r.2) in
      (p.first, p.second, p.is_gate, net_realises a p.first r.0 p.first_below p.first_is r.3, net_realises b p.second r.1 p.second_below p.second_is r.4)
  net_realises (Xor a b) n text lt e r =
      let p : HasPins n xor_cover r.0 r.1 = two_before n xor_cover r.0 r.1 lt (subst (λ (out : List ℕ). IsNamedGate (named_of net) lo out xor_cover (r.0 ∷ (r.1 ∷ []))) (sym e) r.2) in
      (p.first, p.second, p.is_gate, net_realises a p.first r.0 p.first_below p.first_is r.3, net_realises b p.second r.1 p.second_below p.second_is r.4)

  root_realises : (signal : Signal) (n : ℕ) → n < nets net.circuit → NameIsRoot (named_of net) lo signal (text_at net.names n) → RealisesRoot net.circuit (length net.circuit.nodes) signal n
  root_realises signal n lt (inl r) = inl (net_realises signal n (text_at net.names n) lt refl r)
  root_realises signal n lt (inr r) =
      let p : HasPin n buf_cover r.0 = one_before n buf_cover r.0 lt r.1 in
      inr (p.first, p.is_gate, net_realises signal p.first r.0 p.first_below p.first_is r.2)

pub named_net : (net : NetlistOf) (lo : ℕ) (signal : Signal) (n : ℕ) → IsBuilt net → n < nets net.circuit → NameRealises (named_of net) lo signal (text_at net.names n)
    → RealisesBefore net.circuit (length net.circuit.nodes) signal n
named_net net lo signal n checked lt r = net_realises net lo checked signal n (text_at net.names n) lt refl r

pub named_root : (net : NetlistOf) (lo : ℕ) (signal : Signal) (n : ℕ) → IsBuilt net → n < nets net.circuit → NameIsRoot (named_of net) lo signal (text_at net.names n)
    → RealisesRoot net.circuit (length net.circuit.nodes) signal n
named_root net lo signal n checked lt r = root_realises net lo checked signal n lt r
