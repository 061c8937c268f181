-- Copies have the values of what they copy, and depend on copies alone.
use Rattle.std.proofs.Common.{◌≡◌, ℕ, zero, suc, ◌+◌, ◌<◌, inl, inr, Bool, List, [], ◌∷◌, map, length, slice_index, All, refl, sym, ◌∙◌, ap, ap₂, arith}
use Rattle.std.proofs.lemmas.List.{length-map, get_or-map}
use Rattle.std.proofs.lemmas.List.Elements.{All-head, All-tail}
use Rattle.tsc_cover.specs.Cover.{truth}
use Rattle.fault_secure.specs.Circuit.{Circuit, node, node_net, pin_net, bit}
use Rattle.fault_secure.specs.StuckAt.{NoFault}
use Rattle.fault_secure.specs.Settle.{Ranks, Settles, node_value, read_values}
use Rattle.fault_secure.specs.Depends.{Depends}
use Rattle.fault_secure.specs.Depends.Depends.{itself, through}
use Rattle.fault_secure.proofs.GateLemmas.{read_values-no_fault}
use Rattle.parity_code.specs.Copy.{IsCopied, IsCopy, CopySettles, IsCopyOfCone, renamed}

-- two lists of bits read from two valuations are equal where each read is
pub map_bit-alike : (u v : List Bool) (net : ℕ → ℕ) (reads : List ℕ) → ((pin : ℕ) → pin < length reads → bit u (net (slice_index reads pin)) ≡ bit v (slice_index reads pin)) → map (bit u) (map net reads) ≡ map (bit v) reads
map_bit-alike u v net [] alike = refl
map_bit-alike u v net (n ∷ reads) alike =
    let here : bit u (net n) ≡ bit v n = alike 0 (omega arith) in
    let rest : map (bit u) (map net reads) ≡ map (bit v) reads = map_bit-alike u v net reads (λ pin h. alike (suc pin) (omega arith)) in
    cc

-- a node that is a renamed one has its value where the pins' nets have
node_value-renamed : (C N : Circuit) (u v : List Bool) (net : ℕ → ℕ) (j p : ℕ) → node N j ≡ renamed net (node C p)
    → map (bit u) (map net (node C p).reads) ≡ map (bit v) (node C p).reads → node_value N NoFault u j ≡ node_value C NoFault v p
node_value-renamed C N u v net j p is alike =
    ap (λ n. truth n.cover (read_values NoFault u (node_net N j) 0 n.reads)) is
    ∙ ap (λ bits. truth (node C p).cover bits) (read_values-no_fault u (node_net N j) 0 (map net (node C p).reads))
    ∙ ap (λ bits. truth (node C p).cover bits) alike
    ∙ sym (ap (λ bits. truth (node C p).cover bits) (read_values-no_fault v (node_net C p) 0 (node C p).reads))

module _ (C N : Circuit) (places : List ℕ) (base : ℕ) (net : ℕ → ℕ) (x s : ℕ → Bool) (u v : List Bool) (rank : ℕ → ℕ)
    (copy : IsCopy C N places base net) (ranks : Ranks C rank) (settles : Settles C NoFault x s v) (copies : CopySettles C N places base v u) where
  copied-alike_below : (bound n : ℕ) → rank n < bound → IsCopied C places n → bit u (net n) ≡ bit v n
  copied-alike_below zero n below is = absurd (omega arith)
  copied-alike_below (suc bound) n below (inl input) =
      let e : net n ≡ n = copy.inputs n input in
      let f : bit u n ≡ bit v n = copies.inputs n input in
      ap (bit u) e ∙ f
  copied-alike_below (suc bound) n below (inr (k, within, is)) =
      let place : ℕ = slice_index places k in
      let named : net (node_net C place) ≡ node_net N (base + k) = copy.nets k within in
      let pins : (pin : ℕ) → pin < length (node C place).reads → bit u (net (slice_index (node C place).reads pin)) ≡ bit v (slice_index (node C place).reads pin)
      = λ pin h.
      let higher : rank (pin_net C place pin) < rank (node_net C place) = ranks.above place pin (copy.within k within) h in
      let same_rank : rank n ≡ rank (node_net C place) = ap rank is in
      copied-alike_below bound (pin_net C place pin) (omega arith) (copy.closed k pin within h) in
      let reads : map (bit u) (map net (node C place).reads) ≡ map (bit v) (node C place).reads = map_bit-alike u v net (node C place).reads pins in
      let value : node_value N NoFault u (base + k) ≡ node_value C NoFault v place = node_value-renamed C N u v net (base + k) place (copy.nodes k within) reads in
      let there : bit u (node_net N (base + k)) ≡ node_value N NoFault u (base + k) = copies.nodes k within in
      let here : bit v (node_net C place) ≡ node_value C NoFault v place = settles.nodes place (copy.within k within) in
      ap (λ m. bit u (net m)) is ∙ ap (bit u) named ∙ there ∙ value ∙ sym here ∙ sym (ap (bit v) is)

  -- a copy has the source's value
  pub copied-alike : (n : ℕ) → IsCopied C places n → bit u (net n) ≡ bit v n
  copied-alike n is = copied-alike_below (suc (rank n)) n (omega arith) is

-- nets that a copy has, read in the copy and in the source
pub all_alike : (C : Circuit) (places : List ℕ) (net : ℕ → ℕ) (u v : List Bool) → ((n : ℕ) → IsCopied C places n → bit u (net n) ≡ bit v n)
    → (ns : List ℕ) → All (IsCopied C places) ns → map (bit u) (map net ns) ≡ map (bit v) ns
all_alike C places net u v alike [] all = refl
all_alike C places net u v alike (n ∷ ns) all =
    ap₂ (λ b bits. b ∷ bits) (alike n (All-head (IsCopied C places) n ns all)) (all_alike C places net u v alike ns (All-tail (IsCopied C places) n ns all))

-- the net at a pin of a renamed node
pub pin_net-renamed : (C N : Circuit) (net : ℕ → ℕ) (j p pin : ℕ) → node N j ≡ renamed net (node C p) → pin < length (node C p).reads
    → pin_net N j pin ≡ net (pin_net C p pin)
pin_net-renamed C N net j p pin is within =
    ap (λ n. slice_index n.reads pin) is ∙ get_or-map net (node C p).reads pin 0 0 within

pub pins-renamed : (C N : Circuit) (net : ℕ → ℕ) (j p : ℕ) → node N j ≡ renamed net (node C p) → length (node N j).reads ≡ length (node C p).reads
pins-renamed C N net j p is = ap (λ n. length n.reads) is ∙ length-map (node C p).reads net

module _ (C N : Circuit) (places : List ℕ) (base : ℕ) (net : ℕ → ℕ) (copy : IsCopy C N places base net) where
  no_input : (n q : ℕ) → n < C.inputs → net n ≡ node_net N q → ⊥
  no_input n q input is =
      let e : net n ≡ n = copy.inputs n input in
      let f : N.inputs ≡ C.inputs = copy.same_inputs in
      omega arith

  same_node : (n q k : ℕ) → k < length places → n ≡ node_net C (slice_index places k) → net n ≡ node_net N q → q ≡ base + k
  same_node n q k within is drives =
      let e : net (node_net C (slice_index places k)) ≡ node_net N (base + k) = copy.nets k within in
      let f : net n ≡ net (node_net C (slice_index places k)) = ap net is in
      omega arith

  -- a copy depends on copies alone, and on those of the nodes that its source depends on
  pub copied-depends : (q m : ℕ) → Depends N q m → (n : ℕ) → m ≡ net n → IsCopied C places n → IsCopyOfCone C places base q n
  copied-depends q _ (itself m node_there drives) n named (inl input) = absurd (no_input n q input (sym named ∙ drives))
  copied-depends q _ (itself m node_there drives) n named (inr (k, within, is)) = record {
    k = k;
    within = within;
    is = same_node n q k within is (sym named ∙ drives);
    depends = itself n (copy.within k within) is;
  }
  copied-depends q _ (through m j pin there drives has_pin reads) n named (inl input) = absurd (no_input n j input (sym named ∙ drives))
  copied-depends q _ (through m j pin there drives has_pin reads) n named (inr (k, within, is)) =
      let place : ℕ = slice_index places k in
      let at : j ≡ base + k = same_node n j k within is (sym named ∙ drives) in
      let same : node N j ≡ renamed net (node C place) = ap (node N) at ∙ copy.nodes k within in
      let pins : length (node N j).reads ≡ length (node C place).reads = pins-renamed C N net j place same in
      let has : pin < length (node C place).reads = omega arith in
      let inner : IsCopyOfCone C places base q (pin_net C place pin)
      = copied-depends q (pin_net N j pin) reads (pin_net C place pin) (pin_net-renamed C N net j place pin same has) (copy.closed k pin within has) in
      record {
        k = inner.k;
        within = inner.within;
        is = inner.is;
        depends = through n place pin (copy.within k within) is has inner.depends;
      }
