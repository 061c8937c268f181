-- A copy of a source within a netlist has the source's bits, at every step without a fault.
use Rattle.std.proofs.Common.{◌≡◌, ℕ, suc, ◌<◌, ◌≤◌, Bool, false, List, [], ◌∷◌, map, length, slice_index, refl, sym, ap, ap₂, ◌∙◌, subst, arith}
use Rattle.std.proofs.lemmas.List.{get_or-map}
use Rattle.tsc_cover.specs.Cover.{truth}
use Rattle.fault_secure.specs.Circuit.{Circuit, LatchOf, NodeOf, node, latch, no_latch, node_net, pin_net, nets, bit}
use Rattle.fault_secure.specs.StuckAt.{NoFault}
use Rattle.fault_secure.specs.Settle.{Settles, Ranks, Acyclic, read_values, node_value}
use Rattle.fault_secure.specs.Run.{init_state, next_state}
use Rattle.fault_secure.specs.Closed.{IsClosed}
use Rattle.fault_secure.proofs.Agree.{by_rank}
use Rattle.fault_secure.proofs.GateLemmas.{read_values-no_fault}
use Rattle.fault_secure.proofs.Places.{Place, place_of}
use Rattle.fault_secure.proofs.Places.Place.{Input, Latch, Node, Beyond}
use Rattle.register_laws.specs.RegisterPlan.{next_net}
use Rattle.register_laws.specs.Twin.{Placing, HasCopy}
use Rattle.register_laws.proofs.Outside.{next_bit}

-- the first state bit of a latch
pub init_bit : (N : Circuit) (l : ℕ) → l < length N.latches → bit (init_state N) l ≡ (latch N l).init
init_bit N l h = get_or-map (λ (k : LatchOf). k.init) N.latches l no_latch false h

-- bits of renamed nets
pub map_renamed : (g h : ℕ → Bool) (at : ℕ → ℕ) (ns : List ℕ) → ((i : ℕ) → i < length ns → g (at (slice_index ns i)) ≡ h (slice_index ns i)) → map g (map at ns) ≡ map h ns
map_renamed g h at [] same = refl
map_renamed g h at (n ∷ ns) same = ap₂ ◌∷◌ (same 0 (omega arith)) (map_renamed g h at ns (λ i k. same (suc i) (omega arith)))

module _ (S N : Circuit) (c : Placing) (copy : HasCopy S N c) (closed : IsClosed S) where
  -- the bits that the copied latches of N hold are those of S
  abbrev pub SameStates : (ℕ → Bool) → (ℕ → Bool) → Type 0
  SameStates s t = (l : ℕ) → l < length S.latches → t (c.latch_at l) ≡ s l

  module _ (x y s t : ℕ → Bool) (w v : List Bool) (same_inputs : (i : ℕ) → i < S.inputs → x i ≡ y i) (inside : S.inputs ≤ N.inputs) (same_states : SameStates s t)
      (first : Settles S NoFault x s w) (second : Settles N NoFault y t v) where
    value_same : (rank : ℕ → ℕ) → Ranks S rank → (j : ℕ) → j < length S.nodes
        → ((m : ℕ) → rank m < rank (node_net S j) → m < nets S → bit v (c.net m) ≡ bit w m) → node_value N NoFault v (c.node_at j) ≡ node_value S NoFault w j
    value_same rank ranks j h below =
        ap (λ (n : NodeOf). truth n.cover (read_values NoFault v (node_net N (c.node_at j)) 0 n.reads)) (copy.covers j h)
        ∙ ap (truth (node S j).cover) (read_values-no_fault v (node_net N (c.node_at j)) 0 (map c.net (node S j).reads)
        ∙ map_renamed (bit v) (bit w) c.net (node S j).reads (λ i k. below (pin_net S j i) (ranks.above j i h k) (closed.pins j i h k))
        ∙ sym (read_values-no_fault w (node_net S j) 0 (node S j).reads))

    at_place : (rank : ℕ → ℕ) → Ranks S rank → (net : ℕ) → Place S net → ((m : ℕ) → rank m < rank net → m < nets S → bit v (c.net m) ≡ bit w m)
        → net < nets S → bit v (c.net net) ≡ bit w net
    at_place rank ranks net (Input h) below within =
        ap (bit v) (copy.inputs net h) ∙ second.inputs net (omega arith) ∙ sym (same_inputs net h) ∙ sym (first.inputs net h)
    at_place rank ranks net (Latch l h e) below within =
        ap (λ n. bit v (c.net n)) e ∙ ap (bit v) (copy.latches l h) ∙ second.latches (c.latch_at l) (copy.latch_in l h) ∙ same_states l h
        ∙ sym (first.latches l h) ∙ ap (bit w) (sym e)
    at_place rank ranks net (Node j h e) below within =
        ap (λ n. bit v (c.net n)) e ∙ ap (bit v) (copy.nodes j h) ∙ second.nodes (c.node_at j) (copy.node_in j h)
        ∙ value_same rank ranks j h (subst (λ n. (m : ℕ) → rank m < rank n → m < nets S → bit v (c.net m) ≡ bit w m) e below)
        ∙ sym (first.nodes j h) ∙ ap (bit w) (sym e)
    at_place rank ranks net (Beyond h) below within = absurd (omega arith)

    -- each copied net has the bit of its net
    pub copy_bits : Acyclic S → (net : ℕ) → net < nets S → bit v (c.net net) ≡ bit w net
    copy_bits acyclic = by_rank (λ net. net < nets S → bit v (c.net net) ≡ bit w net) acyclic.rank (λ net below. at_place acyclic.rank acyclic.ranks net (place_of S net) below)

    -- and so the copied latches hold next what the source's do
    pub copy_next : Acyclic S → SameStates (bit (next_state S NoFault w)) (bit (next_state N NoFault v))
    copy_next acyclic l h =
        next_bit N v (c.latch_at l) (copy.latch_in l h)
        ∙ ap (bit v) (copy.reads l h)
        ∙ copy_bits acyclic (next_net S l) (closed.latches l no_latch h)
        ∙ sym (next_bit S w l h)

  -- at first they hold the same bits
  pub copy_init : SameStates (bit (init_state S)) (bit (init_state N))
  copy_init l h = init_bit N (c.latch_at l) (copy.latch_in l h) ∙ copy.inits l h ∙ sym (init_bit S l h)
