-- What reaches a copied net is a copy of what reaches the net.
use Rattle.std.proofs.Common.{◌≡◌, ℕ, ◌<◌, map, length, slice_index, refl, sym, ap, ◌∙◌, subst, arith}
use Rattle.std.proofs.lemmas.List.{get_or-map, length-map}
use Rattle.fault_secure.specs.Circuit.{Circuit, NodeOf, node, no_latch, latch_net, node_net, pin_net, nets}
use Rattle.fault_secure.specs.Closed.{IsClosed}
use Rattle.fault_secure.specs.FailingCell.{IsCell}
use Rattle.fault_secure.proofs.Places.{Place, place_of}
use Rattle.fault_secure.proofs.Places.Place.{Input, Latch, Node, Beyond}
use Rattle.register_laws.specs.RegisterPlan.{next_net}
use Rattle.register_laws.specs.RegisterStructure.{Reaches}
use Rattle.register_laws.specs.RegisterStructure.Reaches.{own, through, across}
use Rattle.register_laws.specs.Twin.{Placing, HasCopy}

-- a cell of S whose copy is this cell of N, and which reaches the net
pub record IsReachedInSource (S : Circuit) (c : Placing) (cell net : ℕ) : Type 0 where
  pub source : ℕ
  pub is_cell : IsCell S source
  pub is : cell ≡ c.net source
  pub reaches : Reaches S source net

module _ (S N : Circuit) (c : Placing) (copy : HasCopy S N c) (closed : IsClosed S) (inputs : N.inputs ≡ S.inputs) (cell : ℕ) (is_cell : IsCell N cell) where
  -- the cell is itself a copy of the net's cell
  own_at : (net : ℕ) → net < nets S → c.net net ≡ cell → Place S net → IsReachedInSource S c cell net
  own_at net within e (Input h) = absurd (let k = copy.inputs net h in let l = is_cell.no_input in omega arith)
  own_at net within e (Latch l h p) = record { source = net; is_cell = record { no_input = omega arith; inside = within }; is = sym e; reaches = own net refl }
  own_at net within e (Node j h p) = record { source = net; is_cell = record { no_input = omega arith; inside = within }; is = sym e; reaches = own net refl }
  own_at net within e (Beyond h) = absurd (omega arith)

  -- which node's copy a copied net's node is
  through_at : (net j : ℕ) → net < nets S → j < length N.nodes → c.net net ≡ node_net N j → Place S net
      → (k : ℕ) × (k < length S.nodes) × (net ≡ node_net S k) × (j ≡ c.node_at k)
  through_at net j within h e (Input g) = absurd (let k = copy.inputs net g in omega arith)
  through_at net j within h e (Latch l g p) = absurd (let k = ap c.net p ∙ copy.latches l g in let m = copy.latch_in l g in omega arith)
  through_at net j within h e (Node k g p) = (k, g, p, (let m = ap c.net p ∙ copy.nodes k g in omega arith))
  through_at net j within h e (Beyond g) = absurd (omega arith)

  across_at : (net l : ℕ) → net < nets S → l < length N.latches → c.net net ≡ latch_net N l → Place S net
      → (k : ℕ) × (k < length S.latches) × (net ≡ latch_net S k) × (l ≡ c.latch_at k)
  across_at net l within h e (Input g) = absurd (let k = copy.inputs net g in omega arith)
  across_at net l within h e (Latch k g p) = (k, g, p, (let m = ap c.net p ∙ copy.latches k g in omega arith))
  across_at net l within h e (Node k g p) = absurd (let m = ap c.net p ∙ copy.nodes k g in omega arith)
  across_at net l within h e (Beyond g) = absurd (omega arith)

  -- the pin of a copied node
  pin_at : (j pin : ℕ) → j < length S.nodes → pin < length (node N (c.node_at j)).reads
      → (pin < length (node S j).reads) × (pin_net N (c.node_at j) pin ≡ c.net (pin_net S j pin))
  pin_at j pin h k =
      let reads : (node N (c.node_at j)).reads ≡ map c.net (node S j).reads = ap (λ (n : NodeOf). n.reads) (copy.covers j h) in
      let long : pin < length (node S j).reads = omega (arith, k, ap length reads, length-map (node S j).reads c.net) in
      (long, ap (λ ns. slice_index ns pin) reads ∙ get_or-map c.net (node S j).reads pin 0 0 long)

  at_node : (net j pin : ℕ) → net < nets S → j < length N.nodes → pin < length (node N j).reads
      → ((m : ℕ) → m < nets S → pin_net N j pin ≡ c.net m → IsReachedInSource S c cell m)
      → (k : ℕ) × (k < length S.nodes) × (net ≡ node_net S k) × (j ≡ c.node_at k) → IsReachedInSource S c cell net
  at_node net j pin within h l rest found =
      let p = pin_at found.0 pin found.1 (subst (λ n. pin < length (node N n).reads) found.3 l) in
      let r = rest (pin_net S found.0 pin) (closed.pins found.0 pin found.1 p.0) (ap (λ n. pin_net N n pin) found.3 ∙ p.1) in
      record { source = r.source; is_cell = r.is_cell; is = r.is; reaches = through net found.0 pin found.1 found.2 p.0 r.reaches }

  at_latch : (net l : ℕ) → net < nets S → l < length N.latches
      → ((m : ℕ) → m < nets S → next_net N l ≡ c.net m → IsReachedInSource S c cell m)
      → (k : ℕ) × (k < length S.latches) × (net ≡ latch_net S k) × (l ≡ c.latch_at k) → IsReachedInSource S c cell net
  at_latch net l within h rest found =
      let r = rest (next_net S found.0) (closed.latches found.0 no_latch found.1) (ap (next_net N) found.3 ∙ copy.reads found.0 found.1) in
      record { source = r.source; is_cell = r.is_cell; is = r.is; reaches = across net found.0 found.1 found.2 r.reaches }

  reached_from : (at net : ℕ) → net < nets S → at ≡ c.net net → Reaches N cell at → IsReachedInSource S c cell net
  reached_from _ net within e (own at k) = own_at net within (sym e ∙ k) (place_of S net)
  reached_from _ net within e (through at j pin h k l r) =
      at_node net j pin within h l (λ m low f. reached_from (pin_net N j pin) m low f r) (through_at net j within h (sym e ∙ k) (place_of S net))
  reached_from _ net within e (across at l h k r) =
      at_latch net l within h (λ m low f. reached_from (next_net N l) m low f r) (across_at net l within h (sym e ∙ k) (place_of S net))

  -- a cell that reaches a copied net is the copy of one that reaches the net
  pub copy_reached : (net : ℕ) → net < nets S → Reaches N cell (c.net net) → IsReachedInSource S c cell net
  copy_reached net within = reached_from (c.net net) net within refl
