-- What owners and blocks that are found say of every reading.
use Rattle.std.proofs.Common.{◌≡◌, ℕ, ◌-◌, ◌<◌, ◌≤◌, ◌==◌, ◌⊎◌, ◌||◌, Bool, true, false, cond, List, [], ◌∷◌, length, slice_index, slice_set, refl, sym, ap, subst, ◌∙◌, inl, inr, arith}
use Rattle.std.proofs.lemmas.List.{length-set, get_or_past}
use Rattle.std.proofs.lemmas.Bool.{cases_lt, or_cases, or_left, or_right, eqb-true, eq-eqb, true≢false}
use Rattle.fault_secure.specs.Circuit.{Circuit, node, node_net, pin_net, nets, bit}
use Rattle.fault_secure.specs.Settle.{Acyclic}
use Rattle.fault_secure.specs.Closed.{IsClosed}
use Rattle.tsc_net.specs.Order.{has_place, fan_ins, evaluation_order}
use Rattle.tsc_net.proofs.OrderLists.{has_place-head, has_place-rest, has_place-All}
use Rattle.mapping_reading.specs.ReadMapping.{first_net, is_own, block_pins, members, evaluated, gate_bit, pin_row, IsSameGate, GivesCover, IsReadMapping, some_block}
use Rattle.mapping_reading.specs.Pins.{at_of, AreWell, IsFirstOpen}
use Rattle.mapping_reading.specs.Blocks.{Reads, IsFirstShared}
use Rattle.mapping_reading.specs.Leads.{Leads}
use Rattle.mapping_reading.specs.Leads.Leads.{Through}
use Rattle.mapping_reading.specs.MovedNets.{HaveMoved}
use Rattle.mapping_reading.specs.FoundBlocks.{AreFound, FoundBlocksRead, NoNodesRefute, SharedGateRefutes, OpenPinRefutes, MissedCoverRefutes}
use Rattle.mapping_reading.proofs.Rows.{set_other, set_both, gate_same}
use Rattle.mapping_reading.proofs.Orders.{gates_counted}
use Rattle.mapping_reading.proofs.Evaluations.{own_gate, owner_of}
use Rattle.mapping_reading.proofs.ReadMappings.{row_sized, block_stays, shown_gate, is_mapped}
use Rattle.mapping_reading.proofs.LedGates.{one_block, block_leads}
use Rattle.mapping_reading.proofs.GivenCovers.{mapping_gives_covers}

-- ---- dead gates: they lead to no block

-- blocks that are the same at live gates give the same bits at all nets but those of dead gates
module _ (G : Circuit) (block other : ℕ → ℕ) (j none : ℕ) (low : j < none)
    (same : (g : ℕ) → g < length G.nodes → other g < none → block g ≡ other g)
    (live : (h d : ℕ) → h < length G.nodes → d < length G.nodes → Reads G h d → other h < none → other d < none) where
  abbrev IsLive : ℕ → Type 0
  IsLive net = (g : ℕ) → g < length G.nodes → net ≡ node_net G g → other g < none

  abbrev AgreeLive : List Bool → List Bool → Type 0
  AgreeLive r s = (net : ℕ) → IsLive net → bit r net ≡ bit s net

  pin_live : (g pin : ℕ) → g < length G.nodes → pin < length (node G g).reads → other g < none → IsLive (pin_net G g pin)
  pin_live g pin h l alive = λ d k e. live g d h k (pin, l, e) alive

  live_next : (g : ℕ) (r s : List Bool) → g < length G.nodes → other g < none → length r ≡ nets G → length s ≡ nets G → AgreeLive r s
      → AgreeLive (slice_set r (node_net G g) (gate_bit G r g)) (slice_set s (node_net G g) (gate_bit G s g))
  live_next g r s h alive sized also agree net alive_net =
      set_both r s (node_net G g) net (gate_bit G r g) (gate_bit G s g) (omega arith) (omega arith)
      (gate_same G g r s (λ pin l. agree (pin_net G g pin) (pin_live g pin h l alive))) (λ off. agree net alive_net)

  -- a dead gate sets no live net
  dead_next : (g : ℕ) (r s : List Bool) (b : Bool) → g < length G.nodes → none ≤ other g → AgreeLive r s → AgreeLive (slice_set r (node_net G g) b) s
  dead_next g r s b h dead agree net alive_net =
      set_other r (node_net G g) net b (λ e. let alive = alive_net g h e in omega arith) ∙ agree net alive_net

  agree_live : (gates : List ℕ) → ((g : ℕ) → has_place gates g ≡ true → g < length G.nodes)
      → (r s : List Bool) → length r ≡ nets G → length s ≡ nets G
      → AgreeLive r s → AgreeLive (evaluated G (members block gates j) r) (evaluated G (members other gates j) s)
  agree_live [] there r s sized also agree = agree
  agree_live (g ∷ gates) there r s sized also agree =
      by (block g == j) refl (other g == j) refl (cases_lt (other g) none)
      (agree_live gates (λ k l. there k (has_place-rest g k gates l)))
    where
      here : g < length G.nodes
      here = there g (has_place-head g gates)

      by : (b : Bool) → (block g == j) ≡ b → (c : Bool) → (other g == j) ≡ c → (other g < none) ⊎ (none ≤ other g)
          → ((u w : List Bool) → length u ≡ nets G → length w ≡ nets G → AgreeLive u w
          → AgreeLive (evaluated G (members block gates j) u) (evaluated G (members other gates j) w))
          → AgreeLive (evaluated G (cond b (g ∷ members block gates j) (members block gates j)) r)
          (evaluated G (cond c (g ∷ members other gates j) (members other gates j)) s)
      by true e true f (inl alive) go = go (slice_set r (node_net G g) (gate_bit G r g)) (slice_set s (node_net G g) (gate_bit G s g))
          (length-set r (node_net G g) (gate_bit G r g) ∙ sized) (length-set s (node_net G g) (gate_bit G s g) ∙ also)
          (live_next g r s here alive sized also agree)
      by true e false f (inl alive) go =
          absurd (true≢false (sym (eq-eqb (other g) j (sym (same g here alive) ∙ eqb-true (block g) j e)) ∙ f))
      by false e true f (inl alive) go =
          absurd (true≢false (sym (eq-eqb (block g) j (same g here alive ∙ eqb-true (other g) j f)) ∙ e))
      by b e true f (inr dead) go = let is = eqb-true (other g) j f in absurd (omega arith)
      by true e false f (inr dead) go = go (slice_set r (node_net G g) (gate_bit G r g)) s (length-set r (node_net G g) (gate_bit G r g) ∙ sized) also
          (dead_next g r s (gate_bit G r g) here dead agree)
      by false e false f place go = go r s sized also agree

module _ (N G : Circuit) (moved owners blocks : List ℕ) (found : AreFound N G moved owners blocks) where
  abbrev order : List ℕ
  order = evaluation_order (fan_ins G)

  abbrev at : ℕ → ℕ
  at = at_of G moved

  found_leads : (g : ℕ) → g < length G.nodes → slice_index blocks g < length N.nodes → Leads N G at g (slice_index blocks g)
  found_leads g h low = block_leads N G at order owners blocks found.ordered found.owned found.led g h low

  -- what a gate of a block reads is of a block
  live_read : (h d : ℕ) → h < length G.nodes → d < length G.nodes → Reads G h d → slice_index blocks h < length N.nodes
      → slice_index blocks d < length N.nodes
  live_read h d k l reads low = elim (cases_lt (slice_index owners d) (length N.nodes)) [
    | inl mine ↦ let e = found.led.owned d l mine in omega arith
    | inr free ↦ let least = found.led.least d h l k free reads in omega arith
  ]

  -- the gate of a node's net is of a block
  shown_live : (j g : ℕ) → j < length N.nodes → g < length G.nodes → at (node_net N j) ≡ node_net G g → slice_index owners g < length N.nodes
  shown_live j g h l e = elim (cases_lt (slice_index owners g) (length N.nodes)) [
    | inl mine ↦ mine
    | inr free ↦ absurd (found.owned.free g l free j h e)
  ]

  -- ---- each reason is one against every reading

  module _ (block : ℕ → ℕ) (r : IsReadMapping N G at block order) where
    in_block : (g : ℕ) → g < length G.nodes → slice_index blocks g < length N.nodes → block g ≡ slice_index blocks g
    in_block g h low = one_block N G at block order g (slice_index blocks g) r (found_leads g h low)

    pub never_shared : (d : ℕ) → IsFirstShared G owners (length N.nodes) blocks d → ⊥
    never_shared d first =
        let shared = first.shared in
        let to = shared.1 in
        let h = to.0 in
        let least = found.led.least d h first.inside to.1 shared.0 to.2 in
        let alone = in_block d first.inside (omega (arith, to.3)) in
        let through = Through d h (slice_index blocks h) (found.owned.free d first.inside shared.0) first.inside to.1 to.2 (found_leads h to.1 to.3) in
        to.4 (sym (one_block N G at block order d (slice_index blocks h) r through) ∙ alone)

    pub never_open : (g pin : ℕ) → IsFirstOpen N G at (slice_index blocks) g pin → ⊥
    never_open g pin first =
        let j = slice_index blocks g in
        let net = pin_net G g pin in
        let is = in_block g first.inside first.some in
        let well : (is_own G block j net || has_place (block_pins N at j) net) ≡ true =
        subst (λ i. (is_own G block i net || has_place (block_pins N at i) net) ≡ true) is
        (r.pins g pin first.inside (omega (arith, is, first.some)) first.here.has) in
        first.here.open_there (elim (or_cases (is_own G block j net) _ well) [
          | inl own ↦
              let from = owner_of G block j net own in
              let low = live_read g from.gate first.inside from.inside (pin, first.here.has, from.drives) first.some in
              let mine : slice_index blocks from.gate ≡ j = sym (in_block from.gate from.inside low) ∙ from.of in
              or_left (is_own G (slice_index blocks) j net) _
              (ap (is_own G (slice_index blocks) j) from.drives ∙ own_gate G (slice_index blocks) from.gate j from.inside mine)
          | inr there ↦ or_right (is_own G (slice_index blocks) j net) _ there
        ])

    module _ (closed : IsClosed N) (acyclic : Acyclic N) (also : IsClosed G) where
      driven_still : (k : ℕ) → k < length N.nodes → is_own G (some_block N block) k (at (node_net N k)) ≡ true
      driven_still k h =
          let from = shown_gate N G at block order found.ordered r k h in
          ap (is_own G (some_block N block) k) from.drives
          ∙ own_gate G (some_block N block) from.gate k from.inside (block_stays N G at block order found.ordered r from.gate k from.of h)

      pub given_found : (j : ℕ) → j < length N.nodes → GivesCover N G at (slice_index blocks) order j
      given_found j low value h =
          let row = pin_row N G at j value in
          let sized = row_sized N G at j row value in
          let mapped = is_mapped N G at block order found.ordered r also in
          sym (agree_live G (some_block N block) (slice_index blocks) j (length N.nodes) low
          (λ g l alive. block_stays N G at block order found.ordered r g (slice_index blocks g) (in_block g l alive) alive)
          live_read
          order
          (λ g there. let l = has_place-All (λ k. k < length (fan_ins G)) order g there found.ordered.within in omega (arith, gates_counted G order found.ordered))
          row row sized sized (λ net alive. refl)
          (at (node_net N j))
          (λ g l e. let mine = shown_live j g low l e in omega (arith, found.led.owned g l mine)))
          ∙ mapping_gives_covers N G at (some_block N block) order j mapped acyclic closed found.ordered driven_still low value h

  -- ---- the found blocks read, where nothing stands against it

  module _ (have : HaveMoved N G moved) where
    found_driven : (j : ℕ) → j < length N.nodes → is_own G (slice_index blocks) j (at (node_net N j)) ≡ true
    found_driven j h =
        let place = have.apart.gates j h in
        let g = at (node_net N j) - first_net G in
        let l : g < length G.nodes = omega (arith, place.0, place.1) in
        let e : at (node_net N j) ≡ node_net G g = omega (arith, place.0) in
        let mine = shown_live j g h l e in
        let is : slice_index owners g ≡ j = have.apart.apart (slice_index owners g) j mine h (found.owned.owns g l mine ∙ sym e) in
        ap (is_own G (slice_index blocks) j) e ∙ own_gate G (slice_index blocks) g j l (found.led.owned g l mine ∙ is)

    pub reads_found : (0 < length G.nodes → 0 < length N.nodes) → AreWell N G at (slice_index blocks)
        → ((j : ℕ) → j < length N.nodes → IsSameGate N G at j ⊎ GivesCover N G at (slice_index blocks) order j)
        → IsReadMapping N G at (slice_index blocks) order
    reads_found some well covers = record {
      inputs = have.inputs;
      latches = have.latches;
      outputs = have.outputs;
      sources = have.sources;
      beyond = λ net h. let past = get_or_past moved net (nets G) (omega (arith, have.sized)) in omega arith;
      some_node = some;
      driven = found_driven;
      pins = well;
      covers = covers;
    }

-- G reads as N mapped by the found blocks if no pin is open, each gate is its node or gives the cover, and N has nodes if G has
pub found_blocks_read : FoundBlocksRead
found_blocks_read N G moved owners blocks have found some well covers = reads_found N G moved owners blocks found have some well covers

pub no_nodes_refute : NoNodesRefute
no_nodes_refute N G moved none some read = let node = read.1.some_node some in omega arith

-- where a gate leads to two blocks, G reads as N mapped by no blocks
pub shared_gate_refutes : SharedGateRefutes
shared_gate_refutes N G moved owners blocks d found first read = never_shared N G moved owners blocks found read.0 read.1 d first

-- where a pin is open by the found blocks, G reads as N mapped by no blocks
pub open_pin_refutes : OpenPinRefutes
open_pin_refutes N G moved owners blocks g pin found first read = never_open N G moved owners blocks found read.0 read.1 g pin first

-- where a found block misses its cover, G reads as N mapped by no blocks, if both are closed and N has no ring
pub missed_cover_refutes : MissedCoverRefutes
missed_cover_refutes N G moved owners blocks j value closed acyclic also found low first read =
    first.missed (given_found N G moved owners blocks found read.0 read.1 closed acyclic also j low value first.inside)
