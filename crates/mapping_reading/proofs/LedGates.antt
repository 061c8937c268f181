-- Where gates lead, and that this determines their blocks.
use Rattle.std.proofs.Common.{◌≡◌, ℕ, zero, suc, ◌+◌, ◌-◌, ◌<◌, ◌≤◌, ◌⊎◌, ◌||◌, true, List, length, slice_index, sym, ap, subst, ◌∙◌, inl, inr, arith}
use Rattle.std.proofs.lemmas.List.{ext_get_or, length-map}
use Rattle.std.proofs.lemmas.Bool.{cases_eq, cases_lt, or_cases}
use Rattle.fault_secure.specs.Circuit.{Circuit, node_net, pin_net, nets}
use Rattle.tsc_net.specs.Order.{has_place, fan_ins, evaluation_order, place_in, IsOrder}
use Rattle.mapping_reading.specs.ReadMapping.{first_net, is_own, block_pins, IsReadMapping}
use Rattle.mapping_reading.specs.Pins.{at_of}
use Rattle.mapping_reading.specs.Blocks.{Reads, AreBlocks, IsShared, HasTwoBlocks, SharedHasTwoBlocks}
use Rattle.mapping_reading.specs.Leads.{IsNoNodes, Leads, AreOwners, OneBlock, BlocksLead, LeadersHaveBlocks}
use Rattle.mapping_reading.specs.Leads.Leads.{Itself, Through}
use Rattle.mapping_reading.specs.FoundBlocks.{FoundAreOne}
use Rattle.mapping_reading.proofs.Rows.{pin_back}
use Rattle.mapping_reading.proofs.Orders.{reads_earlier, placed}
use Rattle.mapping_reading.proofs.Evaluations.{owner_of}
use Rattle.mapping_laws.specs.Mapping.{moved_latch}

pub leads_to_node : (N G : Circuit) (at : ℕ → ℕ) (g j : ℕ) → Leads N G at g j → j < length N.nodes
leads_to_node N G at _ _ (Itself g j h e) = h
leads_to_node N G at _ _ (Through g h j none l k reads rest) = leads_to_node N G at h j rest

module _ (N G : Circuit) (at block : ℕ → ℕ) (order : List ℕ) (r : IsReadMapping N G at block order) where
  -- the net of a gate of no node is at no pin of a cover
  no_pin : (same : length G.latches ≡ length N.latches) (g j : ℕ) → g < length G.nodes → IsNoNodes N G at g
      → has_place (block_pins N at j) (node_net G g) ≡ true → ⊥
  no_pin same g j h none there =
      let from = pin_back N at j (node_net G g) there in
      let net = pin_net N j from.0 in
      let goes : at net ≡ node_net G g = from.2 in
      elim (cases_lt net (first_net N)) [
        | inl low ↦ let stays : at net ≡ net = r.sources net low in absurd (omega (arith, r.inputs, same, goes, stays, low))
        | inr past ↦ elim (cases_lt net (nets N)) [
          | inl inside ↦
              let e : node_net N (net - first_net N) ≡ net = omega arith in
              none (net - first_net N) (omega arith) (ap at e ∙ goes)
          | inr beyond ↦ let far = r.beyond net beyond in absurd (omega (arith, far, goes))
        ]
      ]

  -- a gate that leads to a node is of its block
  pub leads_in : (same : length G.latches ≡ length N.latches) (g j : ℕ) → Leads N G at g j → block g ≡ j
  leads_in same _ _ (Itself g j h e) =
      let from = owner_of G block j (at (node_net N j)) (r.driven j h) in
      let is : g ≡ from.gate = let there : node_net G g ≡ node_net G from.gate = sym e ∙ from.drives in omega arith in
      ap block is ∙ from.of
  leads_in same _ _ (Through g h j none l k reads rest) =
      let later : block h ≡ j = leads_in same h j rest in
      let low : block h < length N.nodes = let m = leads_to_node N G at h j rest in omega arith in
      let net = node_net G g in
      let well : (is_own G block j net || has_place (block_pins N at j) net) ≡ true =
      subst (λ n. (is_own G block j n || has_place (block_pins N at j) n) ≡ true) reads.2
      (subst (λ i. (is_own G block i (pin_net G h reads.0) || has_place (block_pins N at i) (pin_net G h reads.0)) ≡ true) later (r.pins h reads.0 k low reads.1)) in
      elim (or_cases (is_own G block j net) _ well) [
        | inl own ↦
            let from = owner_of G block j net own in
            let is : g ≡ from.gate = let there : node_net G g ≡ node_net G from.gate = from.drives in omega arith in
            ap block is ∙ from.of
        | inr there ↦ absurd (no_pin same g j l none there)
      ]

pub one_block : OneBlock
one_block N G at block order g j r leads = leads_in N G at block order r (ap length r.latches ∙ length-map N.latches (moved_latch at)) g j leads

-- a gate that reads another comes after it
pub reader_later : (G : Circuit) (order : List ℕ) → IsOrder (fan_ins G) order → (d h : ℕ) → h < length G.nodes → Reads G h d
    → place_in order d < place_in order h
reader_later G order whole d h l reads = reads_earlier G order whole h d reads.0 l reads.1 reads.2

module _ (N G : Circuit) (at : ℕ → ℕ) (order owners blocks : List ℕ) (whole : IsOrder (fan_ins G) order) (owned : AreOwners N G at owners)
    (led : AreBlocks G owners (length N.nodes) blocks) where
  -- from the end of the order on
  leads_from : (steps g : ℕ) → length order ≤ place_in order g + steps → g < length G.nodes → slice_index blocks g < length N.nodes
      → Leads N G at g (slice_index blocks g)
  leads_from zero g far h low = absurd (let there = placed G order whole g h in omega arith)
  leads_from (suc steps) g far h low = elim (cases_lt (slice_index owners g) (length N.nodes)) [
    | inl mine ↦ subst (Leads N G at g) (sym (led.owned g h mine)) (Itself g (slice_index owners g) mine (owned.owns g h mine))
    | inr none ↦
        let to = led.led g h none low in
        let later = reader_later G order whole g to.0 to.1 to.2 in
        let rest : Leads N G at to.0 (slice_index blocks to.0) = leads_from steps to.0 (omega arith) to.1 (omega (arith, to.3)) in
        Through g to.0 (slice_index blocks g) (owned.free g h none) h to.1 to.2 (subst (Leads N G at to.0) to.3 rest)
  ]

  pub block_leads : (g : ℕ) → g < length G.nodes → slice_index blocks g < length N.nodes → Leads N G at g (slice_index blocks g)
  block_leads g h low = leads_from (length order) g (omega arith) h low

pub blocks_lead : BlocksLead
blocks_lead N G at order owners blocks g whole owned led h low = block_leads N G at order owners blocks whole owned led g h low

-- a gate that leads to a node has a block
module _ (N G : Circuit) (at : ℕ → ℕ) (owners blocks : List ℕ) (owned : AreOwners N G at owners) (led : AreBlocks G owners (length N.nodes) blocks) where
  leader_block : (g j : ℕ) → g < length G.nodes → Leads N G at g j → slice_index blocks g < length N.nodes
  leader_block _ _ h (Itself g j l e) = elim (cases_lt (slice_index owners g) (length N.nodes)) [
    | inl mine ↦ let is = led.owned g h mine in omega arith
    | inr free ↦ absurd (owned.free g h free j l e)
  ]
  leader_block _ _ h (Through g k j none l m reads rest) = elim (cases_lt (slice_index owners g) (length N.nodes)) [
    | inl mine ↦ let is = led.owned g l mine in omega arith
    | inr free ↦ let least = led.least g k l m free reads in let later = leader_block k j m rest in omega arith
  ]

pub leaders_have_blocks : LeadersHaveBlocks
leaders_have_blocks N G at owners blocks g j owned led h leads = leader_block N G at owners blocks owned led g j h leads

-- ---- a shared gate has readers of two blocks

module _ (G : Circuit) (owners : List ℕ) (none : ℕ) (blocks : List ℕ) (d : ℕ) (are : AreBlocks G owners none blocks) (inside : d < length G.nodes)
    (free : none ≤ slice_index owners d) where
  two_readers : IsShared G owners none blocks d → HasTwoBlocks G none blocks d
  two_readers shared =
      let to = shared.1 in
      let least = are.least d to.0 inside to.1 free to.2 in
      let low : slice_index blocks d < none = omega (arith, to.3) in
      let from = are.led d inside free low in
      record {
        first = to.0;
        second = from.0;
        inside = (to.1, from.1);
        reads = (to.2, from.2);
        some = (to.3, omega (arith, from.3));
        differ = λ same. to.4 (same ∙ from.3);
      }

  one_other : HasTwoBlocks G none blocks d → IsShared G owners none blocks d
  one_other two = elim (cases_eq (slice_index blocks two.first) (slice_index blocks d)) [
    | inl same ↦ (free, (two.second, two.inside.1, two.reads.1, two.some.1, λ also. two.differ (same ∙ sym also)))
    | inr off ↦ (free, (two.first, two.inside.0, two.reads.0, two.some.0, off))
  ]

pub shared_has_two_blocks : SharedHasTwoBlocks
shared_has_two_blocks G owners none blocks d are inside free =
    (two_readers G owners none blocks d are inside free, one_other G owners none blocks d are inside free)

-- ---- what is found is determined

module _ (N G : Circuit) (at : ℕ → ℕ) (apart : (j k : ℕ) → j < length N.nodes → k < length N.nodes → at (node_net N j) ≡ at (node_net N k) → j ≡ k)
    (owners others : List ℕ) (first : AreOwners N G at owners) (second : AreOwners N G at others) where
  same_owner : (g : ℕ) → g < length G.nodes → slice_index owners g ≡ slice_index others g
  same_owner g h = by (cases_lt (slice_index owners g) (length N.nodes)) (cases_lt (slice_index others g) (length N.nodes))
    where
      by : (slice_index owners g < length N.nodes) ⊎ (length N.nodes ≤ slice_index owners g)
          → (slice_index others g < length N.nodes) ⊎ (length N.nodes ≤ slice_index others g) → slice_index owners g ≡ slice_index others g
      by (inl a) (inl b) = apart (slice_index owners g) (slice_index others g) a b (first.owns g h a ∙ sym (second.owns g h b))
      by (inl a) (inr b) = absurd (second.free g h b (slice_index owners g) a (first.owns g h a))
      by (inr a) (inl b) = absurd (first.free g h a (slice_index others g) b (second.owns g h b))
      by (inr a) (inr b) = let one = first.few g h in let two = second.few g h in omega arith

  pub same_owners : owners ≡ others
  same_owners = ext_get_or 0 owners others (first.sized ∙ sym second.sized) (λ g h. same_owner g (omega (arith, first.sized)))

module _ (G : Circuit) (order owners : List ℕ) (none : ℕ) (whole : IsOrder (fan_ins G) order) where
  -- no later than the other table's, where it is a block
  no_later : (blocks those : List ℕ) → AreBlocks G owners none blocks → AreBlocks G owners none those
      → (g : ℕ) → g < length G.nodes → none ≤ slice_index owners g
      → ((h : ℕ) → h < length G.nodes → place_in order g < place_in order h → slice_index blocks h ≡ slice_index those h)
      → slice_index those g ≤ slice_index blocks g
  no_later blocks those first second g h free later = elim (cases_lt (slice_index blocks g) none) [
    | inl low ↦
        let to = first.led g h free low in
        let same = later to.0 to.1 (reader_later G order whole g to.0 to.1 to.2) in
        let least = second.least g to.0 h to.1 free to.2 in
        omega (arith, to.3)
    | inr past ↦ let few = second.few g h in omega arith
  ]

  same_block_from : (blocks those : List ℕ) → AreBlocks G owners none blocks → AreBlocks G owners none those
      → (steps g : ℕ) → length order ≤ place_in order g + steps → g < length G.nodes → slice_index blocks g ≡ slice_index those g
  same_block_from blocks those first second zero g far h = absurd (let there = placed G order whole g h in omega arith)
  same_block_from blocks those first second (suc steps) g far h = elim (cases_lt (slice_index owners g) none) [
    | inl mine ↦ first.owned g h mine ∙ sym (second.owned g h mine)
    | inr free ↦
        let later : (k : ℕ) → k < length G.nodes → place_in order g < place_in order k → slice_index blocks k ≡ slice_index those k =
        λ k l after. same_block_from blocks those first second steps k (omega arith) l in
        let one = no_later blocks those first second g h free later in
        let two = no_later those blocks second first g h free (λ k l after. sym (later k l after)) in
        omega arith
  ]

  pub same_blocks : (blocks those : List ℕ) → AreBlocks G owners none blocks → AreBlocks G owners none those → blocks ≡ those
  same_blocks blocks those first second = ext_get_or 0 blocks those (first.sized ∙ sym second.sized)
      (λ g h. same_block_from blocks those first second (length order) g (omega arith) (omega (arith, first.sized)))

-- where nets have moved, owners and blocks that are found are one: two are the same
pub found_are_one : FoundAreOne
found_are_one N G moved owners blocks others those have first second =
    let same = same_owners N G (at_of G moved) have.apart.apart owners others first.owned second.owned in (
      same,
      same_blocks G (evaluation_order (fan_ins G)) owners (length N.nodes) first.ordered blocks those first.led
          (subst (λ list. AreBlocks G list (length N.nodes) those) (sym same) second.led),
    )
