-- A settle in a lane: what the pins of a node read, and node after node along the evaluation order.
use Rattle.std.proofs.Common.{◌≡◌, ◌≢◌, ℕ, zero, suc, ◌+◌, ◌-◌, ◌<◌, ◌≤◌, Bool, false, List, [], ◌∷◌, length, map, take, get_or, Contains, refl, sym, ap, ap₂, ◌∙◌, subst, arith, below_more}
use Rattle.std.specs.Prelude.{slice_index, slice_index_or}
use Rattle.std.proofs.Math.Logic.{⊎_elim}
use Rattle.std.proofs.lemmas.Bool.{cases_lt}
use Rattle.std.proofs.lemmas.List.{ext_get_or, get_or-map, get_or_default, get_or-take, length-map, length-take-le, take-map}
use Rattle.tsc_cover.specs.Cover.{CoverTable, truth}
use Rattle.fault_secure.specs.Circuit.{Circuit, NodeOf, no_node, node, node_net, latch_net, pin_net, nets, bit}
use Rattle.fault_secure.specs.Closed.{IsClosed}
use Rattle.fault_secure.specs.StuckAt.{StuckAt, on_stem, on_pin}
use Rattle.fault_secure.specs.Settle.{Settles, Acyclic}
use Rattle.fault_secure.specs.OneRun.{HasOneValuation}
use Rattle.fault_secure.proofs.OneRun.{one_valuation}
use Rattle.tsc_net.specs.Order.{fan_in, fan_ins, place_in, IsOrder}
use Rattle.std.specs.List.{range_with_len}
use Rattle.std.proofs.lemmas.List.FromFn.{get_or-range_with_len, length-range_with_len, take-map-range_with_len}
use Rattle.tsc_net.specs.PlanView.{net_numbers}
use Rattle.tsc_net.specs.declared.ids.NetId.{NetId}
use Rattle.tsc_net.proofs.AcyclicLemmas.{fan_in-has}
use Rattle.lane_rows.specs.Alive.{source_count, net_at}
use Rattle.lane_rows.proofs.OrderFacts.{node_within, place_of_node, node_placed, node_at_place, order_sized, same_place}
use Rattle.lane_sim.specs.Points.{source_bit}
use Rattle.lane_sim.specs.Again.{is_at}
use Rattle.lane_sim.specs.Along.{read_bits}
use Rattle.lane_sim.specs.TwoPins.{IsTableOf, table_bit}
use Rattle.lane_sim.proofs.SettleLemmas.{read_bits_are}
use Rattle.fault_lanes.specs.Bench.{bits_in}
use Rattle.fault_lanes.specs.Ready.{AreTables}
use Rattle.fault_lanes.specs.Settling.{bits_at, made_bit, HasSources, NodesSettle}
use Rattle.fault_lanes.proofs.CoverLemmas.{length-bits_in, bit_in}
use Rattle.fault_lanes.proofs.HoldLemmas.{stem_away, pin_away}

-- ---- the bits that pins read

-- a cover has a pin per net that its node reads
pub pins_of_node : (N : Circuit) (j width : ℕ) (reads : List ℕ) (cover : CoverTable) → IsClosed N → j < length N.nodes → reads ≡ (node N j).reads → cover ≡ (node N j).cover → width ≡ cover.width
    → length reads ≡ width
pins_of_node N j width reads cover closed within same_reads same_cover wide =
    ap length same_reads ∙ sym (closed.widths j no_node within) ∙ sym (ap (λ (c : CoverTable). c.width) same_cover) ∙ sym wide

read_bit : (f : StuckAt) (bits : ℕ → Bool) (driver pin : ℕ) (reads : List ℕ) (i : ℕ) → i < length reads
    → get_or (read_bits f bits driver pin reads) i false ≡ on_pin f driver (pin + i) (bits (get_or reads i 0))
read_bit f bits driver pin [] i inside = absurd (omega arith)
read_bit f bits driver pin (net ∷ reads) zero inside = ap (λ k. on_pin f driver k (bits net)) (omega arith)
read_bit f bits driver pin (net ∷ reads) (suc i) inside =
    read_bit f bits driver (suc pin) reads i (omega arith) ∙ ap (λ k. on_pin f driver k (bits (get_or reads i 0))) (omega arith)

length-read_bits : (f : StuckAt) (bits : ℕ → Bool) (driver pin : ℕ) (reads : List ℕ) → length (read_bits f bits driver pin reads) ≡ length reads
length-read_bits f bits driver pin [] = refl
length-read_bits f bits driver pin (net ∷ reads) = ap suc (length-read_bits f bits driver (suc pin) reads)

module _ (f : StuckAt) (driver lane width : ℕ) (loaded held words reads : List ℕ) (sized : length reads ≡ width)
    (loads : (pin : ℕ) → pin < width → source_bit loaded pin lane ≡ source_bit words (slice_index reads pin) lane)
    (holds : (pin : ℕ) → pin < width → source_bit held (0 + pin) lane ≡ on_pin f driver pin (source_bit loaded (0 + pin) lane)) where
  pin_is : (pin : ℕ) → pin < width → get_or (bits_in held width lane) pin false ≡ get_or (read_bits f (λ net. source_bit words net lane) driver 0 reads) pin false
  pin_is pin inside =
      let at : 0 + pin ≡ pin = omega arith in
      bit_in held width lane pin inside
      ∙ ap (λ k. source_bit held k lane) (sym at) ∙ holds pin inside ∙ ap (λ k. on_pin f driver pin (source_bit loaded k lane)) at
      ∙ ap (on_pin f driver pin) (loads pin inside)
      ∙ sym (read_bit f (λ net. source_bit words net lane) driver 0 reads pin (omega (arith, sized)) ∙ ap (λ k. on_pin f driver k (source_bit words (get_or reads pin 0) lane)) at)

  pins_are : bits_in held width lane ≡ read_bits f (λ net. source_bit words net lane) driver 0 reads
  pins_are = ext_get_or false (bits_in held width lane) (read_bits f (λ net. source_bit words net lane) driver 0 reads)
      (length-bits_in held width lane ∙ sym sized ∙ sym (length-read_bits f (λ net. source_bit words net lane) driver 0 reads))
      (λ i inside. pin_is i (omega (arith, length-bits_in held width lane)))

  -- the rows of the first pins, in order
  first_rows : (places : List NetId) → net_numbers places ≡ range_with_len 0 64 → width ≤ 64 → bits_at held (net_numbers (take width places)) lane ≡ bits_in held width lane
  first_rows places are few =
      ap (map (λ row. source_bit held row lane)) (sym (take-map (λ (net : NetId). net.number) width places) ∙ ap (take width) are)
      ∙ sym (take-map (λ row. source_bit held row lane) width (range_with_len 0 64))
      ∙ take-map-range_with_len (λ row. source_bit held row lane) 0 64 width few

  -- so what the cover gives on the rows of the pins is what the node makes of the nets
  pub made : (N : Circuit) (j : ℕ) (cover : CoverTable) (places : List NetId) (x : Bool) → driver ≡ node_net N j → reads ≡ (node N j).reads → cover ≡ (node N j).cover
      → net_numbers places ≡ range_with_len 0 64 → width ≤ 64
      → x ≡ truth cover (bits_at held (net_numbers (take width places)) lane) → x ≡ made_bit N f (λ net. source_bit words net lane) j
  made N j cover places x is_driver is_reads is_cover are few is =
      is ∙ ap (truth cover) (first_rows places are few ∙ pins_are)
      ∙ (λ i. truth (is_cover i) (read_bits f (λ net. source_bit words net lane) (is_driver i) 0 (is_reads i)))

-- the rows of the first pins are among 64
pub place_within : (places : List NetId) (width k : ℕ) (d : NetId) → net_numbers places ≡ range_with_len 0 64 → width ≤ 64 → k < length (take width places) → (get_or (take width places) k d).number < 64
place_within places width k d are few inside =
    let many : length places ≡ 64 = sym (length-map places (λ (net : NetId). net.number)) ∙ ap length are ∙ length-range_with_len 0 64 in
    let taken : length (take width places) ≡ width = length-take-le width places (omega (arith, many, few)) in
    let below : k < width = omega (arith, taken, inside) in
    let numbered : (get_or (take width places) k d).number ≡ k =
    ap (λ (net : NetId). net.number) (get_or-take width places k d below)
    ∙ sym (get_or-map (λ (net : NetId). net.number) places k d d.number (omega (arith, many, below, few)))
    ∙ ap (λ l. get_or l k d.number) are ∙ get_or-range_with_len 0 64 k d.number (omega (arith, below, few)) ∙ omega arith in
    omega (arith, numbered, below, few)

-- ---- a node at which no lane has a fault

free_reads : (f : StuckAt) (bits : ℕ → Bool) (driver pin : ℕ) (reads : List ℕ) → is_at f driver ≡ false → read_bits f bits driver pin reads ≡ map bits reads
free_reads f bits driver pin [] away = refl
free_reads f bits driver pin (net ∷ reads) away = ap₂ ◌∷◌ (pin_away f driver pin (bits net) away) (free_reads f bits driver (suc pin) reads away)

-- what its cover gives on the nets that it reads is what it makes of them
pub made_free : (N : Circuit) (f : StuckAt) (words : List ℕ) (lane j : ℕ) → is_at f (node_net N j) ≡ false
    → truth (node N j).cover (bits_at words (node N j).reads lane) ≡ on_stem f (node_net N j) (made_bit N f (λ net. source_bit words net lane) j)
made_free N f words lane j away =
    sym (stem_away f (node_net N j) (made_bit N f (λ net. source_bit words net lane) j) away
    ∙ ap (truth (node N j).cover) (free_reads f (λ net. source_bit words net lane) (node_net N j) 0 (node N j).reads away))

-- the first two nets of a list that is no longer are all of it
first_two : (bits : ℕ → Bool) (reads : List ℕ) (or : ℕ) → length reads ≤ 2
    → take (length reads) (bits (slice_index_or reads 0 or) ∷ bits (slice_index_or reads 1 or) ∷ []) ≡ map bits reads
first_two bits [] or few = refl
first_two bits (a ∷ []) or few = refl
first_two bits (a ∷ b ∷ []) or few = refl
first_two bits (a ∷ b ∷ c ∷ rest) or few = absurd (omega (arith, few))

-- so the number of its function gives that truth
pub pair_is : (cover : CoverTable) (words reads : List ℕ) (lane table or : ℕ) → length reads ≡ cover.width → length reads ≤ 2 → IsTableOf cover cover.width table
    → table_bit table (source_bit words (slice_index_or reads 0 or) lane) (source_bit words (slice_index_or reads 1 or) lane) ≡ truth cover (bits_at words reads lane)
pair_is cover words reads lane table or wide few is =
    is.gives (source_bit words (slice_index_or reads 0 or) lane) (source_bit words (slice_index_or reads 1 or) lane)
    ∙ ap (λ n. truth cover (take n (source_bit words (slice_index_or reads 0 or) lane ∷ source_bit words (slice_index_or reads 1 or) lane ∷ []))) (sym wide)
    ∙ ap (truth cover) (first_two (λ net. source_bit words net lane) reads or few)

-- so a node of at most two pins is settled by the number of its function
pub free_pair : (N : Circuit) (j table first second to lane : ℕ) (old new tables : List ℕ) (reads : List NetId) → IsClosed N → j < length N.nodes → net_numbers reads ≡ (node N j).reads → length reads ≤ 2
    → AreTables N tables → table ≡ slice_index_or tables j table → first ≡ slice_index_or (net_numbers reads) 0 to → second ≡ slice_index_or (net_numbers reads) 1 to → to ≡ node_net N j
    → source_bit new to lane ≡ table_bit table (source_bit old first lane) (source_bit old second lane)
    → source_bit new (node_net N j) lane ≡ truth (node N j).cover (bits_at old (node N j).reads lane)
free_pair N j table first second to lane old new tables reads closed within same few fits is_table is_first is_second is_to settled =
    let many : length (node N j).reads ≡ length reads = sym (ap length same) ∙ length-map reads (λ (net : NetId). net.number) in
    let wide : (node N j).cover.width ≡ length (node N j).reads = closed.widths j no_node within in
    let found : slice_index tables j ≡ table = sym (is_table ∙ get_or_default tables j table 0 (omega (arith, within, fits.sized))) in
    let is : IsTableOf (node N j).cover (node N j).cover.width table =
    subst (λ t. IsTableOf (node N j).cover (node N j).cover.width t) found (fits.each j within (omega (arith, many, wide, few))) in
    let firstly : first ≡ slice_index_or (node N j).reads 0 to = is_first ∙ ap (λ l. slice_index_or l 0 to) same in
    let secondly : second ≡ slice_index_or (node N j).reads 1 to = is_second ∙ ap (λ l. slice_index_or l 1 to) same in
    ap (λ n. source_bit new n lane) (sym is_to) ∙ settled
    ∙ ap₂ (λ a b. table_bit table (source_bit old a lane) (source_bit old b lane)) firstly secondly
    ∙ pair_is (node N j).cover old (node N j).reads lane table to (sym wide) (omega (arith, many, few)) is

-- ---- node after node

module _ (N : Circuit) (order : List ℕ) (whole : IsOrder (fan_ins N) order) (closed : IsClosed N) (f : StuckAt) (lane : ℕ) (v : List Bool) (settle : NodesSettle N f v) where
  -- the nodes at the first places have their bits of the valuation
  abbrev HasPlaces : List ℕ → ℕ → Type 0
  HasPlaces words places = (k : ℕ) → k < places → source_bit words (net_at N order k) lane ≡ bit v (net_at N order k)

  module _ (words : List ℕ) (place : ℕ) (inside : place < length order) (sources : HasSources N words lane v) (has : HasPlaces words place) where
    abbrev j : ℕ
    j = slice_index order place

    j_inside : j < length N.nodes
    j_inside = node_within N order whole place inside

    from_node : (net m : ℕ) → net ≡ node_net N m → m < length N.nodes → place_in order m < place → source_bit words net lane ≡ bit v net
    from_node net m is m_inside before =
        let there : net_at N order (place_in order m) ≡ net = ap (node_net N) (node_at_place N order whole m m_inside) ∙ sym is in
        subst (λ n. source_bit words n lane ≡ bit v n) there (has (place_in order m) before)

    read_is : (pin : ℕ) → pin < length (node N j).reads → source_bit words (pin_net N j pin) lane ≡ bit v (pin_net N j pin)
    read_is pin below = ⊎_elim
        (λ source. sources (pin_net N j pin) source)
        (λ past.
        let m = pin_net N j pin - source_count N in
        let net_below = closed.pins j pin j_inside below in
        let many : j < length (fan_ins N) = omega (arith, whole.sized, order_sized N order whole, j_inside) in
        let fans : slice_index_or (fan_ins N) j [] ≡ fan_in (source_count N) (node N j).reads =
        get_or-map (λ (n : NodeOf). fan_in (source_count N) n.reads) N.nodes j no_node [] j_inside in
        let before : place_in order m < place_in order j =
        whole.after j m many (subst (λ l. Contains l m) (sym fans) (fan_in-has (source_count N) (node N j).reads pin below past)) in
        from_node (pin_net N j pin) m (omega arith) (omega arith) (omega (arith, before, place_of_node N order whole place inside)))
        (cases_lt (pin_net N j pin) (source_count N))

    -- the next node makes of them its bit
    makes : on_stem f (node_net N j) (made_bit N f (λ net. source_bit words net lane) j) ≡ bit v (node_net N j)
    makes =
        ap (λ read. on_stem f (node_net N j) (truth (node N j).cover read)) (read_bits_are f (λ net. source_bit words net lane) v (node_net N j) 0 (node N j).reads read_is)
        ∙ sym (settle j j_inside)

    pub places_more : (after : List ℕ) → source_bit after (node_net N j) lane ≡ on_stem f (node_net N j) (made_bit N f (λ net. source_bit words net lane) j)
        → ((other : ℕ) → other ≢ node_net N j → source_bit after other lane ≡ source_bit words other lane) → HasPlaces after (place + 1)
    places_more after here others = below_more (λ k. source_bit after (net_at N order k) lane ≡ bit v (net_at N order k)) place
        (λ k below. others (net_at N order k) (λ same. let is = same_place N order whole k place (omega arith) inside same in omega arith) ∙ has k below)
        (here ∙ makes)

  -- all places are all nodes
  pub places_all : (words : List ℕ) (places : ℕ) → length order ≤ places → HasPlaces words places → (j : ℕ) → j < length N.nodes → source_bit words (node_net N j) lane ≡ bit v (node_net N j)
  places_all words places past has j inside =
      let placed = node_placed N order whole j inside in
      subst (λ k. source_bit words (node_net N k) lane ≡ bit v (node_net N k)) (node_at_place N order whole j inside) (has (place_in order j) (omega arith))

-- ---- all nets

module _ (N : Circuit) (f : StuckAt) (lane : ℕ) (input : List Bool) (states words after : List ℕ) (acyclic : Acyclic N)
    (inputs : (i : ℕ) → i < N.inputs → source_bit words i lane ≡ on_stem f i (bit input i))
    (latches : (l : ℕ) → l < length N.latches → source_bit words (latch_net N l) lane ≡ on_stem f (latch_net N l) (source_bit states l lane))
    (kept : (net : ℕ) → net < source_count N → source_bit after net lane ≡ source_bit words net lane)
    (nodes : (v : List Bool) → HasSources N words lane v → NodesSettle N f v → (j : ℕ) → j < length N.nodes → source_bit after (node_net N j) lane ≡ bit v (node_net N j)) where
  abbrev s : List Bool
  s = bits_in states (length N.latches) lane

  abbrev one : HasOneValuation N f (bit input) (bit s)
  one = one_valuation N f (bit input) (bit s) acyclic

  abbrev v : List Bool
  v = one.valuation

  from_latch : (net l : ℕ) → latch_net N l ≡ net → l < length N.latches → source_bit words net lane ≡ bit v net
  from_latch net l is inside = subst (λ n. source_bit words n lane ≡ bit v n) is
      (latches l inside ∙ ap (on_stem f (latch_net N l)) (sym (bit_in states (length N.latches) lane l inside)) ∙ sym (one.settles.latches l inside))

  sources_are : HasSources N words lane v
  sources_are net inside = ⊎_elim
      (λ input_. inputs net input_ ∙ sym (one.settles.inputs net input_))
      (λ past. from_latch net (net - N.inputs) (omega arith) (omega arith))
      (cases_lt net N.inputs)

  from_a_node : (net j : ℕ) → node_net N j ≡ net → j < length N.nodes → source_bit after net lane ≡ bit v net
  from_a_node net j is inside = subst (λ n. source_bit after n lane ≡ bit v n) is (nodes v sources_are one.settles.nodes j inside)

  each_is : (net : ℕ) → net < nets N → source_bit after net lane ≡ bit v net
  each_is net inside = ⊎_elim
      (λ source. kept net source ∙ sources_are net source)
      (λ past. from_a_node net (net - source_count N) (omega arith) (omega arith))
      (cases_lt net (source_count N))

  valuation_is : bits_in after (nets N) lane ≡ v
  valuation_is = ext_get_or false (bits_in after (nets N) lane) v (length-bits_in after (nets N) lane ∙ sym one.settles.sized)
      (λ net inside. let below : net < nets N = omega (arith, length-bits_in after (nets N) lane) in bit_in after (nets N) lane net below ∙ each_is net below)

  -- what they have settles
  pub settles : Settles N f (bit input) (bit s) (bits_in after (nets N) lane)
  settles = subst (Settles N f (bit input) (bit s)) (sym valuation_is) one.settles
