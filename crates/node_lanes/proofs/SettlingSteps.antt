-- Putting bits at nets and setting nodes, at 64 points, point by point.
use Rattle.std.proofs.Common.{◌≡◌, ℕ, suc, ◌+◌, ◌-◌, ◌<◌, Bool, List, [], ◌∷◌, map, length, drop, set, get_or, refl, sym, ◌∙◌, ap, ap₂, arith, add-one}
use Rattle.std.proofs.Math.Seq.{drop-cons}
use Rattle.std.proofs.lemmas.List.{length-map, length-set, map-set}
use Rattle.tsc_bits.specs.Bits.{bits_of, bit_worth}
use Rattle.tsc_cover.specs.Cover.{CoverTable, truth}
use Rattle.fault_secure.specs.Circuit.{Circuit, node, node_net, no_node, bit}
use Rattle.fault_secure.specs.Closed.{IsClosed}
use Rattle.fault_secure.specs.StuckAt.{NoFault}
use Rattle.fault_secure.specs.Settle.{node_value}
use Rattle.fault_secure.proofs.GateLemmas.{read_values-no_fault}
use Rattle.tsc_net.specs.PlanView.{net_numbers}
use Rattle.tsc_net.specs.declared.ids.NetId.{NetId}
use Rattle.code_lanes.specs.Lanes.{column}
use Rattle.node_lanes.specs.Settling.{with_bits, settled}

-- a cover has a pin a net that its node reads
pub pins_of_node : (N : Circuit) (j : ℕ) (reads : List NetId) (cover : CoverTable) → IsClosed N → j < length N.nodes → net_numbers reads ≡ (node N j).reads → cover ≡ (node N j).cover
    → length reads ≡ cover.width
pins_of_node N j reads cover closed within same_reads same_cover =
    sym (length-map reads (λ (net : NetId). net.number)) ∙ ap length same_reads ∙ sym (closed.widths j no_node within) ∙ sym (ap (λ (c : CoverTable). c.width) same_cover)

-- the bit of a node is its cover's truth on the bits of its pins
pub node_word_is : (N : Circuit) (j : ℕ) (v : List Bool) (reads : List NetId) (cover : CoverTable) (b : Bool) → net_numbers reads ≡ (node N j).reads → cover ≡ (node N j).cover
    → b ≡ truth cover (map (bit v) (net_numbers reads)) → b ≡ node_value N NoFault v j
node_word_is N j v reads cover b same_reads same_cover is =
    is ∙ ap₂ (λ (c : CoverTable) list. truth c (map (bit v) list)) same_cover same_reads
    ∙ ap (truth (node N j).cover) (sym (read_values-no_fault v (node_net N j) 0 (node N j).reads))

-- one net more is put
pub put_step : (values : List Bool) (nets : List NetId) (i value : ℕ) (d : NetId) → i < length nets
    → with_bits values (net_numbers (drop i nets)) (bits_of (length nets - i) value)
    ≡ with_bits (set values (get_or nets i d).number (bit_worth (length nets - 1 - i) value)) (net_numbers (drop (i + 1) nets)) (bits_of (length nets - (i + 1)) value)
put_step values nets i value d h =
    let here : net_numbers (drop i nets) ≡ (get_or nets i d).number ∷ net_numbers (drop (i + 1) nets) =
    ap net_numbers (drop-cons nets i d h) ∙ ap (λ k. (get_or nets i d).number ∷ net_numbers (drop k nets)) (sym (add-one i)) in
    let left : length nets - i ≡ suc (length nets - (i + 1)) = omega arith in
    let worth : length nets - (i + 1) ≡ length nets - 1 - i = omega arith in
    ap₂ (λ list n. with_bits values list (bits_of n value)) here left
    ∙ ap (λ k. with_bits (set values (get_or nets i d).number (bit_worth k value)) (net_numbers (drop (i + 1) nets)) (bits_of (length nets - (i + 1)) value)) worth

-- a node more is set
pub settle_step : (N : Circuit) (places : List ℕ) (i : ℕ) (v : List Bool) → i < length places
    → settled N (drop i places) v ≡ settled N (drop (i + 1) places) (set v (node_net N (get_or places i 0)) (node_value N NoFault v (get_or places i 0)))
settle_step N places i v h =
    ap (λ list. settled N list v) (drop-cons places i 0 h)
    ∙ ap (λ k. settled N (drop k places) (set v (node_net N (get_or places i 0)) (node_value N NoFault v (get_or places i 0)))) (sym (add-one i))

-- a net more is put, at one point
pub put_lane : (p : ℕ) (words : List ℕ) (nets : List NetId) (i base word : ℕ) (d : NetId) → i < length nets → bit_worth p word ≡ bit_worth (length nets - 1 - i) (base + p)
    → with_bits (column p (set words (get_or nets i d).number word)) (net_numbers (drop (i + 1) nets)) (bits_of (length nets - (i + 1)) (base + p))
    ≡ with_bits (column p words) (net_numbers (drop i nets)) (bits_of (length nets - i) (base + p))
put_lane p words nets i base word d h is =
    ap (λ v. with_bits v (net_numbers (drop (i + 1) nets)) (bits_of (length nets - (i + 1)) (base + p)))
    (map-set (bit_worth p) words (get_or nets i d).number word ∙ ap (set (column p words) (get_or nets i d).number) is)
    ∙ sym (put_step (column p words) nets i (base + p) d h)

-- the lanes with the net of a node set
pub node_lane : (N : Circuit) (place p net word : ℕ) (words : List ℕ) → net ≡ node_net N place → bit_worth p word ≡ node_value N NoFault (column p words) place
    → column p (set words net word) ≡ set (column p words) (node_net N place) (node_value N NoFault (column p words) place)
node_lane N place p net word words at is = map-set (bit_worth p) words net word ∙ ap₂ (set (column p words)) at is

-- putting bits at nets keeps the number of bits
pub length-with_bits : (v : List Bool) (nets : List ℕ) (bits : List Bool) → length (with_bits v nets bits) ≡ length v
length-with_bits v [] bits = refl
length-with_bits v (n ∷ nets) [] = refl
length-with_bits v (n ∷ nets) (b ∷ bits) = length-with_bits (set v n b) nets bits ∙ length-set v n b

-- setting nodes keeps the number of bits
pub length-settled : (N : Circuit) (places : List ℕ) (v : List Bool) → length (settled N places v) ≡ length v
length-settled N [] v = refl
length-settled N (q ∷ places) v =
    length-settled N places (set v (node_net N q) (node_value N NoFault v q)) ∙ length-set v (node_net N q) (node_value N NoFault v q)

-- words keep their number
pub put_length : (old put distinct : List ℕ) (bits : ℕ → List Bool) → ((p : ℕ) → p < 64 → column p put ≡ with_bits (column p old) distinct (bits p)) → length put ≡ length old
put_length old put distinct bits puts =
    sym (length-map put (bit_worth 0)) ∙ ap length (puts 0 (omega arith)) ∙ length-with_bits (column 0 old) distinct (bits 0) ∙ length-map old (bit_worth 0)

-- words in which nodes were set, at each of 64 points, are as many as before
pub settled_length : (N : Circuit) (old now places : List ℕ) → ((p : ℕ) → p < 64 → column p now ≡ settled N places (column p old)) → length now ≡ length old
settled_length N old now places settles =
    sym (length-map now (bit_worth 0)) ∙ ap length (settles 0 (omega arith)) ∙ length-settled N places (column 0 old) ∙ length-map old (bit_worth 0)
