-- The bits of the latches in a lane.
use Rattle.std.proofs.Common.{◌≡◌, ℕ, zero, suc, ◌+◌, ◌<◌, Bool, false, List, [], ◌∷◌, length, get_or, refl, sym, ap, ◌∙◌, arith}
use Rattle.std.proofs.lemmas.List.{ext_get_or, get_or-map, length-map}
use Rattle.fault_secure.specs.Circuit.{Circuit, LatchOf, no_latch, latch, latch_net, nets, bit}
use Rattle.fault_secure.specs.StuckAt.{StuckAt, on_pin}
use Rattle.fault_secure.specs.Run.{init_state, latch_reads, next_state}
use Rattle.lane_sim.specs.Points.{source_bit}
use Rattle.fault_lanes.specs.Bench.{bits_in}
use Rattle.fault_lanes.proofs.CoverLemmas.{length-bits_in, bit_in}

-- each latch has its first bit
pub first_bits : (N : Circuit) (states : List ℕ) (lane : ℕ) → ((l : ℕ) → l < length N.latches → source_bit states l lane ≡ (latch N l).init)
    → bits_in states (length N.latches) lane ≡ init_state N
first_bits N states lane each =
    let many = length-bits_in states (length N.latches) lane in
    ext_get_or false (bits_in states (length N.latches) lane) (init_state N) (many ∙ sym (length-map N.latches (λ (l : LatchOf). l.init)))
    (λ l inside.
    let below : l < length N.latches = omega (arith, many) in
    bit_in states (length N.latches) lane l below ∙ each l below ∙ sym (get_or-map (λ (l : LatchOf). l.init) N.latches l no_latch false below))

-- each latch has a given bit
pub given_bits : (state : List Bool) (states : List ℕ) (lane : ℕ) → ((l : ℕ) → l < length state → source_bit states l lane ≡ bit state l) → bits_in states (length state) lane ≡ state
given_bits state states lane each =
    let many = length-bits_in states (length state) lane in
    ext_get_or false (bits_in states (length state) lane) state many
    (λ l inside. let below : l < length state = omega (arith, many) in bit_in states (length state) lane l below ∙ each l below)

length-latch_reads : (N : Circuit) (f : StuckAt) (v : List Bool) (l : ℕ) (latches : List LatchOf) → length (latch_reads N f v l latches) ≡ length latches
length-latch_reads N f v l [] = refl
length-latch_reads N f v l (latch ∷ latches) = ap suc (length-latch_reads N f v (suc l) latches)

latch_read : (N : Circuit) (f : StuckAt) (v : List Bool) (l : ℕ) (latches : List LatchOf) (i : ℕ) → i < length latches
    → get_or (latch_reads N f v l latches) i false ≡ on_pin f (latch_net N (l + i)) 0 (bit v (get_or latches i no_latch).reads)
latch_read N f v l [] i inside = absurd (omega arith)
latch_read N f v l (latch ∷ latches) zero inside = ap (λ k. on_pin f (latch_net N k) 0 (bit v latch.reads)) (omega arith)
latch_read N f v l (latch ∷ latches) (suc i) inside =
    latch_read N f v (suc l) latches i (omega arith) ∙ ap (λ k. on_pin f (latch_net N k) 0 (bit v (get_or latches i no_latch).reads)) (omega arith)

-- each latch has what its pin reads
pub next_bits : (N : Circuit) (f : StuckAt) (words states : List ℕ) (lane : ℕ) → ((l : ℕ) → l < length N.latches → (latch N l).reads < nets N)
    → ((l : ℕ) → l < length N.latches → source_bit states l lane ≡ on_pin f (latch_net N l) 0 (source_bit words (latch N l).reads lane))
    → bits_in states (length N.latches) lane ≡ next_state N f (bits_in words (nets N) lane)
next_bits N f words states lane within each =
    let many = length-bits_in states (length N.latches) lane in
    let v = bits_in words (nets N) lane in
    ext_get_or false (bits_in states (length N.latches) lane) (next_state N f v) (many ∙ sym (length-latch_reads N f v 0 N.latches))
    (λ l inside.
    let below : l < length N.latches = omega (arith, many) in
    let at : 0 + l ≡ l = omega arith in
    bit_in states (length N.latches) lane l below ∙ each l below
    ∙ ap (on_pin f (latch_net N l) 0) (sym (bit_in words (nets N) lane (latch N l).reads (within l below)))
    ∙ sym (latch_read N f v 0 N.latches l below ∙ ap (λ k. on_pin f (latch_net N k) 0 (bit v (latch N l).reads)) at))
