-- What latches hold first.
use Rattle.std.proofs.Common.{◌≡◌, ℕ, ◌-◌, ◌<◌, false, length, sym, ◌∙◌, ap, arith}
use Rattle.std.proofs.lemmas.List.{length-map, get_or-map, ext_get_or}
use Rattle.tsc_bits.specs.Bits.{bits_of, bit_worth}
use Rattle.tsc_bits.proofs.Bits.{length-bits_of, get_or-bits_of}
use Rattle.fault_secure.specs.Circuit.{Circuit, no_latch, latch}
use Rattle.fault_secure.specs.Run.{init_state}

-- the latches hold the bits of a word first
pub held_first : (N : Circuit) (count word : ℕ) → count ≡ length N.latches → ((k : ℕ) → k < count → (latch N k).init ≡ bit_worth (count - 1 - k) word)
    → init_state N ≡ bits_of (length N.latches) word
held_first N count word is each =
    let one : length (init_state N) ≡ length N.latches = length-map N.latches (λ l. l.init) in
    ext_get_or false (init_state N) (bits_of (length N.latches) word) (one ∙ sym (length-bits_of (length N.latches) word))
    (λ k h.
    let low : k < length N.latches = omega (arith, h, one) in
    get_or-map (λ l. l.init) N.latches k no_latch false low
    ∙ each k (omega (arith, low, is)) ∙ ap (λ n. bit_worth (n - 1 - k) word) is ∙ sym (get_or-bits_of (length N.latches) word k low))
