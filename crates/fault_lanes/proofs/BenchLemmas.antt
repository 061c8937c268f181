-- A step of the bench, and what it shows of a net.
use Rattle.std.proofs.Common.{◌≡◌, ℕ, ◌-◌, ◌*◌, ◌/◌, ◌%◌, ◌<◌, Bool, List, length, take, drop, sym, ap, ◌∙◌, subst, arith}
use Rattle.std.proofs.lemmas.List.{length-take-le, get_or-take, get_or-drop, length-drop}
use Rattle.tsc_bits.specs.Bits.{bit_worth}
use Rattle.fault_secure.specs.Circuit.{nets, bit}
use Rattle.fault_secure.specs.Settle.{Settles}
use Rattle.fault_secure.specs.Run.{next_state}
use Rattle.lane_sim.specs.Lanes.{HasLanes}
use Rattle.fault_lanes.specs.Batch.{lane_fault}
use Rattle.fault_lanes.specs.Bench.{LanesState, bits_in, fault_of, state_of, valuation_of, SettlesEach, IsSameBatch, IsStep}
use Rattle.fault_lanes.proofs.CoverLemmas.{bit_in}

-- a settle, and then the latches take what their pins read
pub step_is : (old settled new : LanesState) (x : List Bool) → SettlesEach old x settled → IsSameBatch old settled → new.circuit ≡ settled.circuit → new.faults ≡ settled.faults → new.nets ≡ settled.nets
    → (words : List ℕ) → words ≡ new.nets
    → ((lane : ℕ) → lane < 1024 → state_of new lane ≡ next_state new.circuit (fault_of new lane) (bits_in words (nets new.circuit) lane)) → IsStep old x new
step_is old settled new x settles same is_circuit is_faults is_nets words are takes = record {
  settles = λ lane inside.
      subst (Settles old.circuit (fault_of old lane) (bit x) (bit (state_of old lane))) (λ i. bits_in (sym is_nets i) (nets (sym is_circuit i)) lane) (settles lane inside);
  takes = λ lane inside. takes lane inside ∙ (λ i. next_state ((is_circuit ∙ same.circuit) i) (lane_fault ((is_faults ∙ same.faults) i) lane) (bits_in (are i) (nets new.circuit) lane));
  same = record { circuit = is_circuit ∙ same.circuit; faults = is_faults ∙ same.faults };
}

-- the sixteen words of a net, where a list has sixteen per net
net_words : (words : List ℕ) (many net : ℕ) → length words ≡ many * 16 → net < many
    → HasLanes 16 (take 16 (take (length words - net * 16) (drop (net * 16) words))) (λ lane. bit (bits_in words many lane) net)
net_words words many net sized inside =
    let left : length (drop (net * 16) words) ≡ length words - net * 16 = length-drop (net * 16) words in
    let rest : length (take (length words - net * 16) (drop (net * 16) words)) ≡ length words - net * 16 =
    length-take-le (length words - net * 16) (drop (net * 16) words) (omega arith) in
    record {
      sized = length-take-le 16 (take (length words - net * 16) (drop (net * 16) words)) (omega arith);
      lanes = λ lane below.
          let word : lane / 64 < 16 = omega arith in
          let room : lane / 64 < length words - net * 16 = omega arith in
          ap (bit_worth (lane % 64))
          (get_or-take 16 (take (length words - net * 16) (drop (net * 16) words)) (lane / 64) 0 word
          ∙ get_or-take (length words - net * 16) (drop (net * 16) words) (lane / 64) 0 room
          ∙ get_or-drop (net * 16) words (lane / 64) 0)
          ∙ sym (bit_in words many lane net inside);
    }

-- what the bench shows of a net
pub net_shown : (inside now : LanesState) (shown : List ℕ) (net : ℕ) → inside ≡ now → shown ≡ inside.nets → length inside.nets ≡ nets inside.circuit * 16 → net < nets now.circuit
    → HasLanes 16 (take 16 (take (length shown - net * 16) (drop (net * 16) shown))) (λ lane. bit (valuation_of now lane) net)
net_shown inside now shown net view is sized below =
    subst (λ (words : List ℕ). HasLanes 16 (take 16 (take (length words - net * 16) (drop (net * 16) words))) (λ lane. bit (valuation_of now lane) net)) (sym is)
    (subst (λ (s : LanesState). HasLanes 16 (take 16 (take (length inside.nets - net * 16) (drop (net * 16) inside.nets))) (λ lane. bit (valuation_of s lane) net)) view
    (net_words inside.nets (nets inside.circuit) net sized (subst (λ (s : LanesState). net < nets s.circuit) (sym view) below)))
