-- What a step shows in lanes.
use Rattle.std.proofs.Common.{◌≡◌, ℕ, ◌+◌, ◌*◌, ◌/◌, ◌%◌, ◌<◌, ◌≤◌, Bool, true, false, not, ◌&&◌, ◌||◌, List, length, drop, map, get_or, refl, sym, ap, ap₂, ◌∙◌, arith}
use Rattle.std.specs.Prelude.{slice_index}
use Rattle.std.proofs.lemmas.List.{drop_more, drop_all}
use Rattle.tsc_bits.specs.Bits.{same, bit_worth}
use Rattle.tsc_bits.proofs.Bools.{or-false}
use Rattle.fault_secure.specs.Circuit.{bit}
use Rattle.fault_secure.specs.FaultSecure.{equal_bits}
use Rattle.tsc_net.specs.PlanView.{net_numbers}
use Rattle.tsc_net.specs.declared.ids.NetId.{NetId}
use Rattle.lane_sim.specs.Lanes.{HasLanes, lane_bit}
use Rattle.lane_sim.specs.Points.{source_bit}
use Rattle.lane_sim.specs.TwoPins.{differ}

-- the sixteen words of a net
pub net_loaded : (words lanes : List ℕ) (bits : ℕ → Bool) → HasLanes 16 words bits → HasLanes 16 lanes (source_bit words 0) → HasLanes 16 lanes bits
net_loaded words lanes bits has loaded = record {
  sized = loaded.sized;
  lanes = λ p below. (let at : 0 * 16 + p / 64 ≡ p / 64 = omega arith in
      loaded.lanes p below ∙ ap (λ (k : ℕ). bit_worth (p % 64) (slice_index words k)) at ∙ has.lanes p below);
}

not_differ : (a b : Bool) → same false (differ a b) ≡ same a b
not_differ true true = refl
not_differ true false = refl
not_differ false true = refl
not_differ false false = refl

-- where two nets agree
pub agree_lanes : (first second apart lanes : List ℕ) (v : ℕ → List Bool) (a b rail1 rail2 : ℕ) → a ≡ rail1 → b ≡ rail2
    → HasLanes 16 first (λ p. bit (v p) a) → HasLanes 16 second (λ p. bit (v p) b)
    → HasLanes 16 apart (λ p. differ (lane_bit first p) (lane_bit second p)) → HasLanes 16 lanes (λ p. same false (lane_bit apart p))
    → HasLanes 16 lanes (λ p. same (bit (v p) rail1) (bit (v p) rail2))
agree_lanes first second apart lanes v a b rail1 rail2 is_a is_b one two differs turned = record {
  sized = turned.sized;
  lanes = λ p below.
      turned.lanes p below ∙ ap (same false) (differs.lanes p below ∙ ap₂ differ (one.lanes p below) (two.lanes p below))
      ∙ not_differ (bit (v p) a) (bit (v p) b) ∙ ap₂ (λ (m n : ℕ). same (bit (v p) m) (bit (v p) n)) is_a is_b;
}

-- where a net hasn't its bit of lane 0
pub changed_lanes : (here first lanes : List ℕ) (bits : ℕ → Bool) (b : Bool) → b ≡ bits 0 → HasLanes 16 here bits → HasLanes 16 first (λ p. b)
    → HasLanes 16 lanes (λ p. differ (lane_bit here p) (lane_bit first p)) → HasLanes 16 lanes (λ p. differ (bits p) (bits 0))
changed_lanes here first lanes bits b is one two differs = record {
  sized = differs.sized;
  lanes = λ p below. differs.lanes p below ∙ ap₂ differ (one.lanes p below) (two.lanes p below ∙ is);
}

-- ---- the nets one after another

abbrev pub apart : (ℕ → Bool) → (ℕ → Bool) → List NetId → Bool
apart f g nets = not (equal_bits (map f (net_numbers nets)) (map g (net_numbers nets)))

split : (w s e : Bool) → (w || not (s && e)) ≡ ((w || not s) || not e)
split true s e = refl
split false true e = refl
split false false e = refl

pub wrong_more : (f g : ℕ → Bool) (nets : List NetId) (i : ℕ) (d : NetId) (wrong next whole : Bool) → i < length nets
    → next ≡ (wrong || differ (f (get_or nets i d).number) (g (get_or nets i d).number))
    → (wrong || apart f g (drop i nets)) ≡ whole → (next || apart f g (drop (i + 1) nets)) ≡ whole
wrong_more f g nets i d wrong next whole inside is before =
    let n = (get_or nets i d).number in
    ap (λ b. b || apart f g (drop (i + 1) nets)) is
    ∙ sym (split wrong (same (f n) (g n)) (equal_bits (map f (net_numbers (drop (i + 1) nets))) (map g (net_numbers (drop (i + 1) nets)))))
    ∙ sym (ap (λ (list : List NetId). wrong || apart f g list) (drop_more nets i d inside))
    ∙ before

pub wrong_end : (f g : ℕ → Bool) (nets : List NetId) (i : ℕ) (wrong whole : Bool) → length nets ≤ i → (wrong || apart f g (drop i nets)) ≡ whole → wrong ≡ whole
wrong_end f g nets i wrong whole high before =
    sym (or-false wrong) ∙ sym (ap (λ (list : List NetId). wrong || apart f g list) (drop_all i nets high)) ∙ before

pub wrong_start : (f g : ℕ → Bool) (nets : List NetId) (wrong : Bool) → wrong ≡ false → (wrong || apart f g (drop 0 nets)) ≡ apart f g nets
wrong_start f g nets wrong is = ap (λ b. b || apart f g nets) is
