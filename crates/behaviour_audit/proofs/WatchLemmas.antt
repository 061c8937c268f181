-- What is put at a bench, and what a settled one shows.
use Rattle.std.proofs.Common.{◌≡◌, ℕ, ◌+◌, ◌^◌, ◌<◌, Bool, false, List, [], ◌∷◌, length, map, get_or, Some, refl, sym, ap, ap₂, ◌∙◌, subst, arith, All}
use Rattle.std.specs.Prelude.{◌*◌, ◌/◌, ◌%◌, slice_index}
use Rattle.tsc_bits.specs.Bits.{bit_worth, bits_of}
use Rattle.tsc_bits.proofs.Bits.{bits_of-mod}
use Rattle.std.proofs.lemmas.List.Elements.{All-head, All-tail}
use Rattle.fault_secure.specs.Circuit.{Circuit, nets, bit}
use Rattle.fault_secure.specs.StuckAt.{NoFault}
use Rattle.fault_secure.specs.Settle.{Settles}
use Rattle.fault_secure.specs.CodePlan.{CodePlan}
use Rattle.fault_secure.specs.Exposing.{word_of_state}
use Rattle.tsc_net.specs.PlanView.{net_numbers}
use Rattle.tsc_net.specs.declared.ids.NetId.{NetId}
use Rattle.tsc_net.proofs.NetNumbers.{are_watched}
use Rattle.lane_sim.specs.Points.{PointsState, point_input, point_state}
use Rattle.lane_sim.specs.Places.{HasInputOf, HasStateOf, point_at}
use Rattle.lane_sim.specs.Lanes.{lane_bit}
use Rattle.lane_sim.specs.Bench.{lane_of, BenchState, ShowsSettled, HasOneValuationEach}
use Rattle.code_lanes.specs.Lanes.{column}
use Rattle.behaviour_audit.specs.Points.{HasInput, HasPoint, ShowsAt, ShowsStep, slot_bit, input_of}
use Rattle.lane_sim.specs.declared.point.Point.{Point}

-- ---- putting

-- a slot that has the input of a place, and the word of its state, has the place's point
pub place_input : (inputs count : ℕ) (points : PointsState) (slot place : ℕ) → count ≡ inputs → HasInputOf count points slot place → HasInput inputs points slot (point_at inputs place)
place_input inputs count points slot place same has = record {
  input = λ k h.
      has k (subst (λ (n : ℕ). k < n) (sym same) h)
      ∙ (ap (λ (n : ℕ). bit (bits_of n place) k) same ∙ ap (λ (bits : List Bool). bit bits k) (sym (bits_of-mod inputs place)));
}

pub place_point : (N : Circuit) (P : CodePlan) (count : ℕ) (points : PointsState) (slot place : ℕ) → count ≡ N.inputs → P.latches ≡ length N.latches → HasInputOf count points slot place
    → HasStateOf P count points slot place → HasPoint N P points slot (point_at N.inputs place)
place_point N P count points slot place same latches input state = record {
  word = state.word;
  is_state = subst (λ (n : ℕ). word_of_state P (place / 2 ^ n) ≡ Some state.word) same state.is_state;
  input = place_input N.inputs count points slot place same input;
  state = λ l h. state.state l (omega arith);
}

-- ---- settling

pub settled_shows : (N : Circuit) (bench : BenchState) (points : PointsState) → bench.circuit ≡ N → ShowsSettled 1024 bench points NoFault → HasOneValuationEach N NoFault points
    → (slot : ℕ) → slot < 1024 → ShowsAt N (point_input points slot) (point_state points slot) bench slot
settled_shows N bench points circuit shows one slot below = record {
  valuation = (one slot).valuation;
  settles = (one slot).settles;
  only = (one slot).only;
  shown = λ net watched. shows.lanes slot net (one slot).valuation below watched
      (subst (λ (C : Circuit). Settles C NoFault (point_input points slot) (point_state points slot) (one slot).valuation) (sym circuit) (one slot).settles);
}

-- the same bits of inputs and latches
pub settles_alike : (N : Circuit) (x y s t : ℕ → Bool) (v : List Bool) → ((k : ℕ) → k < N.inputs → x k ≡ y k) → ((l : ℕ) → l < length N.latches → s l ≡ t l)
    → Settles N NoFault x s v → Settles N NoFault y t v
settles_alike N x y s t v inputs latches settles = record {
  sized = settles.sized;
  inputs = λ i h. settles.inputs i h ∙ inputs i h;
  latches = λ l h. settles.latches l h ∙ latches l h;
  nodes = settles.nodes;
}

pub shows_alike : (N : Circuit) (x y s t : ℕ → Bool) (bench : BenchState) (slot : ℕ) → ((k : ℕ) → k < N.inputs → x k ≡ y k) → ((l : ℕ) → l < length N.latches → s l ≡ t l)
    → ShowsAt N x s bench slot → ShowsAt N y t bench slot
shows_alike N x y s t bench slot inputs latches shows = record {
  valuation = shows.valuation;
  settles = settles_alike N x y s t shows.valuation inputs latches shows.settles;
  only = λ v settles. shows.only v (settles_alike N y x t s v (λ k h. sym (inputs k h)) (λ l h. sym (latches l h)) settles);
  shown = shows.shown;
}

-- a bench that was settled at a point shows its step
pub shows_step : (N : Circuit) (P : CodePlan) (bench : BenchState) (points : PointsState) (slot : ℕ) (point : Point) → HasPoint N P points slot point
    → ShowsAt N (point_input points slot) (point_state points slot) bench slot → ShowsStep N P bench slot point
shows_step N P bench points slot point has shows = record {
  word = has.word;
  is_state = has.is_state;
  shows = shows_alike N (point_input points slot) (bit (input_of N.inputs point)) (point_state points slot) (bit has.word) bench slot has.input.input has.state shows;
}

-- a network has no state
pub shows_input : (C : Circuit) (bench : BenchState) (points : PointsState) (slot : ℕ) (point : Point) → length C.latches ≡ 0 → HasInput C.inputs points slot point
    → ShowsAt C (point_input points slot) (point_state points slot) bench slot → ShowsAt C (bit (input_of C.inputs point)) (λ _. false) bench slot
shows_input C bench points slot point none has shows =
    shows_alike C (point_input points slot) (bit (input_of C.inputs point)) (point_state points slot) (λ _. false) bench slot has.input (λ l h. absurd (omega arith)) shows

-- ---- reading

map_shown : (f g : ℕ → Bool) (nets : List NetId) → All (λ net. f net.number ≡ g net.number) nets → map (λ net. f net.number) nets ≡ map g (net_numbers nets)
map_shown f g [] same = refl
map_shown f g (net ∷ nets) same =
    ap₂ ◌∷◌ (All-head (λ (n : NetId). f n.number ≡ g n.number) net nets same) (map_shown f g nets (All-tail (λ (n : NetId). f n.number ≡ g n.number) net nets same))

-- what is read of watched nets is what they have in the valuation
pub read_shown : (C : Circuit) (x s : ℕ → Bool) (bench : BenchState) (slot : ℕ) (nets : List NetId) (numbers : List ℕ) (bits : List Bool) → bench.watched ≡ net_numbers nets
    → net_numbers nets ≡ numbers → (shows : ShowsAt C x s bench slot) → bits ≡ map (λ net. slot_bit bench slot net.number) nets → bits ≡ map (bit shows.valuation) numbers
read_shown C x s bench slot nets numbers bits watched are shows read =
    read
    ∙ (map_shown (slot_bit bench slot) (bit shows.valuation) nets (λ k d h. shows.shown (get_or nets k d).number (are_watched bench.watched nets watched k d h))
    ∙ ap (map (bit shows.valuation)) are)

-- the lanes of a word of watched nets have at a point what is shown at its slot
bit_in_word : (words : List ℕ) (word k : ℕ) → k < 64 → bit_worth k (slice_index words word) ≡ lane_bit words (word * 64 + k)
bit_in_word words word k few =
    let at : word ≡ (word * 64 + k) / 64 = omega arith in
    let last : k ≡ (word * 64 + k) % 64 = omega arith in
    ap₂ (λ (b w : ℕ). bit_worth b (slice_index words w)) last at

pub column_shown : (bench : BenchState) (word k : ℕ) (nets : List NetId) (lanes : List ℕ) → k < 64 → lanes ≡ map (λ net. slice_index (lane_of bench net.number) word) nets
    → column k lanes ≡ map (λ net. slot_bit bench (word * 64 + k) net.number) nets
column_shown bench word k nets lanes few is = ap (column k) is ∙ each nets
  where
    each : (nets : List NetId) → column k (map (λ net. slice_index (lane_of bench net.number) word) nets) ≡ map (λ net. slot_bit bench (word * 64 + k) net.number) nets
    each [] = refl
    each (net ∷ nets) = ap₂ ◌∷◌ (bit_in_word (lane_of bench net.number) word k few) (each nets)
