-- Steps of making a table of numbers.
use Rattle.std.specs.List.{range_with_len}
use Rattle.std.proofs.Common.{◌≡◌, ℕ, zero, suc, ◌+◌, ◌<◌, ◌≤◌, inl, inr, List, [], ◌∷◌, ◌++◌, take, length, slice_index, slice_set, All, refl, sym, ◌∙◌, ap, subst, arith, length-take-le, get_or-take}
use Rattle.std.proofs.lemmas.Bool.{cases_lt}
use Rattle.std.proofs.lemmas.Grind.{get_or-set_at}
use Rattle.std.proofs.lemmas.List.{length-set, get_or-set_other}
use Rattle.std.proofs.lemmas.List.FromFn.{length-range_with_len, get_or-range_with_len}
use Rattle.std.proofs.lemmas.List.Elements.{All-get_or, All-from_get_or}
use Rattle.fault_secure.specs.Circuit.{Circuit, latch_net, node_net, nets}
use Rattle.register_synth.specs.Kept.{AreKept}
use Rattle.twin_synth.specs.Table.{IsTable}
use Rattle.twin_synth.specs.inner.Placed.{Rise, ArePlaced}

-- a count more
pub range_more : (a n : ℕ) → range_with_len a (n + 1) ≡ range_with_len a n ++ (a + n) ∷ []
range_more a zero = ap (λ (k : ℕ). k ∷ []) (let e : a ≡ a + 0 = omega arith in e)
range_more a (suc n) =
    ap (range_with_len a) (let on : suc n + 1 ≡ suc (n + 1) = omega arith in on)
    ∙ ap (λ (l : List ℕ). a ∷ l) (range_more (a + 1) n ∙ ap (λ (k : ℕ). range_with_len (a + 1) n ++ k ∷ []) (let e : a + 1 + n ≡ a + suc n = omega arith in e))

-- one number more
pub placed_more : (first from i : ℕ) (places start old new : List ℕ) → Rise places → All (λ place. first + place < length start) places → i < length places
    → ArePlaced first (take i places) from start old → new ≡ slice_set old (first + slice_index places i) (from + i) → ArePlaced first (take (i + 1) places) from start new
placed_more first from i places start old new rise within low are is = record {
  sized = ap length is ∙ length-set old (first + slice_index places i) (from + i) ∙ are.sized;
  before = λ n h.
      ap (λ l. slice_index l n) is ∙ get_or-set_other old (first + slice_index places i) n (from + i) 0 (λ e. omega arith) ∙ are.before n h;
  placed = λ k h. placed k (let long : length (take (i + 1) places) ≡ i + 1 = length-take-le (i + 1) places (omega arith) in omega arith);
}
  where
    here : first + slice_index places i < length old
    here = let one = All-get_or (λ place. first + place < length start) places i 0 low within in omega (arith, one, are.sized)

    placed : (k : ℕ) → k < i + 1 → slice_index new (first + slice_index (take (i + 1) places) k) ≡ from + k
    placed k h =
        let taken : slice_index (take (i + 1) places) k ≡ slice_index places k = get_or-take (i + 1) places k 0 h in
        elim (cases_lt k i) [
          | inl below ↦ (
              let less : slice_index places k < slice_index places i = rise k i below low in
              let long : length (take i places) ≡ i = length-take-le i places (omega arith) in
              ap (λ p. slice_index new (first + p)) taken ∙ ap (λ l. slice_index l (first + slice_index places k)) is
              ∙ get_or-set_other old (first + slice_index places i) (first + slice_index places k) (from + i) 0 (λ e. omega arith)
              ∙ ap (λ p. slice_index old (first + p)) (sym (get_or-take i places k 0 below)) ∙ are.placed k (omega arith))
          | inr over ↦ (
              let same : k ≡ i = omega arith in
              let at : first + slice_index places k ≡ first + slice_index places i = ap (λ n. first + slice_index places n) same in
              ap (λ p. slice_index new (first + p)) taken ∙ ap (λ l. slice_index l (first + slice_index places k)) is
              ∙ get_or-set_at old (first + slice_index places i) (first + slice_index places k) (from + i) 0 at here ∙ ap (λ n. from + n) (sym same))
        ]

-- the kept registers and covers have nets
pub registers_within : (C : Circuit) (registers covers : List ℕ) → AreKept C registers covers → All (λ place. place < length C.latches) registers
registers_within C registers covers kept = All-from_get_or (λ place. place < length C.latches) registers 0 (λ k h. (kept.each_register.sound k h).0)

pub covers_within : (C : Circuit) (registers covers : List ℕ) → AreKept C registers covers → All (λ place. place < length C.nodes) covers
covers_within C registers covers kept = All-from_get_or (λ place. place < length C.nodes) covers 0 (λ k h. (kept.each_cover.sound k h).0)

-- places below a count, as nets from a net on
pub nets_within : (places : List ℕ) (first count all : ℕ) → first + count ≤ all → All (λ place. place < count) places → All (λ place. first + place < all) places
nets_within places first count all fits within =
    All-from_get_or (λ place. first + place < all) places 0 (λ k h. (let one = All-get_or (λ place. place < count) places k 0 h within in omega (arith, one, fits)))

-- the table is made in three steps
pub table_made : (C : Circuit) (registers covers : List ℕ) (r c inputs latches : ℕ) (start middle made : List ℕ) → AreKept C registers covers → inputs ≡ C.inputs → latches ≡ length C.latches
    → start ≡ range_with_len 0 (nets C) → ArePlaced inputs registers r start middle → ArePlaced (inputs + latches) covers c middle made → IsTable C registers covers r c made
table_made C registers covers r c inputs latches start middle made kept a b is one two = record {
  sized = two.sized ∙ one.sized ∙ ap length is ∙ length-range_with_len 0 (nets C);
  inputs = λ i h.
      two.before i (omega arith) ∙ one.before i (omega arith) ∙ ap (λ l. slice_index l i) is ∙ get_or-range_with_len 0 (nets C) i 0 (omega arith)
      ∙ (let e : 0 + i ≡ i = omega arith in e);
  registers_at = λ k h.
      let low = (kept.each_register.sound k h).0 in
      two.before (latch_net C (slice_index registers k)) (omega (arith, low))
      ∙ ap (λ n. slice_index middle (n + slice_index registers k)) (sym a) ∙ one.placed k h;
  covers_at = λ k h.
      let e : node_net C (slice_index covers k) ≡ inputs + latches + slice_index covers k = omega arith in
      ap (slice_index made) e ∙ two.placed k h;
}
