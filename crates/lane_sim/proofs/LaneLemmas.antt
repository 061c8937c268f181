-- Operations on lists of words, bit by bit.
use Rattle.std.proofs.Common.{◌≡◌, ◌≢◌, ℕ, ◌+◌, ◌-◌, ◌*◌, ◌/◌, ◌%◌, ◌^◌, ◌<◌, ◌≤◌, Bool, true, false, not, ◌&&◌, ◌||◌, eqb, List, [], ◌∷◌, ◌++◌, length, get_or, bit_and, bit_or, bit_xor, refl, sym, ap, ◌∙◌, subst, arith}
use Rattle.std.specs.Prelude.{replicate, slice_index}
use Rattle.std.proofs.lemmas.List.{get_or_append_left, get_or-append-add}
use Rattle.std.proofs.lemmas.Simd.{get_or-zip2, length-zip2, length-replicate, get_or-replicate, get_or-chunk, length-chunk, get_or-put_chunk_below, get_or-put_chunk_at, get_or-put_chunk_above}
use Rattle.std.specs.Int.{bit_not}
use mir.Syntax.{w64}
use Rattle.std.specs.Simd.Lanes.{zip2, chunk, put_chunk}
use Rattle.std.proofs.Math.Logic.{⊎_elim}
use Rattle.std.proofs.lemmas.Bool.{cases_lt}
use Rattle.std.proofs.lemmas.Nat.Bits.{bit_at_ones, bit_at_not}
use Rattle.tsc_bits.specs.Bits.{same, weight_of, bit_worth}
use Rattle.tsc_bits.proofs.Bits.{bit_worth-and, bit_worth-or, bit_worth-xor, weight_of-bit_worth}
use Rattle.lane_sim.specs.Lanes.{HasLanes, lane_bit}
use Rattle.lane_sim.specs.Points.{source_bit}
use Rattle.lane_sim.specs.TwoPins.{differ, mask_bit, AreMasks}

-- the bytes of so few words can be counted
pub lanes_fit : (count : ℕ) → count ≤ 16 → count * 8 < 9223372036854775808
lanes_fit count few = omega arith

-- each bit of the word of all ones, and of the word of all zeros
pub bit_of_ones : (k : ℕ) → k < 64 → bit_worth k 18446744073709551615 ≡ true
bit_of_ones k below = ap (λ b. eqb b 1) (bit_at_ones 64 k below)

-- each bit of the other word
pub bit_of_not : (word k : ℕ) → word < 2 ^ 64 → k < 64 → bit_worth k (bit_not w64 word) ≡ not (bit_worth k word)
bit_of_not word k fits below =
    ap (λ b. eqb b 1) (bit_at_not w64 word k fits below ∙ ap (λ b. 1 - b) (sym (weight_of-bit_worth k word))) ∙ turned (bit_worth k word)
  where
    turned : (b : Bool) → eqb (1 - weight_of b) 1 ≡ not b
    turned true = refl
    turned false = refl

-- one word so often, whose bits are all the same
pub splat_lanes : (count word : ℕ) (value : Bool) → ((k : ℕ) → k < 64 → bit_worth k word ≡ value) → HasLanes count (replicate count word) (λ p. value)
splat_lanes count word value bits = record {
  sized = length-replicate count word;
  lanes = λ p inside. ap (bit_worth (p % 64)) (get_or-replicate count (p / 64) word 0 (omega arith)) ∙ bits (p % 64) (omega arith);
}

module _ (count : ℕ) (a b : List ℕ) (sa : length a ≡ count) (sb : length b ≡ count) where
  -- a bit of an operation on two lists of words is that of the operation on two words
  word_bit : (f : ℕ → ℕ → ℕ) (p : ℕ) → p < count * 64 → lane_bit (zip2 f a b) p ≡ bit_worth (p % 64) (f (get_or a (p / 64) 0) (get_or b (p / 64) 0))
  word_bit f p inside = ap (bit_worth (p % 64)) (get_or-zip2 f a b (p / 64) 0 0 0 (omega (arith, sa)) (omega (arith, sb)))

  sized_words : (f : ℕ → ℕ → ℕ) → length (zip2 f a b) ≡ count
  sized_words f = length-zip2 f a b (sa ∙ sym sb) ∙ sa

  pub meet_lanes : HasLanes count (zip2 bit_and a b) (λ p. lane_bit a p && lane_bit b p)
  meet_lanes = record {
    sized = sized_words bit_and;
    lanes = λ p inside. word_bit bit_and p inside ∙ bit_worth-and (p % 64) (get_or a (p / 64) 0) (get_or b (p / 64) 0);
  }

  pub join_lanes : HasLanes count (zip2 bit_or a b) (λ p. lane_bit a p || lane_bit b p)
  join_lanes = record {
    sized = sized_words bit_or;
    lanes = λ p inside. word_bit bit_or p inside ∙ bit_worth-or (p % 64) (get_or a (p / 64) 0) (get_or b (p / 64) 0);
  }

  pub differ_lanes : HasLanes count (zip2 bit_xor a b) (λ p. differ (lane_bit a p) (lane_bit b p))
  differ_lanes = record {
    sized = sized_words bit_xor;
    lanes = λ p inside. word_bit bit_xor p inside ∙ bit_worth-xor (p % 64) (get_or a (p / 64) 0) (get_or b (p / 64) 0);
  }

-- not the same as the other bit
other_way : (bit wants : Bool) → not (same bit (not wants)) ≡ same wants bit
other_way true true = refl
other_way true false = refl
other_way false true = refl
other_way false false = refl

pub signed_lanes : (count : ℕ) (a : List ℕ) (word : ℕ) (wants : Bool) → length a ≡ count → ((k : ℕ) → k < 64 → bit_worth k word ≡ not wants)
    → HasLanes count (zip2 bit_xor a (replicate count word)) (λ p. same wants (lane_bit a p))
signed_lanes count a word wants sa bits =
    let all = splat_lanes count word (not wants) bits in
    let differ = differ_lanes count a (replicate count word) sa all.sized in
    record {
      sized = differ.sized;
      lanes = λ p inside. differ.lanes p inside ∙ ap (λ b. not (same (lane_bit a p) b)) (all.lanes p inside) ∙ other_way (lane_bit a p) wants;
    }

-- the first of the sixteen words of a net
pub net_lanes : (count : ℕ) (words : List ℕ) (net : ℕ) → count ≤ 16 → net * 16 + 16 ≤ length words → HasLanes count (chunk (net * 16) count words) (source_bit words net)
net_lanes count words net few room = record {
  sized = length-chunk (net * 16) count words (omega arith);
  lanes = λ p inside. ap (bit_worth (p % 64)) (get_or-chunk (net * 16) count words (p / 64) 0 (omega arith));
}

-- ---- a write of the first words of a row

module _ (block lanes : List ℕ) (row count : ℕ) (few : count ≤ 16) (room : row * 16 + 16 ≤ length block) (sized : length lanes ≡ count) where
  pub written_lanes : (p : ℕ) → p < count * 64 → source_bit (put_chunk (row * 16) block lanes) row p ≡ lane_bit lanes p
  written_lanes p inside = ap (bit_worth (p % 64)) (get_or-put_chunk_at (row * 16) block lanes (p / 64) 0 (omega (arith, sized)) (omega (arith, sized)))

  pub other_lanes : (other p : ℕ) → p < count * 64 → other ≢ row → source_bit (put_chunk (row * 16) block lanes) other p ≡ source_bit block other p
  other_lanes other p inside apart = ap (bit_worth (p % 64)) (⊎_elim
      (λ below. get_or-put_chunk_below (row * 16) block lanes (other * 16 + p / 64) 0 (omega arith))
      (λ past. get_or-put_chunk_above (row * 16) block lanes (other * 16 + p / 64) 0 (omega (arith, sized)))
      (cases_lt other row))

-- ---- a part of a net's lanes, from a word on

-- the point p of a part is the point from * 64 + p of the net
word_of_part : (from p : ℕ) → (from * 64 + p) / 64 ≡ from + p / 64
word_of_part from p = omega arith

place_of_part : (from p : ℕ) → (from * 64 + p) % 64 ≡ p % 64
place_of_part from p = omega arith

bit_of_part : (words : List ℕ) (net from p : ℕ) → source_bit words net (from * 64 + p) ≡ bit_worth (p % 64) (get_or words (net * 16 + from + p / 64) 0)
bit_of_part words net from p = (λ i. bit_worth (place_of_part from p i) (get_or words (at i) 0))
  where
    at : net * 16 + (from * 64 + p) / 64 ≡ net * 16 + from + p / 64
    at = omega (arith, word_of_part from p)

part_of_net : (count : ℕ) (words : List ℕ) (net from : ℕ) → from + count ≤ 16 → net * 16 + 16 ≤ length words
    → HasLanes count (chunk (net * 16 + from) count words) (λ p. source_bit words net (from * 64 + p))
part_of_net count words net from few room = record {
  sized = length-chunk (net * 16 + from) count words (omega arith);
  lanes = λ p inside. ap (bit_worth (p % 64)) (get_or-chunk (net * 16 + from) count words (p / 64) 0 (omega arith)) ∙ sym (bit_of_part words net from p);
}

module _ (block lanes : List ℕ) (row from count : ℕ) (few : from + count ≤ 16) (room : row * 16 + 16 ≤ length block) (sized : length lanes ≡ count) where
  written_part : (p : ℕ) → p < count * 64 → source_bit (put_chunk (row * 16 + from) block lanes) row (from * 64 + p) ≡ lane_bit lanes p
  written_part p inside =
      bit_of_part (put_chunk (row * 16 + from) block lanes) row from p
      ∙ ap (bit_worth (p % 64)) (get_or-put_chunk_at (row * 16 + from) block lanes (p / 64) 0 (omega (arith, sized)) (omega (arith, sized)))

  rows_beside_part : (other p : ℕ) → p < 1024 → other ≢ row → source_bit (put_chunk (row * 16 + from) block lanes) other p ≡ source_bit block other p
  rows_beside_part other p inside apart = ap (bit_worth (p % 64)) (⊎_elim
      (λ below. get_or-put_chunk_below (row * 16 + from) block lanes (other * 16 + p / 64) 0 (omega arith))
      (λ past. get_or-put_chunk_above (row * 16 + from) block lanes (other * 16 + p / 64) 0 (omega (arith, sized)))
      (cases_lt other row))

  before_part : (p : ℕ) → p < from * 64 → source_bit (put_chunk (row * 16 + from) block lanes) row p ≡ source_bit block row p
  before_part p before = ap (bit_worth (p % 64)) (get_or-put_chunk_below (row * 16 + from) block lanes (row * 16 + p / 64) 0 (omega arith))

  behind_part : (p : ℕ) → (from + count) * 64 ≤ p → p < 1024 → source_bit (put_chunk (row * 16 + from) block lanes) row p ≡ source_bit block row p
  behind_part p behind inside = ap (bit_worth (p % 64)) (get_or-put_chunk_above (row * 16 + from) block lanes (row * 16 + p / 64) 0 (omega (arith, sized)))

-- the same, where the net or the row starts at a word
start_is : (start : ℕ) → start % 16 ≡ 0 → start / 16 * 16 ≡ start
start_is start whole = omega arith

pub part_lanes : (count : ℕ) (words : List ℕ) (start from : ℕ) → from + count ≤ 16 → start % 16 ≡ 0 → start + 16 ≤ length words
    → HasLanes count (chunk (start + from) count words) (λ p. source_bit words (start / 16) (from * 64 + p))
part_lanes count words start from few whole room =
    let is = start_is start whole in
    subst (λ s. HasLanes count (chunk (s + from) count words) (λ p. source_bit words (start / 16) (from * 64 + p))) is
    (part_of_net count words (start / 16) from few (omega arith))

module _ (block lanes : List ℕ) (start from count : ℕ) (few : from + count ≤ 16) (whole : start % 16 ≡ 0) (room : start + 16 ≤ length block) (sized : length lanes ≡ count) where
  is : start / 16 * 16 ≡ start
  is = start_is start whole

  inside_block : start / 16 * 16 + 16 ≤ length block
  inside_block = omega (arith, is)

  pub written_from : (p : ℕ) → p < count * 64 → source_bit (put_chunk (start + from) block lanes) (start / 16) (from * 64 + p) ≡ lane_bit lanes p
  written_from p inside = subst (λ s. source_bit (put_chunk (s + from) block lanes) (start / 16) (from * 64 + p) ≡ lane_bit lanes p) is
      (written_part block lanes (start / 16) from count few inside_block sized p inside)

  pub rows_beside : (other p : ℕ) → p < 1024 → other ≢ start / 16 → source_bit (put_chunk (start + from) block lanes) other p ≡ source_bit block other p
  rows_beside other p inside apart = subst (λ s. source_bit (put_chunk (s + from) block lanes) other p ≡ source_bit block other p) is
      (rows_beside_part block lanes (start / 16) from count few inside_block sized other p inside apart)

  pub before_from : (p : ℕ) → p < from * 64 → source_bit (put_chunk (start + from) block lanes) (start / 16) p ≡ source_bit block (start / 16) p
  before_from p before = subst (λ s. source_bit (put_chunk (s + from) block lanes) (start / 16) p ≡ source_bit block (start / 16) p) is
      (before_part block lanes (start / 16) from count few inside_block sized p before)

  pub behind_from : (p : ℕ) → (from + count) * 64 ≤ p → p < 1024 → source_bit (put_chunk (start + from) block lanes) (start / 16) p ≡ source_bit block (start / 16) p
  behind_from p behind inside = subst (λ s. source_bit (put_chunk (s + from) block lanes) (start / 16) p ≡ source_bit block (start / 16) p) is
      (behind_part block lanes (start / 16) from count few inside_block sized p behind inside)

-- ---- masks

-- the two words of a mask, as they stand in the list
module _ (masks : List ℕ) (from bit : ℕ) (are : AreMasks masks) (whole : from % 10 ≡ 0) (small : from < 160) (few : bit < 5) where
  place_is : (word : ℕ) → word < 2 → (from + bit * 2 + word) % 10 / 2 ≡ bit
  place_is word two = omega arith

  table_is : (word : ℕ) → word < 2 → (from + bit * 2 + word) / 10 ≡ from / 10
  table_is word two = omega arith

  pub pair_lanes : HasLanes 2 (chunk (from + bit * 2) 2 masks) (λ p. mask_bit bit (from / 10))
  pair_lanes = record {
    sized = length-chunk (from + bit * 2) 2 masks (omega (arith, are.sized));
    lanes = λ p inside.
        let two : p / 64 < 2 = omega arith in
        ap (bit_worth (p % 64)) (get_or-chunk (from + bit * 2) 2 masks (p / 64) 0 (omega arith))
        ∙ are.bits (from + bit * 2 + p / 64) (p % 64) (omega arith) (omega arith)
        ∙ (λ i. mask_bit (place_is (p / 64) two i) (table_is (p / 64) two i));
  }

-- one word more
pub masks_more : (old new : List ℕ) (x place j : ℕ) → new ≡ old ++ x ∷ [] → place < length old + 1 → j < 64
    → ((place j : ℕ) → place < length old → j < 64 → bit_worth j (slice_index old place) ≡ mask_bit (place % 10 / 2) (place / 10))
    → ((j : ℕ) → j < 64 → bit_worth j x ≡ mask_bit (length old % 10 / 2) (length old / 10))
    → bit_worth j (slice_index new place) ≡ mask_bit (place % 10 / 2) (place / 10)
masks_more old new x place j pushed inside few before here = ⊎_elim
    (λ earlier. ap (bit_worth j) (ap (λ l. get_or l place 0) pushed ∙ get_or_append_left old (x ∷ []) 0 place earlier) ∙ before place j earlier few)
    (λ late.
    let last : place ≡ length old + 0 = omega arith in
    let same : length old ≡ place = omega arith in
    ap (bit_worth j) (ap (λ l. get_or l place 0) pushed ∙ ap (λ n. get_or (old ++ x ∷ []) n 0) last ∙ get_or-append-add old (x ∷ []) 0 0)
    ∙ here j few ∙ ap (λ n. mask_bit (n % 10 / 2) (n / 10)) same)
    (cases_lt place (length old))
