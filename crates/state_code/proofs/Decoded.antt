-- What each step of decode gives.
use Rattle.std.proofs.Common.{◌≡◌, ℕ, zero, suc, ◌+◌, ◌-◌, ◌*◌, ◌<◌, ◌≤◌, Bool, true, not, ◌&&◌, ◌||◌, List, [], ◌∷◌, ◌++◌, map, length, take, drop, get_or, Option, sym, ◌∙◌, ap, ap₂, arith}
use Rattle.std.proofs.Math.Nat.{add-mul}
use Rattle.std.proofs.lemmas.Nat.{mul-le}
use Rattle.std.proofs.lemmas.List.{map_more, take_all}
use Rattle.std.proofs.lemmas.List.FromFn.{map-range_with_len_more}
use Rattle.tsc_bits.specs.Bits.{bit_worth, bits_of}
use Rattle.tsc_bits.proofs.Bools.{and_assoc, and-true}
use Rattle.gate_net.specs.declared.line.Line.{Line}
use Rattle.gate_net.specs.Signal.Signal.{State}
use Rattle.gate_net.specs.Gates.{GateNetwork, AreLines, line_value, line_values}
use Rattle.gate_net.specs.Growth.{Grows, IsAdded, Computes, ComputesAll}
use Rattle.gate_net.specs.Joined.{value_or}
use Rattle.gate_net.proofs.Kept.{grows_twice, values_kept, bits_pushed, added_computes}
use Rattle.state_code.specs.Lines.{first_bits, has_ones, decoded}
use Rattle.gate_net.proofs.Joined.{bits_from}

-- the first of n bits
bits_head : (n m word : ℕ) → n ≡ m + 1 → bits_of n word ≡ bit_worth m word ∷ bits_of m word
bits_head zero m word e = absurd (omega arith)
bits_head (suc k) m word e =
    let same_place : k ≡ m = omega arith in
    ap (λ (j : ℕ). bit_worth j word ∷ bits_of j word) same_place

module _ (start here new : GateNetwork) (bits : List Line) (width word : ℕ) where
  -- a bit more of a word
  pub word_step : (place : ℕ) (made made' : Option Line) (d : Line) (x s : ℕ → Bool) → Grows start here → AreLines start bits → length bits ≡ width → place < width
      → value_or true new x s made' ≡ (value_or true here x s made && (not (bit_worth (width - 1 - place) word) || line_value here x s (get_or bits place d)))
      → (value_or true new x s made' && has_ones (bits_of (width - (place + 1)) word) (drop (place + 1) (line_values start x s bits)))
      ≡ (value_or true here x s made && has_ones (bits_of (width - place) word) (drop place (line_values start x s bits)))
  word_step place made made' d x s grows within sized lt e =
      let vs = line_values start x s bits in
      let m = width - 1 - place in
      let left : width - (place + 1) ≡ width - 1 - place = omega arith in
      let head : bits_of (width - place) word ≡ bit_worth (width - 1 - place) word ∷ bits_of (width - 1 - place) word = bits_head (width - place) (width - 1 - place) word (omega arith) in
      let old = value_or true here x s made in
      let asked = not (bit_worth (width - 1 - place) word) || line_value here x s (get_or bits place d) in
      let rest = has_ones (bits_of (width - 1 - place) word) (drop (place + 1) vs) in
      ap (λ (n : ℕ). value_or true new x s made' && has_ones (bits_of n word) (drop (place + 1) vs)) left
      ∙ ap (λ (b : Bool). b && rest) e
      ∙ and_assoc old asked rest
      ∙ ap (λ (list : List Bool). old && has_ones (bit_worth (width - 1 - place) word ∷ bits_of (width - 1 - place) word) list) (sym (bits_from start here x s bits place d grows within (omega arith)))
      ∙ ap (λ (list : List Bool). old && has_ones list (drop place vs)) (sym head)

-- a word of which nothing is left
pub word_done : (b : Bool) (n word : ℕ) (bits : List Bool) (goal : Bool) → n ≡ 0 → (b && has_ones (bits_of n word) bits) ≡ goal → b ≡ goal
word_done b n word bits goal e h =
    sym (and-true b) ∙ ap (λ (k : ℕ). b && has_ones (bits_of k word) bits) (sym e) ∙ h

-- a state bit more
pub state_pushed : (start here new : GateNetwork) (lines lines' : List Line) (i : ℕ) (line : Line) → Grows start here → AreLines here lines
    → ((x s : ℕ → Bool) → line_values here x s lines ≡ first_bits i s) → IsAdded here new (State i) line → lines' ≡ lines ++ line ∷ [] → ComputesAll start new (λ x s. first_bits (i + 1) s) lines'
state_pushed start here new lines lines' i line grows within made added e =
    let pushed = bits_pushed start here new lines lines' line (λ (x s : ℕ → Bool). s i) grows within (added_computes here new (State i) line added) e in
    record {
      values = λ x s. pushed.values x s ∙ ap (λ (bits : List Bool). bits ++ s i ∷ []) (made x s) ∙ sym (map-range_with_len_more s 0 i i (omega arith));
      within = pushed.within;
      grows = pushed.grows;
    }

-- a word's line more
pub word_pushed : (start here new : GateNetwork) (bits lines lines' : List Line) (words : List ℕ) (i d : ℕ) (line : Line) → Grows start here → AreLines start bits → AreLines here lines → i < length words
    → ((x s : ℕ → Bool) → line_values here x s lines ≡ map (λ word. has_ones (bits_of (length bits) word) (line_values start x s bits)) (take i words))
    → Computes here new (λ x s. has_ones (bits_of (length bits) (get_or words i d)) (line_values here x s bits)) line → lines' ≡ lines ++ line ∷ []
    → ComputesAll start new (λ x s. map (λ word. has_ones (bits_of (length bits) word) (line_values start x s bits)) (take (i + 1) words)) lines'
word_pushed start here new bits lines lines' words i d line grows read within lt made added e =
    let pushed = bits_pushed start here new lines lines' line (λ (x s : ℕ → Bool). has_ones (bits_of (length bits) (get_or words i d)) (line_values here x s bits)) grows within added e in
    record {
      values = λ x s.
          pushed.values x s
          ∙ ap₂ (λ (vs us : List Bool). vs ++ has_ones (bits_of (length bits) (get_or words i d)) us ∷ []) (made x s) (values_kept start here x s bits grows read)
          ∙ sym (map_more (λ word. has_ones (bits_of (length bits) word) (line_values start x s bits)) words i d lt);
      within = pushed.within;
      grows = pushed.grows;
    }

-- all words, once none is left
pub words_done : (start here : GateNetwork) (f : (ℕ → Bool) → (ℕ → Bool) → ℕ → Bool) (lines : List Line) (words : List ℕ) (i : ℕ) → Grows start here → AreLines here lines → length words ≤ i
    → ((x s : ℕ → Bool) → line_values here x s lines ≡ map (f x s) (take i words)) → ComputesAll start here (λ x s. map (f x s) words) lines
words_done start here f lines words i grows within le made = record {
  values = λ x s. made x s ∙ ap (map (f x s)) (take_all i words le);
  within = within;
  grows = grows;
}

-- the lines of words over the lines of the state bits
pub words_decoded : (a b c : GateNetwork) (n : ℕ) (bits lines : List Line) (words : List ℕ) → ComputesAll a b (λ x s. first_bits n s) bits → length bits ≡ n
    → ComputesAll b c (λ x s. map (λ word. has_ones (bits_of (length bits) word) (line_values b x s bits)) words) lines → ComputesAll a c (λ x s. map (decoded n s) words) lines
words_decoded a b c n bits lines words h sized k = record {
  values = λ x s. k.values x s ∙ ap₂ (λ (m : ℕ) (vs : List Bool). map (λ word. has_ones (bits_of m word) vs) words) sized (h.values x s);
  within = k.within;
  grows = grows_twice a b c h.grows k.grows;
}

-- one time more
pub times_more : (i k : ℕ) → (i + 1) * k ≡ i * k + k
times_more i k = add-mul i 1 k ∙ omega arith

-- as often as something is done at most
pub times_mono : (i j k : ℕ) → i ≤ j → i * k ≤ j * k
times_mono i j k le = mul-le i k j k le (omega arith)
