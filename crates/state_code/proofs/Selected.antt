-- What each step of select gives.
use Rattle.std.proofs.Common.{◌≡◌, ℕ, ◌+◌, ◌*◌, ◌<◌, ◌≤◌, Bool, true, false, not, cond, ◌&&◌, ◌||◌, List, [], ◌∷◌, length, take, drop, get_or, count_by, Option, Some, refl, sym, ◌∙◌, ap, ap₂, arith}
use Rattle.std.proofs.lemmas.List.{take_all}
use Rattle.std.proofs.lemmas.List.Sums.{count_by_more_yes, count_by_more_no, sum_by-take-le, sum_by-cons}
use Rattle.std.specs.List.{list_any}
use Rattle.std.proofs.lemmas.List.Folds.{list_any_at}
use Rattle.std.proofs.lemmas.Bool.{false≢true}
use Rattle.tsc_bits.specs.Bits.{weight_of}
use Rattle.tsc_bits.proofs.Bools.{or_assoc}
use Rattle.gate_net.specs.declared.line.Line.{Line}
use Rattle.gate_net.specs.declared.gate.Gate.{Gate}
use Rattle.gate_net.specs.declared.gate.Gate.TheVariants as gate
use Rattle.gate_net.specs.Signal.{value}
use Rattle.gate_net.specs.Gates.{GateNetwork, gate_at, gate_signal, same_gate, IsLine, AreLines, IsHashed, line_value, line_values}
use Rattle.gate_net.specs.Growth.{Grows, Computes}
use Rattle.gate_net.specs.Joined.{value_or, IsLineOrNone, ComputesOr}
use Rattle.gate_net.specs.Negations.{is_zero}
use Rattle.gate_net.proofs.Signals.{meaning_is}
use Rattle.gate_net.proofs.Kept.{gate_kept, line_kept, grows_twice}
use Rattle.gate_net.proofs.Joined.{or_kept, bits_from}
use Rattle.state_code.specs.Lines.{isnt_zero, select_gates}
use Rattle.tsc_bits.specs.Counting.{some_both}

zero_signal : (G : GateNetwork) (g : Gate) (x s : ℕ → Bool) → not (is_zero g) ≡ false → value x s (gate_signal G g) ≡ false
zero_signal G gate.Zero x s e = refl
zero_signal G _ x s e = absurd (false≢true (sym e))

-- the line of the constant 0 is 0
pub zero_value : (G : GateNetwork) (line : Line) (x s : ℕ → Bool) → IsHashed G → IsLine G line → isnt_zero G line ≡ false → line_value G x s line ≡ false
zero_value G line x s sound within e = ap (value x s) (meaning_is G line sound within) ∙ zero_signal G (gate_at G.gates line.number) x s e

-- a line that stays keeps whether it is the constant 0
pub isnt_zero-kept : (a b : GateNetwork) (line : Line) → Grows a b → IsLine a line → isnt_zero b line ≡ isnt_zero a line
isnt_zero-kept a b line grows within = ap (λ (g : Gate). not (is_zero g)) (gate_kept a b line grows within)

-- a place more: what is left of two lists of which both have an item there
both_from : (as_ bs : List Bool) (a b : Bool) (as' bs' : List Bool) → as_ ≡ a ∷ as' → bs ≡ b ∷ bs' → some_both as_ bs ≡ ((a && b) || some_both as' bs')
both_from as_ bs a b as' bs' h k = ap₂ some_both h k

module _ (start here new : GateNetwork) (decoded per_state : List Line) where
  -- a place more, joined to those before it
  pub place_step : (place : ℕ) (made made' : Option Line) (d e : Line) (x s : ℕ → Bool) → Grows start here → AreLines start decoded → AreLines start per_state → place < length decoded → place < length per_state
      → value_or false new x s made' ≡ (value_or false here x s made || (line_value here x s (get_or decoded place d) && line_value here x s (get_or per_state place e)))
      → (value_or false new x s made' || some_both (drop (place + 1) (line_values start x s decoded)) (drop (place + 1) (line_values start x s per_state)))
      ≡ (value_or false here x s made || some_both (drop place (line_values start x s decoded)) (drop place (line_values start x s per_state)))
  place_step place made made' d e x s grows in_decoded in_per_state lt lt' h =
      let rest = some_both (drop (place + 1) (line_values start x s decoded)) (drop (place + 1) (line_values start x s per_state)) in
      let old = value_or false here x s made in
      let a = line_value here x s (get_or decoded place d) in
      let b = line_value here x s (get_or per_state place e) in
      ap (λ (v : Bool). v || rest) h
      ∙ or_assoc old (a && b) rest
      ∙ ap (λ (v : Bool). old || v) (sym (both_from (drop place (line_values start x s decoded)) (drop place (line_values start x s per_state)) a b (drop (place + 1) (line_values start x s decoded)) (drop (place + 1) (line_values start x s per_state))
      (bits_from start here x s decoded place d grows in_decoded lt) (bits_from start here x s per_state place e grows in_per_state lt')))

-- a line more, joined to those before it
pub either_made : (start mid new : GateNetwork) (made : Option Line) (one line : Line) (bit : (ℕ → Bool) → (ℕ → Bool) → Bool) → IsLineOrNone start made
    → Computes start mid bit one → Computes mid new (λ x s. value_or false mid x s made || line_value mid x s one) line
    → ComputesOr false start new (λ x s. value_or false start x s made || bit x s) (Some line)
either_made start mid new made one line bit held h k = record {
  value = λ x s. k.value x s ∙ ap₂ (λ (a b : Bool). a || b) (or_kept false start mid x s made h.grows held) (h.value x s);
  within = k.within;
  grows = grows_twice start mid new h.grows k.grows;
}

-- a count of one item more
pub by_test : {X : Type 0} (p : X → Bool) (xs : List X) (i : ℕ) (d : X) (b : Bool) → i < length xs → p (get_or xs i d) ≡ b → count_by p (take (i + 1) xs) ≡ count_by p (take i xs) + weight_of b
by_test p xs i d true lt e = count_by_more_yes p xs i d lt e
by_test p xs i d false lt e = count_by_more_no p xs i d lt e ∙ omega arith

-- the lines so far that aren't the constant 0, seen in a network that grew
pub count_more : (start here : GateNetwork) (lines : List Line) (i : ℕ) (d : Line) → Grows start here → AreLines start lines → i < length lines
    → count_by (isnt_zero start) (take (i + 1) lines) ≡ count_by (isnt_zero start) (take i lines) + weight_of (isnt_zero here (get_or lines i d))
count_more start here lines i d grows within lt =
    by_test (isnt_zero start) lines i d (isnt_zero here (get_or lines i d)) lt (sym (isnt_zero-kept start here (get_or lines i d) grows (within i d lt)))

-- so far there are no more than in all
pub count_from : {X : Type 0} (p : X → Bool) (xs : List X) (i : ℕ) → count_by p (take i xs) ≤ count_by p xs
count_from p xs i = sum_by-take-le (λ x. cond (p x) 1 0) xs i

-- two for each line are within what a choice adds
pub select_most : (G : GateNetwork) (lines : List Line) → 2 * count_by (isnt_zero G) lines ≤ select_gates G lines
select_most G [] = omega arith
select_most G (line ∷ lines) = omega arith

-- a line of the constant 0 shows that it is there
zero_there : (G : GateNetwork) (g : Gate) → not (is_zero g) ≡ false → same_gate gate.Zero g ≡ true
zero_there G gate.Zero e = refl
zero_there G _ e = absurd (false≢true (sym e))

none_first : (b : Bool) (n : ℕ) → cond b 1 0 + n ≡ 0 → b ≡ false
none_first true n e = absurd (omega arith)
none_first false n e = refl

-- where no line was chosen the constant 0 was there, unless there is no line
pub zero_spared : (start here new : GateNetwork) (lines : List Line) (place : ℕ) → Grows start here → AreLines start lines → length lines ≤ place
    → count_by (isnt_zero start) (take place lines) ≡ 0 → length here.gates ≤ length start.gates + 2 * count_by (isnt_zero start) (take place lines)
    → (list_any (same_gate gate.Zero) here.gates ≡ true → new ≡ here) → length new.gates ≤ length here.gates + 1 → length new.gates ≤ length start.gates + select_gates start lines
zero_spared start here new [] place grows within le none few there more = omega (arith, few, more, none)
zero_spared start here new (line ∷ lines) place grows within le none few there more =
    let all : count_by (isnt_zero start) (line ∷ lines) ≡ 0 = sym (ap (count_by (isnt_zero start)) (take_all place (line ∷ lines) le)) ∙ none in
    let first : isnt_zero start line ≡ false = none_first (isnt_zero start line) (count_by (isnt_zero start) lines) (sym (sum_by-cons (λ (l : Line). cond (isnt_zero start l) 1 0) line lines) ∙ all) in
    let is_line : IsLine start line = within 0 line (omega arith) in
    let still : isnt_zero here line ≡ false = isnt_zero-kept start here line grows is_line ∙ first in
    let stands : list_any (same_gate gate.Zero) here.gates ≡ true =
    list_any_at (same_gate gate.Zero) here.gates line.number gate.Zero (line_kept start here line grows is_line) (zero_there here (gate_at here.gates line.number) still) in
    omega (arith, few, none, ap (λ (G : GateNetwork). length G.gates) (there stands))

-- the same, where the line is known by another name
pub count_step : (start here : GateNetwork) (lines : List Line) (i : ℕ) (line : Line) → Grows start here → AreLines start lines → i < length lines → line ≡ get_or lines i line
    → count_by (isnt_zero start) (take (i + 1) lines) ≡ count_by (isnt_zero start) (take i lines) + weight_of (isnt_zero here line)
count_step start here lines i line grows within lt e =
    count_more start here lines i line grows within lt ∙ ap (λ (l : Line). count_by (isnt_zero start) (take i lines) + weight_of (isnt_zero here l)) (sym e)
